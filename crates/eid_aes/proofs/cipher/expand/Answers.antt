use Rattle.std.proofs.Common.{◌-◌, arith, refl}
use Rattle.eid_aes.proofs.ScheduleFacts.{expanded_none, expanded_more, expanded_all, key_of_expansion}
use Rattle.eid_aes.proofs.cipher.expand.Goals as goal

pub loop-i-init : goal.loop-i-init
loop-i-init c = record {
  size = omega arith;
  made = expanded_none c.args.key.now _ (c.args.rounds - 6) (c.args.rounds - 6) refl (omega arith) c.write_at.ensures;
}

pub loop-i-preserved : goal.loop-i-preserved
loop-i-preserved c = record {
  size = omega arith;
  made = expanded_more c.args.key.now c.loop-i.schedule _ c.next_word-word.result (c.args.rounds - 6) c.loop-i.i (omega arith) (omega arith) (omega arith) (omega arith) c.loop-i.invariant.made
      c.next_word-word.ensures c.write_at-in-loop-i.ensures;
}

pub returns-clause-expansion : goal.returns-clause-expansion
returns-clause-expansion c = expanded_all c.args.key.now c.loop-i.schedule c.args.rounds c.loop-i.i (omega arith) (omega arith) c.loop-i.invariant.made

pub returns-clause-key : goal.returns-clause-key
returns-clause-key c =
    key_of_expansion c.args.key.now c.loop-i.schedule _ (omega arith)
    (expanded_all c.args.key.now c.loop-i.schedule c.args.rounds c.loop-i.i (omega arith) (omega arith) c.loop-i.invariant.made)
