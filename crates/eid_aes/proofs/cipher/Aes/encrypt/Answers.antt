use Rattle.std.proofs.Common.{◌≡◌, ◌<◌, arith, ◌∙◌}
use Rattle.eid_aes.proofs.RoundFacts.{after_rounds_none, after_rounds_more, cipher_is}
use Rattle.eid_aes.proofs.cipher.Aes.encrypt.Goals as goal

pub loop-round-init : goal.loop-round-init
loop-round-init g c = rw (after_rounds_none c.self.inside.schedule c.args.block.now) (rw c.columns_of.ensures at c.add_round_key-s.ensures)

pub loop-round-preserved : goal.loop-round-preserved
loop-round-preserved g c =
    let some : 0 < c.loop-round.round = omega arith in
    rw (after_rounds_more c.self.inside.schedule c.args.block.now c.loop-round.round some) (rw c.loop-round.invariant at c.after_round-next.ensures)

pub returns : goal.returns
returns g c =
    let done : c.loop-round.round ≡ g.row.ROUNDS = omega arith in
    let whole = cipher_is c.args.self.now c.self.inside.schedule c.args.block.now g.row.ROUNDS c.self.invariant c.self.view_is in
    let held = rw done at c.loop-round.invariant in
    rw whole (c.block_of-encrypted.ensures ∙ (rw held at c.after_last_round.ensures))
