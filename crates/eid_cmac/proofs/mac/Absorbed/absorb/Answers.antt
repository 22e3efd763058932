use Rattle.std.proofs.Common.{◌≡◌, length, take, arith}
use Rattle.std.proofs.lemmas.List.{length-take-le, take_all}
use Rattle.eid_cmac.proofs.ChainFacts.{holds_filled, holds_part}
use Rattle.eid_cmac.proofs.mac.Absorbed.absorb.Goals as goal

pub loop-at-init : goal.loop-at-init
loop-at-init g c = record {
  within = omega arith;
  held = omega arith;
  whole = λ h. omega arith;
  holds = λ m h.
      let size : length (take c.min-at.result c.args.piece.now) ≡ c.min-at.result = length-take-le c.min-at.result c.args.piece.now (omega arith) in
      let grown = holds_filled c.args.key.now c.args.self.now.state _ m (take c.min-at.result c.args.piece.now) c.args.self.now.held h (omega arith) c.add.ensures in
      rw size at grown;
}

pub loop-at-preserved : goal.loop-at-preserved
loop-at-preserved g c = record {
  within = omega arith;
  held = omega arith;
  whole = λ h. omega arith;
  holds = λ m h.
      holds_part c.args.key.now c.loop-at.self.state c.encrypt.new.block _ m c.args.piece.now c.loop-at.self.held c.loop-at.at c.min-end.result
      (c.loop-at.invariant.holds m h) (c.loop-at.invariant.whole c.loop-at-test.true) (omega arith) (omega arith) (omega arith) c.encrypt.ensures c.add-in-loop-at.ensures;
}

pub returns : goal.returns
returns g c = λ m h.
    let all : take c.loop-at.at c.args.piece.now ≡ c.args.piece.now = take_all c.loop-at.at c.args.piece.now (omega arith) in
    rw all at (c.loop-at.invariant.holds m h)
