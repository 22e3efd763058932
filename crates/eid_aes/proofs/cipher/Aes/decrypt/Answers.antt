use Rattle.std.proofs.Common.{◌≡◌, ◌-◌, ◌<◌, arith, ap, ◌∙◌}
use Rattle.eid_aes.specs.Cipher.{IsBlock, cipher, inv_cipher}
use Rattle.eid_aes.proofs.RoundFacts.{before_rounds_less, before_rounds_none, inv_cipher_is, pair_of}
use Rattle.eid_aes.proofs.cipher.Aes.decrypt.Goals as goal

pub loop-round-preserved : goal.loop-round-preserved
loop-round-preserved g c =
    let some : 0 < c.loop-round.round - 1 = omega arith in
    let e = before_rounds_less c.self.inside.schedule c.loop-round.block (c.loop-round.round - 1) some in
    cc

pub returns-clause-value : goal.returns-clause-value
returns-clause-value g c =
    let done : c.loop-round.round - 1 ≡ 0 = omega arith in
    let whole = inv_cipher_is c.args.self.now c.self.inside.schedule c.args.block.now g.row.ROUNDS c.self.invariant c.self.view_is in
    let held = rw done at c.loop-round.invariant in
    let last = before_rounds_none c.self.inside.schedule c.loop-round.block in
    rw whole cc

pub returns-clause-undone : goal.returns-clause-undone
returns-clause-undone g c = λ plain b e.
    let pair = pair_of c.self.inside.schedule c.args.self.now g.row.ROUNDS c.self.invariant c.self.view_is in
    returns-clause-value g c ∙ ap (inv_cipher c.args.self.now) e ∙ pair.undone plain b

pub returns-clause-again : goal.returns-clause-again
returns-clause-again g c =
    let pair = pair_of c.self.inside.schedule c.args.self.now g.row.ROUNDS c.self.invariant c.self.view_is in
    let b : IsBlock c.args.block.now = record { size = c.told-block; bytes = c.fits-block } in
    ap (cipher c.args.self.now) (returns-clause-value g c) ∙ pair.redone c.args.block.now b
