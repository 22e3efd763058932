-- Two bytes are an expected length, and more begin with the length of a body.
use Rattle.std.proofs.Common.{ℕ, List, ◌∷◌, sym, subst, arith}
use Rattle.std.specs.Prelude.{OnErr}
use Rattle.eid_apdu.specs.Command.{IsTail}
use Rattle.eid_apdu.proofs.Tails.{two_rest, extended_le_tail}
use Rattle.eid_apdu.proofs.command.read_extended.Goals as goal

pub returns-in-len2-clause-found : goal.returns-in-len2-clause-found
returns-in-len2-clause-found c =
    extended_le_tail c.args.bytes.now c.extended_expected.result c.in-len2.len_at_least c.in-len2.len_below c.extended_expected.ensures.value c.extended_expected.ensures.range

pub returns-in-len2-up-clause-refused : goal.returns-in-len2-up-clause-refused
returns-in-len2-up-clause-refused c =
    subst (λ (b : List ℕ). OnErr c.read_extended_body.result ((body : List ℕ) (ne : ℕ) → IsTail (0 ∷ b) body ne → ⊥)) (sym (two_rest c.args.bytes.now (omega arith))) c.read_extended_body.ensures.refused
