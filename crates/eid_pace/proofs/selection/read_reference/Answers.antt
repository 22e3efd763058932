use Rattle.std.proofs.Common.{ℕ, List, [], ◌∷◌, get_or, Some, length, ap, arith}
use Rattle.eid_pace.proofs.selection.read_reference.Goals as goal

pub returns-in_default-clause-only : goal.returns-in_default-clause-only
returns-in_default-clause-only c reference has =
    absurd (rw c.in_default.is at (c.only_value.ensures.only (reference ∷ []) has))

pub returns-in-len1-clause-only : goal.returns-in-len1-clause-only
returns-in-len1-clause-only c reference has =
    ap (λ (bytes : List ℕ). Some (get_or bytes 0 0)) (c.in-Some.ensures.only (reference ∷ []) has)

pub returns-in_default-value-clause-only : goal.returns-in_default-value-clause-only
returns-in_default-value-clause-only c reference has =
    let size = ap length (c.in-Some.ensures.only (reference ∷ []) has) in
    absurd (omega (arith, size))

pub returns-in_default-value-2-clause-only : goal.returns-in_default-value-2-clause-only
returns-in_default-value-2-clause-only c reference has =
    let size = ap length (c.in-Some.ensures.only (reference ∷ []) has) in
    absurd (omega (arith, size))
