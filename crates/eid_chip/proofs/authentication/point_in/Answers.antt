-- The value is a point where it begins with 04.
use Rattle.std.proofs.Common.{ap, ◌∙◌, sym, List, ℕ}
use Rattle.std.specs.Prelude.{slice_index}
use Rattle.eid_chip.proofs.Bodies.{without_value, without_four, is_point}
use Rattle.eid_chip.proofs.authentication.point_in.Goals as goal

pub returns-in_default-clause-none : goal.returns-in_default-clause-none
returns-in_default-clause-none c = without_value c.args.tag c.args.body.now (c.in_default.ensures.none)

pub returns-then-value-ne-UNCOMPRESSED-clause-none : goal.returns-then-value-ne-UNCOMPRESSED-clause-none
returns-then-value-ne-UNCOMPRESSED-clause-none c =
    let value = c.in-Some.ensures.found.0 in
    without_four c.args.tag c.args.body.now (λ four. c.if-value-ne-UNCOMPRESSED.true (ap (λ (v : List ℕ). slice_index v 0) value ∙ four))

pub returns-clause-found : goal.returns-clause-found
returns-clause-found c =
    let found = c.in-Some.ensures.found in
    (c.copy_from_slice.ensures.after ∙ found.0, is_point c.args.tag c.args.body.now found.2 (ap (λ (v : List ℕ). slice_index v 0) (sym found.0) ∙ c.if-value-ne-UNCOMPRESSED.false))
