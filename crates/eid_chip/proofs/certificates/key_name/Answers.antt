-- The body names a key exactly where one 83 stands in it, of 1 to 16 bytes.
use Rattle.std.proofs.Common.{◌≤◌, ap, sym, length, arith}
use Rattle.std.proofs.lemmas.Bool.Decides.{nat_tests}
use Rattle.eid_model.proofs.KeyNames.{key_name_in-exact, key_name_in-none}
use Rattle.eid_chip.proofs.certificates.key_name.Goals as goal
use Rattle.eid_chip.proofs.certificates.key_name.Goals.{then-is_empty-via-then-is_empty, then-is_empty-via-else-is_empty+then-name-gt-MAX_NAME}

pub returns-in_default-clause-value : goal.returns-in_default-clause-value
returns-in_default-clause-value c =
    key_name_in-none c.args.body.now (λ name named. absurd (rw c.in_default.is at (c.only_value.ensures.only name named.0)))

pub returns-then-is_empty-clause-value : goal.returns-then-is_empty-clause-value
returns-then-is_empty-clause-value c =
    key_name_in-none c.args.body.now (λ name named.
    let size = ap length (c.in-Some.ensures.only name named.0) in
    elim c.then-is_empty.branch [ then-is_empty-via-then-is_empty w ↦ absurd (grind (arith, nat_tests, size, named.1, w.if-is_empty.ensures)) | then-is_empty-via-else-is_empty+then-name-gt-MAX_NAME w ↦ absurd (omega (arith, size, named.1.1, w.if-name-gt-MAX_NAME.true)) ])

pub returns-clause-value : goal.returns-clause-value
returns-clause-value c =
    let some : 1 ≤ length c.in-Some.name.now = grind (arith, nat_tests, c.if-is_empty.ensures) in
    sym ((key_name_in-exact c.args.body.now c.in-Some.name.now).1 (c.in-Some.ensures.found, (some, omega (arith, c.if-name-gt-MAX_NAME.false))))
