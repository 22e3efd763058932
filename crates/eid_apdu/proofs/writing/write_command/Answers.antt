-- What is written is made of three parts.
use Rattle.std.proofs.Common.{◌≡◌, ◌++◌, refl, ◌∙◌, arith}
use Rattle.eid_apdu.specs.Command.{plain_command}
use Rattle.eid_apdu.proofs.Written.{IsParts, appended, whole_size}
use Rattle.eid_apdu.proofs.writing.write_command.Goals as goal

pub returns-then-remaining_capacity-len-clause-fits :
    goal.returns-then-remaining_capacity-len-clause-fits
returns-then-remaining_capacity-len-clause-fits g c =
    let made : IsParts (plain_command c.args.c.now) c.is_short-short.result c.before_body-before.result.items c.le_field-after.result.items =
    record { short_is = c.is_short-short.ensures; before_is = c.before_body-before.ensures; after_is = c.le_field-after.ensures } in
    let size = whole_size _ _ _ _ made in
    (λ is. cc, λ fits. absurd (omega arith))

pub returns-clause-written : goal.returns-clause-written
returns-clause-written g c =
    let made : IsParts (plain_command c.args.c.now) c.is_short-short.result c.before_body-before.result.items c.le_field-after.result.items =
    record { short_is = c.is_short-short.ensures; before_is = c.before_body-before.ensures; after_is = c.le_field-after.ensures } in
    let first = rw c.unwrap.ensures at c.try_extend_from_slice.ensures.ok in
    let second = rw c.unwrap-2.ensures at c.try_extend_from_slice-2.ensures.ok in
    let third = rw c.unwrap-3.ensures at c.try_extend_from_slice-3.ensures.ok in
    let joined : c.try_extend_from_slice-3.new.self.items ≡ ((c.args.out.now.items ++ c.before_body-before.result.items) ++ c.args.c.now.body.now) ++ c.le_field-after.result.items =
    cc (first, second, third, c.deref.ensures.0, c.deref-2.ensures.0) in
    joined ∙ appended _ _ _ _ c.args.out.now.items made

pub returns-clause-fits : goal.returns-clause-fits
returns-clause-fits g c =
    let made : IsParts (plain_command c.args.c.now) c.is_short-short.result c.before_body-before.result.items c.le_field-after.result.items =
    record { short_is = c.is_short-short.ensures; before_is = c.before_body-before.ensures; after_is = c.le_field-after.ensures } in
    let size = whole_size _ _ _ _ made in
    (λ is. omega arith, λ fits. refl)
