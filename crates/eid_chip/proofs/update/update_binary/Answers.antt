-- Bytes are refused by the first failed rule, or committed.
use Rattle.std.proofs.Common.{◌≡◌, ◌∙◌, ap, sym, ◌+◌, true, false, ◌==◌, ◌||◌, [], length, Option, Some, arith, inl, inr, refl}
use Rattle.std.specs.Prelude.{is_some, nat_le}
use Rattle.std.proofs.lemmas.Bool.Decides.{nat_tests}
use Rattle.eid_apdu.specs.Command.{plain_command}
use Rattle.eid_base.specs.declared.codes.Rule.{Rule}
use Rattle.eid_copro.proofs.Asking.{not_asked}
use Rattle.eid_record.specs.declared.fields.FileNo.{FileNo}
use Rattle.eid_sm.specs.Keys.{ChannelState}
use Rattle.eid_model.specs.declared.kind.Kind.TheVariants.{UpdateBinary}
use Rattle.eid_model.specs.Kinds.{is_by_short}
use Rattle.eid_model.specs.Rules.{bytes_of_file, offset_meant}
use Rattle.eid_chip.specs.Endings.{reacted}
use Rattle.eid_chip.specs.Granting.{writing_refused}
use Rattle.eid_chip.specs.Held.{held}
use Rattle.eid_chip.specs.States.{state}
use Rattle.eid_chip.specs.Steps.{refusal}
use Rattle.eid_chip.proofs.Outcomes.{refused_unasked}
use Rattle.eid_base.specs.Rules.{refused_by}
use Rattle.eid_chip.specs.Steps.{PlainRefusal}
use Rattle.eid_chip.proofs.HeldFiles.{range_refusal, written_in, written_out}
use Rattle.eid_chip.proofs.ReadSteps.{none_there}
use Rattle.eid_chip.proofs.RightSteps.{passed_is, refused_is, writing_at, writing_fails, writing_rules}
use Rattle.eid_chip.proofs.Selections.{filled, first_holds, second_holds, some_after, unfilled}
use Rattle.eid_chip.proofs.UpdateSteps.{MeansGroup, current_at, short_so, update_absent, update_behind, update_over, update_unformed, update_unnamed, update_unwritable, update_without_current, updates}
use Rattle.eid_chip.proofs.update.update_binary.Goals as goal
use Rattle.eid_chip.proofs.update.update_binary.Goals.{else-c-lt128-via-then-c-lt128+else-is_none, else-c-lt128-via-else-c-lt128}

pub returns-then-is_empty-clause-performed : goal.returns-then-is_empty-clause-performed
returns-then-is_empty-clause-performed g c = λ copro.
    let command = plain_command c.args.c.now in
    let kept = held (g.E.Eeprom.cells c.args.cells.now) in
    let r = c.refused in
    refused_unasked UpdateBinary c.args.session.now command (record { rule = 10; status = 0x6A80 }) _ (reacted r.result r.new.session) _ copro _ _ _ c.requires.fits (c.uncommitted.ensures.ended _)
    (λ channel. (update_unformed kept (state c.args.session.now channel) command (unfilled (length c.args.c.now.body.now) c.if-is_empty.ensures), refl))
    (ap (λ (x : Rule). x.0) r.ensures.rule) r.ensures.reply r.ensures.left

pub returns-then-is_none-clause-performed : goal.returns-then-is_none-clause-performed
returns-then-is_none-clause-performed g c = λ copro.
    let command = plain_command c.args.c.now in
    let kept = held (g.E.Eeprom.cells c.args.cells.now) in
    let some = filled (length c.args.c.now.body.now) c.if-is_empty.ensures in
    let by_offset : is_by_short command ≡ false = grind (arith, nat_tests, c.if-c-lt128.true) in
    let r = c.refused-then-is_none in
    refused_unasked UpdateBinary c.args.session.now command (record { rule = 12; status = 0x6986 }) _ (reacted r.result r.new.session) _ copro _ _ _ c.requires.fits (c.uncommitted-then-is_none.ensures.ended _)
    (λ channel. (update_without_current kept (state c.args.session.now channel) command some by_offset (some_after (λ (f : FileNo). f.0) c.args.session.now.memory.current ∙ c.if-is_none.ensures), refl))
    (ap (λ (x : Rule). x.0) r.ensures.rule) r.ensures.reply r.ensures.left

pub returns-in_default-clause-performed : goal.returns-in_default-clause-performed
returns-in_default-clause-performed g c = λ copro.
    let command = plain_command c.args.c.now in
    let kept = held (g.E.Eeprom.cells c.args.cells.now) in
    let some = filled (length c.args.c.now.body.now) c.if-is_empty.ensures in
    let named : (is_by_short command || is_some c.args.session.now.memory.current) ≡ true =
    elim c.else-c-lt128.branch [ else-c-lt128-via-then-c-lt128+else-is_none w ↦ second_holds (is_by_short command) _ w.if-is_none.ensures | else-c-lt128-via-else-c-lt128 w ↦ let short : true ≡ nat_le 0x80 c.args.c.now.p1 = grind (arith, nat_tests) in first_holds _ _ short ] in
    let short = short_so (is_by_short command) c.args.session.now.memory.current named c.in_default.ensures.current in
    let r = c.refused-in_default in
    refused_unasked UpdateBinary c.args.session.now command (record { rule = 13; status = 0x6A82 }) _ (reacted r.result r.new.session) _ copro _ _ _ c.requires.fits (c.uncommitted-in_default.ensures.ended _)
    (λ channel. (update_unnamed kept (state c.args.session.now channel) command some short (c.in_default.ensures.file UpdateBinary kept channel), refl))
    (ap (λ (x : Rule). x.0) r.ensures.rule) r.ensures.reply r.ensures.left

pub returns-then-not-is_writable-clause-performed : goal.returns-then-not-is_writable-clause-performed
returns-then-not-is_writable-clause-performed g c = λ copro.
    let command = plain_command c.args.c.now in
    let kept = held (g.E.Eeprom.cells c.args.cells.now) in
    let some = filled (length c.args.c.now.body.now) c.if-is_empty.ensures in
    let named : (is_by_short command || is_some c.args.session.now.memory.current) ≡ true =
    elim c.else-c-lt128.branch [ else-c-lt128-via-then-c-lt128+else-is_none w ↦ second_holds (is_by_short command) _ w.if-is_none.ensures | else-c-lt128-via-else-c-lt128 w ↦ let short : true ≡ nat_le 0x80 c.args.c.now.p1 = grind (arith, nat_tests) in first_holds _ _ short ] in
    let r = c.refused-then-not-is_writable in
    refused_unasked UpdateBinary c.args.session.now command (record { rule = 14; status = 0x6982 }) _ (reacted r.result r.new.session) _ copro _ _ _ c.requires.fits (c.uncommitted-then-not-is_writable.ensures.ended _)
    (λ channel. (update_unwritable kept (state c.args.session.now channel) command c.in-Some.file.0 some (current_at (is_by_short command) c.args.session.now.memory.current named) (c.in-Some.ensures.file UpdateBinary kept channel) (sym c.if-not-is_writable.ensures), refl))
    (ap (λ (x : Rule). x.0) r.ensures.rule) r.ensures.reply r.ensures.left

pub returns-in-Err-clause-performed : goal.returns-in-Err-clause-performed
returns-in-Err-clause-performed g c = λ copro.
    let command = plain_command c.args.c.now in
    let kept = held (g.E.Eeprom.cells c.args.cells.now) in
    let some = filled (length c.args.c.now.body.now) c.if-is_empty.ensures in
    let named : (is_by_short command || is_some c.args.session.now.memory.current) ≡ true =
    elim c.else-c-lt128.branch [ else-c-lt128-via-then-c-lt128+else-is_none w ↦ second_holds (is_by_short command) _ w.if-is_none.ensures | else-c-lt128-via-else-c-lt128 w ↦ let short : true ≡ nat_le 0x80 c.args.c.now.p1 = grind (arith, nat_tests) in first_holds _ _ short ] in
    let r = c.refused-in-Err in
    refused_unasked UpdateBinary c.args.session.now command (refusal c.in-Err.refusal) _ (reacted r.result r.new.session) _ copro _ _ _ c.requires.fits (c.uncommitted-in-Err.ensures.ended _)
    (λ channel. let old = state c.args.session.now channel in
    let so = refused_is c.check_writing.result c.in-Err.refusal (writing_refused old c.in-Some.file.0) (c.check_writing.ensures ∙ writing_at c.args.session.now channel c.in-Some.file.0) c.in-Err.is in
    (writing_fails kept old command c.in-Some.file.0 (refusal c.in-Err.refusal) some (current_at (is_by_short command) c.args.session.now.memory.current named) (c.in-Some.ensures.file UpdateBinary kept channel) (sym c.if-not-is_writable.ensures) so.0, so.1 (writing_rules old c.in-Some.file.0)))
    (ap (λ (x : Rule). x.0) r.ensures.rule) r.ensures.reply r.ensures.left

pub returns-in_default-file_length-clause-performed : goal.returns-in_default-file_length-clause-performed
returns-in_default-file_length-clause-performed g c = λ copro.
    let command = plain_command c.args.c.now in
    let kept = held (g.E.Eeprom.cells c.args.cells.now) in
    let some = filled (length c.args.c.now.body.now) c.if-is_empty.ensures in
    let named : (is_by_short command || is_some c.args.session.now.memory.current) ≡ true =
    elim c.else-c-lt128.branch [ else-c-lt128-via-then-c-lt128+else-is_none w ↦ second_holds (is_by_short command) _ w.if-is_none.ensures | else-c-lt128-via-else-c-lt128 w ↦ let short : true ≡ nat_le 0x80 c.args.c.now.p1 = grind (arith, nat_tests) in first_holds _ _ short ] in
    let means : (channel : Option ChannelState) → MeansGroup kept (state c.args.session.now channel) command c.in-Some.file.0 = λ channel. record {
      some = some;
      current = current_at (is_by_short command) c.args.session.now.memory.current named;
      meant = c.in-Some.ensures.file UpdateBinary kept channel;
      writable = sym c.if-not-is_writable.ensures;
      served = passed_is c.check_writing.result c.in_default-check_writing.field-0 (writing_refused (state c.args.session.now channel) c.in-Some.file.0)
          (c.check_writing.ensures ∙ writing_at c.args.session.now channel c.in-Some.file.0) c.in_default-check_writing.is;
    } in
    let r = c.refused-in_default-file_length in
    refused_unasked UpdateBinary c.args.session.now command (record { rule = 37; status = 0x6A82 }) _ (reacted r.result r.new.session) _ copro _ _ _ c.requires.fits (c.uncommitted-in_default-file_length.ensures.ended _)
    (λ channel. (update_absent kept (state c.args.session.now channel) command c.in-Some.file.0 (means channel) (none_there (bytes_of_file kept (Some c.in-Some.file.0)) c.in_default-file_length.ensures.length), refl))
    (ap (λ (x : Rule). x.0) r.ensures.rule) r.ensures.reply r.ensures.left

pub returns-in-Err-write_range-clause-performed : goal.returns-in-Err-write_range-clause-performed
returns-in-Err-write_range-clause-performed g c = λ copro.
    let command = plain_command c.args.c.now in
    let kept = held (g.E.Eeprom.cells c.args.cells.now) in
    let some = filled (length c.args.c.now.body.now) c.if-is_empty.ensures in
    let named : (is_by_short command || is_some c.args.session.now.memory.current) ≡ true =
    elim c.else-c-lt128.branch [ else-c-lt128-via-then-c-lt128+else-is_none w ↦ second_holds (is_by_short command) _ w.if-is_none.ensures | else-c-lt128-via-else-c-lt128 w ↦ let short : true ≡ nat_le 0x80 c.args.c.now.p1 = grind (arith, nat_tests) in first_holds _ _ short ] in
    let means : (channel : Option ChannelState) → MeansGroup kept (state c.args.session.now channel) command c.in-Some.file.0 = λ channel. record {
      some = some;
      current = current_at (is_by_short command) c.args.session.now.memory.current named;
      meant = c.in-Some.ensures.file UpdateBinary kept channel;
      writable = sym c.if-not-is_writable.ensures;
      served = passed_is c.check_writing.result c.in_default-check_writing.field-0 (writing_refused (state c.args.session.now channel) c.in-Some.file.0)
          (c.check_writing.ensures ∙ writing_at c.args.session.now channel c.in-Some.file.0) c.in_default-check_writing.is;
    } in
    let size = c.in-Some-file_length.length in
    let offset = c.meant_offset-offset.result in
    let rule = c.in-Err-write_range.rule.0 in
    let refused = refusal c.bad_range.result in
    let is = range_refusal refused rule c.bad_range.ensures in
    let r = c.refused-in-Err-write_range in
    refused_unasked UpdateBinary c.args.session.now command refused _ (reacted r.result r.new.session) _ copro _ _ _ c.requires.fits (c.uncommitted-in-Err-write_range.ensures.ended _)
    (λ channel. elim (written_out size offset (length command.body) rule (sym (ap refused_by c.in-Err-write_range.is) ∙ c.write_range.ensures)) [
      | inl out ↦ (update_behind kept (state c.args.session.now channel) command c.in-Some.file.0 size (means channel) c.in-Some-file_length.ensures.length (rw (← c.meant_offset-offset.ensures) out.behind) ∙ ap Some (sym (is.0 out.rule_is)), ap (λ (p : PlainRefusal). p.rule == 0) (is.0 out.rule_is))
      | inr out ↦ (update_over kept (state c.args.session.now channel) command c.in-Some.file.0 size (means channel) c.in-Some-file_length.ensures.length (rw (← c.meant_offset-offset.ensures) out.inside) (rw (← c.meant_offset-offset.ensures) out.beyond) ∙ ap Some (sym (is.1 out.rule_is)), ap (λ (p : PlainRefusal). p.rule == 0) (is.1 out.rule_is))
    ])
    (ap (λ (x : Rule). x.0) r.ensures.rule) r.ensures.reply r.ensures.left

pub returns-clause-performed : goal.returns-clause-performed
returns-clause-performed g c = λ copro.
    let command = plain_command c.args.c.now in
    let kept = held (g.E.Eeprom.cells c.args.cells.now) in
    let some = filled (length c.args.c.now.body.now) c.if-is_empty.ensures in
    let named : (is_by_short command || is_some c.args.session.now.memory.current) ≡ true =
    elim c.else-c-lt128.branch [ else-c-lt128-via-then-c-lt128+else-is_none w ↦ second_holds (is_by_short command) _ w.if-is_none.ensures | else-c-lt128-via-else-c-lt128 w ↦ let short : true ≡ nat_le 0x80 c.args.c.now.p1 = grind (arith, nat_tests) in first_holds _ _ short ] in
    let means : (channel : Option ChannelState) → MeansGroup kept (state c.args.session.now channel) command c.in-Some.file.0 = λ channel. record {
      some = some;
      current = current_at (is_by_short command) c.args.session.now.memory.current named;
      meant = c.in-Some.ensures.file UpdateBinary kept channel;
      writable = sym c.if-not-is_writable.ensures;
      served = passed_is c.check_writing.result c.in_default-check_writing.field-0 (writing_refused (state c.args.session.now channel) c.in-Some.file.0)
          (c.check_writing.ensures ∙ writing_at c.args.session.now channel c.in-Some.file.0) c.in_default-check_writing.is;
    } in
    let size = c.in-Some-file_length.length in
    let inside = written_in size c.meant_offset-offset.result (length command.body) (sym (ap refused_by c.in_default-write_range.is) ∙ c.write_range.ensures) in
    let offset : nat_le (offset_meant command) size ≡ true = rw (← c.meant_offset-offset.ensures) inside.0 in
    let fits : nat_le (offset_meant command + length command.body) size ≡ true = rw (← c.meant_offset-offset.ensures) inside.1 in
    record {
      asks = [];
      were_asked = not_asked copro;
      ended = λ channel. c.commit_one.ensures.ended copro copro channel UpdateBinary command []
          (rw (c.meant_offset-offset.ensures, c.naming.ensures) (updates kept (state c.args.session.now channel) command c.in-Some.file c.in-Some-file_length.length (means channel) c.in-Some-file_length.ensures.length offset fits c.in-Some.ensures.named));
      layout = c.commit_one.ensures.layout;
    }
