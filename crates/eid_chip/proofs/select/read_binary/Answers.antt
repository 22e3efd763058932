-- A file is refused by the first failed rule, or its bytes answered.
use Rattle.std.proofs.Common.{◌≡◌, ◌∙◌, sym, ap, true, false, ◌||◌, [], Some, arith, refl, drop, ℕ}
use Rattle.std.specs.Prelude.{nat_le, is_some, unwrap_or, option_map}
use Rattle.std.proofs.lemmas.Bool.Decides.{nat_tests}
use Rattle.eid_base.specs.declared.codes.Rule.{Rule}
use Rattle.eid_model.specs.declared.kind.Kind.TheVariants.{ReadBinary}
use Rattle.eid_model.specs.Kinds.{is_by_short}
use Rattle.eid_apdu.specs.Command.{plain_command}
use Rattle.eid_model.specs.Rules.{bytes_of_file, offset_meant}
use Rattle.eid_model.specs.Answers.{read_reply}
use Rattle.eid_apdu.specs.Answer.{plain_reply}
use Rattle.eid_chip.specs.Endings.{reacted}
use Rattle.eid_chip.specs.Transitions.{two_messages_later, with_change, without_run}
use Rattle.eid_record.specs.declared.fields.FileNo.{FileNo}
use Rattle.eid_chip.specs.declared.session.Change.{Change}
use Rattle.eid_chip.specs.Granting.{reading_refused}
use Rattle.eid_chip.specs.Held.{held, held_file}
use Rattle.eid_chip.specs.States.{state}
use Rattle.eid_chip.specs.Steps.{refusal}
use Rattle.eid_chip.proofs.CarriedOut.{carried}
use Rattle.eid_chip.proofs.Outcomes.{kind_refused}
use Rattle.eid_chip.proofs.RightSteps.{passed_is, reading_at, reading_fails, reading_rules, refused_is}
use Rattle.eid_chip.proofs.Selections.{first_holds, second_holds, some_after}
use Rattle.eid_files.specs.Ranges.{range_view}
use Rattle.eid_chip.proofs.HeldFiles.{given_is, given_none, range_is}
use Rattle.eid_chip.proofs.ReadSteps.{MeansFile, none_there, read_absent, read_behind, read_passes, read_answers, read_leaves, file_named}
use Rattle.eid_chip.proofs.select.read_binary.Goals as goal
use Rattle.eid_chip.proofs.select.read_binary.Goals.{else-c-lt128-via-then-c-lt128+else-is_none, else-c-lt128-via-else-c-lt128}

pub returns-in-Err-clause-told : goal.returns-in-Err-clause-told
returns-in-Err-clause-told g c = λ channel.
    let kept = held (g.E.Eeprom.cells c.args.cells.now) in
    let old = state c.args.session.now channel in
    let command = plain_command c.args.c.now in
    let current : (is_by_short command || is_some old.current) ≡ true =
    elim c.else-c-lt128.branch [ else-c-lt128-via-then-c-lt128+else-is_none w ↦ second_holds (is_by_short command) _ (some_after (λ (f : FileNo). f.0) c.args.session.now.memory.current ∙ w.if-is_none.ensures) | else-c-lt128-via-else-c-lt128 w ↦ let short : true ≡ nat_le 0x80 c.args.c.now.p1 = grind (arith, nat_tests) in first_holds _ _ short ] in
    let so = refused_is c.check_reading.result c.in-Err.refusal (reading_refused old c.in-Some.file.0) (c.check_reading.ensures ∙ reading_at c.args.session.now channel c.in-Some.file.0) c.in-Err.is in
    let r = c.refused-in-Err in
    (kind_refused ReadBinary kept old command (refusal c.in-Err.refusal) (reacted r.result r.new.session) (plain_reply r.new.reply)
    (reading_fails kept old command c.in-Some.file.0 (refusal c.in-Err.refusal) (sym c.if-not-is_empty.ensures) current (c.in-Some.ensures.file ReadBinary kept channel) so.0) (so.1 (reading_rules old c.in-Some.file.0))
    (ap (λ (x : Rule). x.0) r.ensures.rule) r.ensures.reply (r.ensures.left channel)).1

pub returns-in_default-file_length-clause-told : goal.returns-in_default-file_length-clause-told
returns-in_default-file_length-clause-told g c = λ channel.
    let kept = held (g.E.Eeprom.cells c.args.cells.now) in
    let old = state c.args.session.now channel in
    let command = plain_command c.args.c.now in
    let current : (is_by_short command || is_some old.current) ≡ true =
    elim c.else-c-lt128.branch [ else-c-lt128-via-then-c-lt128+else-is_none w ↦ second_holds (is_by_short command) _ (some_after (λ (f : FileNo). f.0) c.args.session.now.memory.current ∙ w.if-is_none.ensures) | else-c-lt128-via-else-c-lt128 w ↦ let short : true ≡ nat_le 0x80 c.args.c.now.p1 = grind (arith, nat_tests) in first_holds _ _ short ] in
    let served = passed_is c.check_reading.result c.in_default-check_reading.field-0 (reading_refused old c.in-Some.file.0) (c.check_reading.ensures ∙ reading_at c.args.session.now channel c.in-Some.file.0) c.in_default-check_reading.is in
    let means : MeansFile kept old command c.in-Some.file.0 = record { empty = sym c.if-not-is_empty.ensures; current = current; meant = c.in-Some.ensures.file ReadBinary kept channel; served = served } in
    let r = c.refused-in_default-file_length in
    (kind_refused ReadBinary kept old command (record { rule = 37; status = 0x6A82 }) (reacted r.result r.new.session) (plain_reply r.new.reply)
    (read_absent kept old command c.in-Some.file.0 means (none_there (bytes_of_file kept (Some c.in-Some.file.0)) c.in_default-file_length.ensures.length)) refl
    (ap (λ (x : Rule). x.0) r.ensures.rule) r.ensures.reply (r.ensures.left channel)).1

pub returns-in_default-read_range-clause-told : goal.returns-in_default-read_range-clause-told
returns-in_default-read_range-clause-told g c = λ channel.
    let kept = held (g.E.Eeprom.cells c.args.cells.now) in
    let old = state c.args.session.now channel in
    let command = plain_command c.args.c.now in
    let current : (is_by_short command || is_some old.current) ≡ true =
    elim c.else-c-lt128.branch [ else-c-lt128-via-then-c-lt128+else-is_none w ↦ second_holds (is_by_short command) _ (some_after (λ (f : FileNo). f.0) c.args.session.now.memory.current ∙ w.if-is_none.ensures) | else-c-lt128-via-else-c-lt128 w ↦ let short : true ≡ nat_le 0x80 c.args.c.now.p1 = grind (arith, nat_tests) in first_holds _ _ short ] in
    let served = passed_is c.check_reading.result c.in_default-check_reading.field-0 (reading_refused old c.in-Some.file.0) (c.check_reading.ensures ∙ reading_at c.args.session.now channel c.in-Some.file.0) c.in_default-check_reading.is in
    let means : MeansFile kept old command c.in-Some.file.0 = record { empty = sym c.if-not-is_empty.ensures; current = current; meant = c.in-Some.ensures.file ReadBinary kept channel; served = served } in
    let behind : nat_le (offset_meant command) c.in-Some-file_length.length ≡ false =
    rw (← c.meant_offset-offset.ensures) (given_none c.in-Some-file_length.length c.meant_offset-offset.result c.args.c.now.ne c.in_default-read_range.field-0.0 (sym (ap range_view c.in_default-read_range.is) ∙ c.read_range.ensures)) in
    let r = c.refused-in_default-read_range in
    (kind_refused ReadBinary kept old command (record { rule = 38; status = 0x6B00 }) (reacted r.result r.new.session) (plain_reply r.new.reply)
    (read_behind kept old command c.in-Some.file.0 c.in-Some-file_length.length means c.in-Some-file_length.ensures.length behind) refl
    (ap (λ (x : Rule). x.0) r.ensures.rule) r.ensures.reply (r.ensures.left channel)).1

pub returns-clause-told : goal.returns-clause-told
returns-clause-told g c = λ channel.
    let kept = held (g.E.Eeprom.cells c.args.cells.now) in
    let old = state c.args.session.now channel in
    let command = plain_command c.args.c.now in
    let current : (is_by_short command || is_some old.current) ≡ true =
    elim c.else-c-lt128.branch [ else-c-lt128-via-then-c-lt128+else-is_none w ↦ second_holds (is_by_short command) _ (some_after (λ (f : FileNo). f.0) c.args.session.now.memory.current ∙ w.if-is_none.ensures) | else-c-lt128-via-else-c-lt128 w ↦ let short : true ≡ nat_le 0x80 c.args.c.now.p1 = grind (arith, nat_tests) in first_holds _ _ short ] in
    let meant = c.in-Some.ensures.file ReadBinary kept channel in
    let served = passed_is c.check_reading.result c.in_default-check_reading.field-0 (reading_refused old c.in-Some.file.0) (c.check_reading.ensures ∙ reading_at c.args.session.now channel c.in-Some.file.0) c.in_default-check_reading.is in
    let means : MeansFile kept old command c.in-Some.file.0 = record { empty = sym c.if-not-is_empty.ensures; current = current; meant = meant; served = served } in
    let given = sym (ap range_view c.in-Ok.is) ∙ c.read_range.ensures in
    let inside = (given_is c.in-Some-file_length.length c.meant_offset-offset.result c.args.c.now.ne c.in-Ok.count c.in-Ok.status.0 given).0 in
    let offset : nat_le (offset_meant command) c.in-Some-file_length.length ≡ true = grind (arith, nat_tests, c.meant_offset-offset.ensures, inside) in
    let passes = read_passes kept old command c.in-Some.file.0 c.in-Some-file_length.length means c.in-Some-file_length.ensures.length offset in
    let out = c.answered.ensures in
    let later = option_map two_messages_later channel in
    let said = plain_reply c.put_answer.new.reply in
    let put : said ≡ record { content = c.put_answer.new.reply.content.items; status = c.in-Ok.status.0 } = rw c.put_answer.ensures.status refl in
    let reply : said ≡ read_reply (drop (offset_meant command) (unwrap_or (bytes_of_file kept (Some c.in-Some.file.0)) [])) c.args.c.now.ne =
    put ∙ range_is (held_file (g.E.Eeprom.cells c.args.cells.now) c.in-Some.file.0) c.in-Some-file_length.length c.meant_offset-offset.result c.args.c.now.ne c.in-Ok.count _ c.in-Ok.status.0 c.in-Some-file_length.ensures.length given c.put_answer.ensures.content
    ∙ ap (λ (n : ℕ). read_reply (drop n (unwrap_or (held_file (g.E.Eeprom.cells c.args.cells.now) c.in-Some.file.0) [])) c.args.c.now.ne) c.meant_offset-offset.ensures in
    let change = ap (λ (x : Change). with_change x (without_run (state c.args.session.now later))) c.naming.ensures ∙ file_named (is_by_short command) c.in-Some.file _ in
    carried ReadBinary kept old command (reacted c.answered.result c.leave.new.self) said refl passes out.0 out.1
    (reply ∙ read_answers kept old command _ meant)
    (c.leave.ensures.left later ∙ change ∙ read_leaves kept old command _ meant)
