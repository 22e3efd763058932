-- The nonce that was drawn is sent.
use Rattle.std.proofs.Common.{[], ap, sym, ◌∙◌}
use Rattle.eid_apdu.specs.Command.{plain_command}
use Rattle.eid_apdu.specs.Answer.{plain_reply}
use Rattle.eid_base.specs.declared.codes.Rule.{Rule}
use Rattle.eid_record.specs.Plain.{PlainRecord}
use Rattle.eid_password.specs.Passwords.{digits_of, start_refusal}
use Rattle.eid_pace.specs.NonceEnds.{nonce_asks, nonce_given}
use Rattle.eid_pace.specs.View.{chosen_view, nonce_sent_view}
use Rattle.eid_chip.specs.Endings.{reacted}
use Rattle.eid_chip.specs.Held.{held}
use Rattle.eid_chip.specs.States.{state, phase_of}
use Rattle.eid_chip.proofs.HeldFiles.{held_fields}
use Rattle.eid_model.specs.Answers.{status_alone}
use Rattle.eid_chip.specs.Steps.{PlainRefusal}
use Rattle.eid_chip.proofs.PaceSteps.{no_empty_body, idle_refused, nonce_refused, nonce_sent, went_on}
use Rattle.eid_copro.proofs.Asking.{not_asked}
use Rattle.eid_chip.proofs.pace.encrypted_nonce.Goals as goal

pub returns-then-not-is_no_data-clause-told : goal.returns-then-not-is_no_data-clause-told
returns-then-not-is_no_data-clause-told g c = record {
  asks = [];
  were_asked = not_asked _;
  tells = λ channel. no_empty_body _ (state c.args.session.now channel) (plain_command c.args.c.now) (reacted c.refused.result c.refused.new.session) (plain_reply c.refused.new.reply) (sym c.if-not-is_no_data.ensures) (record {
    rule = ap (λ (r : Rule). r.0) c.refused.ensures.rule;
    answered = c.refused.ensures.reply;
    state = c.refused.ensures.left channel;
  });
}

pub returns-in-Err-clause-told : goal.returns-in-Err-clause-told
returns-in-Err-clause-told g c =
    let ends = c.in-Err.ensures in
    let said = plain_reply c.refused-in-Err.new.reply in
    let cells = g.E.Eeprom.cells c.args.cells.now in
    let choice = chosen_view c.in-Chosen.chosen in
    let fields = c.kept.ensures ∙ sym (held_fields c.args.store.now (g.E.Eeprom.device c.args.cells.now) cells c.requires.fits) in
    let by = ap (λ (r : PlainRecord). start_refusal r choice.password c.was_with_can-by_can.result) fields ∙ ap (start_refusal (held cells).fields choice.password) c.was_with_can-by_can.ensures in
    record {
      asks = nonce_asks _ ends.end;
      were_asked = ends.asked;
      tells = λ channel. nonce_refused (held cells) (state c.args.session.now channel) (plain_command c.args.c.now) choice _ _ ends.end c.in-Err.rule.0 (reacted c.refused-in-Err.result c.refused-in-Err.new.session) said (ap phase_of (sym c.take_run.ensures.run ∙ c.in-Chosen.is)) (sym c.if-not-is_no_data.ensures) by ends.gives (record {
        rule = ap (λ (r : Rule). r.0) c.refused-in-Err.ensures.rule ∙ ap (λ (r : PlainRefusal). r.rule) c.start_refusal.ensures;
        answered = c.refused-in-Err.ensures.reply ∙ ap (λ (r : PlainRefusal). status_alone r.status) c.start_refusal.ensures;
        state = c.refused-in-Err.ensures.left channel ∙ idle_refused _ _ c.args.session.now c.take_run.new.self channel (ap (λ (r : PlainRefusal). r.rule) c.start_refusal.ensures) c.take_run.ensures.memory;
      });
    }

pub returns-in-Ok-clause-told : goal.returns-in-Ok-clause-told
returns-in-Ok-clause-told g c =
    let ends = c.in-Ok.ensures in
    let done = c.answered.ensures in
    let said = plain_reply c.put_data.new.reply in
    let cells = g.E.Eeprom.cells c.args.cells.now in
    let choice = chosen_view c.in-Chosen.chosen in
    let fields = c.kept.ensures ∙ sym (held_fields c.args.store.now (g.E.Eeprom.device c.args.cells.now) cells c.requires.fits) in
    let by = ap (λ (r : PlainRecord). start_refusal r choice.password c.was_with_can-by_can.result) fields ∙ ap (start_refusal (held cells).fields choice.password) c.was_with_can-by_can.ensures in
    let gives = ends.gives ∙ ap (λ (r : PlainRecord). nonce_given choice (digits_of r choice.password) _ ends.end) fields in
    record {
      asks = nonce_asks _ ends.end;
      were_asked = ends.asked;
      tells = λ channel.
          nonce_sent (held cells) (state c.args.session.now channel) (plain_command c.args.c.now) choice _ ends.end (nonce_sent_view c.in-Ok.given.0) c.in-Ok.given.1 (reacted c.answered.result c.go_on.new.self) said (ap phase_of (sym c.take_run.ensures.run ∙ c.in-Chosen.is)) (sym c.if-not-is_no_data.ensures) by gives
          (went_on (reacted c.answered.result c.go_on.new.self) said c.args.session.now channel _ _ done.0 c.put_data.ensures.plain done.1 c.go_on.ensures (sym c.take_run.ensures.memory));
    }
