-- What was chosen is the selection in the body.
use Rattle.std.proofs.Common.{refl, ap, sym, ◌∙◌}
use Rattle.eid_apdu.specs.Command.{plain_command}
use Rattle.eid_apdu.specs.Answer.{plain_reply}
use Rattle.eid_record.specs.Plain.{PlainRecord}
use Rattle.eid_record.specs.View.{record_view}
use Rattle.eid_password.specs.Passwords.{select_status}
use Rattle.eid_pace.specs.View.{chosen_view}
use Rattle.eid_model.specs.Answers.{status_alone}
use Rattle.eid_chip.specs.Endings.{reacted}
use Rattle.eid_chip.specs.States.{state}
use Rattle.eid_chip.proofs.PaceSteps.{selected, went_on}
use Rattle.eid_chip.proofs.pace.select_pace.Goals as goal

pub returns-in-Ok-clause-told : goal.returns-in-Ok-clause-told
returns-in-Ok-clause-told c kept channel fields =
    let done = c.carried_out_with.ensures.did in
    let said = plain_reply c.carried_out_with.new.reply in
    let choice = chosen_view c.in-Ok.chosen in
    let status = c.select_status-status.ensures ∙ ap (select_status (record_view c.args.kept.now)) c.password.ensures ∙ ap (λ (r : PlainRecord). select_status r choice.password) (sym fields) in
    selected kept (state c.args.session.now channel) (plain_command c.args.c.now) choice (reacted c.carried_out_with.result c.go_on.new.self) said c.in-Ok.ensures
    (went_on (reacted c.carried_out_with.result c.go_on.new.self) said c.args.session.now channel _ _ done.0 (done.1 ∙ ap status_alone status) done.2 c.go_on.ensures refl)
