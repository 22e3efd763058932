-- A secret was agreed.
use Rattle.std.proofs.Common.{[], ap, sym, ◌∙◌}
use Rattle.eid_apdu.specs.Command.{plain_command}
use Rattle.eid_apdu.specs.Answer.{plain_reply}
use Rattle.eid_base.specs.declared.codes.Rule.{Rule}
use Rattle.eid_pace.specs.AgreeEnds.{agree_asks}
use Rattle.eid_pace.specs.View.{mapped_view, agreed_view}
use Rattle.eid_chip.specs.Endings.{reacted}
use Rattle.eid_chip.specs.States.{state, phase_of}
use Rattle.eid_chip.proofs.PaceSteps.{no_point_to_agree, agreed_on, went_on}
use Rattle.eid_copro.proofs.Asking.{not_asked}
use Rattle.eid_chip.proofs.pace.perform_key_agreement.Goals as goal

pub returns-in_default-clause-told : goal.returns-in_default-clause-told
returns-in_default-clause-told g c kept = record {
  asks = [];
  were_asked = not_asked _;
  tells = λ channel. no_point_to_agree kept (state c.args.session.now channel) (plain_command c.args.c.now) (reacted c.refused.result c.refused.new.session) (plain_reply c.refused.new.reply) c.in_default.ensures.none (record {
    rule = ap (λ (r : Rule). r.0) c.refused.ensures.rule;
    answered = c.refused.ensures.reply;
    state = c.refused.ensures.left channel;
  });
}

pub returns-in-Ok-clause-told : goal.returns-in-Ok-clause-told
returns-in-Ok-clause-told g c kept =
    let ends = c.in-Ok.ensures in
    let done = c.answered.ensures in
    let said = plain_reply c.put_data.new.reply in
    let mapped = mapped_view c.in-Mapped.mapped in
    let body = c.in-Some.ensures.found in
    record {
      asks = agree_asks mapped c.in-Some.peer ends.end;
      were_asked = ends.asked;
      tells = λ channel.
          agreed_on kept (state c.args.session.now channel) (plain_command c.args.c.now) mapped c.in-Some.peer ends.end (agreed_view c.in-Ok.given.0) c.in-Ok.given.1 (reacted c.answered.result c.go_on.new.self) said (ap phase_of (sym c.take_run.ensures.run ∙ c.in-Mapped.is)) body.0 body.1 ends.gives
          (went_on (reacted c.answered.result c.go_on.new.self) said c.args.session.now channel _ _ done.0 c.put_data.ensures.plain done.1 c.go_on.ensures (sym c.take_run.ensures.memory));
    }
