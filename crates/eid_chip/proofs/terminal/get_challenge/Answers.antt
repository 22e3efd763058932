-- The challenge that was drawn is sent.
use Rattle.std.proofs.Common.{[], ap, sym, ◌∙◌}
use Rattle.eid_apdu.specs.Command.{plain_command}
use Rattle.eid_apdu.specs.Answer.{plain_reply}
use Rattle.eid_base.specs.declared.codes.Rule.{Rule}
use Rattle.eid_copro.proofs.Asking.{not_asked}
use Rattle.eid_ta.specs.ChallengeEnds.{challenge_asks}
use Rattle.eid_ta.specs.View.{announced_view, challenged_view}
use Rattle.eid_chip.specs.Endings.{reacted}
use Rattle.eid_chip.specs.States.{authentication_of, state}
use Rattle.eid_chip.proofs.PaceSteps.{went_on}
use Rattle.eid_chip.proofs.TerminalSteps.{challenge_sent, no_challenge_body}
use Rattle.eid_chip.proofs.terminal.get_challenge.Goals as goal

pub returns-then-not-is_empty-clause-told : goal.returns-then-not-is_empty-clause-told
returns-then-not-is_empty-clause-told g c kept = record {
  asks = [];
  were_asked = not_asked _;
  tells = λ channel. no_challenge_body kept (state c.args.session.now channel) (plain_command c.args.c.now) (reacted c.refused.result c.refused.new.session) (plain_reply c.refused.new.reply) (sym c.if-not-is_empty.ensures) (record {
    rule = ap (λ (r : Rule). r.0) c.refused.ensures.rule;
    answered = c.refused.ensures.reply;
    state = c.refused.ensures.left channel;
  });
}

pub returns-in-Ok-clause-told : goal.returns-in-Ok-clause-told
returns-in-Ok-clause-told g c kept =
    let ends = c.in-Ok.ensures in
    let done = c.answered.ensures in
    let said = plain_reply c.put_plain.new.reply in
    record {
      asks = challenge_asks ends.end;
      were_asked = ends.asked;
      tells = λ channel.
          challenge_sent kept (state c.args.session.now channel) (plain_command c.args.c.now) c.in-Announced.identity (announced_view c.in-Announced.announced) ends.end (challenged_view c.in-Ok.given.0) c.in-Ok.given.1 (reacted c.answered.result c.authenticate.new.self) said
          (ap authentication_of (sym c.take_authentication.ensures.authentication ∙ c.in-Announced.is)) (sym c.if-not-is_empty.ensures) ends.gives (went_on (reacted c.answered.result c.authenticate.new.self) said c.args.session.now channel _ _ done.0 c.put_plain.ensures.plain done.1 c.authenticate.ensures (sym c.take_authentication.ensures.memory));
    }
