-- The terminal is known, whose signature was right.
use Rattle.std.proofs.Common.{◌≡◌, ◌==◌, true, false, Some, [], length, refl, ap, sym, ◌∙◌}
use Rattle.std.specs.Prelude.{option_map}
use Rattle.eid_apdu.specs.Command.{plain_command}
use Rattle.eid_apdu.specs.Answer.{plain_reply}
use Rattle.eid_base.specs.declared.codes.Rule.{Rule}
use Rattle.eid_cvc.specs.Chains.{known_view}
use Rattle.eid_copro.proofs.Asking.{not_asked}
use Rattle.eid_ta.specs.VerifyEnds.{verify_asks}
use Rattle.eid_ta.specs.View.{challenged_view}
use Rattle.eid_model.specs.Rules.{SIGNATURE_SIZE}
use Rattle.eid_chip.specs.declared.session.Session.{Session}
use Rattle.eid_chip.specs.declared.session.Memory.{Memory}
use Rattle.eid_chip.specs.Endings.{reacted}
use Rattle.eid_chip.specs.States.{authentication_of, state}
use Rattle.eid_chip.specs.Steps.{state_left}
use Rattle.eid_chip.specs.Transitions.{state_refused, two_messages_later}
use Rattle.eid_chip.proofs.CarriedOut.{idle_state}
use Rattle.eid_chip.proofs.TerminalSteps.{no_signature, terminal_known}
use Rattle.eid_chip.proofs.terminal.external_authenticate.Goals as goal

pub returns-in_default-clause-told : goal.returns-in_default-clause-told
returns-in_default-clause-told g c kept = record {
  asks = [];
  were_asked = not_asked _;
  tells = λ channel. no_signature kept (state c.args.session.now channel) (plain_command c.args.c.now) (reacted c.refused.result c.refused.new.session) (plain_reply c.refused.new.reply) c.in_default.ensures.none (record {
    rule = ap (λ (r : Rule). r.0) c.refused.ensures.rule;
    answered = c.refused.ensures.reply;
    state = c.refused.ensures.left channel;
  });
}

pub returns-in-Ok-clause-told : goal.returns-in-Ok-clause-told
returns-in-Ok-clause-told g c kept =
    let ends = c.in-Ok.ensures in
    let did = c.carried_out.ensures.did in
    let idle = c.take_authentication.ensures.idle in
    let known : Memory → Memory = λ m. record m { terminal = Some c.in-Ok.terminal; chip_proven = false } in
    let new : Session = record c.take_authentication.new.self { memory = known c.take_authentication.new.self.memory } in
    let said = plain_reply c.carried_out.new.reply in
    let found = c.in-Some.ensures.found in
    let size : (length c.args.c.now.body.now == SIGNATURE_SIZE) ≡ true = rw found.1 refl in
    record {
      asks = verify_asks (challenged_view c.in-Challenged.challenged) c.in-Challenged.identity c.in-Some.signature ends.end;
      were_asked = ends.asked;
      tells = λ channel.
          let left : state_left (reacted c.carried_out.result new) channel ≡ record (state_refused (state c.args.session.now channel)) { terminal = Some (known_view c.in-Ok.terminal); chip_proven = false } =
          rw (did.0, did.2) (idle_state new (known c.args.session.now.memory) (option_map two_messages_later channel) idle.0 idle.1 (ap known c.take_authentication.ensures.memory)) in
          terminal_known kept (state c.args.session.now channel) (plain_command c.args.c.now) c.in-Challenged.identity (challenged_view c.in-Challenged.challenged) c.in-Some.signature ends.end (known_view c.in-Ok.terminal) (reacted c.carried_out.result new) said
          (ap authentication_of (sym c.take_authentication.ensures.authentication ∙ c.in-Challenged.is)) found.0 size ends.gives did.0 did.1 left;
    }
