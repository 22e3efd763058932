-- The chip has proven its key.
use Rattle.std.proofs.Common.{[], ap, sym, ◌∙◌}
use Rattle.eid_apdu.specs.Command.{plain_command}
use Rattle.eid_apdu.specs.Answer.{plain_reply}
use Rattle.eid_base.specs.declared.codes.Rule.{Rule}
use Rattle.eid_copro.proofs.Asking.{not_asked}
use Rattle.eid_ca.specs.ProveEnds.{prove_asks}
use Rattle.eid_ca.specs.View.{chosen_view, proven_view}
use Rattle.eid_chip.specs.Steps.{state_with_chip}
use Rattle.eid_chip.specs.declared.session.Memory.{Memory}
use Rattle.eid_chip.specs.Endings.{reacted}
use Rattle.eid_chip.specs.States.{authentication_of, state}
use Rattle.eid_chip.proofs.ChipSteps.{chip_was_proven, no_chip_point}
use Rattle.eid_chip.proofs.chip_authentication.authenticate_chip.Goals as goal

pub returns-in_default-clause-told : goal.returns-in_default-clause-told
returns-in_default-clause-told g c full fields = record {
  asks = [];
  were_asked = not_asked _;
  tells = λ channel. no_chip_point full (state c.args.session.now channel) (plain_command c.args.c.now) (reacted c.refused.result c.refused.new.session) (plain_reply c.refused.new.reply) c.in_default.ensures.none (record {
    rule = ap (λ (r : Rule). r.0) c.refused.ensures.rule;
    answered = c.refused.ensures.reply;
    state = c.refused.ensures.left channel;
  });
}

pub returns-in-Ok-clause-told : goal.returns-in-Ok-clause-told
returns-in-Ok-clause-told g c full fields =
    let ends = c.in-Ok.ensures in
    let chosen = chosen_view c.in-CaChosen.chosen in
    let found = c.in-Some.ensures.found in
    let said = plain_reply c.accept.new.reply in
    record {
      asks = prove_asks chosen.key_x full.fields.ca_secret c.in-Some.point ends.end;
      were_asked = rw fields ends.asked;
      tells = λ channel.
          chip_was_proven full (state c.args.session.now channel) (plain_command c.args.c.now) chosen c.in-Some.point ends.end (proven_view c.in-Ok.proven) (reacted c.accept.result c.accept.new.session) said
          (ap authentication_of (sym c.take_authentication.ensures.authentication ∙ c.in-CaChosen.is)) found.0 found.1 ends.gives c.accept.ensures.rule c.accept.ensures.reply (c.accept.ensures.left channel ∙ ap (λ (m : Memory). state_with_chip m (proven_view c.in-Ok.proven)) c.take_authentication.ensures.memory);
    }
