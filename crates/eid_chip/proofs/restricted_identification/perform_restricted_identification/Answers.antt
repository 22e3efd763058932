-- The step is refused by the first failed rule, or told.
use Rattle.std.proofs.Common.{[], ap, refl, sym, ◌∙◌, ◌++◌}
use Rattle.eid_apdu.specs.Answer.{plain_reply}
use Rattle.eid_apdu.specs.Command.{plain_command}
use Rattle.eid_base.specs.declared.codes.Rule.{Rule}
use Rattle.eid_copro.proofs.Asking.{not_asked}
use Rattle.eid_model.specs.Answers.{data_alone}
use Rattle.eid_tlv.specs.Objects.{object}
use Rattle.eid_model.specs.declared.kind.Kind.TheVariants.{PerformRestrictedIdentification}
use Rattle.eid_ri.specs.View.{keys_view}
use Rattle.eid_chip.specs.Endings.{reacted}
use Rattle.eid_chip.specs.SectorEnds.{identifier_object, sector_asks}
use Rattle.eid_chip.specs.States.{state}
use Rattle.eid_chip.specs.Steps.{refusal}
use Rattle.eid_chip.proofs.Outcomes.{kind_refused}
use Rattle.eid_chip.proofs.SectorSteps.{asked_both, identified_so, identified_to, no_sector_keys, other_sectors, second_refused}
use Rattle.eid_chip.proofs.restricted_identification.perform_restricted_identification.Goals as goal

pub returns-in_default-clause-told : goal.returns-in_default-clause-told
returns-in_default-clause-told g c full fields =
    let r = c.refused in
    record {
      asks = [];
      were_asked = not_asked _;
      tells = λ channel. (kind_refused PerformRestrictedIdentification full (state c.args.session.now channel) (plain_command c.args.c.now) (record { rule = 10; status = 0x6A80 }) (reacted r.result r.new.session) (plain_reply r.new.reply)
          (no_sector_keys full (state c.args.session.now channel) (plain_command c.args.c.now) (sym c.in_default.ensures)) refl (ap (λ (x : Rule). x.0) r.ensures.rule) r.ensures.reply (r.ensures.left channel)).1;
    }

pub returns-then-not-are_its_sectors-clause-told : goal.returns-then-not-are_its_sectors-clause-told
returns-then-not-are_its_sectors-clause-told g c full fields =
    let r = c.refused-then-not-are_its_sectors in
    record {
      asks = [];
      were_asked = not_asked _;
      tells = λ channel. (kind_refused PerformRestrictedIdentification full (state c.args.session.now channel) (plain_command c.args.c.now) (record { rule = 40; status = 0x6300 }) (reacted r.result r.new.session) (plain_reply r.new.reply)
          (other_sectors full (state c.args.session.now channel) (plain_command c.args.c.now) (keys_view c.in-Some.keys) (sym c.in-Some.ensures) (sym c.are_its_sectors.ensures ∙ c.if-not-are_its_sectors.true)) refl (ap (λ (x : Rule). x.0) r.ensures.rule) r.ensures.reply (r.ensures.left channel)).1;
    }

pub returns-in-Err-identify-clause-told : goal.returns-in-Err-identify-clause-told
returns-in-Err-identify-clause-told g c full fields =
    let keys = keys_view c.in-Some.keys in
    let one = c.in-Ok.ensures in
    let other = c.in-Err-identify.ensures in
    let r = c.refused-in-Err-identify in
    record {
      asks = sector_asks full.fields.ri_secret keys.first one.end ++ sector_asks full.fields.ri_secret keys.second other.end;
      were_asked = rw fields (asked_both one.asked other.asked);
      tells = λ channel.
          second_refused full (state c.args.session.now channel) (plain_command c.args.c.now) keys.first keys.second one.end other.end c.in-Ok.first (refusal c.in-Err-identify.refusal) (reacted r.result r.new.session) (plain_reply r.new.reply)
          (record { body = sym c.in-Some.ensures; its = sym c.are_its_sectors.ensures ∙ c.if-not-are_its_sectors.false }) one.gives other.gives
          (record { rule = ap (λ (x : Rule). x.0) r.ensures.rule; answered = r.ensures.reply; state = r.ensures.left channel });
    }

pub returns-clause-told : goal.returns-clause-told
returns-clause-told g c full fields =
    let keys = keys_view c.in-Some.keys in
    let one = c.in-Ok.ensures in
    let other = c.in-Ok-identify.ensures in
    let done = c.answered.ensures in
    let said = plain_reply c.put_identifiers.new.reply in
    record {
      asks = sector_asks full.fields.ri_secret keys.first one.end ++ sector_asks full.fields.ri_secret keys.second other.end;
      were_asked = rw fields (asked_both one.asked other.asked);
      tells = λ channel.
          identified_to full (state c.args.session.now channel) (plain_command c.args.c.now) keys.first keys.second one.end other.end c.in-Ok.first c.in-Ok-identify.second (reacted c.answered.result c.end_run.new.self) said
          (record { body = sym c.in-Some.ensures; its = sym c.are_its_sectors.ensures ∙ c.if-not-are_its_sectors.false }) one.gives other.gives
          (identified_so (reacted c.answered.result c.end_run.new.self) said c.args.session.now channel c.end_run.new.self (data_alone (object 0x7C (identifier_object 0x81 c.in-Ok.first ++ identifier_object 0x83 c.in-Ok-identify.second))) done.0 c.put_identifiers.ensures.plain done.1 refl c.end_run.ensures.idle.0 c.end_run.ensures.idle.1 c.end_run.ensures.memory);
    }
