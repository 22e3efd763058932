-- What the selection and the step of restricted identification promise, from what they did.
use Rattle.std.proofs.Common.{◌≡◌, ℕ, Bool, true, false, List, [], ◌∷◌, ◌++◌, Option, Some, None, Ok, Err, refl, sym, ap, ◌∙◌, subst, inl, inr, append_assoc, arith}
use Rattle.std.specs.Prelude.{◌⊎◌, ◌||◌, option_map}
use Rattle.std.proofs.lemmas.List.{append-nil, length-append}
use Rattle.eid_base.specs.Faults.{Rose}
use Rattle.eid_sm.specs.Keys.{ChannelState}
use Rattle.eid_apdu.specs.Answer.{PlainReply}
use Rattle.eid_apdu.specs.Command.{PlainCommand}
use Rattle.eid_bits.specs.declared.identifier.Known.TheVariants.{RiSha256}
use Rattle.eid_ca.specs.Selections.{names}
use Rattle.eid_copro.specs.declared.ask.Ask.{Ask}
use Rattle.eid_copro.specs.declared.ask.Answer.{Answer}
use Rattle.eid_copro.specs.Asking.{EndsAs, WereAsked, agree_ask, is_fault, met_fault}
use Rattle.eid_copro.specs.Seen.{CoproSeen}
use Rattle.eid_copro.specs.declared.ask.Answer.TheVariants as answers
use Rattle.eid_record.specs.Plain.{FullRecord}
use Rattle.eid_ri.specs.Identifiers.{identifier}
use Rattle.eid_ri.specs.SectorKeys.{PlainSectorKey, PlainSectorKeys}
use Rattle.eid_ri.specs.SectorKeysIn.{sector_keys_in}
use Rattle.eid_tlv.specs.Objects.{object}
use Rattle.eid_model.specs.Answers.{data_alone, identifiers_reply}
use Rattle.eid_model.specs.Rules.{answer_rules, commit_rules, first_failed, kind_rules, proof_rules}
use Rattle.eid_model.specs.Runs.{Idle, NotBegun, claimed, entered}
use Rattle.eid_model.specs.Sectors.{are_its_sectors, identifiers}
use Rattle.eid_model.specs.Sessions.{State}
use Rattle.eid_model.specs.declared.kind.Kind.TheVariants.{PerformRestrictedIdentification, SelectRestrictedIdentification}
use Rattle.eid_chip.specs.Granting.{identification_refused, refusal_of}
use Rattle.eid_chip.specs.SectorEnds.{Agreed, Faulted, NoSecret, SectorEnd, identifier_object, sector_asks, sector_given}
use Rattle.eid_chip.specs.Steps.{IsAnsweredByKind, PlainRefusal, known, refusal_by}
use Rattle.eid_chip.specs.States.{state}
use Rattle.eid_chip.specs.Transitions.{state_carried_out, two_messages_later}
use Rattle.eid_chip.specs.Endings.{Reacted}
use Rattle.eid_chip.specs.declared.session.Run.TheVariants as runs
use Rattle.eid_chip.specs.declared.session.Authentication.TheVariants as begun
use Rattle.eid_chip.specs.declared.session.Session.{Session}
use Rattle.eid_chip.proofs.CarriedOut.{idle_state}
use Rattle.eid_chip.proofs.PaceSteps.{WasRefused, WentOn, due, moved, not_due_by, outcome_is}
use Rattle.eid_chip.proofs.RightSteps.{identification_served}

-- ---- the selection

pub selection_unformed : (kept : FullRecord) (old : State) (c : PlainCommand) → names RiSha256 c.body ≡ false → refusal_by kind_rules (known SelectRestrictedIdentification kept old c []) ≡ refusal_of 10 0x6A80
selection_unformed kept old c body = rw body refl

pub selection_passes : (kept : FullRecord) (old : State) (c : PlainCommand) → names RiSha256 c.body ≡ true → identification_refused old ≡ None
    → first_failed (kind_rules ++ answer_rules ++ commit_rules ++ proof_rules) (known SelectRestrictedIdentification kept old c []) ≡ None
selection_passes kept old c formed e =
    let all = identification_served old e in
    let served = all.1.0 in
    rw (formed, all.0, served.terminal, served.holder, served.granted, all.1.1, served.chip) refl

pub selection_leaves : (kept : FullRecord) (old : State) (c : PlainCommand) → moved (Some PerformRestrictedIdentification) Idle NotBegun old ≡ state_carried_out kept.fields SelectRestrictedIdentification c [] old
unfolding entered claimed
selection_leaves kept old c = refl

-- ---- the questions about the keys

fault_at : (first : Bool) (asks more : List Ask) → (met_fault (asks ++ more) ≡ true → (met_fault asks ≡ true) ⊎ (met_fault more ≡ true)) → (first || met_fault (asks ++ more)) ≡ true
    → ((first || met_fault asks) ≡ true) ⊎ (met_fault more ≡ true)
fault_at true asks more later e = inl refl
fault_at false asks more later e = later e

fault_in : (asks more : List Ask) → met_fault (asks ++ more) ≡ true → (met_fault asks ≡ true) ⊎ (met_fault more ≡ true)
fault_in [] more e = inr e
fault_in (ask ∷ asks) more e = fault_at (is_fault ask.answer) asks more (fault_in asks more) e

-- some questions, and then others
pub asked_both : {old between new : CoproSeen} {asks more : List Ask} → WereAsked old between asks → WereAsked between new more → WereAsked old new (asks ++ more)
asked_both {old = old} {new = new} {asks = asks} {more = more} h k = record {
  logged = k.logged ∙ ap (λ (l : List Ask). l ++ more) h.logged ∙ append_assoc old.log asks more;
  spent = omega (arith, h.spent, k.spent, length-append asks more);
  same_told = k.same_told ∙ h.same_told;
  later = omega (arith, h.later, k.later);
  cause = λ e. by (fault_in asks more e);
} where
  by : (met_fault asks ≡ true) ⊎ (met_fault more ≡ true) → Rose old.faults new.faults
  by (inl e) = let rose = h.cause e in let goal : Rose old.faults new.faults = omega (arith, rose, k.later) in goal
  by (inr e) = let rose = k.cause e in let goal : Rose old.faults new.faults = omega (arith, rose, h.later) in goal

pub agreed_with : (before after : CoproSeen) (secret : List ℕ) (key : PlainSectorKey) (shared told : List ℕ) (sent : Option PlainSectorKey) → sent ≡ Some key
    → WereAsked before after (agree_ask secret key.point (answers.Shared shared) ∷ []) → told ≡ identifier shared
    → EndsAs before after (sector_asks secret sent) (sector_given sent) (Ok (Some told))
agreed_with before after secret key shared told sent is asked identifies =
    subst (λ (k : Option PlainSectorKey). EndsAs before after (sector_asks secret k) (sector_given k) (Ok (Some told))) (sym is)
    (record { end = Agreed shared; asked = asked; gives = rw identifies refl })

-- ---- the step

pub no_sector_keys : (kept : FullRecord) (old : State) (c : PlainCommand) → sector_keys_in c.body ≡ None → refusal_by kind_rules (known PerformRestrictedIdentification kept old c []) ≡ refusal_of 10 0x6A80
no_sector_keys kept old c body = rw body refl

pub other_sectors : (kept : FullRecord) (old : State) (c : PlainCommand) (keys : PlainSectorKeys) → sector_keys_in c.body ≡ Some keys → are_its_sectors old.certificates.sectors (Some keys) ≡ false
    → refusal_by kind_rules (known PerformRestrictedIdentification kept old c []) ≡ refusal_of 40 0x6300
other_sectors kept old c keys body others = rw (body, others) refl

-- the keys in the body are the terminal's
pub record SendsSectors (old : State) (c : PlainCommand) (first second : Option PlainSectorKey) : Type 0 where
  pub body : sector_keys_in c.body ≡ Some (record { first = first; second = second })
  pub its : are_its_sectors old.certificates.sectors (Some (record { first = first; second = second })) ≡ true

-- the first question was answered with a fault or with no point
pub first_refused : (kept : FullRecord) (old : State) (c : PlainCommand) (first second : Option PlainSectorKey) (one : SectorEnd) (refused : PlainRefusal) (reaction : Reacted) (said : PlainReply)
    → SendsSectors old c first second → Err refused ≡ sector_given first one → WasRefused reaction said old refused
    → IsAnsweredByKind PerformRestrictedIdentification kept old c (sector_asks kept.fields.ri_secret first one) reaction said
first_refused kept old c None second one refused reaction said sends e was = absurd (cc)
first_refused kept old c (Some key) second Faulted refused reaction said sends e was =
    let same : refused ≡ record { rule = 50; status = 0x6F00 } = cc in
    let w : WasRefused reaction said old (record { rule = 50; status = 0x6F00 }) = rw same at was in
    record {
      asked = (rw (sends.body, sends.its) refl, refl, rw (sends.body, sends.its) refl);
      ended = rw (sends.body, sends.its) (outcome_is 50 _ reaction said w.rule w.answered);
      left = w.state ∙ not_due_by kept.fields reaction.rule 50 PerformRestrictedIdentification c _ old w.rule refl;
    }
first_refused kept old c (Some key) second NoSecret refused reaction said sends e was =
    let same : refused ≡ record { rule = 52; status = 0x6A80 } = cc in
    let w : WasRefused reaction said old (record { rule = 52; status = 0x6A80 }) = rw same at was in
    record {
      asked = (rw (sends.body, sends.its) refl, refl, rw (sends.body, sends.its) refl);
      ended = rw (sends.body, sends.its) (outcome_is 52 _ reaction said w.rule w.answered);
      left = w.state ∙ not_due_by kept.fields reaction.rule 52 PerformRestrictedIdentification c _ old w.rule refl;
    }
first_refused kept old c (Some key) second (Agreed shared) refused reaction said sends e was = absurd (cc)

-- the second one was
pub second_refused : (kept : FullRecord) (old : State) (c : PlainCommand) (first second : Option PlainSectorKey) (one other : SectorEnd) (found : Option (List ℕ)) (refused : PlainRefusal) (reaction : Reacted) (said : PlainReply)
    → SendsSectors old c first second → Ok found ≡ sector_given first one → Err refused ≡ sector_given second other → WasRefused reaction said old refused
    → IsAnsweredByKind PerformRestrictedIdentification kept old c (sector_asks kept.fields.ri_secret first one ++ sector_asks kept.fields.ri_secret second other) reaction said
second_refused kept old c first None one other found refused reaction said sends passed e was = absurd (cc)
second_refused kept old c first (Some key) one (Agreed shared) found refused reaction said sends passed e was = absurd (cc)
second_refused kept old c (Some before) (Some key) Faulted other found refused reaction said sends passed e was = absurd (cc)
second_refused kept old c (Some before) (Some key) NoSecret other found refused reaction said sends passed e was = absurd (cc)
second_refused kept old c None (Some key) one Faulted found refused reaction said sends passed e was =
    let same : refused ≡ record { rule = 50; status = 0x6F00 } = cc in
    let w : WasRefused reaction said old (record { rule = 50; status = 0x6F00 }) = rw same at was in
    record {
      asked = (rw (sends.body, sends.its) refl, refl, rw (sends.body, sends.its) refl);
      ended = rw (sends.body, sends.its) (outcome_is 50 _ reaction said w.rule w.answered);
      left = w.state ∙ not_due_by kept.fields reaction.rule 50 PerformRestrictedIdentification c _ old w.rule refl;
    }
second_refused kept old c None (Some key) one NoSecret found refused reaction said sends passed e was =
    let same : refused ≡ record { rule = 52; status = 0x6A80 } = cc in
    let w : WasRefused reaction said old (record { rule = 52; status = 0x6A80 }) = rw same at was in
    record {
      asked = (rw (sends.body, sends.its) refl, refl, rw (sends.body, sends.its) refl);
      ended = rw (sends.body, sends.its) (outcome_is 52 _ reaction said w.rule w.answered);
      left = w.state ∙ not_due_by kept.fields reaction.rule 52 PerformRestrictedIdentification c _ old w.rule refl;
    }
second_refused kept old c (Some before) (Some key) (Agreed earlier) Faulted found refused reaction said sends passed e was =
    let same : refused ≡ record { rule = 50; status = 0x6F00 } = cc in
    let w : WasRefused reaction said old (record { rule = 50; status = 0x6F00 }) = rw same at was in
    record {
      asked = (rw (sends.body, sends.its) refl, refl, (rw (sends.body, sends.its) refl, refl, rw (sends.body, sends.its) refl));
      ended = rw (sends.body, sends.its) (outcome_is 50 _ reaction said w.rule w.answered);
      left = w.state ∙ not_due_by kept.fields reaction.rule 50 PerformRestrictedIdentification c _ old w.rule refl;
    }
second_refused kept old c (Some before) (Some key) (Agreed earlier) NoSecret found refused reaction said sends passed e was =
    let same : refused ≡ record { rule = 52; status = 0x6A80 } = cc in
    let w : WasRefused reaction said old (record { rule = 52; status = 0x6A80 }) = rw same at was in
    record {
      asked = (rw (sends.body, sends.its) refl, refl, (rw (sends.body, sends.its) refl, refl, rw (sends.body, sends.its) refl));
      ended = rw (sends.body, sends.its) (outcome_is 52 _ reaction said w.rule w.answered);
      left = w.state ∙ not_due_by kept.fields reaction.rule 52 PerformRestrictedIdentification c _ old w.rule refl;
    }

-- what is told, by the secrets that were agreed
told_so : (first second : Option PlainSectorKey) (given : List Answer) (found more : Option (List ℕ)) (c : PlainCommand) (said : PlainReply) → sector_keys_in c.body ≡ Some (record { first = first; second = second })
    → identifier_object 0x81 found ++ identifier_object 0x83 more ≡ identifiers first second given → said ≡ data_alone (object 0x7C (identifier_object 0x81 found ++ identifier_object 0x83 more))
    → said ≡ identifiers_reply (sector_keys_in c.body) given
told_so first second given found more c said body same answered =
    answered ∙ ap (λ (inner : List ℕ). data_alone (object 0x7C inner)) same ∙ ap (λ (k : Option PlainSectorKeys). identifiers_reply k given) (sym body)

-- a reaction that went on without a run
pub identified_so : (reaction : Reacted) (said : PlainReply) (old : Session) (channel : Option ChannelState) (new : Session) (reply : PlainReply) → reaction.rule ≡ 0 → said ≡ reply → reaction.opened ≡ None → reaction.session ≡ new
    → new.run ≡ runs.Idle → new.authentication ≡ begun.NotBegun → new.memory ≡ old.memory → WentOn reaction said (state old channel) None Idle NotBegun reply
identified_so reaction said old channel new reply rule answer opened session run begun memory = record {
  rule = rule;
  answered = answer;
  state = rw (rule, opened, session) (idle_state new old.memory (option_map two_messages_later channel) run begun memory);
}

-- all that was asked was told
pub identified_to : (kept : FullRecord) (old : State) (c : PlainCommand) (first second : Option PlainSectorKey) (one other : SectorEnd) (found more : Option (List ℕ)) (reaction : Reacted) (said : PlainReply)
    → SendsSectors old c first second → Ok found ≡ sector_given first one → Ok more ≡ sector_given second other
    → WentOn reaction said old None Idle NotBegun (data_alone (object 0x7C (identifier_object 0x81 found ++ identifier_object 0x83 more)))
    → IsAnsweredByKind PerformRestrictedIdentification kept old c (sector_asks kept.fields.ri_secret first one ++ sector_asks kept.fields.ri_secret second other) reaction said
unfolding entered claimed
identified_to kept old c (Some key) second Faulted other found more reaction said sends passed e h = absurd (cc)
identified_to kept old c (Some key) second NoSecret other found more reaction said sends passed e h = absurd (cc)
identified_to kept old c first (Some key) one Faulted found more reaction said sends passed e h = absurd (cc)
identified_to kept old c first (Some key) one NoSecret found more reaction said sends passed e h = absurd (cc)
identified_to kept old c None None one other found more reaction said sends passed e h =
    let found_is : found ≡ None = cc in
    let more_is : more ≡ None = cc in
    record {
      asked = rw (sends.body, sends.its) refl;
      ended = rw (sends.body, sends.its) (outcome_is 0 _ reaction said h.rule (told_so None None ([]) found more c said sends.body (rw (found_is, more_is) refl) h.answered));
      left = h.state ∙ due kept.fields reaction.rule PerformRestrictedIdentification c ([]) old h.rule;
    }
identified_to kept old c (Some key) None (Agreed a) other found more reaction said sends passed e h =
    let found_is : found ≡ Some (identifier a) = cc in
    let more_is : more ≡ None = cc in
    record {
      asked = (rw (sends.body, sends.its) refl, refl, rw (sends.body, sends.its) refl);
      ended = rw (sends.body, sends.its) (outcome_is 0 _ reaction said h.rule (told_so (Some key) None (answers.Shared a ∷ []) found more c said sends.body (rw (found_is, more_is) (append-nil (object 0x81 (identifier a)))) h.answered));
      left = h.state ∙ due kept.fields reaction.rule PerformRestrictedIdentification c (answers.Shared a ∷ []) old h.rule;
    }
identified_to kept old c None (Some key) one (Agreed b) found more reaction said sends passed e h =
    let found_is : found ≡ None = cc in
    let more_is : more ≡ Some (identifier b) = cc in
    record {
      asked = (rw (sends.body, sends.its) refl, refl, rw (sends.body, sends.its) refl);
      ended = rw (sends.body, sends.its) (outcome_is 0 _ reaction said h.rule (told_so None (Some key) (answers.Shared b ∷ []) found more c said sends.body (rw (found_is, more_is) refl) h.answered));
      left = h.state ∙ due kept.fields reaction.rule PerformRestrictedIdentification c (answers.Shared b ∷ []) old h.rule;
    }
identified_to kept old c (Some key) (Some next) (Agreed a) (Agreed b) found more reaction said sends passed e h =
    let found_is : found ≡ Some (identifier a) = cc in
    let more_is : more ≡ Some (identifier b) = cc in
    record {
      asked = (rw (sends.body, sends.its) refl, refl, (rw (sends.body, sends.its) refl, refl, rw (sends.body, sends.its) refl));
      ended = rw (sends.body, sends.its) (outcome_is 0 _ reaction said h.rule (told_so (Some key) (Some next) (answers.Shared a ∷ answers.Shared b ∷ []) found more c said sends.body (rw (found_is, more_is) refl) h.answered));
      left = h.state ∙ due kept.fields reaction.rule PerformRestrictedIdentification c (answers.Shared a ∷ answers.Shared b ∷ []) old h.rule;
    }
