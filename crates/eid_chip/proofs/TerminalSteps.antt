-- What each step of terminal authentication promises, from what it did.
use Rattle.std.proofs.Common.{◌≡◌, ℕ, Bool, true, false, ◌==◌, ◌&&◌, List, [], ◌∷◌, ◌++◌, length, Option, Some, None, Result, Ok, Err, refl, ap, ◌∙◌}
use Rattle.std.specs.Prelude.{is_some, option_map, if◌then◌else◌}
use Rattle.std.specs.Result.{result_ok}
use Rattle.std.specs.Str.{bytes_eq}
use Rattle.eid_apdu.specs.Command.{PlainCommand}
use Rattle.eid_apdu.specs.Answer.{PlainReply}
use Rattle.eid_copro.specs.declared.ask.Answer.{Answer}
use Rattle.eid_copro.specs.declared.ask.Answer.TheVariants as answers
use Rattle.eid_cvc.specs.Chains.{PlainParty, PlainTerminalKnown}
use Rattle.eid_record.specs.Plain.{FullRecord}
use Rattle.eid_ta.specs.States.{PlainAnnouncement, PlainAnnounced, PlainChallenged}
use Rattle.eid_ta.specs.Announcing.{announced_by, announced_under, announced_with, of_form, known_by}
use Rattle.eid_ta.specs.AnnouncementIn.{announcement_in}
use Rattle.eid_ta.specs.ChallengeEnds.{ChallengeEnd, NoChallenge, Drawn, challenge_asks, challenge_given}
use Rattle.eid_ta.specs.VerifyEnds.{VerifyEnd, NoVerdict, Refused, Verified, verify_asks, verify_given}
use Rattle.eid_ta.specs.Rules.{name_rule}
use Rattle.eid_model.specs.declared.kind.Kind.TheVariants.{AnnounceTerminal, GetChallenge, ExternalAuthenticate, NoProtocol}
use Rattle.eid_model.specs.Answers.{data_alone, status_alone}
use Rattle.eid_model.specs.Rules.{SIGNATURE_SIZE, kind_rules, answer_rules, commit_rules, proof_rules, first_failed, had_template, is_named_party}
use Rattle.eid_model.specs.Runs.{Idle, Authentication, Announced, Challenged, as_announced, entered, claimed}
use Rattle.eid_model.specs.Sessions.{State}
use Rattle.eid_chip.specs.Steps.{IsAnsweredByKind, known, state_due, state_left}
use Rattle.eid_chip.specs.Transitions.{context_in, state_carried_out, state_refused}
use Rattle.eid_chip.specs.Endings.{Reacted}
use Rattle.eid_chip.proofs.PaceSteps.{WasUnformed, WentOn, both, due, moved, not_due, outcome_is}

-- ---- the announcement

pub formed_so : (o : Option PlainAnnouncement) (a : PlainAnnouncement) → Ok a ≡ of_form o → o ≡ Some a
formed_so None a e = absurd (cc)
formed_so (Some other) a e = cc

named_so : (b : Bool) (announced made : PlainAnnounced) → Ok announced ≡ (if b then Ok made else Err name_rule) → b ≡ true
named_so true announced made e = refl
named_so false announced made e = absurd (cc)

-- the chain is there, and its terminal is the one that announced itself
in_chain : (root : Option (List ℕ)) (verifier terminal : Option PlainParty) (sectors : List (Option (List ℕ))) (a : PlainAnnouncement) (announced : PlainAnnounced) → Ok announced ≡ announced_under root verifier terminal sectors a
    → ((is_some root && is_some verifier && is_some terminal) ≡ true) × (is_named_party terminal a.reference ≡ true)
in_chain None verifier terminal sectors a announced e = absurd (cc)
in_chain (Some root) None terminal sectors a announced e = absurd (cc)
in_chain (Some root) (Some verifier) None sectors a announced e = absurd (cc)
in_chain (Some root) (Some verifier) (Some terminal) sectors a announced e =
    (refl, named_so (bytes_eq a.reference terminal.name) announced (announced_with root verifier terminal sectors a) e)

pub announcement_passes : (kept : FullRecord) (old : State) (c : PlainCommand) (a : PlainAnnouncement) (announced : PlainAnnounced) → announcement_in c.body ≡ Some a → is_some old.pace ≡ true → had_template old.pace ≡ true → is_some old.terminal ≡ false
    → Ok announced ≡ announced_by old.certificates a → first_failed (kind_rules ++ answer_rules ++ commit_rules ++ proof_rules) (known AnnounceTerminal kept old c []) ≡ None
announcement_passes kept old c a announced found pace template none given =
    let chain = in_chain old.certificates.root old.certificates.verifier old.certificates.terminal old.certificates.sectors a announced given in
    rw (found, pace, template, none, chain.0, chain.1) refl

claim_is : (old : State) (c : PlainCommand) (a : PlainAnnouncement) (identity : List ℕ) (announced : PlainAnnounced) → announcement_in c.body ≡ Some a → option_map (λ pace. pace.identity) old.pace ≡ Some identity → Ok announced ≡ announced_by old.certificates a
    → Announced identity announced ≡ claimed AnnounceTerminal c [] (context_in old) old.authentication
unfolding claimed
claim_is old c a identity announced found identity_is given =
    rw (identity_is, found) (ap (λ (r : Result PlainAnnounced ℕ). as_announced (Some identity) (result_ok r)) given)

pub announcement_leaves : (kept : FullRecord) (old : State) (c : PlainCommand) (a : PlainAnnouncement) (identity : List ℕ) (announced : PlainAnnounced) → announcement_in c.body ≡ Some a → option_map (λ pace. pace.identity) old.pace ≡ Some identity → Ok announced ≡ announced_by old.certificates a
    → moved (Some GetChallenge) Idle (Announced identity announced) old ≡ state_carried_out kept.fields AnnounceTerminal c [] old
unfolding entered
announcement_leaves kept old c a identity announced found identity_is given =
    ap (λ (n : Authentication). moved (Some GetChallenge) Idle n old) (claim_is old c a identity announced found identity_is given)

-- ---- the challenge

pub no_challenge_body : (kept : FullRecord) (old : State) (c : PlainCommand) (reaction : Reacted) (said : PlainReply) → (length c.body == 0) ≡ false → WasUnformed reaction said old → IsAnsweredByKind GetChallenge kept old c [] reaction said
no_challenge_body kept old c reaction said body h = record {
  asked = rw body refl;
  ended = rw body (outcome_is 10 _ reaction said h.rule h.answered);
  left = h.state ∙ not_due kept.fields reaction.rule GetChallenge c [] old h.rule;
}

pub challenge_sent : (kept : FullRecord) (old : State) (c : PlainCommand) (identity : List ℕ) (announced : PlainAnnounced) (end : ChallengeEnd) (challenged : PlainChallenged) (bytes : List ℕ) (reaction : Reacted) (said : PlainReply)
    → old.authentication ≡ Announced identity announced → (length c.body == 0) ≡ true → Ok (challenged, bytes) ≡ challenge_given announced end
    → WentOn reaction said old (Some ExternalAuthenticate) Idle (Challenged identity challenged) (data_alone bytes) → IsAnsweredByKind GetChallenge kept old c (challenge_asks end) reaction said
unfolding entered claimed
challenge_sent kept old c identity announced NoChallenge challenged bytes reaction said at body e h = absurd (cc)
challenge_sent kept old c identity announced (Drawn challenge) challenged bytes reaction said at body e h =
    let parts = both challenged (record { announced = announced; challenge = challenge }) bytes challenge e in
    let given : List Answer = answers.Challenge challenge ∷ [] in
    let claim : Challenged identity challenged ≡ claimed GetChallenge c given (context_in old) old.authentication = rw (at, parts.0) refl in
    record {
      asked = (rw (body, at) refl, refl, rw (body, at) refl);
      ended = rw body (outcome_is 0 _ reaction said h.rule (h.answered ∙ ap (λ (b : List ℕ). data_alone b) parts.1));
      left = h.state ∙ ap (λ (n : Authentication). moved (Some ExternalAuthenticate) Idle n old) claim ∙ due kept.fields reaction.rule GetChallenge c given old h.rule;
    }

-- ---- the signature

pub no_signature : (kept : FullRecord) (old : State) (c : PlainCommand) (reaction : Reacted) (said : PlainReply) → (length c.body == SIGNATURE_SIZE) ≡ false → WasUnformed reaction said old → IsAnsweredByKind ExternalAuthenticate kept old c [] reaction said
no_signature kept old c reaction said body h = record {
  asked = rw body refl;
  ended = rw body (outcome_is 10 _ reaction said h.rule h.answered);
  left = h.state ∙ not_due kept.fields reaction.rule ExternalAuthenticate c [] old h.rule;
}

pub terminal_known : (kept : FullRecord) (old : State) (c : PlainCommand) (identity : List ℕ) (challenged : PlainChallenged) (signature : List ℕ) (end : VerifyEnd) (terminal : PlainTerminalKnown) (reaction : Reacted) (said : PlainReply)
    → old.authentication ≡ Challenged identity challenged → signature ≡ c.body → (length c.body == SIGNATURE_SIZE) ≡ true → Ok terminal ≡ verify_given challenged end
    → reaction.rule ≡ 0 → said ≡ status_alone 0x9000 → state_left reaction old.channel ≡ record (state_refused old) { terminal = Some terminal; chip_proven = false }
    → IsAnsweredByKind ExternalAuthenticate kept old c (verify_asks challenged identity signature end) reaction said
unfolding entered claimed
terminal_known kept old c identity challenged signature NoVerdict terminal reaction said at is body e rule answered left = absurd (cc)
terminal_known kept old c identity challenged signature Refused terminal reaction said at is body e rule answered left = absurd (cc)
terminal_known kept old c identity challenged signature Verified terminal reaction said at is body e rule answered left =
    let same : terminal ≡ known_by challenged = cc in
    let given : List Answer = answers.Verdict true ∷ [] in
    record {
      asked = (rw (body, at, is) refl, refl, rw (body, at) refl);
      ended = rw body (outcome_is 0 _ reaction said rule answered);
      left = left ∙ ap (λ (t : PlainTerminalKnown). record (state_refused old) { terminal = Some t; chip_proven = false }) same
          ∙ (let known_is : record (state_refused old) { terminal = Some (known_by challenged); chip_proven = false } ≡ state_carried_out kept.fields ExternalAuthenticate c given old = rw at refl in known_is)
          ∙ due kept.fields reaction.rule ExternalAuthenticate c given old rule;
    }

-- ---- a selection that names no protocol

pub no_protocol : (kept : FullRecord) (old : State) (c : PlainCommand) (r : Reacted) (reply : PlainReply) → r.rule ≡ 10 → reply ≡ status_alone 0x6A80 → state_left r old.channel ≡ state_due 10 (state_refused old) → IsAnsweredByKind NoProtocol kept old c [] r reply
no_protocol kept old c r reply rule answered left = record {
  asked = refl;
  ended = rw (rule, answered) refl;
  left = rw rule (rw rule at left);
}
