-- How the import of a certificate ends: which rule fails, what is asked, what it leaves.
use Rattle.std.proofs.Common.{◌≡◌, ℕ, Bool, true, false, not, ◌&&◌, ◌||◌, ◌==◌, List, [], ◌∷◌, ◌++◌, Option, Some, None, Ok, Err, refl, sym, ap, ◌∙◌, subst}
use Rattle.std.specs.Prelude.{is_none, is_some, option_map, if◌then◌else◌}
use Rattle.sha2.specs.Sha256.{sha256}
use Rattle.eid_base.specs.Rules.{issuer_rule, role_rule, link_rule, expiry_rule}
use Rattle.eid_apdu.specs.Command.{PlainCommand}
use Rattle.eid_apdu.specs.Answer.{PlainReply}
use Rattle.eid_bits.specs.Template.{template_bytes}
use Rattle.eid_bits.specs.declared.template.Template.{Template}
use Rattle.eid_chip.specs.States.{memory}
use Rattle.eid_chip.specs.declared.session.LastPace.{LastPace}
use Rattle.eid_copro.specs.declared.ask.Ask.{Ask}
use Rattle.eid_copro.specs.declared.ask.Answer.{Answer}
use Rattle.eid_copro.specs.declared.ask.Answer.TheVariants as answers
use Rattle.eid_copro.specs.declared.ask.Question.TheVariants as questions
use Rattle.eid_cvc.specs.Certificates.{PlainBody, PlainCertificate}
use Rattle.eid_cvc.specs.CertificateIn.{certificate_in}
use Rattle.eid_cvc.specs.Chains.{PlainChain, chain_view}
use Rattle.eid_cvc.specs.declared.chain.ChainState.{ChainState}
use Rattle.eid_chip.specs.declared.session.Change.TheVariants.{Certificates}
use Rattle.eid_record.specs.Plain.{FullRecord, PlainRecord, PlainEffect}
use Rattle.eid_trust.specs.Trust.{Signer, PlainAccepted, accept_given, accepted_by, judged_by, refusal as refusal_of, signer_of, key_of, is_issued_by, is_link, is_of_current, is_in_date, chain_after, advance}
use Rattle.eid_model.specs.declared.kind.Kind.TheVariants.{SelectPublicKey, VerifyCertificate}
use Rattle.eid_model.specs.Answers.{outcome_by, due_by, question_of, question_by, status_alone}
use Rattle.eid_model.specs.Bodies.{key_name_in}
use Rattle.eid_model.specs.Legal.{AreAsked}
use Rattle.eid_model.specs.Rules.{RuleRow, kind_rules, answer_rules, commit_rules, proof_rules, first_failed, had_template, is_by_signer, name_chosen, one_effect, to_commit}
use Rattle.eid_model.specs.Runs.{NotBegun, ChoseKey, answers_of, entered, claimed}
use Rattle.eid_model.specs.Sessions.{State}
use Rattle.eid_chip.specs.Steps.{CommitsOne, Imports, IsAnsweredByKind, PlainRefusal, WasRight, known, refusal_by, state_due, state_left, certificate_ask}
use Rattle.eid_chip.specs.Transitions.{state_carried_out, state_refused}
use Rattle.eid_chip.specs.Endings.{Reacted}
use Rattle.eid_copro.specs.Asks.{fits_verify}
use Rattle.eid_model.proofs.Books.{nothing_due_by}
use Rattle.eid_chip.proofs.CarriedOut.{unasked_at}
use Rattle.eid_chip.proofs.Outcomes.{passed}
use Rattle.eid_chip.proofs.PaceSteps.{moved, outcome_is, not_due_by}

abbrev refusal_with : ℕ → ℕ → Option PlainRefusal
refusal_with rule status = Some (record { rule = rule; status = status })

-- ---- the name of a public key

pub key_passes : (kept : FullRecord) (old : State) (c : PlainCommand) (name : List ℕ) → key_name_in c.body ≡ Some name → is_some old.pace ≡ true → had_template old.pace ≡ true → is_some old.terminal ≡ false → is_some (signer_of kept.fields old.certificates name) ≡ true
    → first_failed (kind_rules ++ answer_rules ++ commit_rules ++ proof_rules) (known SelectPublicKey kept old c []) ≡ None
key_passes kept old c name named pace template none signer = rw (named, pace, template, none, signer) refl

-- a signer whose key is there is there
pub signs_so : (o : Option Signer) (key : Option (List ℕ)) → key ≡ option_map key_of o → (key ≡ None → ⊥) → is_some o ≡ true
signs_so None key is some = absurd (some is)
signs_so (Some signer) key is some = refl

-- a PACE whose template is there
pub template_so : (o : Option LastPace) (pace : LastPace) → o ≡ Some pace → is_some pace.template ≡ true → (is_some (option_map memory o) ≡ true) × (had_template (option_map memory o) ≡ true)
template_so o pace is some = (rw is refl, rw is (by pace.template some)) where
  by : (t : Option Template) → is_some t ≡ true → is_some (option_map template_bytes t) ≡ true
  by None e = absurd (cc)
  by (Some t) e = refl

pub key_leaves : (kept : FullRecord) (old : State) (c : PlainCommand) (name : List ℕ) → key_name_in c.body ≡ Some name → moved (Some VerifyCertificate) (ChoseKey name) NotBegun old ≡ state_carried_out kept.fields SelectPublicKey c [] old
unfolding entered claimed
key_leaves kept old c name named = rw named refl

-- ---- what may be accepted

-- The rules of a certificate that may be accepted hold, and this follows from it.
pub record IsAllowed (kept : PlainRecord) (chain : PlainChain) (selected : List ℕ) (c : PlainBody) (a : PlainAccepted) : Type 0 where
  pub signer : Signer
  pub signs : signer_of kept chain c.issuer ≡ Some signer
  pub key : a.key ≡ key_of signer
  pub issued : is_issued_by selected c ≡ true
  pub role : is_by_signer kept chain c ≡ true
  pub link : (not (is_link c) || is_of_current kept c) ≡ true
  pub date : (is_link c || is_in_date kept c) ≡ true
  pub chain_is : a.chain ≡ chain_after kept chain c
  pub advance_is : a.advance ≡ advance kept chain c

abbrev first_rule : (issued role link current date : Bool) → Option ℕ
first_rule issued role link current date =
    if not issued then Some issuer_rule
    else if not role then Some role_rule
    else if link && not current then Some link_rule
    else if not link && not date then Some expiry_rule
    else None

four_hold : (issued role link current date : Bool) → first_rule issued role link current date ≡ None
    → (issued ≡ true) × (role ≡ true) × ((not link || current) ≡ true) × ((link || date) ≡ true)
four_hold false role link current date e = absurd (cc)
four_hold true false link current date e = absurd (cc)
four_hold true true true false date e = absurd (cc)
four_hold true true true true date e = (refl, refl, refl, refl)
four_hold true true false current false e = absurd (cc)
four_hold true true false current true e = (refl, refl, refl, refl)

pub allowed : (kept : PlainRecord) (chain : PlainChain) (selected : List ℕ) (c : PlainBody) (a : PlainAccepted) → Ok a ≡ accept_given kept chain selected c → IsAllowed kept chain selected c a
allowed kept chain selected c a e = by (signer_of kept chain c.issuer) refl (refusal_of kept chain selected c) refl e where
  by : (s : Option Signer) → signer_of kept chain c.issuer ≡ s → (r : Option ℕ) → refusal_of kept chain selected c ≡ r → Ok a ≡ accepted_by (judged_by s r) kept chain c → IsAllowed kept chain selected c a
  by None signs None none e = absurd (cc)
  by None signs (Some rule) some e = absurd (cc)
  by (Some signer) signs (Some rule) some e = absurd (cc)
  by (Some signer) signs None none e =
      let same : a ≡ record { key = key_of signer; chain = chain_after kept chain c; advance = advance kept chain c } = cc in
      let holds = four_hold (is_issued_by selected c) (is_by_signer kept chain c) (is_link c) (is_of_current kept c) (is_in_date kept c) none in
      record {
        signer = signer;
        signs = signs;
        key = ap (λ (x : PlainAccepted). x.key) same;
        issued = holds.0;
        role = holds.1;
        link = holds.2;
        date = holds.3;
        chain_is = ap (λ (x : PlainAccepted). x.chain) same;
        advance_is = ap (λ (x : PlainAccepted). x.advance) same;
      }

-- the rule that was given is the first one that fails
pub was_refused : (kept : PlainRecord) (chain : PlainChain) (selected : List ℕ) (c : PlainBody) (rule : ℕ) → Err rule ≡ accept_given kept chain selected c → refusal_of kept chain selected c ≡ Some rule
was_refused kept chain selected c rule e = by (signer_of kept chain c.issuer) refl (refusal_of kept chain selected c) refl e where
  by : (s : Option Signer) → signer_of kept chain c.issuer ≡ s → (r : Option ℕ) → refusal_of kept chain selected c ≡ r → Err rule ≡ accepted_by (judged_by s r) kept chain c → r ≡ Some rule
  by None signs None none e =
      absurd (let role = (four_hold (is_issued_by selected c) (is_by_signer kept chain c) (is_link c) (is_of_current kept c) (is_in_date kept c) none).1 in
      let no : is_by_signer kept chain c ≡ false = rw signs refl in cc)
  by None signs (Some other) some e = cc
  by (Some signer) signs None none e = absurd (cc)
  by (Some signer) signs (Some other) some e = cc

-- ---- the rules before the signature

pub unread : (kept : FullRecord) (old : State) (c : PlainCommand) → certificate_in c.body ≡ None → refusal_by kind_rules (known VerifyCertificate kept old c []) ≡ refusal_with 10 0x6A80
unread kept old c none = rw none refl

refused_by : (issued role link current date : Bool) (kept : FullRecord) (old : State) (c : PlainCommand) (certificate : PlainCertificate) (rule : ℕ) → certificate_in c.body ≡ Some certificate
    → is_issued_by (name_chosen old.phase) certificate.body ≡ issued → is_by_signer kept.fields old.certificates certificate.body ≡ role → is_link certificate.body ≡ link
    → is_of_current kept.fields certificate.body ≡ current → is_in_date kept.fields certificate.body ≡ date → first_rule issued role link current date ≡ Some rule
    → refusal_by kind_rules (known VerifyCertificate kept old c []) ≡ refusal_with rule 0x6300
refused_by false role link current date kept old c certificate rule reads i r l n d e =
    let same : issuer_rule ≡ rule = cc in
    rw (reads, i) (ap (λ (n : ℕ). refusal_with n 0x6300) same)
refused_by true false link current date kept old c certificate rule reads i r l n d e =
    let same : role_rule ≡ rule = cc in
    rw (reads, i, r) (ap (λ (n : ℕ). refusal_with n 0x6300) same)
refused_by true true true false date kept old c certificate rule reads i r l n d e =
    let same : link_rule ≡ rule = cc in
    rw (reads, i, r, l, n) (ap (λ (n : ℕ). refusal_with n 0x6300) same)
refused_by true true true true date kept old c certificate rule reads i r l n d e = absurd (cc)
refused_by true true false current false kept old c certificate rule reads i r l n d e =
    let same : expiry_rule ≡ rule = cc in
    rw (reads, i, r, l, d) (ap (λ (n : ℕ). refusal_with n 0x6300) same)
refused_by true true false current true kept old c certificate rule reads i r l n d e = absurd (cc)

pub refused_so : (kept : FullRecord) (old : State) (c : PlainCommand) (certificate : PlainCertificate) (rule : ℕ) → certificate_in c.body ≡ Some certificate
    → Err rule ≡ accept_given kept.fields old.certificates (name_chosen old.phase) certificate.body → refusal_by kind_rules (known VerifyCertificate kept old c []) ≡ refusal_with rule 0x6300
refused_so kept old c certificate rule reads e =
    let body = certificate.body in
    refused_by (is_issued_by (name_chosen old.phase) body) (is_by_signer kept.fields old.certificates body) (is_link body) (is_of_current kept.fields body) (is_in_date kept.fields body)
    kept old c certificate rule reads refl refl refl refl refl (was_refused kept.fields old.certificates (name_chosen old.phase) body rule e)

rule_is_one : (issued role link current date : Bool) (rule : ℕ) → first_rule issued role link current date ≡ Some rule → (rule == 0) ≡ false
rule_is_one false role link current date rule e = let same : issuer_rule ≡ rule = cc in rw (← same) refl
rule_is_one true false link current date rule e = let same : role_rule ≡ rule = cc in rw (← same) refl
rule_is_one true true true false date rule e = let same : link_rule ≡ rule = cc in rw (← same) refl
rule_is_one true true true true date rule e = absurd (cc)
rule_is_one true true false current false rule e = let same : expiry_rule ≡ rule = cc in rw (← same) refl
rule_is_one true true false current true rule e = absurd (cc)

pub refused_one : (kept : PlainRecord) (chain : PlainChain) (selected : List ℕ) (c : PlainBody) (rule : ℕ) → Err rule ≡ accept_given kept chain selected c → (rule == 0) ≡ false
refused_one kept chain selected c rule e =
    rule_is_one (is_issued_by selected c) (is_by_signer kept chain c) (is_link c) (is_of_current kept c) (is_in_date kept c) rule (was_refused kept chain selected c rule e)

-- ---- the question

abbrev rules_of : (kept : FullRecord) (old : State) (c : PlainCommand) (certificate : PlainCertificate) (a : PlainAccepted) → Type 0
rules_of kept old c certificate a = IsAllowed kept.fields old.certificates (name_chosen old.phase) certificate.body a

question_is : (kept : FullRecord) (old : State) (c : PlainCommand) (certificate : PlainCertificate) (a : PlainAccepted) → certificate_in c.body ≡ Some certificate → rules_of kept old c certificate a
    → question_by kind_rules (known VerifyCertificate kept old c []) ≡ Some (questions.Verify a.key (sha256 certificate.whole) certificate.signature)
question_is kept old c certificate a reads may =
    rw (reads, may.issued, may.role, may.link, may.date, may.signs) (ap (λ (k : List ℕ). Some (questions.Verify k (sha256 certificate.whole) certificate.signature)) (sym may.key))

no_more : (kept : FullRecord) (old : State) (c : PlainCommand) (certificate : PlainCertificate) (answer : Answer) → certificate_in c.body ≡ Some certificate → question_of (Some VerifyCertificate) (known VerifyCertificate kept old c (answer ∷ [])) ≡ None
no_more kept old c certificate answer reads = rw reads refl

-- one question, however it is answered
pub asked_so : (kept : FullRecord) (old : State) (c : PlainCommand) (certificate : PlainCertificate) (a : PlainAccepted) (answer : Answer) → Imports kept old c certificate a → fits_verify answer ≡ true
    → AreAsked (λ given. question_by kind_rules (known VerifyCertificate kept old c given)) [] (certificate_ask certificate a answer ∷ [])
asked_so kept old c certificate a answer imports fit = (
  question_is kept old c certificate a imports.reads (allowed kept.fields old.certificates (name_chosen old.phase) certificate.body a imports.given),
  fit,
  unasked_at (is_none (first_failed (kind_rules ++ answer_rules) (known VerifyCertificate kept old c (answer ∷ [])))) _ (no_more kept old c certificate answer imports.reads),
)

-- ---- a right signature

right_commits_at : (kept : FullRecord) (old : State) (c : PlainCommand) (certificate : PlainCertificate) (a : PlainAccepted) (chain : ChainState) (effect : PlainEffect) → Imports kept old c certificate a → a.chain ≡ chain_view chain → a.advance ≡ Some effect
    → CommitsOne VerifyCertificate kept old c (certificate_ask certificate a (answers.Verdict true) ∷ []) effect (Certificates chain)
unfolding entered claimed
right_commits_at kept old c certificate a chain effect imports left some =
    let may = allowed kept.fields old.certificates (name_chosen old.phase) certificate.body a imports.given in
    record {
      asked = asked_so kept old c certificate a (answers.Verdict true) imports refl;
      passes = rw (imports.reads, may.issued, may.role, may.link, may.date) refl;
      committing = refl;
      commits = rw imports.reads (ap one_effect (sym may.advance_is ∙ some));
      proves = refl;
      answers = refl;
      leaves = rw imports.reads (ap (λ (x : PlainChain). record (state_refused old) { certificates = x }) (sym may.chain_is ∙ left));
    }

pub right_commits : (kept : FullRecord) (old : State) (c : PlainCommand) (a : PlainAccepted) (chain : ChainState) (asks : List Ask) (effect : PlainEffect) → WasRight kept old c a asks → a.chain ≡ chain_view chain → a.advance ≡ Some effect
    → CommitsOne VerifyCertificate kept old c asks effect (Certificates chain)
right_commits kept old c a chain asks effect was left some =
    subst (λ (l : List Ask). CommitsOne VerifyCertificate kept old c l effect (Certificates chain)) (sym was.found) (right_commits_at kept old c was.certificate a chain effect was.imports left some)

-- where nothing advances, nothing is due
commits_nothing : (kept : FullRecord) (old : State) (c : PlainCommand) (certificate : PlainCertificate) (a : PlainAccepted) (given : List Answer) → Imports kept old c certificate a → a.advance ≡ None → to_commit (Some VerifyCertificate) (known VerifyCertificate kept old c given) ≡ []
commits_nothing kept old c certificate a given imports none =
    let may = allowed kept.fields old.certificates (name_chosen old.phase) certificate.body a imports.given in
    rw imports.reads (ap one_effect (sym may.advance_is ∙ none))

bound_passes : (kept : FullRecord) (old : State) (c : PlainCommand) (given : List Answer) → to_commit (Some VerifyCertificate) (known VerifyCertificate kept old c given) ≡ []
    → first_failed (commit_rules ++ proof_rules) (known VerifyCertificate kept old c given) ≡ None
bound_passes kept old c given none = rw none refl

unchanged_at : (kept : FullRecord) (old : State) (c : PlainCommand) (certificate : PlainCertificate) (a : PlainAccepted) (r : Reacted) (reply : PlainReply) → Imports kept old c certificate a → a.advance ≡ None
    → r.rule ≡ 0 → reply ≡ status_alone 0x9000 → state_left r old.channel ≡ record (state_refused old) { certificates = a.chain }
    → IsAnsweredByKind VerifyCertificate kept old c (certificate_ask certificate a (answers.Verdict true) ∷ []) r reply
unfolding entered claimed
unchanged_at kept old c certificate a r reply imports none rule answered left =
    let may = allowed kept.fields old.certificates (name_chosen old.phase) certificate.body a imports.given in
    let given : List Answer = answers.Verdict true ∷ [] in
    let s = known VerifyCertificate kept old c given in
    let passes : first_failed (kind_rules ++ answer_rules) s ≡ None = rw (imports.reads, may.issued, may.role, may.link, may.date) refl in
    let rules : first_failed (kind_rules ++ answer_rules ++ commit_rules ++ proof_rules) s ≡ None =
    passed (kind_rules ++ answer_rules) (commit_rules ++ proof_rules) s (ap (option_map (λ (row : RuleRow). record { rule = row.number; status = row.status s })) passes)
    ∙ bound_passes kept old c given (commits_nothing kept old c certificate a given imports none) in
    record {
      asked = asked_so kept old c certificate a (answers.Verdict true) imports refl;
      ended = ap (λ (f : Option RuleRow). outcome_by f s) rules ∙ outcome_is 0 _ r reply rule answered;
      left = left ∙ rw (rule, imports.reads) (ap (λ (x : PlainChain). record (state_refused old) { certificates = x }) may.chain_is);
    }

pub right_unchanged : (kept : FullRecord) (old : State) (c : PlainCommand) (a : PlainAccepted) (asks : List Ask) (r : Reacted) (reply : PlainReply) → WasRight kept old c a asks → a.advance ≡ None
    → r.rule ≡ 0 → reply ≡ status_alone 0x9000 → state_left r old.channel ≡ record (state_refused old) { certificates = a.chain }
    → IsAnsweredByKind VerifyCertificate kept old c asks r reply
right_unchanged kept old c a asks r reply was none rule answered left =
    subst (λ (l : List Ask). IsAnsweredByKind VerifyCertificate kept old c l r reply) (sym was.found) (unchanged_at kept old c was.certificate a r reply was.imports none rule answered left)

pub right_undue : (kept : FullRecord) (old : State) (c : PlainCommand) (a : PlainAccepted) (asks : List Ask) → WasRight kept old c a asks → a.advance ≡ None → due_by kind_rules (known VerifyCertificate kept old c (answers_of asks)) ≡ []
right_undue kept old c a asks was none =
    nothing_due_by kind_rules (known VerifyCertificate kept old c (answers_of asks)) (commits_nothing kept old c was.certificate a (answers_of asks) was.imports none)

-- ---- a wrong signature, and a fault

pub wrong_answered : (kept : FullRecord) (old : State) (c : PlainCommand) (certificate : PlainCertificate) (a : PlainAccepted) (r : Reacted) (reply : PlainReply) → Imports kept old c certificate a
    → r.rule ≡ 53 → reply ≡ status_alone 0x6300 → state_left r old.channel ≡ state_due 53 (state_refused old)
    → IsAnsweredByKind VerifyCertificate kept old c (certificate_ask certificate a (answers.Verdict false) ∷ []) r reply
wrong_answered kept old c certificate a r reply imports rule answered left =
    let may = allowed kept.fields old.certificates (name_chosen old.phase) certificate.body a imports.given in
    record {
      asked = asked_so kept old c certificate a (answers.Verdict false) imports refl;
      ended = rw (imports.reads, may.issued, may.role, may.link, may.date) (outcome_is 53 _ r reply rule answered);
      left = left ∙ not_due_by kept.fields r.rule 53 VerifyCertificate c (answers.Verdict false ∷ []) old rule refl;
    }

pub wrong_undue : (kept : FullRecord) (old : State) (c : PlainCommand) (certificate : PlainCertificate) (a : PlainAccepted) → Imports kept old c certificate a → due_by kind_rules (known VerifyCertificate kept old c (answers.Verdict false ∷ [])) ≡ []
wrong_undue kept old c certificate a imports =
    let may = allowed kept.fields old.certificates (name_chosen old.phase) certificate.body a imports.given in
    rw (imports.reads, may.issued, may.role, may.link, may.date) refl

pub fault_answered : (kept : FullRecord) (old : State) (c : PlainCommand) (certificate : PlainCertificate) (a : PlainAccepted) (r : Reacted) (reply : PlainReply) → Imports kept old c certificate a
    → r.rule ≡ 50 → reply ≡ status_alone 0x6F00 → state_left r old.channel ≡ state_due 50 (state_refused old)
    → IsAnsweredByKind VerifyCertificate kept old c (certificate_ask certificate a answers.Fault ∷ []) r reply
fault_answered kept old c certificate a r reply imports rule answered left =
    let may = allowed kept.fields old.certificates (name_chosen old.phase) certificate.body a imports.given in
    record {
      asked = asked_so kept old c certificate a answers.Fault imports refl;
      ended = rw (imports.reads, may.issued, may.role, may.link, may.date) (outcome_is 50 _ r reply rule answered);
      left = left ∙ not_due_by kept.fields r.rule 50 VerifyCertificate c (answers.Fault ∷ []) old rule refl;
    }

pub fault_undue : (kept : FullRecord) (old : State) (c : PlainCommand) (certificate : PlainCertificate) (a : PlainAccepted) → Imports kept old c certificate a → due_by kind_rules (known VerifyCertificate kept old c (answers.Fault ∷ [])) ≡ []
fault_undue kept old c certificate a imports =
    let may = allowed kept.fields old.certificates (name_chosen old.phase) certificate.body a imports.given in
    rw (imports.reads, may.issued, may.role, may.link, may.date) refl
