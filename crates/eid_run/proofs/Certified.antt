-- The certificates of a terminal, which the chip accepts one after the other.
use Rattle.std.proofs.Common.{◌≡◌, ℕ, ◌+◌, ◌≤◌, Bool, true, false, ◌||◌, List, [], ◌∷◌, ◌++◌, length, Option, Some, None, refl, sym, ap, ◌∙◌, subst, arith}
use Rattle.std.specs.Prelude.{if◌then◌else◌, nat_le, is_none, is_some, option_map, IfSome, IsSome}
use Rattle.std.specs.List.{All}
use Rattle.std.specs.Option.{option_or}
use Rattle.std.proofs.lemmas.Bool.{le-leb, or_right}
use Rattle.std.proofs.lemmas.List.{append-nil}
use Rattle.std.proofs.lemmas.List.Elements.{All-head}
use Rattle.std.proofs.lemmas.Slice.Eq.{bytes_eq-Decides}
use Rattle.sha2.specs.Sha256.{sha256}
use Rattle.eid_apdu.specs.Answer.{PlainReply}
use Rattle.eid_apdu.specs.Command.{PlainCommand}
use Rattle.eid_bits.specs.Rights.{role_of}
use Rattle.eid_bits.specs.declared.template.Role.{Role}
use Rattle.eid_bits.specs.declared.template.Role.TheVariants.{Cvca, Domestic, Foreign, Terminal}
use Rattle.eid_copro.specs.Model.{answer_with, random_block, signature_of}
use Rattle.eid_copro.specs.declared.ask.Ask.{Ask}
use Rattle.eid_copro.specs.declared.ask.Answer.{Answer}
use Rattle.eid_copro.specs.declared.ask.Answer.TheVariants as answers
use Rattle.eid_copro.specs.declared.ask.Question.{Question}
use Rattle.eid_copro.specs.declared.ask.Question.TheVariants as questions
use Rattle.eid_cvc.specs.Certificates.{IsReference, PlainBody, PlainCertificate}
use Rattle.eid_cvc.specs.Chains.{PlainChain, PlainParty, no_chain}
use Rattle.eid_cvc.proofs.CertificateFacts.{certificate_in-exact}
use Rattle.eid_cvc.proofs.Sizes.{object_fits}
use Rattle.eid_record.specs.Plain.{Advance, FullRecord, PlainEffect, PlainRecord, PlainTrustPoint}
use Rattle.eid_sm.specs.Keys.{ChannelState}
use Rattle.eid_tlv.specs.Lists.{IsListOf}
use Rattle.eid_tlv.specs.Objects.{Object, object}
use Rattle.eid_trust.specs.Trust.{OfPoint, OfVerifier, PlainAccepted, accept_given, chain_with, is_terminal_role, may_sign, moves_date, moves_point, point_named, point_of as trust_point, signer_of, verifier_named}
use Rattle.eid_model.specs.declared.kind.Kind.TheVariants.{SelectPublicKey, VerifyCertificate}
use Rattle.eid_model.specs.Answers.{due_by, outcome_by, question_by, status_alone}
use Rattle.eid_model.specs.Bodies.{key_name_in}
use Rattle.eid_model.specs.Ledger.{all_committed}
use Rattle.eid_model.specs.Legal.{AreAsked}
use Rattle.eid_model.specs.Rules.{LAST_NUMBER, RuleRow, Situation, answer_rules, are_none, commit_rules, first_failed, had_template, kind_rules, name_chosen, one_effect, proof_rules, to_commit}
use Rattle.eid_model.specs.Runs.{ChoseKey, NotBegun, Phase, claimed, entered}
use Rattle.eid_model.specs.Sessions.{PaceMemory, State, unchained}
use Rattle.eid_model.proofs.Books.{nothing_due_by}
use Rattle.eid_model.proofs.KeyNames.{key_name_in-exact}
use Rattle.eid_chip.specs.Steps.{Imports, PlainRefusal, certificate_ask, known}
use Rattle.eid_chip.specs.Transitions.{state_carried_out, state_refused}
use Rattle.eid_chip.proofs.CarriedOut.{unasked_at}
use Rattle.eid_chip.proofs.CertificateSteps.{allowed, asked_so, key_leaves, key_passes}
use Rattle.eid_chip.proofs.Outcomes.{passed}
use Rattle.eid_chip.proofs.PaceSteps.{moved}
use Rattle.eid_terminal.specs.Authentication.{authenticate_terminal, imports, issuer_if_any, issuer_of}
use Rattle.eid_terminal.specs.Commands.{import_certificate, key_selection, select_key}
use Rattle.eid_terminal.specs.Courses.{Course}
use Rattle.eid_terminal.specs.Exchanges.{exchange, expecting}
use Rattle.eid_terminal.specs.Plans.{AreSendable, PlainPlan}
use Rattle.eid_terminal.specs.declared.action.Step.TheVariants as steps
use Rattle.eid_run.specs.Conversations.{Told}
use Rattle.eid_run.specs.Honest.{AreAccepted, IsAccepted}
use Rattle.eid_run.proofs.Along.{AtCourse, IsHandledSo, Way, carried_with, handled_so}
use Rattle.eid_run.proofs.Going.{IsGiven}
use Rattle.eid_run.proofs.Stepping.{HasSize, none_asked, one_asked}
use Rattle.eid_run.proofs.Turns.{IsOfKind}

-- Between PACE and terminal authentication: the last PACE is this, the certificates left this chain, and no terminal has
-- authenticated itself.
pub record HasChain (s : State) (memory : PaceMemory) (chain : PlainChain) : Type 0 where
  pub pace : s.pace ≡ Some memory
  pub certificates : s.certificates ≡ chain
  pub terminal : s.terminal ≡ None
  pub chip : s.chip_proven ≡ false

-- the chip allows what only a terminal may ask to whom the holder gave a template
pub template_given : (s : State) (memory : PaceMemory) (chain : PlainChain) → HasChain s memory chain → IsSome memory.template
    → (is_some s.pace ≡ true) × (had_template s.pace ≡ true) × (is_some s.terminal ≡ false)
template_given s memory chain has template =
    (ap is_some has.pace, ap had_template has.pace ∙ template, ap is_some has.terminal)

-- ---- the name of a key

-- the name that the terminal selects is the one that the chip reads
name_read : (name : List ℕ) → IsReference name → key_name_in (key_selection name) ≡ Some name
unfolding key_selection
name_read name is =
    let list : List Object = record { tag = 0x83; value = name } ∷ [] in
    let listed : IsListOf list (object 0x83 name) = record { fit = (record { tagged = refl; sized = omega (arith, is.1) }, tt); spelled = sym (append-nil (object 0x83 name)) } in
    (key_name_in-exact (object 0x83 name) name).1 (record { list = list; is_list = listed; those = refl }, is)

key_kind : (s : State) (name : List ℕ) → IsOfKind (unchained s) (select_key name) SelectPublicKey
key_kind s name = record { unchained = refl; named = refl; passes = λ full given. refl }

key_size : (name : List ℕ) → IsReference name → HasSize (select_key name)
unfolding key_selection
key_size name is = record { short = omega (arith, object_fits 0x83 name, is.1); most = omega arith; class = refl }

-- where a key was selected
abbrev pub key_chosen : State → List ℕ → State
key_chosen s name = moved (Some VerifyCertificate) (ChoseKey name) NotBegun (unchained s)

-- the chip selects the key by which the next certificate is verified
pub key_selected : (w : Way) (full : FullRecord) (s : State) (memory : PaceMemory) (chain : PlainChain) (name : List ℕ) (later : Option ChannelState → PlainReply → Course) (told : List Told)
    → HasChain s memory chain → IsSome memory.template → IsReference name → is_some (signer_of full.fields chain name) ≡ true
    → AtCourse w full (unchained s) (exchange steps.Ta (select_key name) later s.channel) told
    → AtCourse w full (key_chosen s name) (later (key_chosen s name).channel (status_alone 0x9000)) told
key_selected w full s memory chain name later told has template is signer at =
    let c : PlainCommand = select_key name in
    let old : State = unchained s in
    let did : IsHandledSo w full s SelectPublicKey c later told = handled_so w full s SelectPublicKey steps.Ta c later told (key_kind s name) (key_size name is) at in
    let silent : did.asks ≡ [] =
    none_asked (λ given. question_by kind_rules (known SelectPublicKey full old c given)) [] did.asks did.asked
    (unasked_at (is_none (first_failed (kind_rules ++ answer_rules) (known SelectPublicKey full old c []))) None refl) in
    let given = template_given s memory chain has template in
    let signs : is_some (signer_of full.fields s.certificates name) ≡ true = ap (λ (x : PlainChain). is_some (signer_of full.fields x name)) has.certificates ∙ signer in
    let rules = key_passes full old c name (name_read name is) given.0 given.1 given.2 signs in
    carried_with w full s (key_chosen s name) SelectPublicKey c later told (status_alone 0x9000) [] [] did silent
    (ap (λ (f : Option RuleRow). outcome_by f (known SelectPublicKey full old c [])) rules)
    (nothing_due_by kind_rules (known SelectPublicKey full old c []) refl)
    (sym (key_leaves full old c name (name_read name is))) refl

-- ---- a certificate

-- the model finds a right signature right
pub right_found : (ask : Ask) (key digest signature : List ℕ) → IsGiven ask → ask.question ≡ questions.Verify key digest signature → signature ≡ signature_of key digest
    → ask.answer ≡ answers.Verdict true
unfolding answer_with
right_found ask key digest signature given is signed =
    given.by_model
    ∙ ap (answer_with (random_block given.start given.number)) is
    ∙ ap answers.Verdict ((bytes_eq-Decides signature (signature_of key digest)).1 signed)

import_kind : (s : State) (certificate : List ℕ) → s.next ≡ Some VerifyCertificate → IsOfKind (unchained s) (import_certificate certificate) VerifyCertificate
import_kind s certificate next = record { unchained = refl; named = rw next refl; passes = λ full given. refl }

-- there is room for what is committed
room_is : (kept : FullRecord) (effects : List PlainEffect) → kept.fields.number ≤ LAST_NUMBER → (are_none effects || nat_le kept.fields.number LAST_NUMBER) ≡ true
room_is kept effects room = or_right (are_none effects) (nat_le kept.fields.number LAST_NUMBER) (le-leb kept.fields.number LAST_NUMBER room)

room_commits : (kept : FullRecord) (old : State) (c : PlainCommand) (given : List Answer) → kept.fields.number ≤ LAST_NUMBER
    → first_failed commit_rules (known VerifyCertificate kept old c given) ≡ None
room_commits kept old c given room =
    let holds = room_is kept (to_commit (Some VerifyCertificate) (known VerifyCertificate kept old c given)) room in
    rw holds refl

room_passes : (kept : FullRecord) (old : State) (c : PlainCommand) (given : List Answer) → kept.fields.number ≤ LAST_NUMBER
    → first_failed (commit_rules ++ proof_rules) (known VerifyCertificate kept old c given) ≡ None
room_passes kept old c given room =
    let holds = room_is kept (to_commit (Some VerifyCertificate) (known VerifyCertificate kept old c given)) room in
    rw holds refl

-- where a certificate was accepted
abbrev pub accepted_state : State → PlainChain → State
accepted_state s chain = record (state_refused s) { certificates = chain }

-- no rule before the commits fails
accepted_passes : (kept : FullRecord) (old : State) (c : PlainCommand) (certificate : PlainCertificate) (a : PlainAccepted) → Imports kept old c certificate a
    → first_failed (kind_rules ++ answer_rules) (known VerifyCertificate kept old c (answers.Verdict true ∷ [])) ≡ None
accepted_passes kept old c certificate a brings =
    let may = allowed kept.fields old.certificates (name_chosen old.phase) certificate.body a brings.given in
    rw (brings.reads, may.issued, may.role, may.link, may.date) refl

-- nor does one behind them
accepted_rules : (more : List RuleRow) (kept : FullRecord) (old : State) (c : PlainCommand) (certificate : PlainCertificate) (a : PlainAccepted) → Imports kept old c certificate a
    → first_failed more (known VerifyCertificate kept old c (answers.Verdict true ∷ [])) ≡ None
    → first_failed ((kind_rules ++ answer_rules) ++ more) (known VerifyCertificate kept old c (answers.Verdict true ∷ [])) ≡ None
accepted_rules more kept old c certificate a brings behind =
    let s : Situation = known VerifyCertificate kept old c (answers.Verdict true ∷ []) in
    passed (kind_rules ++ answer_rules) more s
    (ap (option_map {U = PlainRefusal} (λ (row : RuleRow). record { rule = row.number; status = row.status s })) (accepted_passes kept old c certificate a brings)) ∙ behind

-- what it advances is committed
advance_due : (kept : FullRecord) (old : State) (c : PlainCommand) (certificate : PlainCertificate) (a : PlainAccepted) → Imports kept old c certificate a → kept.fields.number ≤ LAST_NUMBER
    → due_by kind_rules (known VerifyCertificate kept old c (answers.Verdict true ∷ [])) ≡ one_effect a.advance
advance_due kept old c certificate a brings room =
    let may = allowed kept.fields old.certificates (name_chosen old.phase) certificate.body a brings.given in
    let s : Situation = known VerifyCertificate kept old c (answers.Verdict true ∷ []) in
    ap (λ (f : Option RuleRow). if is_none f then to_commit s.kind s else [])
    (accepted_rules commit_rules kept old c certificate a brings (room_commits kept old c (answers.Verdict true ∷ []) room))
    ∙ rw brings.reads (ap one_effect (sym may.advance_is))

-- and the chain is the one behind it
chain_left : (kept : FullRecord) (s : State) (c : PlainCommand) (certificate : PlainCertificate) (a : PlainAccepted) → Imports kept (unchained s) c certificate a
    → state_carried_out kept.fields VerifyCertificate c (answers.Verdict true ∷ []) (unchained s) ≡ accepted_state s a.chain
unfolding entered claimed
chain_left kept s c certificate a brings =
    let may = allowed kept.fields s.certificates (name_chosen s.phase) certificate.body a brings.given in
    rw brings.reads (ap (λ (x : PlainChain). accepted_state s x) (sym may.chain_is))

-- the certificate stands in the command, under the name that was selected
brings_so : (full : FullRecord) (s : State) (chain : PlainChain) (bytes : List ℕ) (a : PlainAccepted) (is : IsAccepted full chain bytes a) → s.phase ≡ ChoseKey is.certificate.body.issuer → s.certificates ≡ chain
    → Imports full (unchained s) (import_certificate bytes) is.certificate a
brings_so full s chain bytes a is phase certificates =
    let body : PlainBody = is.certificate.body in
    record {
      reads = is.reads;
      given = sym is.given
          ∙ ap (λ (x : PlainChain). accept_given full.fields x body.issuer body) (sym certificates)
          ∙ ap (λ (p : Phase). accept_given full.fields s.certificates (name_chosen p) body) (sym phase);
    }

-- the chip verifies the signature, and finds it right
signature_asked : (w : Way) (full : FullRecord) (s : State) (c : PlainCommand) (certificate : PlainCertificate) (a : PlainAccepted) (later : Option ChannelState → PlainReply → Course) (told : List Told)
    → Imports full (unchained s) c certificate a → certificate.signature ≡ signature_of a.key (sha256 certificate.whole) → (did : IsHandledSo w full s VerifyCertificate c later told)
    → did.asks ≡ certificate_ask certificate a (answers.Verdict true) ∷ []
signature_asked w full s c certificate a later told brings signed did =
    let digest : List ℕ = sha256 certificate.whole in
    let question : Question = questions.Verify a.key digest certificate.signature in
    let puts : List Answer → Option Question = λ given. question_by kind_rules (known VerifyCertificate full (unchained s) c given) in
    let asked = asked_so full (unchained s) c certificate a (answers.Verdict true) brings refl in
    let first = one_asked puts [] did.asks question did.asked asked.0 in
    let ask : Ask = record { question = question; answer = first.answer } in
    let given : IsGiven ask = All-head IsGiven ask first.later (subst (All IsGiven) first.is did.given) in
    let right : first.answer ≡ answers.Verdict true = right_found ask a.key digest certificate.signature given refl signed in
    let nothing : first.later ≡ [] = none_asked puts (answers.Verdict true ∷ []) first.later (subst (λ (x : Answer). AreAsked puts (x ∷ []) first.later) right first.asked) asked.2 in
    first.is ∙ ap (λ (l : List Ask). ask ∷ l) nothing ∙ ap (λ (x : Answer). certificate_ask certificate a x ∷ []) right

-- a certificate that the chip accepts is imported
pub certificate_imported : (w : Way) (full : FullRecord) (s : State) (chain : PlainChain) (bytes : List ℕ) (a : PlainAccepted) (later : Option ChannelState → PlainReply → Course) (told : List Told) (is : IsAccepted full chain bytes a)
    → s.next ≡ Some VerifyCertificate → s.phase ≡ ChoseKey is.certificate.body.issuer → s.certificates ≡ chain → length bytes ≤ 2048 → full.fields.number ≤ LAST_NUMBER
    → AtCourse w full (unchained s) (exchange steps.Ta (import_certificate bytes) later s.channel) told
    → AtCourse w (all_committed (one_effect a.advance) full) (accepted_state s a.chain) (later (accepted_state s a.chain).channel (status_alone 0x9000)) told
certificate_imported w full s chain bytes a later told is next phase certificates short room at =
    let c : PlainCommand = import_certificate bytes in
    let old : State = unchained s in
    let given : List Answer = answers.Verdict true ∷ [] in
    let brings = brings_so full s chain bytes a is phase certificates in
    let did = handled_so w full s VerifyCertificate steps.Ta c later told (import_kind s bytes next) (record { short = short; most = omega arith; class = refl }) at in
    let rules = accepted_rules (commit_rules ++ proof_rules) full old c is.certificate a brings (room_passes full old c given room) in
    carried_with w full s (accepted_state s a.chain) VerifyCertificate c later told (status_alone 0x9000) (one_effect a.advance) (certificate_ask is.certificate a (answers.Verdict true) ∷ []) did
    (signature_asked w full s c is.certificate a later told brings is.signed did)
    (ap (λ (f : Option RuleRow). outcome_by f (known VerifyCertificate full old c given)) rules)
    (advance_due full old c is.certificate a brings room)
    (chain_left full s c is.certificate a brings) refl

-- ---- one certificate after the other

-- the key is selected by the issuer's name, and the certificate is imported
one_imported : (w : Way) (full : FullRecord) (s : State) (plan : PlainPlan) (identity : List ℕ) (memory : PaceMemory) (chain : PlainChain) (bytes : List ℕ) (later : List (List ℕ)) (a : PlainAccepted) (told : List Told)
    → HasChain s memory chain → IsSome memory.template → IsAccepted full chain bytes a → length bytes ≤ 2048 → full.fields.number ≤ LAST_NUMBER
    → AtCourse w full (unchained s) (imports plan identity (bytes ∷ later) s.channel) told
    → AtCourse w (all_committed (one_effect a.advance) full) (accepted_state (key_chosen s (issuer_of bytes)) a.chain) (imports plan identity later (accepted_state (key_chosen s (issuer_of bytes)) a.chain).channel) told
unfolding imports expecting
one_imported w full s plan identity memory chain bytes later a told has template is short room at =
    let body : PlainBody = is.certificate.body in
    let name : List ℕ = issuer_of bytes in
    let same : name ≡ body.issuer = ap issuer_if_any is.reads in
    let valid = ((certificate_in-exact bytes is.certificate).0 is.reads).valid in
    let reference : IsReference name = subst IsReference (sym same) valid.issuer in
    let may = allowed full.fields chain body.issuer body a (sym is.given) in
    let signer : is_some (signer_of full.fields chain name) ≡ true = ap (λ (n : List ℕ). is_some (signer_of full.fields chain n)) same ∙ ap is_some may.signs in
    let imports_it = exchange steps.Ta (import_certificate bytes) (expecting steps.Ta (imports plan identity later)) in
    let selected = key_selected w full s memory chain name (expecting steps.Ta imports_it) told has template reference signer at in
    certificate_imported w full (key_chosen s name) chain bytes a (expecting steps.Ta (imports plan identity later)) told is refl (ap ChoseKey same) has.certificates short room selected

-- a commit raises the number by one
number_later : (effect : Option PlainEffect) (full : FullRecord) → (all_committed (one_effect effect) full).fields.number ≤ full.fields.number + 1
number_later None full = omega arith
number_later (Some effect) full = omega arith

-- All certificates were imported: this record is kept, the chain is this, and the terminal authenticates itself.
pub record AreImported (w : Way) (kept : FullRecord) (plan : PlainPlan) (identity : List ℕ) (memory : PaceMemory) (chain : PlainChain) (told : List Told) : Type 0 where
  pub state : State
  pub has : HasChain state memory chain
  pub goes : AtCourse w kept (unchained state) (authenticate_terminal plan identity state.channel) told

pub imported : (w : Way) (full : FullRecord) (s : State) (plan : PlainPlan) (identity : List ℕ) (memory : PaceMemory) (chain : PlainChain) (certificates : List (List ℕ)) (kept_then : FullRecord) (chain_then : PlainChain) (told : List Told)
    → HasChain s memory chain → IsSome memory.template → AreAccepted full chain certificates kept_then chain_then → AreSendable certificates → full.fields.number + length certificates ≤ LAST_NUMBER
    → AtCourse w full (unchained s) (imports plan identity certificates s.channel) told → AreImported w kept_then plan identity memory chain_then told
unfolding imports
imported w full s plan identity memory chain [] kept_then chain_then told has template accepted sendable room at = record {
  state = s;
  has = subst (λ (x : PlainChain). HasChain s memory x) (sym accepted.1) has;
  goes = subst (λ (k : FullRecord). AtCourse w k (unchained s) (authenticate_terminal plan identity s.channel) told) (sym accepted.0) at;
}
imported w full s plan identity memory chain (bytes ∷ later) kept_then chain_then told has template accepted sendable room at =
    let a : PlainAccepted = accepted.0 in
    let next : State = accepted_state (key_chosen s (issuer_of bytes)) a.chain in
    let one = one_imported w full s plan identity memory chain bytes later a told has template accepted.1.0 sendable.0.short (omega (arith, room)) at in
    imported w (all_committed (one_effect a.advance) full) next plan identity memory a.chain later kept_then chain_then told
    (record { pace = has.pace; certificates = refl; terminal = has.terminal; chip = has.chip }) template accepted.1.1 sendable.1
    (omega (arith, room, number_later a.advance full)) one

-- ---- the chain

-- A chain is begun from above: below a document verifier stands a terminal, and above it a trust point; and the terminal
-- has a name.
pub record IsFromAbove (chain : PlainChain) : Type 0 where
  pub verifier : is_some chain.verifier ≡ true → is_some chain.root ≡ true
  pub terminal : is_some chain.terminal ≡ true → is_some chain.verifier ≡ true
  pub named : IfSome chain.terminal (λ t. IsReference t.name)

none_from_above : IsFromAbove no_chain
none_from_above = record { verifier = λ some. absurd (cc); terminal = λ some. absurd (cc); named = tt }

-- a document verifier is signed by a trust point
by_point : (point : Option PlainTrustPoint) (verifier : Option PlainParty) (role : Role) → is_terminal_role role ≡ false
    → may_sign (option_or (option_map OfPoint point) (option_map OfVerifier verifier)) role ≡ true → is_some (option_map (λ (p : PlainTrustPoint). p.template) point) ≡ true
by_point (Some point) verifier role other signs = refl
by_point None None role other signs = absurd (cc)
by_point None (Some verifier) role other signs = absurd (cc)

-- a terminal is signed by a document verifier
by_verifier : (point : Option PlainTrustPoint) (verifier : Option PlainParty) → may_sign (option_or (option_map OfPoint point) (option_map OfVerifier verifier)) Terminal ≡ true → is_some verifier ≡ true
by_verifier (Some point) verifier signs = absurd (cc)
by_verifier None None signs = absurd (cc)
by_verifier None (Some verifier) signs = refl

there : (verifier : Option PlainParty) (name : List ℕ) → is_some (verifier_named verifier name) ≡ true → is_some verifier ≡ true
there None name some = absurd (cc)
there (Some verifier) name some = refl

-- one certificate more
from_above_with : (role : Role) (kept : PlainRecord) (chain : PlainChain) (c : PlainBody) → IsReference c.holder → may_sign (signer_of kept chain c.issuer) role ≡ true → IsFromAbove chain → IsFromAbove (chain_with role kept chain c)
from_above_with Cvca kept chain c holder signs is = is
from_above_with Domestic kept chain c holder signs is = record {
  verifier = λ some. by_point (point_named kept c.issuer) (verifier_named chain.verifier c.issuer) Domestic refl signs;
  terminal = λ some. refl;
  named = tt;
}
from_above_with Foreign kept chain c holder signs is = record {
  verifier = λ some. by_point (point_named kept c.issuer) (verifier_named chain.verifier c.issuer) Foreign refl signs;
  terminal = λ some. refl;
  named = tt;
}
from_above_with Terminal kept chain c holder signs is = record {
  verifier = is.verifier;
  terminal = λ some. there chain.verifier c.issuer (by_verifier (point_named kept c.issuer) (verifier_named chain.verifier c.issuer) signs);
  named = holder;
}

accepted_from_above : (kept : FullRecord) (chain : PlainChain) (bytes : List ℕ) (a : PlainAccepted) → IsAccepted kept chain bytes a → IsFromAbove chain → IsFromAbove a.chain
accepted_from_above kept chain bytes a is above =
    let body : PlainBody = is.certificate.body in
    let may = allowed kept.fields chain body.issuer body a (sym is.given) in
    let valid = ((certificate_in-exact bytes is.certificate).0 is.reads).valid in
    subst IsFromAbove (sym may.chain_is) (from_above_with (role_of body.template) kept.fields chain body valid.holder may.role above)

all_from_above : (kept : FullRecord) (chain : PlainChain) (certificates : List (List ℕ)) (kept_then : FullRecord) (chain_then : PlainChain) → AreAccepted kept chain certificates kept_then chain_then → IsFromAbove chain → IsFromAbove chain_then
all_from_above kept chain [] kept_then chain_then accepted above = subst IsFromAbove (sym accepted.1) above
all_from_above kept chain (bytes ∷ later) kept_then chain_then accepted above =
    let a : PlainAccepted = accepted.0 in
    all_from_above (all_committed (one_effect a.advance) kept) a.chain later kept_then chain_then accepted.1.1 (accepted_from_above kept chain bytes a accepted.1.0 above)

-- a chain that certificates leave behind a PACE
pub chain_from_above : (kept : FullRecord) (certificates : List (List ℕ)) (kept_then : FullRecord) (chain : PlainChain) → AreAccepted kept no_chain certificates kept_then chain → IsFromAbove chain
chain_from_above kept certificates kept_then chain accepted = all_from_above kept no_chain certificates kept_then chain accepted none_from_above

-- The chain is whole: this trust point's template, this document verifier, this terminal.
pub record IsWhole (chain : PlainChain) (terminal : PlainParty) : Type 0 where
  pub root : List ℕ
  pub verifier : PlainParty
  pub root_is : chain.root ≡ Some root
  pub verifier_is : chain.verifier ≡ Some verifier
  pub terminal_is : chain.terminal ≡ Some terminal
  pub named : IsReference terminal.name

pub whole_chain : (chain : PlainChain) (terminal : PlainParty) → IsFromAbove chain → chain.terminal ≡ Some terminal → IsWhole chain terminal
whole_chain chain terminal is some = by chain.root chain.verifier refl refl where
  has_verifier : is_some chain.verifier ≡ true
  has_verifier = is.terminal (ap is_some some)

  by : (r : Option (List ℕ)) (v : Option PlainParty) → chain.root ≡ r → chain.verifier ≡ v → IsWhole chain terminal
  by None v root verifier = absurd (let has : is_some chain.root ≡ true = is.verifier has_verifier in cc)
  by (Some r) None root verifier = absurd (let has : is_some chain.verifier ≡ true = has_verifier in cc)
  by (Some r) (Some v) root verifier = record {
    root = r;
    verifier = v;
    root_is = root;
    verifier_is = verifier;
    terminal_is = some;
    named = subst (λ (t : Option PlainParty). IfSome t (λ x. IsReference x.name)) some is.named;
  }

-- ---- the record

-- What certificates change of a record: its number, its date and its trust points.
pub record IsAdvanced (before after : FullRecord) : Type 0 where
  pub files : after.files ≡ before.files
  pub fields : after.fields
      ≡ record before.fields { number = after.fields.number; date = after.fields.date; current = after.fields.current; previous = after.fields.previous }

advanced_if : (moves : Bool) (date : List ℕ) (current : PlainTrustPoint) (previous : Option PlainTrustPoint) (full : FullRecord)
    → IsAdvanced full (all_committed (one_effect (if moves then Some (Advance date current previous) else None)) full)
advanced_if true date current previous full = record { files = refl; fields = refl }
advanced_if false date current previous full = record { files = refl; fields = refl }

one_advanced : (kept : FullRecord) (chain : PlainChain) (bytes : List ℕ) (a : PlainAccepted) → IsAccepted kept chain bytes a → IsAdvanced kept (all_committed (one_effect a.advance) kept)
one_advanced kept chain bytes a is =
    let c : PlainBody = is.certificate.body in
    let may = allowed kept.fields chain c.issuer c a (sym is.given) in
    subst (λ (o : Option PlainEffect). IsAdvanced kept (all_committed (one_effect o) kept)) (sym may.advance_is)
    (advanced_if (moves_date kept.fields chain c || moves_point kept.fields c) (if moves_date kept.fields chain c then c.effective else kept.fields.date)
    (if moves_point kept.fields c then trust_point c else kept.fields.current) (if moves_point kept.fields c then Some kept.fields.current else kept.fields.previous) kept)

advanced_on : (before between after : FullRecord) → IsAdvanced before between → IsAdvanced between after → IsAdvanced before after
advanced_on before between after first later = record {
  files = later.files ∙ first.files;
  fields = later.fields
      ∙ ap (λ (r : PlainRecord). record r { number = after.fields.number; date = after.fields.date; current = after.fields.current; previous = after.fields.previous }) first.fields;
}

-- all of them, one after the other
pub all_advanced : (kept : FullRecord) (chain : PlainChain) (certificates : List (List ℕ)) (kept_then : FullRecord) (chain_then : PlainChain) → AreAccepted kept chain certificates kept_then chain_then → IsAdvanced kept kept_then
all_advanced kept chain [] kept_then chain_then accepted = subst (λ (k : FullRecord). IsAdvanced kept k) (sym accepted.0) (record { files = refl; fields = refl })
all_advanced kept chain (bytes ∷ later) kept_then chain_then accepted =
    let a : PlainAccepted = accepted.0 in
    let next : FullRecord = all_committed (one_effect a.advance) kept in
    advanced_on kept next kept_then (one_advanced kept chain bytes a accepted.1.0) (all_advanced next a.chain later kept_then chain_then accepted.1.1)

-- and each raises the number by one at most
pub number_then : (kept : FullRecord) (chain : PlainChain) (certificates : List (List ℕ)) (kept_then : FullRecord) (chain_then : PlainChain) → AreAccepted kept chain certificates kept_then chain_then
    → kept_then.fields.number ≤ kept.fields.number + length certificates
number_then kept chain [] kept_then chain_then accepted =
    let same : kept_then.fields.number ≡ kept.fields.number = ap (λ (k : FullRecord). k.fields.number) accepted.0 in
    omega (arith, same)
number_then kept chain (bytes ∷ later) kept_then chain_then accepted =
    let a : PlainAccepted = accepted.0 in
    omega (arith, number_later a.advance kept, number_then (all_committed (one_effect a.advance) kept) a.chain later kept_then chain_then accepted.1.1)
