-- PACE between a terminal and a chip whose password has the same digits: it succeeds.
use Rattle.std.proofs.Common.{◌≡◌, ℕ, zero, suc, ◌+◌, ◌<◌, ◌≤◌, Bool, true, false, ◌||◌, not, List, [], ◌∷◌, ◌++◌, length, take, Option, Some, None, refl, sym, ap, ◌∙◌, subst, arith, append_assoc, length-append, length-take}
use Rattle.std.specs.Prelude.{if◌then◌else◌, nat_le, nat_lt, IfSome, replicate, slice_index}
use Rattle.std.specs.List.{All}
use Rattle.std.specs.Int.{w32, w64, to_be_bytes}
use Rattle.std.specs.Str.{bytes_eq}
use Rattle.std.proofs.lemmas.List.{append-nil}
use Rattle.std.proofs.lemmas.Bool.{and_parts}
use Rattle.std.proofs.lemmas.Bool.Decides.{nat_tests}
use Rattle.std.proofs.lemmas.Slice.Eq.{bytes_eq-Decides}
use Rattle.sha2.proofs.Facts256.{length-sha256}
use Rattle.sha2.specs.Sha256.{digest_bytes, final_hash, initial_hash_256, sha256}
use Rattle.eid_aes.proofs.Chaining.{cbc_undone}
use Rattle.eid_bits.specs.Date.{is_between}
use Rattle.eid_bits.specs.Identifiers.{known_bytes}
use Rattle.eid_bits.specs.declared.identifier.Known.TheVariants as identifiers
use Rattle.eid_apdu.specs.Command.{PlainCommand}
use Rattle.eid_copro.specs.Model.{answer_with, random_block}
use Rattle.eid_copro.specs.Numbers.{base_number, generator, plus, point_number, point_of, scalar, secret_of, times, x_half}
use Rattle.eid_copro.specs.declared.ask.Ask.{Ask}
use Rattle.eid_copro.specs.declared.ask.Answer.{Answer}
use Rattle.eid_copro.specs.declared.ask.Answer.TheVariants as answers
use Rattle.eid_copro.specs.declared.ask.Question.{Question}
use Rattle.eid_copro.specs.declared.ask.Question.TheVariants as questions
use Rattle.eid_cvc.specs.CertificateIn as cert
use Rattle.eid_cvc.specs.CertificateIn.{reference_in}
use Rattle.eid_cvc.specs.Chains.{no_chain}
use Rattle.eid_cvc.specs.Fronts.{PlainFront, ◌>>=◌, front_in}
use Rattle.eid_cvc.specs.Templates.{template_value}
use Rattle.eid_cvc.proofs.FrontFacts.{front_of_last, front_of_object}
use Rattle.eid_cvc.proofs.TemplateFacts.{before_template, template_spelled}
use Rattle.eid_pace.specs.Check.{chip_token, done_by, terminal_token}
use Rattle.eid_pace.specs.Keys.{enc_key, encrypted_nonce, identity_of, mac_key, password_key}
use Rattle.eid_pace.specs.SelectionIn.{selection_in}
use Rattle.eid_pace.specs.Selections.{HasTemplate, password_named}
use Rattle.eid_pace.specs.States.{PlainAgreed, PlainChoice, PlainMapped, PlainNonceSent}
use Rattle.eid_pace.specs.declared.protocol.Protocol.TheVariants.{EcdhGmAes128}
use Rattle.eid_pace.proofs.SelectionFacts.{selection_in-exact}
use Rattle.eid_password.specs.Passwords.{ALL_TRIES, digits_of, has_try, is_can, is_pin, is_resumed, select_status, start_refusal}
use Rattle.eid_record.specs.Plain.{FullRecord, PlainEffect, PlainRecord, PlainTrustPoint}
use Rattle.eid_record.specs.declared.fields.Password.{Password}
use Rattle.eid_record.specs.declared.fields.Password.TheVariants.{Can, Pin, Puk}
use Rattle.eid_sm.specs.Keys.{ChannelState}
use Rattle.eid_sm.proofs.Lengths.{length-cbc_encrypted, length-mac8}
use Rattle.eid_sm.proofs.OneProtected.{pair_of_bytes}
use Rattle.eid_tlv.specs.Lists.{AreObjects, HasValues, IsListOf}
use Rattle.eid_tlv.specs.Objects.{Object, is_tag, length_bytes, object, objects, tag_bytes}
use Rattle.eid_tlv.proofs.Sizes.{object_size, some_length}
use Rattle.eid_model.specs.declared.kind.Kind.TheVariants.{EncryptedNonce, MapNonce, MutualAuthentication, PerformKeyAgreement, SelectPace}
use Rattle.eid_model.specs.Answers.{data_alone, previous_name, question_by, select_reply, status_alone}
use Rattle.eid_model.specs.Bodies as bodies
use Rattle.eid_model.specs.Ledger.{all_committed}
use Rattle.eid_model.specs.Legal.{AreAsked}
use Rattle.eid_model.specs.Rules.{LAST_NUMBER, are_none, is_own_point, kind_rules, token_effects, was_with}
use Rattle.eid_model.specs.Runs.{Chose, HasBase, HasSecret, NotBegun, SentNonce, answers_of, choice_in, claimed, entered}
use Rattle.eid_model.specs.Sessions.{State, channel_after, keys_of, memory_of, unchained}
use Rattle.eid_model.proofs.Forms.{data_written, form_written}
use Rattle.eid_model.proofs.KeyBytes.{derived_bytes}
use Rattle.eid_chip.specs.Steps.{known}
use Rattle.eid_chip.specs.Transitions.{state_carried_out, without_run}
use Rattle.eid_chip.proofs.Bodies.{is_point, object_fits}
use Rattle.eid_chip.proofs.PaceSteps.{last_data, moved, three_hold}
use Rattle.eid_terminal.specs.Commands.{PlainTerms, agree, authenticate, authentication_data, get_nonce, map_nonce, no_data, pace_selection, reference_of, select_pace}
use Rattle.eid_terminal.specs.Courses.{Asks, Passes, Stops}
use Rattle.eid_terminal.specs.Exchanges.{by_mapped, by_pair, by_shared, counted, exchange, or_stop}
use Rattle.eid_terminal.specs.Pace as course
use Rattle.eid_terminal.specs.Pace.{Opened, after_agreement, after_mapping, after_nonce, after_selection, after_token, channel_under, decrypted_nonce, pace, token_for, with_nonce}
use Rattle.eid_terminal.specs.Replies.{data_objects_in, ends_names, is_pace_selected, point_in, sized, token_in, value_in, whole_object}
use Rattle.eid_terminal.specs.declared.action.Step.TheVariants as steps
use Rattle.eid_run.specs.Conversations.{Passed, Told}
use Rattle.eid_run.proofs.Agreeing.{agree_given, map_given, one_base, one_secret, pair_given}
use Rattle.eid_run.proofs.Along.{AtCourse, IsPaced, Way, answered_so, carried_out, carried_with, handled_so, passed_so}
use Rattle.eid_run.proofs.Given.{ask_is, first_ask, point_form, point_size}
use Rattle.eid_run.proofs.Going.{IsGiven}
use Rattle.eid_run.proofs.Hearing.{held_found, value_found, whole_found}
use Rattle.eid_run.proofs.Stepping.{HasSize, none_asked}
use Rattle.eid_run.proofs.Turns.{IsOfKind, due_then, outcome_at}

-- ---- the selection of a password

-- what the terminal chooses
abbrev pub choice_for : PlainTerms → PlainChoice
choice_for terms = record { protocol = EcdhGmAes128; password = terms.password; template = terms.template }

-- a template has five bytes
abbrev pub IsWhole : Option (List ℕ) → Type 0
IsWhole template = IfSome template (λ t. length t ≡ 5)

-- the objects of a selection
abbrev selected_objects : Password → Option (List ℕ) → List Object
selected_objects password None =
    record { tag = 0x80; value = known_bytes identifiers.PaceAes128 } ∷ record { tag = 0x83; value = reference_of password ∷ [] } ∷ []
selected_objects password (Some template) =
    record { tag = 0x80; value = known_bytes identifiers.PaceAes128 } ∷ record { tag = 0x83; value = reference_of password ∷ [] }
    ∷ record { tag = 0x7F4C; value = template_value template } ∷ []

template_size : (template : List ℕ) → length template ≡ 5 → length (template_value template) ≡ 18
template_size template size =
    let whole : length (template_value template) ≡ length before_template + length template = ap length (template_spelled template size) ∙ length-append before_template template in
    let front : length before_template ≡ 13 = refl in
    omega (arith, whole, front, size)

selected_fit : (password : Password) (template : Option (List ℕ)) → IsWhole template → AreObjects (selected_objects password template)
selected_fit password None size = (record { tagged = refl; sized = omega arith }, (record { tagged = refl; sized = omega arith }, _))
selected_fit password (Some template) size =
    (record { tagged = refl; sized = omega arith }, (record { tagged = refl; sized = omega arith }, (record { tagged = refl; sized = omega (arith, template_size template size) }, _)))

selected_spelled : (terms : PlainTerms) (template : Option (List ℕ)) → terms.template ≡ template → pace_selection terms ≡ objects (selected_objects terms.password template)
unfolding pace_selection object tag_bytes length_bytes
selected_spelled terms None is = rw is refl
selected_spelled terms (Some template) is =
    rw is (ap (λ (rest : List ℕ). object 0x80 (known_bytes identifiers.PaceAes128) ++ object 0x83 (reference_of terms.password ∷ []) ++ rest) (sym (append-nil (object 0x7F4C (template_value template)))))

selected_list : (terms : PlainTerms) → IsWhole terms.template → IsListOf (selected_objects terms.password terms.template) (pace_selection terms)
selected_list terms size = record { fit = selected_fit terms.password terms.template size; spelled = selected_spelled terms terms.template refl }

-- the values stand there, with a template and without
abbrev ValuesOf : Password → Option (List ℕ) → List ℕ → Type 0
ValuesOf password template body =
    HasValues 0x80 (known_bytes identifiers.PaceAes128 ∷ []) body × (HasValues 0x83 ((reference_of password ∷ []) ∷ []) body × HasTemplate body template)

selected_values : (password : Password) (template : Option (List ℕ)) (body : List ℕ) → IsWhole template → IsListOf (selected_objects password template) body → ValuesOf password template body
selected_values password None body size is = (record { list = _; is_list = is; those = refl }, (record { list = _; is_list = is; those = refl }, record { list = _; is_list = is; those = refl }))
selected_values password (Some template) body size is =
    (record { list = _; is_list = is; those = refl }, (record { list = _; is_list = is; those = refl }, (size, record { list = _; is_list = is; those = refl })))

-- the chip reads what the terminal selects
selection_read : (terms : PlainTerms) → IsWhole terms.template
    → selection_in (pace_selection terms) ≡ Some (record { protocol = EcdhGmAes128; reference = reference_of terms.password; template = terms.template })
selection_read terms size =
    let values = selected_values terms.password terms.template (pace_selection terms) size (selected_list terms size) in
    (selection_in-exact (pace_selection terms) _).1 (record { protocol = values.0; reference = values.1.0; template = values.1.1 })

password_again : (password : Password) → password_named (reference_of password) ≡ Some password
password_again Can = refl
password_again Pin = refl
password_again Puk = refl

choice_read : (terms : PlainTerms) → IsWhole terms.template → choice_in (pace_selection terms) ≡ Some (choice_for terms)
choice_read terms size = rw (selection_read terms size, password_again terms.password) refl

-- a password with which PACE may begin can be selected: of the PIN a try is left, and it is active
status_of_tries : (tries : ℕ) → nat_le 1 tries ≡ true → is_pace_selected (status_alone (if nat_lt tries ALL_TRIES then 0x63C0 + tries else 0x9000)) ≡ true
status_of_tries zero some = absurd (cc)
status_of_tries (suc zero) some = refl
status_of_tries (suc (suc zero)) some = refl
status_of_tries (suc (suc (suc n))) some = let many : nat_lt (suc (suc (suc n))) ALL_TRIES ≡ false = grind (arith, nat_tests) in rw many refl

selectable : (kept : PlainRecord) (password : Password) (by_can : Bool) → start_refusal kept password by_can ≡ None → is_pace_selected (status_alone (select_status kept password)) ≡ true
selectable kept Can by_can may = refl
selectable kept Pin by_can may =
    let parts = three_hold kept.active (has_try kept) (is_resumed kept by_can) may in
    rw parts.0 (status_of_tries kept.tries parts.1)
selectable kept Puk by_can may = refl

-- where the password was chosen
abbrev pub chosen_state : State → PlainChoice → State
chosen_state s choice = moved (Some EncryptedNonce) (Chose choice) NotBegun (unchained s)

select_kind : (s : State) (terms : PlainTerms) → IsOfKind (unchained s) (select_pace terms) SelectPace
select_kind s terms = record { unchained = refl; named = refl; passes = λ full given. refl }

-- an object and those behind it are not longer than this
object_more : (o : Object) (list : List Object) (value most : ℕ) → length o.value ≤ value → length (objects list) ≤ most → length (objects (o ∷ list)) ≤ value + 5 + most
object_more o list value most short rest =
    let size : length (objects (o ∷ list)) ≡ length (object o.tag o.value) + length (objects list) = length-append (object o.tag o.value) (objects list) in
    omega (arith, size, object_fits o.tag o.value, short, rest)

selected_short : (password : Password) (template : Option (List ℕ)) → IsWhole template → length (objects (selected_objects password template)) ≤ 100
selected_short password None size =
    let reference = object_more (record { tag = 0x83; value = reference_of password ∷ [] }) [] 1 0 (omega arith) (omega arith) in
    let all = object_more (record { tag = 0x80; value = known_bytes identifiers.PaceAes128 }) (record { tag = 0x83; value = reference_of password ∷ [] } ∷ []) 10 6 (omega arith) reference in
    omega (arith, all)
selected_short password (Some template) size =
    let last : List Object = record { tag = 0x7F4C; value = template_value template } ∷ [] in
    let given = object_more (record { tag = 0x7F4C; value = template_value template }) [] 18 0 (omega (arith, template_size template size)) (omega arith) in
    let reference = object_more (record { tag = 0x83; value = reference_of password ∷ [] }) last 1 23 (omega arith) given in
    let all = object_more (record { tag = 0x80; value = known_bytes identifiers.PaceAes128 }) (record { tag = 0x83; value = reference_of password ∷ [] } ∷ last) 10 29 (omega arith) reference in
    omega (arith, all)

selection_short : (terms : PlainTerms) → IsWhole terms.template → length (pace_selection terms) ≤ 2048
selection_short terms size = omega (arith, ap length (selected_spelled terms terms.template refl), selected_short terms.password terms.template size)

select_size : (terms : PlainTerms) → IsWhole terms.template → HasSize (select_pace terms)
select_size terms size = record {
  short = selection_short terms size;
  most = omega arith;
  class = refl;
}

select_unasked : (full : FullRecord) (s : State) (terms : PlainTerms) → IsWhole terms.template → question_by kind_rules (known SelectPace full (unchained s) (select_pace terms) []) ≡ None
select_unasked full s terms size = rw (selection_read terms size, password_again terms.password) refl

select_outcome : (full : FullRecord) (s : State) (terms : PlainTerms) → IsWhole terms.template
    → outcome_at SelectPace full (unchained s) (select_pace terms) [] ≡ record { rule = 0; reply = status_alone (select_status full.fields terms.password) }
select_outcome full s terms size =
    rw (selection_read terms size, password_again terms.password)
    (ap (λ (choice : Option PlainChoice). record { rule = 0; reply = select_reply full.fields choice }) (choice_read terms size))

select_due : (full : FullRecord) (s : State) (terms : PlainTerms) → IsWhole terms.template → due_then SelectPace full (unchained s) (select_pace terms) [] ≡ []
select_due full s terms size = rw (selection_read terms size, password_again terms.password) refl

select_state : (full : FullRecord) (s : State) (terms : PlainTerms) → IsWhole terms.template
    → state_carried_out full.fields SelectPace (select_pace terms) [] (unchained s) ≡ chosen_state s (choice_for terms)
unfolding entered claimed
select_state full s terms size = rw (choice_read terms size) refl

-- the password is chosen
pub chosen_so : (w : Way) (full : FullRecord) (s : State) (terms : PlainTerms) (later : Opened) (told : List Told) → IsWhole terms.template → is_pace_selected (status_alone (select_status full.fields terms.password)) ≡ true
    → AtCourse w full (unchained s) (pace terms later s.channel) told
    → AtCourse w full (chosen_state s (choice_for terms)) (exchange steps.Pace get_nonce (after_nonce terms.digits later) (chosen_state s (choice_for terms)).channel) told
unfolding pace after_selection
chosen_so w full s terms later told size selected at =
    let new = chosen_state s (choice_for terms) in
    let did = handled_so w full s SelectPace steps.Pace (select_pace terms) (after_selection terms.digits later) told (select_kind s terms) (select_size terms size) at in
    let none = none_asked (λ given. question_by kind_rules (known SelectPace full (unchained s) (select_pace terms) given)) [] did.asks did.asked (select_unasked full s terms size) in
    let goes = carried_with w full s new SelectPace (select_pace terms) (after_selection terms.digits later) told (status_alone (select_status full.fields terms.password)) [] [] did none
    (select_outcome full s terms size) (select_due full s terms size) (select_state full s terms size) refl in
    rw selected at goes

-- ---- the nonce

-- each of them is a byte
AllBytes : List ℕ → Type 0
AllBytes [] = Unit {0}
AllBytes (b ∷ bytes) = (b < 256) × AllBytes bytes

both_bytes : (a b : List ℕ) → AllBytes a → AllBytes b → AllBytes (a ++ b)
unfolding AllBytes
both_bytes [] b p q = q
both_bytes (x ∷ a) b p q = (p.0, both_bytes a b p.1 q)

word_bytes : (n : ℕ) → AllBytes (to_be_bytes w32 n)
unfolding AllBytes
word_bytes n = (omega arith, (omega arith, (omega arith, (omega arith, _))))

digest_are : (h : List ℕ) (n : ℕ) → AllBytes (digest_bytes h n)
unfolding AllBytes digest_bytes
digest_are h zero = _
digest_are h (suc n) = both_bytes (digest_bytes h n) (to_be_bytes w32 (slice_index h n)) (digest_are h n) (word_bytes (slice_index h n))

front_bytes : (n : ℕ) (bytes : List ℕ) → AllBytes bytes → (i : ℕ) → slice_index (take n bytes) i < 256
unfolding AllBytes
front_bytes zero bytes p i = omega arith
front_bytes (suc n) [] p i = omega arith
front_bytes (suc n) (b ∷ bytes) p zero = p.0
front_bytes (suc n) (b ∷ bytes) p (suc i) = front_bytes n bytes p.1 i

-- a nonce that was drawn: a block of 16 bytes
record IsNonce (answer : Answer) : Type 0 where
  nonce : List ℕ
  is : answer ≡ answers.Nonce nonce
  size : length nonce ≡ 16
  bytes : (i : ℕ) → slice_index nonce i < 256

sha_bytes : (message : List ℕ) → AllBytes (sha256 message)
unfolding sha256
sha_bytes message = digest_are (final_hash initial_hash_256 message) 8

nonce_given : (ask : Ask) → IsGiven ask → ask.question ≡ questions.Nonce → IsNonce ask.answer
unfolding random_block answer_with
nonce_given ask given is =
    let message : List ℕ = to_be_bytes w64 given.start ++ to_be_bytes w64 given.number in
    record {
      nonce = take 16 (sha256 message);
      is = given.by_model ∙ ap (answer_with (sha256 message)) is;
      size = length-take 16 (sha256 message) ∙ rw (length-sha256 message) refl;
      bytes = front_bytes 16 (sha256 message) (sha_bytes message);
    }

-- the nonce that the terminal decrypts is the one that the chip encrypted
decrypted_again : (digits nonce : List ℕ) → length nonce ≡ 16 → ((i : ℕ) → slice_index nonce i < 256) → decrypted_nonce digits (encrypted_nonce digits nonce) ≡ nonce
decrypted_again digits nonce size bytes =
    cbc_undone (password_key digits) (replicate 16 0) nonce (pair_of_bytes (password_key digits) (derived_bytes digits [] 3))
    (record { size = refl; bytes = zero_bytes 16 }) (record { size = omega (arith, size); bytes_each = bytes }) where
      zero_bytes : (n i : ℕ) → slice_index (replicate n 0) i < 256
      zero_bytes zero i = omega arith
      zero_bytes (suc n) zero = omega arith
      zero_bytes (suc n) (suc i) = zero_bytes n i

abbrev ask_of : Question → Answer → Ask
ask_of question answer = record { question = question; answer = answer }

-- PACE with this password may begin
record MayStart (kept : PlainRecord) (password : Password) (by_can : Bool) : Type 0 where
  active : (not (is_pin password) || kept.active) ≡ true
  try : (not (is_pin password) || has_try kept) ≡ true
  resumed : (not (is_pin password) || is_resumed kept by_can) ≡ true

may_start : (kept : PlainRecord) (password : Password) (by_can : Bool) → start_refusal kept password by_can ≡ None → MayStart kept password by_can
may_start kept Can by_can may = record { active = refl; try = refl; resumed = refl }
may_start kept Pin by_can may =
    let parts = three_hold kept.active (has_try kept) (is_resumed kept by_can) may in record { active = parts.0; try = parts.1; resumed = parts.2 }
may_start kept Puk by_can may = record { active = refl; try = refl; resumed = refl }

-- where the nonce was sent
abbrev pub nonce_state : State → PlainChoice → List ℕ → State
nonce_state s choice nonce = moved (Some MapNonce) (SentNonce (record { choice = choice; nonce = nonce })) NotBegun s

nonce_kind : (s : State) → s.next ≡ Some EncryptedNonce → IsOfKind (unchained s) get_nonce EncryptedNonce
nonce_kind s next = record { unchained = refl; named = rw next refl; passes = λ full given. refl }

empty_again : bytes_eq no_data bodies.no_data ≡ true
unfolding no_data bodies.no_data
empty_again = (bytes_eq-Decides no_data bodies.no_data).1 refl

empty_short : length no_data ≤ 2048
unfolding no_data
empty_short = omega (arith, object_fits 0x7C [])

nonce_next : (full : FullRecord) (s : State) (choice : PlainChoice) → s.phase ≡ Chose choice → MayStart full.fields choice.password (was_with is_can s.pace)
    → question_by kind_rules (known EncryptedNonce full (unchained s) get_nonce []) ≡ Some questions.Nonce
nonce_next full s choice phase may = rw (empty_again, phase, may.active, may.try, may.resumed) refl

nonce_done : (full : FullRecord) (s : State) (choice : PlainChoice) (nonce : List ℕ) → s.phase ≡ Chose choice → MayStart full.fields choice.password (was_with is_can s.pace)
    → question_by kind_rules (known EncryptedNonce full (unchained s) get_nonce (answers.Nonce nonce ∷ [])) ≡ None
nonce_done full s choice nonce phase may = rw (empty_again, phase, may.active, may.try, may.resumed) refl

nonce_outcome : (full : FullRecord) (s : State) (choice : PlainChoice) (nonce : List ℕ) → s.phase ≡ Chose choice → MayStart full.fields choice.password (was_with is_can s.pace)
    → outcome_at EncryptedNonce full (unchained s) get_nonce (record { question = questions.Nonce; answer = answers.Nonce nonce } ∷ [])
    ≡ record { rule = 0; reply = data_alone (bodies.authentication_data 0x80 (encrypted_nonce (digits_of full.fields choice.password) nonce)) }
nonce_outcome full s choice nonce phase may = rw (empty_again, phase, may.active, may.try, may.resumed) refl

nonce_due : (full : FullRecord) (s : State) (choice : PlainChoice) (nonce : List ℕ) → s.phase ≡ Chose choice → MayStart full.fields choice.password (was_with is_can s.pace)
    → due_then EncryptedNonce full (unchained s) get_nonce (record { question = questions.Nonce; answer = answers.Nonce nonce } ∷ []) ≡ []
nonce_due full s choice nonce phase may = rw (empty_again, phase, may.active, may.try, may.resumed) refl

nonce_left : (full : FullRecord) (s : State) (choice : PlainChoice) (nonce : List ℕ) → s.phase ≡ Chose choice
    → state_carried_out full.fields EncryptedNonce get_nonce (answers.Nonce nonce ∷ []) (unchained s) ≡ nonce_state (unchained s) choice nonce
unfolding entered claimed
nonce_left full s choice nonce phase = rw phase refl

-- the nonce is drawn, sent, and decrypted
pub record IsNonceSent (w : Way) (full : FullRecord) (s : State) (choice : PlainChoice) (later : Opened) (told : List Told) : Type 0 where
  pub nonce : List ℕ
  pub goes : AtCourse w full (nonce_state (unchained s) choice nonce) (with_nonce nonce later (nonce_state (unchained s) choice nonce).channel) told

pub nonce_so : (w : Way) (full : FullRecord) (s : State) (choice : PlainChoice) (digits : List ℕ) (later : Opened) (told : List Told)
    → s.next ≡ Some EncryptedNonce → s.phase ≡ Chose choice → start_refusal full.fields choice.password (was_with is_can s.pace) ≡ None → digits ≡ digits_of full.fields choice.password
    → AtCourse w full (unchained s) (exchange steps.Pace get_nonce (after_nonce digits later) s.channel) told → IsNonceSent w full s choice later told
unfolding after_nonce
nonce_so w full s choice digits later told next phase begins same at =
    let may = may_start full.fields choice.password (was_with is_can s.pace) begins in
    let did = handled_so w full s EncryptedNonce steps.Pace get_nonce (after_nonce digits later) told (nonce_kind s next) (record { short = empty_short; most = omega arith; class = refl }) at in
    let puts = λ (given : List Answer). question_by kind_rules (known EncryptedNonce full (unchained s) get_nonce given) in
    let first = first_ask puts [] did.asks questions.Nonce did.asked (nonce_next full s choice phase may) did.given in
    let drawn = nonce_given first.ask first.by first.same in
    let nothing = none_asked puts (answers.Nonce drawn.nonce ∷ []) first.later (subst (λ (a : Answer). AreAsked puts (a ∷ []) first.later) drawn.is first.asked) (nonce_done full s choice drawn.nonce phase may) in
    let those : did.asks ≡ record { question = questions.Nonce; answer = answers.Nonce drawn.nonce } ∷ [] =
    first.is ∙ ap (λ (l : List Ask). first.ask ∷ l) nothing ∙ ap (λ (a : Ask). a ∷ []) (ask_is first.ask questions.Nonce (answers.Nonce drawn.nonce) first.same drawn.is) in
    let new = nonce_state (unchained s) choice drawn.nonce in
    let encrypted = encrypted_nonce (digits_of full.fields choice.password) drawn.nonce in
    let goes = carried_with w full s new EncryptedNonce get_nonce (after_nonce digits later) told (data_alone (bodies.authentication_data 0x80 encrypted)) [] _ did those
    (nonce_outcome full s choice drawn.nonce phase may) (nonce_due full s choice drawn.nonce phase may) (nonce_left full s choice drawn.nonce phase) refl in
    let found : value_in 0x80 16 (data_alone (bodies.authentication_data 0x80 encrypted)) ≡ Some encrypted =
    value_found 0x80 16 encrypted refl (length-cbc_encrypted (password_key (digits_of full.fields choice.password)) (replicate 16 0) drawn.nonce (omega (arith, drawn.size)) ∙ drawn.size) (omega arith) in
    let again : decrypted_nonce digits encrypted ≡ drawn.nonce = ap (λ (d : List ℕ). decrypted_nonce d encrypted) same ∙ decrypted_again (digits_of full.fields choice.password) drawn.nonce drawn.size drawn.bytes in
    record {
      nonce = drawn.nonce;
      goes = subst (λ (n : List ℕ). AtCourse w full new (with_nonce n later new.channel) told) again
          (subst (λ (o : Option (List ℕ)). AtCourse w full new (or_stop steps.Pace 0x9000 (λ e. with_nonce (decrypted_nonce digits e) later new.channel) o) told) found goes);
    }

-- ---- points

-- both sides write the same data
same_data : (tag : ℕ) (value : List ℕ) → authentication_data tag value ≡ bodies.authentication_data tag value
unfolding authentication_data bodies.authentication_data
same_data tag value = refl

data_held : (tag : ℕ) (value : List ℕ) → tag < 256 → length value ≤ 100 → bodies.data_in (authentication_data tag value) ≡ value
data_held tag value low short = ap bodies.data_in (same_data tag value) ∙ data_written tag value low short

-- a point stands in the data that hold it
point_held : (tag : ℕ) (point : List ℕ) → tag < 256 → length point ≡ 65 → slice_index point 0 ≡ 4 → bodies.holds_point tag (authentication_data tag point) ≡ true
point_held tag point low size form =
    let body = authentication_data tag point in
    let value : bodies.holds_value tag 65 body ≡ true = (form_written tag 65 body low (omega arith)).1 (point, same_data tag point, size) in
    is_point tag body value (ap (λ (p : List ℕ). slice_index p 0) (data_held tag point low (omega (arith, size))) ∙ form)

pub point_short : (tag : ℕ) (value : List ℕ) → length value ≤ 100 → length (authentication_data tag value) ≤ 2048
unfolding authentication_data
point_short tag value short = omega (arith, object_fits 0x7C (object tag value), object_fits tag value)

-- a point is found in a reply
point_found : (tag : ℕ) (point : List ℕ) → is_tag tag ≡ true → length point ≡ 65 → slice_index point 0 ≡ 4 → point_in tag (data_alone (bodies.authentication_data tag point)) ≡ Some point
unfolding point_in bodies.authentication_data
point_found tag point tagged size form =
    ap (λ (h : Option (List ℕ)). h >>= (λ held. whole_object tag held >>= (λ v. cert.point_of v))) (held_found (object tag point) (omega (arith, object_fits tag point, size)))
    ∙ ap (λ (v : Option (List ℕ)). v >>= (λ x. cert.point_of x)) (whole_found tag point tagged (omega (arith, size)))
    ∙ rw (size, form) refl

apart_too : (a b : List ℕ) → bytes_eq a b ≡ false → bytes_eq b a ≡ false
apart_too a b apart = by (bytes_eq b a) refl where
  by : (x : Bool) → bytes_eq b a ≡ x → bytes_eq b a ≡ false
  by false is = is
  by true is = absurd (let same : bytes_eq a b ≡ true = (bytes_eq-Decides a b).1 (sym ((bytes_eq-Decides b a).0 is)) in cc)

-- ---- the base

-- where the nonce was mapped
abbrev pub base_state : State → PlainChoice → List ℕ → State
base_state s choice base = moved (Some PerformKeyAgreement) (HasBase (record { choice = choice; base = base })) NotBegun s

map_kind : (s : State) (point : List ℕ) → s.next ≡ Some MapNonce → IsOfKind (unchained s) (map_nonce point) MapNonce
map_kind s point next = record { unchained = refl; named = rw next refl; passes = λ full given. refl }

-- what a command of this step holds
pub record Holds (tag : ℕ) (point body : List ℕ) : Type 0 where
  pub formed : bodies.holds_point tag body ≡ true
  pub held : bodies.data_in body ≡ point

pub holds_it : (tag n : ℕ) → tag < 256 → Holds tag (point_of n) (authentication_data tag (point_of n))
holds_it tag n low = record {
  formed = point_held tag (point_of n) low (point_size n) (point_form n);
  held = data_held tag (point_of n) low (omega (arith, point_size n));
}

map_next : (full : FullRecord) (s : State) (sent : PlainNonceSent) (c : PlainCommand) (peer : List ℕ) → s.phase ≡ SentNonce sent → Holds 0x81 peer c.body
    → question_by kind_rules (known MapNonce full (unchained s) c []) ≡ Some (questions.Pair None)
map_next full s sent c peer phase holds = rw (holds.formed, phase) refl

map_then : (full : FullRecord) (s : State) (sent : PlainNonceSent) (c : PlainCommand) (peer secret public : List ℕ) → s.phase ≡ SentNonce sent → Holds 0x81 peer c.body
    → question_by kind_rules (known MapNonce full (unchained s) c (answers.Pair secret public ∷ [])) ≡ Some (questions.Map sent.nonce secret peer)
map_then full s sent c peer secret public phase holds = rw (holds.formed, phase) (ap (λ (p : List ℕ). Some (questions.Map sent.nonce secret p)) holds.held)

map_done : (full : FullRecord) (s : State) (sent : PlainNonceSent) (c : PlainCommand) (peer secret public base : List ℕ) → s.phase ≡ SentNonce sent → Holds 0x81 peer c.body
    → question_by kind_rules (known MapNonce full (unchained s) c (answers.Pair secret public ∷ answers.Mapped base ∷ [])) ≡ None
map_done full s sent c peer secret public base phase holds = rw (holds.formed, phase) refl

-- the asks of a step with a pair and one question more
abbrev pair_asks : Option (List ℕ) → (secret public : List ℕ) → Question → Answer → List Ask
pair_asks base secret public question answer =
    record { question = questions.Pair base; answer = answers.Pair secret public } ∷ record { question = question; answer = answer } ∷ []

map_outcome : (full : FullRecord) (s : State) (sent : PlainNonceSent) (c : PlainCommand) (peer secret public base : List ℕ) → s.phase ≡ SentNonce sent → Holds 0x81 peer c.body
    → outcome_at MapNonce full (unchained s) c (pair_asks None secret public (questions.Map sent.nonce secret peer) (answers.Mapped base)) ≡ record { rule = 0; reply = data_alone (bodies.authentication_data 0x82 public) }
map_outcome full s sent c peer secret public base phase holds = rw holds.formed refl

map_due : (full : FullRecord) (s : State) (sent : PlainNonceSent) (c : PlainCommand) (peer secret public base : List ℕ) → s.phase ≡ SentNonce sent → Holds 0x81 peer c.body
    → due_then MapNonce full (unchained s) c (pair_asks None secret public (questions.Map sent.nonce secret peer) (answers.Mapped base)) ≡ []
map_due full s sent c peer secret public base phase holds = rw holds.formed refl

map_left : (full : FullRecord) (s : State) (sent : PlainNonceSent) (c : PlainCommand) (secret public base : List ℕ) → s.phase ≡ SentNonce sent
    → state_carried_out full.fields MapNonce c (answers.Pair secret public ∷ answers.Mapped base ∷ []) (unchained s) ≡ base_state (unchained s) sent.choice base
unfolding entered claimed
map_left full s sent c secret public base phase = rw phase refl

-- a pair, and one question more, were all that the chip asked
record TwoAsks (asks : List Ask) (base : Option (List ℕ)) (number : ℕ) (question : Question) : Type 0 where
  ask : Ask
  given : IsGiven ask
  same : ask.question ≡ question
  those : asks ≡ record { question = questions.Pair base; answer = answers.Pair (secret_of number) (point_of (times number (base_number base))) } ∷ ask ∷ []

-- the pair that was drawn, with what was asked behind it
record PairFirst (next : List Answer → Option Question) (asks : List Ask) (base : Option (List ℕ)) : Type 0 where
  number : ℕ
  later : List Ask
  is : asks ≡ record { question = questions.Pair base; answer = answers.Pair (secret_of number) (point_of (times number (base_number base))) } ∷ later
  asked : AreAsked next (answers.Pair (secret_of number) (point_of (times number (base_number base))) ∷ []) later
  further : All IsGiven later

pair_first : (next : List Answer → Option Question) (asks : List Ask) (base : Option (List ℕ)) → AreAsked next [] asks → next [] ≡ Some (questions.Pair base) → All IsGiven asks → PairFirst next asks base
pair_first next asks base asked some all =
    let first = first_ask next [] asks (questions.Pair base) asked some all in
    let pair = pair_given first.ask base first.by first.same in
    record {
      number = pair.number;
      later = first.later;
      is = first.is ∙ ap (λ (a : Ask). a ∷ first.later) (ask_is first.ask _ _ first.same pair.is);
      asked = subst (λ (a : Answer). AreAsked next (a ∷ []) first.later) pair.is first.asked;
      further = first.further;
    }

-- the nonce is mapped to one base
pub record IsMapped (w : Way) (full : FullRecord) (s : State) (choice : PlainChoice) (later : Opened) (told : List Told) : Type 0 where
  pub base : List ℕ
  pub goes : AtCourse w full (base_state (unchained s) choice base) (course.with_base base later (base_state (unchained s) choice base).channel) told

-- the terminal hears the chip's point, and comes to the chip's base
base_heard : (w : Way) (full : FullRecord) (s new : State) (choice : PlainChoice) (nonce base : List ℕ) (a b : ℕ) (later : Opened) (told : List Told)
    → bytes_eq (point_of (times a generator)) (point_of (times b generator)) ≡ false
    → base ≡ point_of (plus (times (scalar nonce) generator) (times (scalar (secret_of b)) (point_number (point_of (times a generator)))))
    → AtCourse w full new (after_mapping nonce (secret_of a) (point_of (times a generator)) later new.channel (data_alone (bodies.authentication_data 0x82 (point_of (times b generator))))) told
    → AtCourse w full new (course.with_base base later new.channel) told
unfolding after_mapping
base_heard w full s new choice nonce base a b later told apart is at =
    let own = point_of (times a generator) in
    let peer = point_of (times b generator) in
    let on : AtCourse w full new (if bytes_eq peer own then Stops steps.Pace 0x9000 else Asks (questions.Map nonce (secret_of a) peer) (by_mapped steps.Pace 0x9000 (λ x. course.with_base x later new.channel))) told =
    subst (λ (o : Option (List ℕ)). AtCourse w full new (or_stop steps.Pace 0x9000 (λ p. if bytes_eq p own then Stops steps.Pace 0x9000
    else Asks (questions.Map nonce (secret_of a) p) (by_mapped steps.Pace 0x9000 (λ x. course.with_base x later new.channel))) o) told)
    (point_found 0x82 peer refl (point_size _) (point_form _)) at in
    let asks : AtCourse w full new (Asks (questions.Map nonce (secret_of a) peer) (by_mapped steps.Pace 0x9000 (λ x. course.with_base x later new.channel))) told =
    subst (λ (x : Bool). AtCourse w full new (if x then Stops steps.Pace 0x9000 else Asks (questions.Map nonce (secret_of a) peer) (by_mapped steps.Pace 0x9000 (λ y. course.with_base y later new.channel))) told) (apart_too own peer apart) on in
    let was = answered_so w full new (questions.Map nonce (secret_of a) peer) (by_mapped steps.Pace 0x9000 (λ x. course.with_base x later new.channel)) told asks in
    let found = map_given was.ask nonce (secret_of a) peer was.given was.same in
    subst (λ (x : List ℕ). AtCourse w full new (course.with_base x later new.channel) told) (one_base nonce a b ∙ sym is)
    (subst (λ (x : Answer). AtCourse w full new (by_mapped steps.Pace 0x9000 (λ y. course.with_base y later new.channel) x) told) found was.goes)

-- the command with the terminal's point is handled
mapped_by : (w : Way) (full : FullRecord) (s : State) (choice : PlainChoice) (nonce : List ℕ) (a : ℕ) (later : Opened) (told : List Told)
    → s.next ≡ Some MapNonce → s.phase ≡ SentNonce (record { choice = choice; nonce = nonce })
    → AtCourse w full (unchained s) (exchange steps.Pace (map_nonce (point_of (times a generator))) (after_mapping nonce (secret_of a) (point_of (times a generator)) later) s.channel) told
    → IsMapped w full s choice later told
mapped_by w full s choice nonce a later told next phase at =
    let own = point_of (times a generator) in
    let c = map_nonce own in
    let sent : PlainNonceSent = record { choice = choice; nonce = nonce } in
    let holds : Holds 0x81 own c.body = holds_it 0x81 (times a generator) (omega arith) in
    let did = handled_so w full s MapNonce steps.Pace c (after_mapping nonce (secret_of a) own later) told (map_kind s own next)
    (record { short = point_short 0x81 own (omega (arith, point_size (times a generator))); most = omega arith; class = refl }) at in
    let puts = λ (given : List Answer). question_by kind_rules (known MapNonce full (unchained s) c given) in
    let first = pair_first puts did.asks None did.asked (map_next full s sent c own phase holds) did.given in
    let secret = secret_of first.number in
    let public = point_of (times first.number generator) in
    let second = first_ask puts (answers.Pair secret public ∷ []) first.later (questions.Map nonce secret own) first.asked (map_then full s sent c own secret public phase holds) first.further in
    let found = map_given second.ask nonce secret own second.by second.same in
    let base = point_of (plus (times (scalar nonce) generator) (times (scalar secret) (point_number own))) in
    let nothing = none_asked puts (answers.Pair secret public ∷ answers.Mapped base ∷ []) second.later
    (subst (λ (x : Answer). AreAsked puts (answers.Pair secret public ∷ x ∷ []) second.later) found second.asked) (map_done full s sent c own secret public base phase holds) in
    let those : did.asks ≡ pair_asks None secret public (questions.Map nonce secret own) (answers.Mapped base) =
    first.is ∙ ap (λ (l : List Ask). ask_of (questions.Pair None) (answers.Pair secret public) ∷ l)
    (second.is ∙ ap (λ (l : List Ask). second.ask ∷ l) nothing ∙ ap (λ (x : Ask). x ∷ []) (ask_is second.ask _ _ second.same found)) in
    let new = base_state (unchained s) choice base in
    let goes = carried_with w full s new MapNonce c (after_mapping nonce (secret_of a) own later) told (data_alone (bodies.authentication_data 0x82 public)) [] _ did those
    (map_outcome full s sent c own secret public base phase holds) (map_due full s sent c own secret public base phase holds) (map_left full s sent c secret public base phase) refl in
    let apart : bytes_eq own public ≡ false = sym (ap (λ (p : List ℕ). bytes_eq p public) holds.held) ∙ subst (λ (l : List Ask). is_own_point (bodies.data_in c.body) (answers_of l) ≡ false) those did.apart in
    record { base = base; goes = base_heard w full s new choice nonce base a first.number later told apart refl goes }

pub mapped_so : (w : Way) (full : FullRecord) (s : State) (choice : PlainChoice) (nonce : List ℕ) (later : Opened) (told : List Told)
    → s.next ≡ Some MapNonce → s.phase ≡ SentNonce (record { choice = choice; nonce = nonce })
    → AtCourse w full (unchained s) (with_nonce nonce later s.channel) told → IsMapped w full s choice later told
unfolding with_nonce
mapped_so w full s choice nonce later told next phase at =
    let on = λ (secret point : List ℕ). exchange steps.Pace (map_nonce point) (after_mapping nonce secret point later) s.channel in
    let was = answered_so w full (unchained s) (questions.Pair None) (by_pair steps.Pace on) told at in
    let pair = pair_given was.ask None was.given was.same in
    mapped_by w full s choice nonce pair.number later told next phase (subst (λ (x : Answer). AtCourse w full (unchained s) (by_pair steps.Pace on x) told) pair.is was.goes)

-- ---- the secret

-- where the secret was agreed
abbrev pub secret_state : State → PlainAgreed → State
secret_state s agreed = moved (Some MutualAuthentication) (HasSecret agreed) NotBegun s

abbrev pub agreed_by : PlainChoice → (chip terminal shared : List ℕ) → PlainAgreed
agreed_by choice chip terminal shared = record { choice = choice; chip_point = chip; terminal_point = terminal; shared = shared }

agree_kind : (s : State) (point : List ℕ) → s.next ≡ Some PerformKeyAgreement → IsOfKind (unchained s) (agree point) PerformKeyAgreement
agree_kind s point next = record { unchained = refl; named = rw next refl; passes = λ full given. refl }

agree_next : (full : FullRecord) (s : State) (mapped : PlainMapped) (c : PlainCommand) (peer : List ℕ) → s.phase ≡ HasBase mapped → Holds 0x83 peer c.body
    → question_by kind_rules (known PerformKeyAgreement full (unchained s) c []) ≡ Some (questions.Pair (Some mapped.base))
agree_next full s mapped c peer phase holds = rw (holds.formed, phase) refl

agree_then : (full : FullRecord) (s : State) (mapped : PlainMapped) (c : PlainCommand) (peer secret public : List ℕ) → s.phase ≡ HasBase mapped → Holds 0x83 peer c.body → bytes_eq peer public ≡ false
    → question_by kind_rules (known PerformKeyAgreement full (unchained s) c (answers.Pair secret public ∷ [])) ≡ Some (questions.Agree secret peer)
agree_then full s mapped c peer secret public phase holds apart = rw (holds.formed, phase, holds.held, apart) refl

agree_done : (full : FullRecord) (s : State) (mapped : PlainMapped) (c : PlainCommand) (peer secret public shared : List ℕ) → s.phase ≡ HasBase mapped → Holds 0x83 peer c.body → bytes_eq peer public ≡ false
    → question_by kind_rules (known PerformKeyAgreement full (unchained s) c (answers.Pair secret public ∷ answers.Shared shared ∷ [])) ≡ None
agree_done full s mapped c peer secret public shared phase holds apart = rw (holds.formed, phase, holds.held, apart) refl

agree_outcome : (full : FullRecord) (s : State) (mapped : PlainMapped) (c : PlainCommand) (peer secret public shared : List ℕ) → s.phase ≡ HasBase mapped → Holds 0x83 peer c.body → bytes_eq peer public ≡ false
    → outcome_at PerformKeyAgreement full (unchained s) c (pair_asks (Some mapped.base) secret public (questions.Agree secret peer) (answers.Shared shared)) ≡ record { rule = 0; reply = data_alone (bodies.authentication_data 0x84 public) }
agree_outcome full s mapped c peer secret public shared phase holds apart = rw (holds.formed, holds.held, apart) refl

agree_due : (full : FullRecord) (s : State) (mapped : PlainMapped) (c : PlainCommand) (peer secret public shared : List ℕ) → s.phase ≡ HasBase mapped → Holds 0x83 peer c.body → bytes_eq peer public ≡ false
    → due_then PerformKeyAgreement full (unchained s) c (pair_asks (Some mapped.base) secret public (questions.Agree secret peer) (answers.Shared shared)) ≡ []
agree_due full s mapped c peer secret public shared phase holds apart = rw (holds.formed, holds.held, apart) refl

agree_left : (full : FullRecord) (s : State) (mapped : PlainMapped) (c : PlainCommand) (peer secret public shared : List ℕ) → s.phase ≡ HasBase mapped → Holds 0x83 peer c.body
    → state_carried_out full.fields PerformKeyAgreement c (answers.Pair secret public ∷ answers.Shared shared ∷ []) (unchained s) ≡ secret_state (unchained s) (agreed_by mapped.choice public peer shared)
unfolding entered claimed
agree_left full s mapped c peer secret public shared phase holds = rw (phase, holds.held) refl

-- both sides have one secret, and the terminal sends its token
pub record IsAgreed (w : Way) (full : FullRecord) (s : State) (choice : PlainChoice) (later : Opened) (told : List Told) : Type 0 where
  pub own : List ℕ
  pub peer : List ℕ
  pub shared : List ℕ
  pub goes : AtCourse w full (secret_state (unchained s) (agreed_by choice peer own shared))
      (exchange steps.Pace (authenticate (token_for shared peer)) (after_token shared own peer later) (secret_state (unchained s) (agreed_by choice peer own shared)).channel) told

secret_heard : (w : Way) (full : FullRecord) (s new : State) (a b base : ℕ) (shared : List ℕ) (later : Opened) (told : List Told)
    → bytes_eq (point_of (times a base)) (point_of (times b base)) ≡ false
    → shared ≡ x_half (point_of (times (scalar (secret_of b)) (point_number (point_of (times a base)))))
    → AtCourse w full new (after_agreement (secret_of a) (point_of (times a base)) later new.channel (data_alone (bodies.authentication_data 0x84 (point_of (times b base))))) told
    → AtCourse w full new (exchange steps.Pace (authenticate (token_for shared (point_of (times b base)))) (after_token shared (point_of (times a base)) (point_of (times b base)) later) new.channel) told
unfolding after_agreement
secret_heard w full s new a b base shared later told apart is at =
    let own = point_of (times a base) in
    let peer = point_of (times b base) in
    let goes = λ (p x : List ℕ). exchange steps.Pace (authenticate (token_for x p)) (after_token x own p later) new.channel in
    let on : AtCourse w full new (if bytes_eq peer own then Stops steps.Pace 0x9000 else Asks (questions.Agree (secret_of a) peer) (by_shared steps.Pace 0x9000 (goes peer))) told =
    subst (λ (o : Option (List ℕ)). AtCourse w full new (or_stop steps.Pace 0x9000 (λ p. if bytes_eq p own then Stops steps.Pace 0x9000
    else Asks (questions.Agree (secret_of a) p) (by_shared steps.Pace 0x9000 (goes p))) o) told)
    (point_found 0x84 peer refl (point_size _) (point_form _)) at in
    let asks : AtCourse w full new (Asks (questions.Agree (secret_of a) peer) (by_shared steps.Pace 0x9000 (goes peer))) told =
    subst (λ (x : Bool). AtCourse w full new (if x then Stops steps.Pace 0x9000 else Asks (questions.Agree (secret_of a) peer) (by_shared steps.Pace 0x9000 (goes peer))) told) (apart_too own peer apart) on in
    let was = answered_so w full new (questions.Agree (secret_of a) peer) (by_shared steps.Pace 0x9000 (goes peer)) told asks in
    let found = agree_given was.ask (secret_of a) peer was.given was.same in
    subst (λ (x : List ℕ). AtCourse w full new (goes peer x) told) (one_secret a b base ∙ sym is)
    (subst (λ (x : Answer). AtCourse w full new (by_shared steps.Pace 0x9000 (goes peer) x) told) found was.goes)

agreed_with : (w : Way) (full : FullRecord) (s : State) (choice : PlainChoice) (base : List ℕ) (a : ℕ) (later : Opened) (told : List Told)
    → s.next ≡ Some PerformKeyAgreement → s.phase ≡ HasBase (record { choice = choice; base = base })
    → AtCourse w full (unchained s) (exchange steps.Pace (agree (point_of (times a (base_number (Some base))))) (after_agreement (secret_of a) (point_of (times a (base_number (Some base)))) later) s.channel) told
    → IsAgreed w full s choice later told
agreed_with w full s choice base a later told next phase at =
    let g = base_number (Some base) in
    let own = point_of (times a g) in
    let c = agree own in
    let mapped : PlainMapped = record { choice = choice; base = base } in
    let holds : Holds 0x83 own c.body = holds_it 0x83 (times a g) (omega arith) in
    let did = handled_so w full s PerformKeyAgreement steps.Pace c (after_agreement (secret_of a) own later) told (agree_kind s own next)
    (record { short = point_short 0x83 own (omega (arith, point_size (times a g))); most = omega arith; class = refl }) at in
    let puts = λ (given : List Answer). question_by kind_rules (known PerformKeyAgreement full (unchained s) c given) in
    let first = pair_first puts did.asks (Some base) did.asked (agree_next full s mapped c own phase holds) did.given in
    let secret = secret_of first.number in
    let public = point_of (times first.number g) in
    let apart : bytes_eq own public ≡ false = sym (ap (λ (p : List ℕ). bytes_eq p public) holds.held) ∙ subst (λ (l : List Ask). is_own_point (bodies.data_in c.body) (answers_of l) ≡ false) first.is did.apart in
    let second = first_ask puts (answers.Pair secret public ∷ []) first.later (questions.Agree secret own) first.asked (agree_then full s mapped c own secret public phase holds apart) first.further in
    let found = agree_given second.ask secret own second.by second.same in
    let shared = x_half (point_of (times (scalar secret) (point_number own))) in
    let nothing = none_asked puts (answers.Pair secret public ∷ answers.Shared shared ∷ []) second.later
    (subst (λ (x : Answer). AreAsked puts (answers.Pair secret public ∷ x ∷ []) second.later) found second.asked) (agree_done full s mapped c own secret public shared phase holds apart) in
    let those : did.asks ≡ pair_asks (Some base) secret public (questions.Agree secret own) (answers.Shared shared) =
    first.is ∙ ap (λ (l : List Ask). ask_of (questions.Pair (Some base)) (answers.Pair secret public) ∷ l)
    (second.is ∙ ap (λ (l : List Ask). second.ask ∷ l) nothing ∙ ap (λ (x : Ask). x ∷ []) (ask_is second.ask _ _ second.same found)) in
    let new = secret_state (unchained s) (agreed_by choice public own shared) in
    let goes = carried_with w full s new PerformKeyAgreement c (after_agreement (secret_of a) own later) told (data_alone (bodies.authentication_data 0x84 public)) [] _ did those
    (agree_outcome full s mapped c own secret public shared phase holds apart) (agree_due full s mapped c own secret public shared phase holds apart) (agree_left full s mapped c own secret public shared phase holds) refl in
    record { own = own; peer = public; shared = shared; goes = secret_heard w full s new a first.number g shared later told apart refl goes }

pub agreed_so : (w : Way) (full : FullRecord) (s : State) (choice : PlainChoice) (base : List ℕ) (later : Opened) (told : List Told)
    → s.next ≡ Some PerformKeyAgreement → s.phase ≡ HasBase (record { choice = choice; base = base })
    → AtCourse w full (unchained s) (course.with_base base later s.channel) told → IsAgreed w full s choice later told
unfolding course.with_base
agreed_so w full s choice base later told next phase at =
    let on = λ (secret point : List ℕ). exchange steps.Pace (agree point) (after_agreement secret point later) s.channel in
    let was = answered_so w full (unchained s) (questions.Pair (Some base)) (by_pair steps.Pace on) told at in
    let pair = pair_given was.ask (Some base) was.given was.same in
    agreed_with w full s choice base pair.number later told next phase (subst (λ (x : Answer). AtCourse w full (unchained s) (by_pair steps.Pace on x) told) pair.is was.goes)

-- ---- the tokens

-- the chip's trust points have names that its last reply can hold
pub record HasNames (kept : PlainRecord) : Type 0 where
  pub current : is_between 1 16 (length kept.current.name) ≡ true
  pub previous : IfSome kept.previous (λ point. is_between 1 16 (length point.name) ≡ true)

-- what a PACE commits: with the PIN a try is spent, and all are given back
abbrev pub pace_effects : Password → List PlainEffect
pace_effects password = token_effects (is_pin password) true

-- the state behind it
abbrev pub paced_state : State → PlainAgreed → State
paced_state s agreed = record (without_run s) {
  pace = Some (memory_of (done_by agreed));
  certificates = no_chain;
  terminal = None;
  chip_proven = false;
  channel = Some (channel_after 0 (keys_of (done_by agreed)));
}

token_kind : (s : State) (token : List ℕ) → s.next ≡ Some MutualAuthentication → IsOfKind (unchained s) (authenticate token) MutualAuthentication
token_kind s token next = record { unchained = refl; named = rw next refl; passes = λ full given. refl }

-- the terminal's token stands in its command
pub record HoldsToken (agreed : PlainAgreed) (body : List ℕ) : Type 0 where
  formed : bodies.holds_value 0x85 8 body ≡ true
  right : bytes_eq (bodies.data_in body) (terminal_token agreed) ≡ true

token_held : (choice : PlainChoice) (peer own shared : List ℕ) → choice.protocol ≡ EcdhGmAes128 → HoldsToken (agreed_by choice peer own shared) (authentication_data 0x85 (token_for shared peer))
token_held choice peer own shared is =
    let token = token_for shared peer in
    let size : length token ≡ 8 = length-mac8 _ _ in
    record {
      formed = (form_written 0x85 8 (authentication_data 0x85 token) (omega arith) (omega arith)).1 (token, same_data 0x85 token, size);
      right = (bytes_eq-Decides _ _).1 (data_held 0x85 token (omega arith) (omega (arith, size)) ∙ rw is refl);
    }

token_unasked : (full : FullRecord) (s : State) (c : PlainCommand) (agreed : PlainAgreed) → HoldsToken agreed c.body → question_by kind_rules (known MutualAuthentication full (unchained s) c []) ≡ None
token_unasked full s c agreed holds = rw holds.formed refl

-- there is room for what is committed
token_room : (full : FullRecord) (pin : Bool) → full.fields.number ≤ LAST_NUMBER → (are_none (token_effects pin true) || nat_le full.fields.number LAST_NUMBER) ≡ true
token_room full true fits = grind (arith, nat_tests)
token_room full false fits = refl

token_outcome : (full : FullRecord) (s : State) (c : PlainCommand) (agreed : PlainAgreed) (pin : Bool) → s.phase ≡ HasSecret agreed → HoldsToken agreed c.body → is_pin agreed.choice.password ≡ pin → full.fields.number ≤ LAST_NUMBER
    → outcome_at MutualAuthentication full (unchained s) c [] ≡ record { rule = 0; reply = data_alone (last_data full (chip_token agreed)) }
token_outcome full s c agreed true phase holds pin fits = let room = token_room full true fits in rw (holds.formed, phase, holds.right, pin, room) refl
token_outcome full s c agreed false phase holds pin fits = rw (holds.formed, phase, holds.right, pin) refl

token_due : (full : FullRecord) (s : State) (c : PlainCommand) (agreed : PlainAgreed) (pin : Bool) → s.phase ≡ HasSecret agreed → HoldsToken agreed c.body → is_pin agreed.choice.password ≡ pin → full.fields.number ≤ LAST_NUMBER
    → due_then MutualAuthentication full (unchained s) c [] ≡ token_effects pin true
token_due full s c agreed true phase holds pin fits = let room = token_room full true fits in rw (holds.formed, phase, holds.right, pin, room) refl
token_due full s c agreed false phase holds pin fits = rw (holds.formed, phase, holds.right, pin) refl

token_left : (full : FullRecord) (s : State) (c : PlainCommand) (agreed : PlainAgreed) → s.phase ≡ HasSecret agreed
    → state_carried_out full.fields MutualAuthentication c [] (unchained s) ≡ paced_state (unchained s) agreed
unfolding entered claimed
token_left full s c agreed phase = rw phase refl

name_small : (name : List ℕ) → is_between 1 16 (length name) ≡ true → length name ≤ 16
name_small name some = grind (arith, nat_tests, and_parts (nat_le 1 (length name)) (nat_le (length name) 16) some)

name_short : (name : List ℕ) → is_between 1 16 (length name) ≡ true → length name ≤ 65535
name_short name some = omega (arith, name_small name some)

object_some : (tag : ℕ) (value : List ℕ) → 1 ≤ length (object tag value)
object_some tag value = omega (arith, object_size tag value, some_length (length value))

-- the bytes are one name under this tag
name_ends : (name bytes : List ℕ) → is_between 1 16 (length name) ≡ true → bytes ≡ object 0x88 name → ends_names bytes ≡ true
unfolding ends_names reference_in
name_ends name [] some is = absurd (never (ap length is)) where
  never : 0 ≡ length (object 0x88 name) → ⊥
  never none = omega (arith, object_some 0x88 name)
name_ends name (first ∷ rest) some is =
    rw (is, front_of_last 0x88 name refl (name_short name some), some) refl

names_end : (previous : Option PlainTrustPoint) → IfSome previous (λ point. is_between 1 16 (length point.name) ≡ true) → ends_names (previous_name previous) ≡ true
unfolding ends_names
names_end None some = refl
names_end (Some point) some = name_ends point.name (object 0x88 point.name) some refl

previous_short : (previous : Option PlainTrustPoint) → IfSome previous (λ point. is_between 1 16 (length point.name) ≡ true) → length (previous_name previous) ≤ 21
previous_short None some = omega arith
previous_short (Some point) some = omega (arith, object_fits 0x88 point.name, name_small point.name some)

token_bound : (kept : FullRecord) (own : List ℕ) → token_in (data_alone (last_data kept own))
    ≡ (data_objects_in (data_alone (object 0x7C (object 0x86 own ++ (object 0x87 kept.fields.current.name ++ previous_name kept.fields.previous)))) >>= (λ (h : List ℕ). front_in 0x86 h >>= (λ (token : PlainFront). reference_in 0x87 token.rest
    >>= (λ (name : PlainFront). if ends_names name.rest then sized 8 token.value else None))))
unfolding token_in
token_bound kept own =
    ap (λ (held : List ℕ). data_objects_in (data_alone (object 0x7C held)) >>= (λ (h : List ℕ). front_in 0x86 h >>= (λ (token : PlainFront). reference_in 0x87 token.rest
    >>= (λ (name : PlainFront). if ends_names name.rest then sized 8 token.value else None)))) (append_assoc (object 0x86 own) (object 0x87 kept.fields.current.name) (previous_name kept.fields.previous))

-- the terminal finds the chip's token
token_found : (kept : FullRecord) (own : List ℕ) → length own ≡ 8 → HasNames kept.fields → token_in (data_alone (last_data kept own)) ≡ Some own
unfolding reference_in
token_found kept own size names =
    let name = kept.fields.current.name in
    let behind = object 0x87 name ++ previous_name kept.fields.previous in
    let held = object 0x86 own ++ behind in
    let short : length held ≤ 65535 =
    omega (
      arith,
      length-append (object 0x86 own) behind,
      length-append (object 0x87 name) (previous_name kept.fields.previous),
      object_fits 0x86 own,
      object_fits 0x87 name,
      size,
      name_small name names.current,
      previous_short kept.fields.previous names.previous,
    ) in
    let third = λ (token name : PlainFront). if ends_names name.rest then sized 8 token.value else None in
    let second = λ (token : PlainFront). reference_in 0x87 token.rest >>= third token in
    let first = λ (h : List ℕ). front_in 0x86 h >>= second in
    let named : reference_in 0x87 behind ≡ Some (record { value = name; rest = previous_name kept.fields.previous }) =
    rw (front_of_object 0x87 name (previous_name kept.fields.previous) refl (name_short name names.current), names.current) refl in
    token_bound kept own
    ∙ ap (λ (h : Option (List ℕ)). h >>= first) (held_found held short)
    ∙ ap (λ (f : Option PlainFront). f >>= second) (front_of_object 0x86 own behind refl (omega (arith, size)))
    ∙ ap (λ (f : Option PlainFront). f >>= third (record { value = own; rest = behind })) named
    ∙ rw (names_end kept.fields.previous names.previous, size) refl

-- Behind a PACE: the terminal stands in its channel, and knows the chip's identity.
pub record IsOpened (w : Way) (full : FullRecord) (s : State) (choice : PlainChoice) (later : Opened) (told : List Told) : Type 0 where
  pub t : State
  pub identity : List ℕ
  pub is : IsPaced t (record { password = choice.password; template = choice.template; identity = identity })
  pub selected : t.selected ≡ s.selected
  pub rest : List Told
  pub same : told ≡ Passed steps.Pace ∷ rest
  pub goes : AtCourse w (all_committed (pace_effects choice.password) full) (unchained t) (later t.channel identity) rest

token_heard : (w : Way) (full kept : FullRecord) (new : State) (choice : PlainChoice) (own peer shared : List ℕ) (later : Opened) (told : List Told) (ch : Option ChannelState) → choice.protocol ≡ EcdhGmAes128 → HasNames full.fields
    → AtCourse w kept new (after_token shared own peer later ch (data_alone (last_data full (chip_token (agreed_by choice peer own shared))))) told
    → AtCourse w kept new (Passes steps.Pace (later (channel_under (enc_key shared) (mac_key shared)) (identity_of peer))) told
unfolding after_token
token_heard w full kept new choice own peer shared later told ch is names at =
    let found = chip_token (agreed_by choice peer own shared) in
    let token : token_in (data_alone (last_data full found)) ≡ Some found = token_found full found (length-mac8 _ _) names in
    let same : bytes_eq found (token_for shared own) ≡ true = (bytes_eq-Decides found (token_for shared own)).1 (rw is refl) in
    let on = λ (x : List ℕ). if bytes_eq x (token_for shared own) then Passes steps.Pace (later (channel_under (enc_key shared) (mac_key shared)) (identity_of peer)) else Stops steps.Pace 0x9000 in
    let chosen : AtCourse w kept new (on found) told = subst (λ (o : Option (List ℕ)). AtCourse w kept new (or_stop steps.Pace 0x9000 on o) told) token at in
    subst (λ (x : Bool). AtCourse w kept new (if x then Passes steps.Pace (later (channel_under (enc_key shared) (mac_key shared)) (identity_of peer)) else Stops steps.Pace 0x9000) told) same chosen

opened_so : (w : Way) (full : FullRecord) (s : State) (choice : PlainChoice) (own peer shared : List ℕ) (later : Opened) (told : List Told)
    → choice.protocol ≡ EcdhGmAes128 → s.next ≡ Some MutualAuthentication → s.phase ≡ HasSecret (agreed_by choice peer own shared) → HasNames full.fields → full.fields.number ≤ LAST_NUMBER
    → AtCourse w full (unchained s) (exchange steps.Pace (authenticate (token_for shared peer)) (after_token shared own peer later) s.channel) told → IsOpened w full s choice later told
opened_so w full s choice own peer shared later told is next phase names fits at =
    let agreed = agreed_by choice peer own shared in
    let c = authenticate (token_for shared peer) in
    let holds : HoldsToken agreed c.body = token_held choice peer own shared is in
    let short : length (token_for shared peer) ≡ 8 = length-mac8 _ _ in
    let did = handled_so w full s MutualAuthentication steps.Pace c (after_token shared own peer later) told (token_kind s (token_for shared peer) next)
    (record { short = point_short 0x85 (token_for shared peer) (omega (arith, short)); most = omega arith; class = refl }) at in
    let nothing = none_asked (λ given. question_by kind_rules (known MutualAuthentication full (unchained s) c given)) [] did.asks did.asked (token_unasked full s c agreed holds) in
    let new = paced_state (unchained s) agreed in
    let goes = carried_out w full s new MutualAuthentication c (after_token shared own peer later) told (data_alone (last_data full (chip_token agreed))) (pace_effects choice.password) did
    (ap (outcome_at MutualAuthentication full (unchained s) c) nothing ∙ token_outcome full s c agreed (is_pin choice.password) phase holds refl fits)
    (ap (due_then MutualAuthentication full (unchained s) c) nothing ∙ token_due full s c agreed (is_pin choice.password) phase holds refl fits)
    (ap (λ (l : List Ask). state_carried_out full.fields MutualAuthentication c (answers_of l) (unchained s)) nothing ∙ token_left full s c agreed phase) in
    let on = token_heard w full (all_committed (pace_effects choice.password) full) new choice own peer shared later told (counted (counted s.channel)) is names goes in
    let told_so = passed_so w (all_committed (pace_effects choice.password) full) new steps.Pace (later (channel_under (enc_key shared) (mac_key shared)) (identity_of peer)) told on in
    record {
      t = new;
      identity = identity_of peer;
      is = record { pace = refl; certificates = refl; terminal = refl; chip = refl };
      selected = refl;
      rest = told_so.rest;
      same = told_so.same;
      goes = told_so.goes;
    }

-- A PACE with a password with which it may begin, and whose digits are those of the record, succeeds.
pub paced : (w : Way) (full : FullRecord) (s : State) (terms : PlainTerms) (later : Opened) (told : List Told) → IsWhole terms.template
    → start_refusal full.fields terms.password (was_with is_can s.pace) ≡ None → terms.digits ≡ digits_of full.fields terms.password → HasNames full.fields → full.fields.number ≤ LAST_NUMBER
    → AtCourse w full (unchained s) (pace terms later s.channel) told → IsOpened w full s (choice_for terms) later told
paced w full s terms later told size begins same names fits at =
    let choice = choice_for terms in
    let first = chosen_so w full s terms later told size (selectable full.fields terms.password (was_with is_can s.pace) begins) at in
    let s1 = chosen_state s choice in
    let second = nonce_so w full s1 choice terms.digits later told refl refl begins same first in
    let s2 = nonce_state (unchained s1) choice second.nonce in
    let third = mapped_so w full s2 choice second.nonce later told refl refl second.goes in
    let s3 = base_state (unchained s2) choice third.base in
    let fourth = agreed_so w full s3 choice third.base later told refl refl third.goes in
    let s4 = secret_state (unchained s3) (agreed_by choice fourth.peer fourth.own fourth.shared) in
    let fifth = opened_so w full s4 choice fourth.own fourth.peer fourth.shared later told refl refl refl names fits fourth.goes in
    record { t = fifth.t; identity = fifth.identity; is = fifth.is; selected = fifth.selected; rest = fifth.rest; same = fifth.same; goes = fifth.goes }
