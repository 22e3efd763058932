-- The books of a journal with one moment more, and what cells may hold then.
use Rattle.std.proofs.Common.{◌≡◌, ℕ, ◌+◌, Bool, true, false, List, [], ◌∷◌, length, take, drop, Option, Some, None, refl, sym, ap, ◌∙◌, subst, arith, inl, inr}
use Rattle.std.specs.Prelude.{IfSome, IsSomeAnd, ◌==◌, ◌&&◌, ◌||◌, ◌++◌, ◌≤◌, not, nat_le, nat_lt, is_some, is_none, unwrap_or, if◌then◌else◌}
use Rattle.std.proofs.lemmas.Bool.Decides.{nat_tests}
use Rattle.std.proofs.lemmas.List.{take_all}
use Rattle.eid_apdu.specs.Command.{PlainCommand}
use Rattle.eid_apdu.specs.Answer.{PlainReply}
use Rattle.eid_bits.specs.Date.{number_of}
use Rattle.eid_bits.specs.Rights.{role_of}
use Rattle.eid_cvc.specs.Certificates.{PlainCertificate}
use Rattle.eid_cvc.specs.CertificateIn.{certificate_in}
use Rattle.eid_cvc.specs.Chains.{PlainChain}
use Rattle.eid_trust.specs.Trust.{later_date, moves_date, moves_point, tells_date}
use Rattle.eid_record.specs.Plain.{FullRecord, PlainRecord, PlainTrustPoint, PlainEffect, Advance}
use Rattle.eid_record.specs.Effect.{committed}
use Rattle.eid_model.specs.Moments.{Event, PoweredOn, PoweredOff, Received, PlainMoment, on}
use Rattle.eid_model.specs.Runs.{answers_of}
use Rattle.eid_model.specs.Sessions.{State}
use Rattle.eid_model.specs.declared.kind.Kind.{Kind}
use Rattle.eid_model.specs.declared.kind.Kind.TheVariants.{SelectApplication, SelectMasterFile, SelectFile, ReadBinary, UpdateBinary, SelectPace, SelectPublicKey, VerifyCertificate, AnnounceTerminal, GetChallenge, ExternalAuthenticate, SelectChipAuthentication, SelectRestrictedIdentification, EncryptedNonce, MapNonce, PerformKeyAgreement, MutualAuthentication, AuthenticateChip, PerformRestrictedIdentification, VerifyAuxiliary, ChangePin, UnblockPin, ChangeCan, ActivatePin, DeactivatePin, NoProtocol, NoStep}
use Rattle.eid_model.specs.Rules.{Incoming, NoCommand, MissingObjects, WrongObjects, OfCommand, Situation, RuleRow, plain_of, answer_rules, commit_rules, first_failed, proves_pin, is_token, token_effects, one_effect, to_advance, to_commit, to_write, file_meant, offset_meant, bytes_of_file, concerns}
use Rattle.eid_model.specs.Answers.{due, due_by, situation, rules_before}
use Rattle.eid_model.specs.Bodies.{data_in}
use Rattle.eid_model.specs.Legal.{silent}
use Rattle.eid_model.specs.Ledger.{Books, account, books, state_of, books_more, books_found, books_handled, due_at, first_of, ledger, pending, kept, record_after, onto, all_committed, MayHold, MayFind}
use Rattle.eid_model.proofs.Compared.{each_holds, rules_unproved}
use Rattle.eid_model.proofs.Ledgers.{IsEntered, AreEntered, record_more, record_onto, take_entered, drop_entered}

-- ---- what is due

token_entered : (kept : FullRecord) (pin right : Bool) → AreEntered kept (token_effects pin right)
token_entered kept true true = (tt, (tt, tt))
token_entered kept true false = (tt, tt)
token_entered kept false right = tt

if_alike : {A : Type 0} (b : Bool) (x : A) → (if b then x else x) ≡ x
if_alike true x = refl
if_alike false x = refl

-- an accepted certificate moves the date to no earlier one
date_entered : (tells later : Bool) (kept : PlainRecord) (effective : List ℕ) → nat_lt (number_of kept.date) (number_of effective) ≡ later
    → later_date kept.date (if tells && later then effective else kept.date) ≡ (if tells && later then effective else kept.date)
date_entered true true kept effective is = rw is refl
date_entered true false kept effective is = if_alike (nat_lt (number_of kept.date) (number_of kept.date)) kept.date
date_entered false later kept effective is = if_alike (nat_lt (number_of kept.date) (number_of kept.date)) kept.date

one_entered : (b : Bool) (kept : FullRecord) (date : List ℕ) (current : PlainTrustPoint) (previous : Option PlainTrustPoint) → later_date kept.fields.date date ≡ date
    → AreEntered kept (one_effect (if b then Some (Advance date current previous) else None))
one_entered true kept date current previous is = (is, tt)
one_entered false kept date current previous is = tt

advance_entered : (kept : FullRecord) (chain : PlainChain) (o : Option PlainCertificate) → AreEntered kept (to_advance kept.fields chain o)
advance_entered kept chain None = tt
advance_entered kept chain (Some certificate) =
    let c = certificate.body in
    one_entered (moves_date kept.fields chain c || moves_point kept.fields c) kept _ _ _
    (date_entered (tells_date (role_of c.template) chain) (nat_lt (number_of kept.fields.date) (number_of c.effective)) kept.fields c.effective refl)

-- what is written lies within its file
within : (o : Option (List ℕ)) (offset size : ℕ) → is_some o ≡ true → nat_le (offset + size) (length (unwrap_or o [])) ≡ true
    → IsSomeAnd o (λ (b : List ℕ). offset + size ≤ length b)
within None offset size some fits = absurd (cc)
within (Some b) offset size some fits = grind (arith, nat_tests)

write_entered : (kept : FullRecord) (file : Option ℕ) (offset : ℕ) (bytes : List ℕ) → is_some (bytes_of_file kept file) ≡ true
    → nat_le (offset + length bytes) (length (unwrap_or (bytes_of_file kept file) [])) ≡ true → AreEntered kept (to_write file offset bytes)
write_entered kept None offset bytes some fits = tt
write_entered kept (Some file) offset bytes some fits = (within (bytes_of_file kept (Some file)) offset (length bytes) some fits, tt)

held_at : (concerned holds : Bool) → concerned ≡ true → (concerned && not holds) ≡ false → holds ≡ true
held_at true true c e = refl
held_at true false c e = absurd (cc)
held_at false holds c e = absurd (cc)

-- where nothing failed, the file is present and what is written ends in it: those are the rules 37 and 39
update_entered : (s : Situation) → s.kind ≡ Some UpdateBinary → first_failed rules_unproved s ≡ None
    → AreEntered s.kept (to_write (file_meant s) (offset_meant s.command) s.command.body)
update_entered s kind none =
    write_entered s.kept (file_meant s) (offset_meant s.command) s.command.body
    (held_at (concerns (ReadBinary ∷ UpdateBinary ∷ []) s.kind) _ (ap (concerns (ReadBinary ∷ UpdateBinary ∷ [])) kind) (each_holds 34 rules_unproved s none))
    (held_at (concerns (UpdateBinary ∷ []) s.kind) _ (ap (concerns (UpdateBinary ∷ [])) kind) (each_holds 36 rules_unproved s none))

-- what the kinds commit is entered
kind_entered : (kind : Option Kind) (s : Situation) → (kind ≡ Some UpdateBinary → AreEntered s.kept (to_commit (Some UpdateBinary) s))
    → AreEntered s.kept (to_commit kind s)
kind_entered None s update = tt
kind_entered (Some SelectApplication) s update = tt
kind_entered (Some SelectMasterFile) s update = tt
kind_entered (Some SelectFile) s update = tt
kind_entered (Some ReadBinary) s update = tt
kind_entered (Some UpdateBinary) s update = update refl
kind_entered (Some SelectPace) s update = tt
kind_entered (Some SelectPublicKey) s update = tt
kind_entered (Some VerifyCertificate) s update = advance_entered s.kept s.state.certificates (certificate_in s.command.body)
kind_entered (Some AnnounceTerminal) s update = tt
kind_entered (Some GetChallenge) s update = tt
kind_entered (Some ExternalAuthenticate) s update = tt
kind_entered (Some SelectChipAuthentication) s update = tt
kind_entered (Some SelectRestrictedIdentification) s update = tt
kind_entered (Some EncryptedNonce) s update = tt
kind_entered (Some MapNonce) s update = tt
kind_entered (Some PerformKeyAgreement) s update = tt
kind_entered (Some MutualAuthentication) s update =
    token_entered s.kept (proves_pin s.state.phase) (is_token (data_in s.command.body) s.state.phase)
kind_entered (Some AuthenticateChip) s update = tt
kind_entered (Some PerformRestrictedIdentification) s update = tt
kind_entered (Some VerifyAuxiliary) s update = tt
kind_entered (Some ChangePin) s update = (tt, tt)
kind_entered (Some UnblockPin) s update = (tt, tt)
kind_entered (Some ChangeCan) s update = (tt, tt)
kind_entered (Some ActivatePin) s update = (tt, tt)
kind_entered (Some DeactivatePin) s update = (tt, tt)
kind_entered (Some NoProtocol) s update = tt
kind_entered (Some NoStep) s update = tt

pub due_entered : (s : Situation) → AreEntered s.kept (due s)
unfolding due
due_entered s = by (first_failed rules_unproved s) refl where
  by : (o : Option RuleRow) → first_failed rules_unproved s ≡ o → AreEntered s.kept (if is_none o then to_commit s.kind s else [])
  by None none = kind_entered s.kind s (λ kind. update_entered s kind none)
  by (Some row) failed = tt

if_same : {A : Type 0} (b : Bool) (x y : A) → x ≡ y → (if b then x else y) ≡ y
if_same true x y e = e
if_same false x y e = refl

-- nothing is due of a kind that commits nothing
pub nothing_due_by : (rows : List RuleRow) (s : Situation) → to_commit s.kind s ≡ [] → due_by rows s ≡ []
nothing_due_by rows s none = if_same (is_none (first_failed (rows ++ answer_rules ++ commit_rules) s)) (to_commit s.kind s) [] none

pub nothing_due : (s : Situation) → to_commit s.kind s ≡ [] → due s ≡ []
unfolding due
nothing_due s none = nothing_due_by rules_before s none

-- what is no command has no effects due
pub due_incoming : (full : FullRecord) (state : State) (incoming : Incoming) (m : PlainMoment) → m.plain ≡ plain_of incoming
    → due_at full state m.plain m ≡ due (situation full state incoming (answers_of m.asks))
due_incoming full state NoCommand m is = rw is (sym (nothing_due _ refl))
due_incoming full state MissingObjects m is = rw is (sym (nothing_due _ refl))
due_incoming full state WrongObjects m is = rw is (sym (nothing_due _ refl))
due_incoming full state (OfCommand c) m is = rw is refl

at_entered : (full : FullRecord) (state : State) (c : Option PlainCommand) (m : PlainMoment) → AreEntered full (due_at full state c m)
at_entered full state None m = tt
at_entered full state (Some c) m = due_entered _

first_entered : (kept : FullRecord) (effects : List PlainEffect) → AreEntered kept effects → IfSome (first_of effects) (IsEntered kept)
first_entered kept [] are = tt
first_entered kept (effect ∷ later) are = are.0

-- ---- what is pending

-- what is pending may be committed to the record kept
abbrev PendsEntered : FullRecord → Books → Type 0
PendsEntered opening b = IfSome b.pending (IsEntered (record_after opening b.ledger))

pends_answered : (opening : FullRecord) (m : PlainMoment) (due_now : List PlainEffect) (b : Books) (o : Option PlainReply) → AreEntered (record_after opening b.ledger) due_now
    → IfSome (if is_some o then None else first_of (drop m.finished due_now)) (IsEntered (record_after opening (onto (take m.finished due_now) b.ledger)))
pends_answered opening m due_now b (Some reply) are = tt
pends_answered opening m due_now b None are =
    let kept : FullRecord = record_after opening b.ledger in
    subst (λ (r : FullRecord). IfSome (first_of (drop m.finished due_now)) (IsEntered r))
    (sym (record_onto opening (take m.finished due_now) b.ledger (take_entered kept m.finished due_now are)))
    (first_entered (all_committed (take m.finished due_now) kept) (drop m.finished due_now) (drop_entered kept m.finished due_now are))

pends_handled : (opening : FullRecord) (power : Bool) (state : State) (m : PlainMoment) (b : Books) → PendsEntered opening b
    → PendsEntered opening (if power then books_handled (due_at (record_after opening b.ledger) state m.plain m) m b else b)
pends_handled opening true state m b earlier =
    pends_answered opening m (due_at (record_after opening b.ledger) state m.plain m) b m.answer (at_entered (record_after opening b.ledger) state m.plain m)
pends_handled opening false state m b earlier = earlier

pends_more : (opening : FullRecord) (power : Bool) (state : State) (m : PlainMoment) (e : Event) (b : Books) → PendsEntered opening b → PendsEntered opening (books_more opening power state m e b)
pends_more opening power state m (PoweredOn None) b earlier = earlier
pends_more opening power state m (PoweredOn (Some found)) b earlier = tt
pends_more opening power state m PoweredOff b earlier = earlier
pends_more opening power state m (Received bytes) b earlier = pends_handled opening power state m b earlier

-- what is pending is one of the effects that were due
pub pending_entered : (opening : FullRecord) (moments : List PlainMoment) → IfSome (pending opening moments) (IsEntered (kept opening moments))
unfolding account
pending_entered opening [] = tt
pending_entered opening (m ∷ before) =
    pends_more opening (on before) (state_of opening before) m m.input (books opening before) (pending_entered opening before)

-- nothing is pending while there is power
pub on_pends_nothing : (opening : FullRecord) (moments : List PlainMoment) → on moments ≡ true → pending opening moments ≡ None
unfolding account
on_pends_nothing opening [] power = absurd (cc)
on_pends_nothing opening (m ∷ before) power = by m.input refl (on_pends_nothing opening before) power where
  handled : (o : Option PlainReply) (has : Bool) → on before ≡ has → (is_some o && has) ≡ true → m.answer ≡ o
      → (if on before then books_handled (due_at (kept opening before) (state_of opening before) m.plain m) m (books opening before) else books opening before).pending ≡ None
  handled None has is stays answer = absurd (cc)
  handled (Some reply) false is stays answer = absurd (cc)
  handled (Some reply) true is stays answer = rw (is, answer) refl

  by : (e : Event) → m.input ≡ e → (on before ≡ true → pending opening before ≡ None) → on (m ∷ before) ≡ true → (books_more opening (on before) (state_of opening before) m e (books opening before)).pending ≡ None
  by (PoweredOn None) is earlier stays = absurd (let gone : on (m ∷ before) ≡ false = rw is refl in cc)
  by (PoweredOn (Some found)) is earlier stays = refl
  by PoweredOff is earlier stays = absurd (let gone : on (m ∷ before) ≡ false = rw is refl in cc)
  by (Received bytes) is earlier stays = handled m.answer (on before) refl (rw is at stays) refl

-- ---- one moment more

-- the cells hold what the books say
abbrev Stands : FullRecord → Books → Option FullRecord → Type 0
Stands opening b holds = MayHold b.pending (record_after opening b.ledger) holds

pub books_at : (opening : FullRecord) (before : List PlainMoment) (m : PlainMoment) (bytes : List ℕ) (effects : List PlainEffect) → m.input ≡ Received bytes → on before ≡ true → due_at (kept opening before) (state_of opening before) m.plain m ≡ effects
    → books opening (m ∷ before) ≡ books_handled effects m (books opening before)
unfolding account
books_at opening before m bytes effects is power due_is =
    let handled : books opening (m ∷ before) ≡ books_handled (due_at (kept opening before) (state_of opening before) m.plain m) m (books opening before) = rw (is, power) refl in
    handled ∙ ap (λ (l : List PlainEffect). books_handled l m (books opening before)) due_is

-- a command that was answered, after all commits
pub stood_answered : (opening : FullRecord) (before : List PlainMoment) (m : PlainMoment) (bytes : List ℕ) (reply : PlainReply) (effects : List PlainEffect) (holds : Option FullRecord) → m.input ≡ Received bytes → m.answer ≡ Some reply → on before ≡ true
    → due_at (kept opening before) (state_of opening before) m.plain m ≡ effects → m.finished ≡ length effects → AreEntered (kept opening before) effects → holds ≡ Some (all_committed effects (kept opening before))
    → MayHold (pending opening (m ∷ before)) (kept opening (m ∷ before)) holds
stood_answered opening before m bytes reply effects holds is answer power due_is finished are standing =
    let all : take m.finished effects ≡ effects = take_all m.finished effects (omega (arith, finished)) in
    let b : books opening (m ∷ before) ≡ record { ledger = onto effects (ledger opening before); pending = None } =
    books_at opening before m bytes effects is power due_is ∙ rw (answer, all) refl in
    subst (λ (x : Books). Stands opening x holds) (sym b) (standing ∙ ap (λ (r : FullRecord). Some r) (sym (record_onto opening effects (ledger opening before) are)))

-- a command that was lost in a commit
pub stood_lost : (opening : FullRecord) (before : List PlainMoment) (m : PlainMoment) (bytes : List ℕ) (effects : List PlainEffect) (holds : Option FullRecord) → m.input ≡ Received bytes → m.answer ≡ None → on before ≡ true
    → due_at (kept opening before) (state_of opening before) m.plain m ≡ effects → AreEntered (kept opening before) effects
    → MayHold (first_of (drop m.finished effects)) (all_committed (take m.finished effects) (kept opening before)) holds
    → MayHold (pending opening (m ∷ before)) (kept opening (m ∷ before)) holds
stood_lost opening before m bytes effects holds is answer power due_is are standing =
    let b : books opening (m ∷ before) ≡ record { ledger = onto (take m.finished effects) (ledger opening before); pending = first_of (drop m.finished effects) } =
    books_at opening before m bytes effects is power due_is ∙ rw answer refl in
    let so : record_after opening (onto (take m.finished effects) (ledger opening before)) ≡ all_committed (take m.finished effects) (kept opening before) =
    record_onto opening (take m.finished effects) (ledger opening before) (take_entered (kept opening before) m.finished effects are) in
    subst (λ (x : Books). Stands opening x holds) (sym b) (subst (λ (r : FullRecord). MayHold (first_of (drop m.finished effects)) r holds) (sym so) standing)

-- bytes that reach a chip without power, power-off, and a power-on that is cut leave the books
pub stood_silent : (opening : FullRecord) (before : List PlainMoment) (bytes : List ℕ) (holds : Option FullRecord) → on before ≡ false → MayHold (pending opening before) (kept opening before) holds
    → MayHold (pending opening (silent (Received bytes) ∷ before)) (kept opening (silent (Received bytes) ∷ before)) holds
unfolding account
stood_silent opening before bytes holds power standing =
    let b : (if on before then books_handled [] (silent (Received bytes)) (books opening before) else books opening before) ≡ books opening before = rw power refl in
    subst (λ (x : Books). Stands opening x holds) (sym b) standing

pub stood_off : (opening : FullRecord) (before : List PlainMoment) (holds : Option FullRecord) → MayHold (pending opening before) (kept opening before) holds
    → MayHold (pending opening (silent PoweredOff ∷ before)) (kept opening (silent PoweredOff ∷ before)) holds
unfolding account
stood_off opening before holds standing = standing

pub stood_cut : (opening : FullRecord) (before : List PlainMoment) (holds : Option FullRecord) → MayHold (pending opening before) (kept opening before) holds
    → MayHold (pending opening (silent (PoweredOn None) ∷ before)) (kept opening (silent (PoweredOn None) ∷ before)) holds
unfolding account
stood_cut opening before holds standing = standing

found_kept : (n k : ℕ) (b : Books) (opening : FullRecord) (holds : Option FullRecord) → n ≡ k → holds ≡ Some (record_after opening b.ledger) → Stands opening (books_found n k b) holds
found_kept n k b opening holds same standing =
    let differs : (n == k + 1) ≡ false = grind (arith, nat_tests) in
    let is : books_found n k b ≡ record { ledger = b.ledger; pending = None } = rw differs refl in
    subst (λ (x : Books). Stands opening x holds) (sym is) standing

found_none : (n k : ℕ) (b : Books) (opening : FullRecord) (holds : Option FullRecord) → b.pending ≡ None → n ≡ k → holds ≡ Some (record_after opening b.ledger) → Stands opening (books_found n k b) holds
found_none n k b opening holds none same standing = found_kept n k b opening holds same standing

found_more : (n k : ℕ) (b : Books) (effect : PlainEffect) (opening : FullRecord) (holds : Option FullRecord) → b.pending ≡ Some effect → IsEntered (record_after opening b.ledger) effect → n ≡ k + 1
    → holds ≡ Some (committed effect (record_after opening b.ledger)) → Stands opening (books_found n k b) holds
found_more n k b effect opening holds some entered one standing =
    let same : (n == k + 1) ≡ true = grind (arith, nat_tests) in
    let is : books_found n k b ≡ record { ledger = effect ∷ b.ledger; pending = None } = rw (same, some) refl in
    subst (λ (x : Books). Stands opening x holds) (sym is) (standing ∙ ap (λ (r : FullRecord). Some r) (sym (record_more opening effect b.ledger entered)))

-- a power-on that found the number of the record that the cells stand for
pub stood_on : (opening : FullRecord) (before : List PlainMoment) (full : FullRecord) (holds : Option FullRecord) → holds ≡ Some full → MayHold (pending opening before) (kept opening before) holds
    → MayFind (pending opening before) (kept opening before).fields.number full.fields.number
    × MayHold (pending opening (silent (PoweredOn (Some full.fields.number)) ∷ before)) (kept opening (silent (PoweredOn (Some full.fields.number)) ∷ before)) holds
unfolding account
stood_on opening before full holds is standing = by (pending opening before) refl (pending_entered opening before) standing where
  k : ℕ
  k = (kept opening before).fields.number

  by : (p : Option PlainEffect) → pending opening before ≡ p → IfSome (pending opening before) (IsEntered (kept opening before)) → MayHold p (kept opening before) holds
      → MayFind (pending opening before) k full.fields.number × Stands opening (books_found full.fields.number k (books opening before)) holds
  by None none entered standing =
      let same : full ≡ kept opening before = cc in
      let number : full.fields.number ≡ k = ap (λ (r : FullRecord). r.fields.number) same in
      (rw none number, found_none full.fields.number k (books opening before) opening holds none number standing)
  by (Some effect) some entered (inl standing) =
      let same : full ≡ kept opening before = cc in
      let number : full.fields.number ≡ k = ap (λ (r : FullRecord). r.fields.number) same in
      (rw some (inl number), found_kept full.fields.number k (books opening before) opening holds number standing)
  by (Some effect) some entered (inr standing) =
      let same : full ≡ committed effect (kept opening before) = cc in
      let number : full.fields.number ≡ k + 1 = ap (λ (r : FullRecord). r.fields.number) same in
      (rw some (inr number), found_more full.fields.number k (books opening before) effect opening holds some (rw some at entered) number standing)
