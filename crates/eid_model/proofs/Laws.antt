-- The laws of the tries of the PIN.
use Rattle.std.proofs.Common.{◌≡◌, ℕ, ◌+◌, ◌-◌, ◌≤◌, Bool, true, false, ◌==◌, ◌&&◌, not, List, [], ◌∷◌, ◌++◌, length, take, Option, Some, None, refl, sym, ap, ◌∙◌, subst, arith, append_assoc, inl, inr}
use Rattle.std.proofs.lemmas.Bool.Decides.{nat_tests}
use Rattle.eid_bits.specs.Date.{number_of}
use Rattle.eid_trust.specs.Trust.{later_date}
use Rattle.std.specs.Prelude.{◌⊎◌, nat_lt, is_some, option_map, option_and_then, if◌then◌else◌}
use Rattle.std.proofs.lemmas.Bool.{and_parts, or_parts, not-false, leb-true, eqb-true}
use Rattle.std.proofs.lemmas.List.{take_all, append_cancel_right}
use Rattle.std.proofs.lemmas.List.Folds.{list_any-append}
use Rattle.eid_apdu.specs.Command.{PlainCommand}
use Rattle.eid_apdu.specs.Chaining.{is_fragment, request}
use Rattle.eid_model.specs.Chains.{as_fragment, chaining, fragment, request_of}
use Rattle.eid_apdu.specs.Answer.{PlainReply}
use Rattle.eid_copro.specs.declared.ask.Answer.{Answer}
use Rattle.eid_copro.specs.declared.ask.Answer.TheVariants.{Nonce, Pair, Mapped, Shared}
use Rattle.eid_record.specs.Plain.{FullRecord, PlainEffect, Spend, Refill, Unblock, SetPin, SetCan, Active, Advance, Write}
use Rattle.eid_pace.specs.States.{PlainChoice}
use Rattle.eid_password.specs.Passwords.{ALL_TRIES}
use Rattle.eid_model.specs.declared.kind.Kind.{Kind}
use Rattle.eid_model.specs.declared.kind.Kind.TheVariants.{SelectPace, SelectPublicKey, EncryptedNonce, MapNonce, PerformKeyAgreement, MutualAuthentication}
use Rattle.eid_model.specs.Kinds.{kind_named}
use Rattle.eid_model.specs.Moments.{Event, PoweredOn, PoweredOff, Received, PlainMoment, on, live, is_received, ends_session, ends_session_by, leaves_no_session, succeeded}
use Rattle.eid_model.specs.Runs.{Step, Phase, Chose, SentNonce, HasBase, HasSecret, answers_of, kind_done, is_piece_of_next, next, continued, run, entered, phase, as_chosen, as_named, choice_in, with_nonce, with_base, with_secret}
use Rattle.eid_model.specs.Sessions.{channel, fresh}
use Rattle.eid_model.specs.Bodies.{data_in, key_name_in}
use Rattle.eid_model.specs.Rules.{Incoming, NoCommand, MissingObjects, WrongObjects, OfCommand, plain_of, Situation, starts_pin, proves_pin, is_token, token_effects, to_commit}
use Rattle.eid_model.specs.Answers.{outcome, due, kind_incoming, question}
use Rattle.eid_model.specs.Ledger.{Books, account, books, state_of, books_more, books_handled, due_at, onto, tries_after, date_after, ledger, pending, kept}
use Rattle.eid_model.specs.Legal.{AreAsked, silent, situation_after, answered, IsMoment, IsLegalFor, AreLegal}
use Rattle.eid_model.specs.Laws.{kind_sent, is_last_step, compares_pin, refuses_pin, refused_pins, is_refill, gives_back, goes_on_with_pin}
use Rattle.eid_model.proofs.Books.{books_at, due_incoming}
use Rattle.eid_model.proofs.Compared.{is_compared, compared_due, token_wrong, try_held}

-- ---- a moment that was answered

-- where it was answered
abbrev pub at : FullRecord → List PlainMoment → Incoming → PlainMoment → Situation
at opening before incoming m = situation_after opening before incoming (answers_of m.asks)

-- It was a command to a chip with power, and all effects due were committed.
pub record IsAnswered (opening : FullRecord) (before : List PlainMoment) (m : PlainMoment) : Type 0 where
  pub bytes : List ℕ
  pub incoming : Incoming
  pub input : m.input ≡ Received bytes
  pub power : on before ≡ true
  pub asked : AreAsked (λ answers. question (situation_after opening before incoming answers)) [] m.asks
  pub moment : m ≡ answered (channel (live before)) bytes incoming m.asks (length (due (at opening before incoming m))) (outcome (at opening before incoming m))

not_silent : (e : Event) (m : PlainMoment) → m ≡ silent e → is_some m.answer ≡ true → ⊥
not_silent e m is answer = let none : is_some m.answer ≡ false = ap (λ (x : PlainMoment). is_some x.answer) is in cc

answered_by : (opening : FullRecord) (before : List PlainMoment) (m : PlainMoment) (bytes : List ℕ) (incoming : Incoming) (o : Option PlainReply) → m.input ≡ Received bytes → on before ≡ true → AreAsked (λ answers. question (situation_after opening before incoming answers)) [] m.asks → m.answer ≡ o → is_some m.answer ≡ true
    → IsMoment o (channel (live before)) bytes incoming (due (at opening before incoming m)) (outcome (at opening before incoming m)) m → IsAnswered opening before m
answered_by opening before m bytes incoming None is power asked none answer moment = absurd (let gone : is_some m.answer ≡ false = ap is_some none in cc)
answered_by opening before m bytes incoming (Some reply) is power asked some answer moment =
    record { bytes = bytes; incoming = incoming; input = is; power = power; asked = asked; moment = moment }

pub answered_for : (e : Event) (opening : FullRecord) (before : List PlainMoment) (m : PlainMoment) → m.input ≡ e → IsLegalFor e opening before m → is_some m.answer ≡ true → IsAnswered opening before m
answered_for (PoweredOn found) opening before m is legal answer = absurd (not_silent (PoweredOn found) m legal.1 answer)
answered_for PoweredOff opening before m is legal answer = absurd (not_silent PoweredOff m legal answer)
answered_for (Received bytes) opening before m is legal answer = handled (on before) refl where
  handled : (power : Bool) → on before ≡ power → IsAnswered opening before m
  handled true power =
      let p = legal.powered power in
      answered_by opening before m bytes p.incoming m.answer is power p.asked refl answer p.moment
  handled false power = absurd (not_silent (Received bytes) m (legal.unpowered power) answer)

-- the command, the rule, and the kind
pub plain_so : (opening : FullRecord) (before : List PlainMoment) (m : PlainMoment) (a : IsAnswered opening before m) → m.plain ≡ plain_of a.incoming
plain_so opening before m a = ap (λ (x : PlainMoment). x.plain) a.moment

pub rule_so : (opening : FullRecord) (before : List PlainMoment) (m : PlainMoment) (a : IsAnswered opening before m) → m.rule ≡ (outcome (at opening before a.incoming m)).rule
rule_so opening before m a = ap (λ (x : PlainMoment). x.rule) a.moment

kind_of : (opening : FullRecord) (before : List PlainMoment) (incoming : Incoming)
    → option_and_then (kind_named (next (run (live before)))) (option_map (request (chaining (live before))) (plain_of incoming))
    ≡ kind_incoming (state_of opening before) incoming
kind_of opening before NoCommand = refl
kind_of opening before MissingObjects = refl
kind_of opening before WrongObjects = refl
kind_of opening before (OfCommand c) = refl

pub kind_so : (opening : FullRecord) (before : List PlainMoment) (m : PlainMoment) (a : IsAnswered opening before m) → kind_sent m before ≡ (at opening before a.incoming m).kind
kind_so opening before m a =
    ap (λ (c : Option PlainCommand). option_and_then (kind_named (next (run (live before)))) (option_map (request (chaining (live before))) c))
    (plain_so opening before m a) ∙ kind_of opening before a.incoming

-- all effects due are in the ledger
ledger_so : (opening : FullRecord) (before : List PlainMoment) (m : PlainMoment) (a : IsAnswered opening before m)
    → ledger opening (m ∷ before) ≡ onto (due (at opening before a.incoming m)) (ledger opening before)
ledger_so opening before m a =
    let effects : List PlainEffect = due (at opening before a.incoming m) in
    let finished : m.finished ≡ length effects = ap (λ (x : PlainMoment). x.finished) a.moment in
    let all : take m.finished effects ≡ effects = take_all m.finished effects (omega (arith, finished)) in
    let due_is : due_at (kept opening before) (state_of opening before) m.plain m ≡ effects = due_incoming (kept opening before) (state_of opening before) a.incoming m (plain_so opening before m a) in
    ap (λ (b : Books). b.ledger) (books_at opening before m a.bytes effects a.input a.power due_is)
    ∙ ap (λ (l : List PlainEffect). onto l (ledger opening before)) all

-- where nothing failed, or nothing but the proof, they are all that the kind commits
ledger_compared : (opening : FullRecord) (before : List PlainMoment) (m : PlainMoment) (a : IsAnswered opening before m) → is_compared m.rule ≡ true
    → ledger opening (m ∷ before) ≡ onto (to_commit (at opening before a.incoming m).kind (at opening before a.incoming m)) (ledger opening before)
ledger_compared opening before m a e =
    let s : Situation = at opening before a.incoming m in
    let compared : is_compared (outcome s).rule ≡ true = subst (λ (n : ℕ). is_compared n ≡ true) (rule_so opening before m a) e in
    ledger_so opening before m a ∙ ap (λ (l : List PlainEffect). onto l (ledger opening before)) (compared_due s compared)

-- ---- the ledger never loses an effect

onto_gains : (effects before : List PlainEffect) → (gained : List PlainEffect) × (onto effects before ≡ gained ++ before)
onto_gains [] before = ([], refl)
onto_gains (effect ∷ later) before =
    let g = onto_gains later (effect ∷ before) in
    (g.0 ++ effect ∷ [], g.1 ∙ sym (append_assoc g.0 (effect ∷ []) before))

found_gains : (b : Bool) (p : Option PlainEffect) (before : List PlainEffect)
    → (gained : List PlainEffect) × ((if b then (elim p [ None ↦ before | Some effect ↦ effect ∷ before ]) else before) ≡ gained ++ before)
found_gains true None before = ([], refl)
found_gains true (Some effect) before = (effect ∷ [], refl)
found_gains false p before = ([], refl)

gains_at : (e : Event) (opening : FullRecord) (before : List PlainMoment) (m : PlainMoment)
    → (gained : List PlainEffect) × ((books_more opening (on before) (state_of opening before) m e (books opening before)).ledger ≡ gained ++ ledger opening before)
gains_at (PoweredOn None) opening before m = ([], refl)
gains_at (PoweredOn (Some found)) opening before m = found_gains (found == (kept opening before).fields.number + 1) (pending opening before) (ledger opening before)
gains_at PoweredOff opening before m = ([], refl)
gains_at (Received bytes) opening before m = handled (on before) where
  effects : List PlainEffect
  effects = due_at (kept opening before) (state_of opening before) m.plain m

  handled : (power : Bool) → (gained : List PlainEffect) × ((if power then books_handled effects m (books opening before) else books opening before).ledger ≡ gained ++ ledger opening before)
  handled true = onto_gains (take m.finished effects) (ledger opening before)
  handled false = ([], refl)

gains : (opening : FullRecord) (m : PlainMoment) (before : List PlainMoment) → (gained : List PlainEffect) × (ledger opening (m ∷ before) ≡ gained ++ ledger opening before)
unfolding account
gains opening m before = gains_at m.input opening before m

pub nothing_lost : (opening : FullRecord) (later before : List PlainMoment) → (gained : List PlainEffect) × (ledger opening (later ++ before) ≡ gained ++ ledger opening before)
nothing_lost opening [] before = ([], refl)
nothing_lost opening (m ∷ later) before =
    let g = gains opening m (later ++ before) in
    let h = nothing_lost opening later before in
    (g.0 ++ h.0, g.1 ∙ ap (λ (l : List PlainEffect). g.0 ++ l) h.1 ∙ sym (append_assoc g.0 h.0 (ledger opening before)))

-- ---- where a session begins

no_more : (a b : Bool) → not a ≡ true → not (a && b) ≡ true
no_more true b e = absurd (cc)
no_more false b e = refl

pub begins_fresh : (opening : FullRecord) (m : PlainMoment) (before : List PlainMoment) → leaves_no_session m ≡ true → state_of opening (m ∷ before) ≡ fresh
unfolding account
begins_fresh opening m before leaves =
    let ends : ends_session m ≡ true = no_more (is_received m.input && is_some m.answer) (not (ends_session_by m.rule)) leaves in
    rw ends refl

-- ---- the date never falls

later_is_later : (a b : List ℕ) → number_of a ≤ number_of (later_date a b)
later_is_later a b = by (nat_lt (number_of a) (number_of b)) refl where
  by : (l : Bool) → nat_lt (number_of a) (number_of b) ≡ l → number_of a ≤ number_of (if l then b else a)
  by true is = grind (arith, nat_tests)
  by false is = omega arith

date_rises : (opening : List ℕ) (gained before : List PlainEffect) → number_of (date_after opening before) ≤ number_of (date_after opening (gained ++ before))
date_rises opening [] before = omega arith
date_rises opening (Spend ∷ later) before = date_rises opening later before
date_rises opening (Refill ∷ later) before = date_rises opening later before
date_rises opening (Unblock by_puk ∷ later) before = date_rises opening later before
date_rises opening (SetPin pin ∷ later) before = date_rises opening later before
date_rises opening (SetCan can ∷ later) before = date_rises opening later before
date_rises opening (Active active ∷ later) before = date_rises opening later before
date_rises opening (Advance date current previous ∷ later) before =
    let one = date_rises opening later before in
    let more = later_is_later (date_after opening (later ++ before)) date in
    omega (arith, one, more)
date_rises opening (Write file offset bytes ∷ later) before = date_rises opening later before

pub no_earlier : (opening : FullRecord) (later before : List PlainMoment) → number_of (kept opening before).fields.date ≤ number_of (kept opening (later ++ before)).fields.date
no_earlier opening later before =
    let g = nothing_lost opening later before in
    subst (λ (l : List PlainEffect). number_of (date_after opening.fields.date (ledger opening before)) ≤ number_of (date_after opening.fields.date l)) (sym g.1)
    (date_rises opening.fields.date g.0 (ledger opening before))

-- ---- a token of the PIN

-- What it means that the newest moment compared one.
record ComparesPin (opening : FullRecord) (before : List PlainMoment) (m : PlainMoment) : Type 0 where
  moment : IsAnswered opening before m
  compared : is_compared m.rule ≡ true
  last : (at opening before moment.incoming m).kind ≡ Some MutualAuthentication
  by_pin : proves_pin (phase (run (live before))) ≡ true

last_step : (kind : Option Kind) → is_last_step kind ≡ true → kind ≡ Some MutualAuthentication
last_step None e = absurd (cc)
last_step (Some MutualAuthentication) e = refl
last_step (Some kind) e = absurd (cc)

pin_compared : (opening : FullRecord) (before : List PlainMoment) (m : PlainMoment) → AreLegal opening (m ∷ before) → compares_pin m before ≡ true → ComparesPin opening before m
pin_compared opening before m legal e =
    let pin = proves_pin (phase (run (live before))) in
    let by_pin = and_parts (is_some m.answer && is_compared m.rule && is_last_step (kind_sent m before)) pin e in
    let last = and_parts (is_some m.answer && is_compared m.rule) (is_last_step (kind_sent m before)) by_pin.0 in
    let compared = and_parts (is_some m.answer) (is_compared m.rule) last.0 in
    let a : IsAnswered opening before m = answered_for m.input opening before m refl legal.0 compared.0 in
    record { moment = a; compared = compared.1; last = sym (kind_so opening before m a) ∙ last_step (kind_sent m before) last.1; by_pin = by_pin.1 }

-- a Spend is committed, and a Refill behind it where the token is right
ledger_pin : (opening : FullRecord) (before : List PlainMoment) (m : PlainMoment) (p : ComparesPin opening before m)
    → ledger opening (m ∷ before) ≡ onto (token_effects true (is_token (data_in (at opening before p.moment.incoming m).command.body) (phase (run (live before))))) (ledger opening before)
ledger_pin opening before m p =
    let s : Situation = at opening before p.moment.incoming m in
    let right : Bool = is_token (data_in s.command.body) (phase (run (live before))) in
    ledger_compared opening before m p.moment p.compared
    ∙ ap (λ (kind : Option Kind). onto (to_commit kind s) (ledger opening before)) p.last
    ∙ ap (λ (pin : Bool). onto (token_effects pin right) (ledger opening before)) p.by_pin

spent_onto : (right : Bool) (before : List PlainEffect) → (later : List PlainEffect) × (onto (token_effects true right) before ≡ later ++ Spend ∷ before)
spent_onto true before = (Refill ∷ [], refl)
spent_onto false before = ([], refl)

pub spent : (opening : FullRecord) (m : PlainMoment) (before : List PlainMoment) → AreLegal opening (m ∷ before) → compares_pin m before ≡ true
    → (later : List PlainEffect) × (ledger opening (m ∷ before) ≡ later ++ Spend ∷ ledger opening before)
spent opening m before legal e =
    let p = pin_compared opening before m legal e in
    let s = spent_onto (is_token (data_in (at opening before p.moment.incoming m).command.body) (phase (run (live before)))) (ledger opening before) in
    (s.0, ledger_pin opening before m p ∙ s.1)

-- where the token was wrong, nothing else is
spent_alone : (opening : FullRecord) (m : PlainMoment) (before : List PlainMoment) → AreLegal opening (m ∷ before) → refuses_pin m before ≡ true
    → ledger opening (m ∷ before) ≡ Spend ∷ ledger opening before
spent_alone opening m before legal e =
    let both = and_parts (compares_pin m before) (m.rule == 55) e in
    let p = pin_compared opening before m legal both.0 in
    let s : Situation = at opening before p.moment.incoming m in
    let rule : m.rule ≡ (outcome s).rule = rule_so opening before m p.moment in
    let wrong : is_token (data_in s.command.body) (phase (run (live before))) ≡ false =
    token_wrong s (subst (λ (n : ℕ). is_compared n ≡ true) rule p.compared) (subst (λ (n : ℕ). (n == 55) ≡ true) rule both.1) in
    ledger_pin opening before m p ∙ ap (λ (right : Bool). onto (token_effects true right) (ledger opening before)) wrong

-- ---- a try is left while a PACE with the PIN goes on

nonce_goes : (given : List Answer) (before : Phase) → goes_on_with_pin (with_nonce given before) ≡ true → starts_pin before ≡ true
nonce_goes (Nonce nonce ∷ []) (Chose choice) e = e
nonce_goes given before e = absurd (cc)

base_goes : (given : List Answer) (before : Phase) → goes_on_with_pin (with_base given before) ≡ true → goes_on_with_pin before ≡ true
base_goes (Pair secret public ∷ Mapped base ∷ []) (SentNonce sent) e = e
base_goes given before e = absurd (cc)

secret_goes : (peer : List ℕ) (given : List Answer) (before : Phase) → goes_on_with_pin (with_secret peer given before) ≡ true → goes_on_with_pin before ≡ true
secret_goes peer (Pair secret public ∷ Shared shared ∷ []) (HasBase mapped) e = e
secret_goes peer given before e = absurd (cc)

chose_goes : (choice : Option PlainChoice) → goes_on_with_pin (as_chosen choice) ≡ true → ⊥
chose_goes None e = cc
chose_goes (Some choice) e = cc

named_goes : (name : Option (List ℕ)) → goes_on_with_pin (as_named name) ≡ true → ⊥
named_goes None e = cc
named_goes (Some name) e = cc

-- What a request carried out has to be, that a PACE with the PIN goes on: its first step, or one that goes on from such a
-- phase. It commits nothing.
pub record GoesOn (kind : Option Kind) (before : Phase) : Type 0 where
  pub commits_nothing : (s : Situation) → to_commit kind s ≡ []
  pub by_step : ((kind ≡ Some EncryptedNonce) × (starts_pin before ≡ true)) ⊎ (goes_on_with_pin before ≡ true)

pub goes_entered : (kind : Kind) (c : PlainCommand) (given : List Answer) (before : Phase) → goes_on_with_pin (entered kind c given before) ≡ true → GoesOn (Some kind) before
unfolding entered
goes_entered SelectPace c given before e = absurd (chose_goes (choice_in c.body) e)
goes_entered SelectPublicKey c given before e = absurd (named_goes (key_name_in c.body) e)
goes_entered EncryptedNonce c given before e = record { commits_nothing = λ s. refl; by_step = inl (refl, nonce_goes given before e) }
goes_entered MapNonce c given before e = record { commits_nothing = λ s. refl; by_step = inr (base_goes given before e) }
goes_entered PerformKeyAgreement c given before e = record { commits_nothing = λ s. refl; by_step = inr (secret_goes (data_in c.body) given before e) }
goes_entered kind c given before e = absurd (cc)

goes_by : (kind : Kind) (c : PlainCommand) (given : List Answer) (steps : List Step) → goes_on_with_pin (phase (continued (Some kind) (Some c) given steps)) ≡ true → GoesOn (Some kind) (phase steps)
unfolding entered
goes_by SelectPace c given steps e = absurd (chose_goes (choice_in c.body) e)
goes_by SelectPublicKey c given steps e = absurd (named_goes (key_name_in c.body) e)
goes_by EncryptedNonce c given steps e = goes_entered EncryptedNonce c given (phase steps) e
goes_by MapNonce c given steps e = goes_entered MapNonce c given (phase steps) e
goes_by PerformKeyAgreement c given steps e = goes_entered PerformKeyAgreement c given (phase steps) e
goes_by kind c given steps e = absurd (cc)

-- The newest moment carried out such a request.
record WentOn (before : List PlainMoment) (m : PlainMoment) : Type 0 where
  kind : Option Kind
  carried_out : m.rule ≡ 0
  sent : kind_sent m before ≡ kind
  goes : GoesOn kind (phase (run (live before)))

went_on : (before : List PlainMoment) (m : PlainMoment) (done : Option Kind) (whole : Option PlainCommand)
    → kind_done (next (run (live before))) m (live before) ≡ done → request_of m (live before) ≡ whole
    → goes_on_with_pin (phase (continued done whole (answers_of m.asks) (run (live before)))) ≡ true → WentOn before m
went_on before m None whole none is e = absurd (cc)
went_on before m (Some kind) None some is e = absurd (cc)
went_on before m (Some kind) (Some c) some is e = by (succeeded m) refl where
  by : (b : Bool) → succeeded m ≡ b → WentOn before m
  by true b =
      let both = and_parts (is_some m.answer) (m.rule == 0) b in
      record { kind = Some kind; carried_out = eqb-true m.rule 0 both.1; sent = rw b at some; goes = goes_by kind c (answers_of m.asks) (run (live before)) e }
  by false b = absurd (let none : kind_done (next (run (live before))) m (live before) ≡ None = rw b refl in cc)

-- a fragment of the next step is of no kind, and the run stays as it is
piece_sent : (m : PlainMoment) (before : List PlainMoment) (o : Option PlainCommand) → m.plain ≡ o → is_some (option_and_then as_fragment o) ≡ true → kind_sent m before ≡ None
piece_sent m before None plain e = absurd (cc)
piece_sent m before (Some c) plain e = by (is_fragment c) refl e where
  by : (b : Bool) → is_fragment c ≡ b → is_some (if b then Some c else None) ≡ true → kind_sent m before ≡ None
  by true is e = rw (plain, is) refl
  by false is e = absurd (cc)

piece_some : (kind : Option Kind) (piece : Option PlainCommand) → is_piece_of_next kind piece ≡ true → is_some piece ≡ true
piece_some None piece e = absurd (cc)
piece_some (Some kind) None e = absurd (cc)
piece_some (Some kind) (Some c) e = refl

stayed : (before : List PlainMoment) (m : PlainMoment) → is_piece_of_next (next (run (live before))) (fragment m) ≡ true → goes_on_with_pin (phase (run (live before))) ≡ true → WentOn before m
stayed before m piece e = by (succeeded m) refl (piece_some (next (run (live before))) (fragment m) piece) where
  by : (b : Bool) → succeeded m ≡ b → is_some (if b then option_and_then as_fragment m.plain else None) ≡ true → WentOn before m
  by true b some =
      let both = and_parts (is_some m.answer) (m.rule == 0) b in
      record { kind = None; carried_out = eqb-true m.rule 0 both.1; sent = piece_sent m before m.plain refl some; goes = record { commits_nothing = λ s. refl; by_step = inr e } }
  by false b some = absurd (cc)

went : (before : List PlainMoment) (m : PlainMoment) (piece : Bool) → is_piece_of_next (next (run (live before))) (fragment m) ≡ piece
    → goes_on_with_pin (phase (if piece then run (live before) else continued (kind_done (next (run (live before))) m (live before)) (request_of m (live before)) (answers_of m.asks) (run (live before)))) ≡ true → WentOn before m
went before m true is e = stayed before m is e
went before m false is e = went_on before m (kind_done (next (run (live before))) m (live before)) (request_of m (live before)) refl refl e

abbrev tries_at : FullRecord → List PlainMoment → ℕ
tries_at opening moments = tries_after opening.fields.tries (ledger opening moments)

-- what is answered and does not end the session
pub goes_answered : (m : PlainMoment) → ends_session m ≡ false → is_some m.answer ≡ true
goes_answered m e =
    let goes = not-false (is_received m.input && is_some m.answer && not (ends_session_by m.rule)) e in
    (and_parts (is_received m.input) (is_some m.answer) (and_parts (is_received m.input && is_some m.answer) (not (ends_session_by m.rule)) goes).0).1

left_more : (opening : FullRecord) (before : List PlainMoment) (m : PlainMoment) (a : IsAnswered opening before m) (w : WentOn before m)
    → (goes_on_with_pin (phase (run (live before))) ≡ true → 1 ≤ tries_at opening before) → 1 ≤ tries_at opening (m ∷ before)
left_more opening before m a w earlier = by w.goes.by_step where
  s : Situation
  s = at opening before a.incoming m

  kind : s.kind ≡ w.kind
  kind = sym (kind_so opening before m a) ∙ w.sent

  compared : is_compared m.rule ≡ true
  compared = ap is_compared w.carried_out

  same : ledger opening (m ∷ before) ≡ ledger opening before
  same =
      ledger_compared opening before m a compared
      ∙ ap (λ (k : Option Kind). onto (to_commit k s) (ledger opening before)) kind
      ∙ ap (λ (l : List PlainEffect). onto l (ledger opening before)) (w.goes.commits_nothing s)

  kept_so : 1 ≤ tries_at opening before → 1 ≤ tries_at opening (m ∷ before)
  kept_so left = subst (λ (l : List PlainEffect). 1 ≤ tries_after opening.fields.tries l) (sym same) left

  by : ((w.kind ≡ Some EncryptedNonce) × (starts_pin (phase (run (live before))) ≡ true)) ⊎ (goes_on_with_pin (phase (run (live before))) ≡ true) → 1 ≤ tries_at opening (m ∷ before)
  by (inl first) =
      let so : is_compared (outcome s).rule ≡ true = subst (λ (n : ℕ). is_compared n ≡ true) (rule_so opening before m a) compared in
      kept_so (leb-true 1 (tries_at opening before) (try_held s (kind ∙ first.0) so first.1))
  by (inr goes) = kept_so (earlier goes)

pub try_left : (opening : FullRecord) (moments : List PlainMoment) → AreLegal opening moments → goes_on_with_pin (phase (run (live moments))) ≡ true → 1 ≤ (kept opening moments).fields.tries
try_left opening [] legal e = absurd (cc)
try_left opening (m ∷ before) legal e = by (ends_session m) refl (try_left opening before legal.1) where
  by : (b : Bool) → ends_session m ≡ b → (goes_on_with_pin (phase (run (live before))) ≡ true → 1 ≤ tries_at opening before) → 1 ≤ tries_at opening (m ∷ before)
  by true b earlier = absurd (let none : goes_on_with_pin (phase (run (live (m ∷ before)))) ≡ false = rw b refl in cc)
  by false b earlier =
      left_more opening before m (answered_for m.input opening before m refl legal.0 (goes_answered m b))
      (went before m (is_piece_of_next (next (run (live before))) (fragment m)) refl (rw b at e)) earlier

-- ---- at most three wrong tokens

spent_only : (opening : ℕ) (gained before : List PlainEffect) → gives_back gained ≡ false → tries_after opening (gained ++ before) ≤ tries_after opening before
spent_only opening [] before e = omega arith
spent_only opening (Spend ∷ later) before e = omega (arith, spent_only opening later before e)
spent_only opening (Refill ∷ later) before e = absurd (cc)
spent_only opening (Unblock by_puk ∷ later) before e = absurd (cc)
spent_only opening (SetPin pin ∷ later) before e = spent_only opening later before e
spent_only opening (SetCan can ∷ later) before e = spent_only opening later before e
spent_only opening (Active active ∷ later) before e = spent_only opening later before e
spent_only opening (Advance date current previous ∷ later) before e = spent_only opening later before e
spent_only opening (Write file offset bytes ∷ later) before e = spent_only opening later before e

few_tries : (opening : ℕ) (effects : List PlainEffect) → opening ≤ ALL_TRIES → tries_after opening effects ≤ ALL_TRIES
few_tries opening [] few = few
few_tries opening (Spend ∷ before) few = omega (arith, few_tries opening before few)
few_tries opening (Refill ∷ before) few = omega arith
few_tries opening (Unblock by_puk ∷ before) few = omega arith
few_tries opening (SetPin pin ∷ before) few = few_tries opening before few
few_tries opening (SetCan can ∷ before) few = few_tries opening before few
few_tries opening (Active active ∷ before) few = few_tries opening before few
few_tries opening (Advance date current previous ∷ before) few = few_tries opening before few
few_tries opening (Write file offset bytes ∷ before) few = few_tries opening before few

-- a token is compared only while PACE goes on
proof_goes : (p : Phase) → proves_pin p ≡ true → goes_on_with_pin p ≡ true
proof_goes (HasSecret agreed) e = e
proof_goes p e = absurd (cc)

-- one moment more
tries_more : (opening : FullRecord) (m : PlainMoment) (before : List PlainMoment) (gained : List PlainEffect) → AreLegal opening (m ∷ before)
    → ledger opening (m ∷ before) ≡ gained ++ ledger opening before → gives_back gained ≡ false
    → (if refuses_pin m before then 1 else 0) + tries_at opening (m ∷ before) ≤ tries_at opening before
tries_more opening m before gained legal is none = by (refuses_pin m before) refl where
  by : (refused : Bool) → refuses_pin m before ≡ refused → (if refused then 1 else 0) + tries_at opening (m ∷ before) ≤ tries_at opening before
  by true refused =
      let p = pin_compared opening before m legal (and_parts (compares_pin m before) (m.rule == 55) refused).0 in
      let left : 1 ≤ tries_at opening before = try_left opening before legal.1 (proof_goes (phase (run (live before))) p.by_pin) in
      let fewer : tries_at opening (m ∷ before) ≡ tries_at opening before - 1 = ap (tries_after opening.fields.tries) (spent_alone opening m before legal refused) in
      omega arith
  by false refused =
      let same : tries_at opening (m ∷ before) ≡ tries_after opening.fields.tries (gained ++ ledger opening before) = ap (tries_after opening.fields.tries) is in
      let fewer : tries_after opening.fields.tries (gained ++ ledger opening before) ≤ tries_at opening before = spent_only opening.fields.tries gained (ledger opening before) none in
      omega arith

-- each refused token took a try
tries_fall : (opening : FullRecord) (recent before : List PlainMoment) (gained : List PlainEffect) → AreLegal opening (recent ++ before)
    → ledger opening (recent ++ before) ≡ gained ++ ledger opening before → gives_back gained ≡ false
    → refused_pins recent before + tries_at opening (recent ++ before) ≤ tries_at opening before
tries_fall opening [] before gained legal is none = omega arith
tries_fall opening (m ∷ recent) before gained legal is none =
    let g = gains opening m (recent ++ before) in
    let h = nothing_lost opening recent before in
    let whole : gained ≡ g.0 ++ h.0 =
    append_cancel_right gained (g.0 ++ h.0) (ledger opening before) (sym is ∙ g.1 ∙ ap (λ (l : List PlainEffect). g.0 ++ l) h.1 ∙ sym (append_assoc g.0 h.0 (ledger opening before))) in
    let both = or_parts (gives_back g.0) (gives_back h.0) (sym (list_any-append is_refill g.0 h.0) ∙ ap gives_back (sym whole) ∙ none) in
    let one = tries_more opening m (recent ++ before) g.0 legal g.1 both.0 in
    let others = tries_fall opening recent before h.0 legal.1 h.1 both.1 in
    omega (arith, one, others)

pub three_refused : (opening : FullRecord) (recent before : List PlainMoment) (gained : List PlainEffect) → AreLegal opening (recent ++ before)
    → opening.fields.tries ≤ ALL_TRIES → ledger opening (recent ++ before) ≡ gained ++ ledger opening before → gives_back gained ≡ false
    → refused_pins recent before ≤ ALL_TRIES
three_refused opening recent before gained legal few is none =
    let fall = tries_fall opening recent before gained legal is none in
    let most = few_tries opening.fields.tries (ledger opening before) few in
    omega (arith, fall, most)
