-- The report of an honest plan is the one that it is promised.
use Rattle.std.proofs.Common.{◌≡◌, ℕ, ◌+◌, ◌≤◌, Bool, true, false, List, [], ◌∷◌, ◌++◌, length, map, Option, Some, None, Err, Ok, Result, refl, sym, ap, ◌∙◌, subst, arith, append_assoc}
use Rattle.std.specs.Prelude.{if◌then◌else◌, IfSome, IsTrue, is_some}
use Rattle.std.specs.List.{All}
use Rattle.std.specs.Option.{ForSome, option_to_list}
use Rattle.std.proofs.lemmas.List.{append-nil}
use Rattle.eid_base.specs.Seen.{Grew, SinkSeen}
use Rattle.eid_bits.specs.Date.{is_between}
use Rattle.std.proofs.lemmas.List.Elements.{All-cons, All-head, All-nil, All-tail}
use Rattle.eid_copro.specs.Model.{blocks_drawn, model_answer}
use Rattle.eid_copro.specs.Numbers.{public_of}
use Rattle.eid_copro.specs.Told.{AnswersFrom}
use Rattle.eid_copro.specs.declared.ask.Ask.{Ask}
use Rattle.eid_cvc.specs.Certificates.{PlainBody}
use Rattle.eid_cvc.specs.Chains.{PlainChain, PlainTerminalKnown}
use Rattle.eid_password.specs.Passwords.{digits_of, is_can, is_pin, start_refusal}
use Rattle.eid_record.specs.Effect.{committed}
use Rattle.eid_record.specs.Valid.{IsTrustPoint, IsValid}
use Rattle.eid_script.specs.Scripts.{ScriptLine}
use Rattle.eid_record.specs.Plain.{Active, Advance, FullRecord, PlainEffect, PlainRecord, PlainTrustPoint, Refill, SetCan, SetPin, Spend, Unblock, Write}
use Rattle.eid_trust.specs.Trust.{PlainAccepted, Signer, accept_given, accepted_by, advance, chain_after, chain_with, judged_by, key_of, refusal, signer_of}
use Rattle.eid_bits.specs.Rights.{role_of}
use Rattle.eid_bits.specs.declared.template.Role.{Role}
use Rattle.eid_bits.specs.declared.template.Role.TheVariants.{Cvca, Domestic, Foreign, Terminal}
use Rattle.eid_model.specs.Ledger.{account, all_committed, kept, record_after}
use Rattle.eid_model.specs.Legal.{AreLegal, silent}
use Rattle.eid_model.specs.Moments.{AreSteady, PlainMoment, PoweredOn, asked}
use Rattle.eid_model.specs.Rules.{LAST_NUMBER, one_effect, token_effects, was_with}
use Rattle.eid_model.specs.Sessions.{PaceMemory, State, fresh, unchained}
use Rattle.eid_model.proofs.Ledgers.{nothing_committed}
use Rattle.eid_sm.specs.Keys.{ChannelState}
use Rattle.eid_terminal.specs.Authentication.{imports}
use Rattle.eid_terminal.specs.Courses.{Course, Ends}
use Rattle.eid_terminal.specs.Plans.{HasSizes, IsFit, PlainPlan}
use Rattle.eid_terminal.specs.Requests.{requests, sector_of}
use Rattle.eid_terminal.specs.Terminals.{behind_pace, can_terms, certified, course, terms_of, with_can, with_password}
use Rattle.eid_terminal.specs.declared.action.Step.TheVariants as steps
use Rattle.eid_run.specs.Conversations.{Exchange, IsEnd, Passed, Talks, Told, reply_of}
use Rattle.eid_run.specs.Honest.{AreAccepted, IsAccepted, IsCertified, IsCertifiedBy, IsHonest}
use Rattle.eid_run.specs.Promised.{FoundPoints, HasPoint, PointsDiffer, asking, authentications, first_pace, promised, promised_report, promised_results, terminal_of}
use Rattle.eid_run.specs.Report.{report}
use Rattle.eid_run.specs.Meetings.{Meeting, MetWhole, inverted}
use Rattle.eid_step.specs.Effects.{LineEffect}
use Rattle.eid_run.specs.Runs.{journal, lines_of}
use Rattle.eid_step.specs.Sendable.{AnswersWell}
use Rattle.eid_run.specs.Sessions.{replies_in, session_lines}
use Rattle.eid_run.proofs.Along.{AtCourse, IsPaced, Way}
use Rattle.eid_run.proofs.Authenticated.{certificates_and_terminal}
use Rattle.eid_run.proofs.Certified.{all_advanced}
use Rattle.eid_run.proofs.Going.{IsFair, IsGiven, leads_to}
use Rattle.eid_run.proofs.Proven.{proven}
use Rattle.eid_run.proofs.Paced.{HasNames, IsWhole, pace_effects, paced}
use Rattle.eid_run.proofs.Requested.{SameAux, requested}
use Rattle.eid_run.proofs.Turns.{StandsAt}

-- ---- the coprocessors

-- all answers of a model, which found a point each time
given_from : (start : ℕ) (all before later : List Ask) → AnswersFrom (model_answer start) all → all ≡ before ++ later → All HasPoint later → All IsGiven later
given_from start all before [] from is points = All-nil IsGiven
given_from start all before (ask ∷ later) from is points =
    All-cons IsGiven ask later
    (record { start = start; number = blocks_drawn before; by_model = from.each before later ask is; point = All-head HasPoint ask later points })
    (given_from start all (before ++ ask ∷ []) later from (is ∙ sym (append_assoc before (ask ∷ []) later)) (All-tail HasPoint ask later points))

pub all_given : (start : ℕ) (asks : List Ask) → AnswersFrom (model_answer start) asks → All HasPoint asks → All IsGiven asks
all_given start asks from points = given_from start asks [] asks from refl points

-- what holds of all of a list holds of its parts
all_parts : {A : Type 0} (P : A → Type 0) (a b : List A) → All P (a ++ b) → All P a × All P b
all_parts P [] b all = (All-nil P, all)
all_parts P (x ∷ a) b all =
    let parts = all_parts P a b (All-tail P x (a ++ b) all) in (All-cons P x a (All-head P x (a ++ b) all) parts.0, parts.1)

-- the moments of such a session
pub all_fair : (moments : List PlainMoment) → All IsGiven (asked moments) → All PointsDiffer moments → All AnswersWell moments → All IsFair moments
all_fair [] given differ well = All-nil IsFair
all_fair (m ∷ before) given differ well =
    let parts = all_parts IsGiven (asked before) m.asks given in
    All-cons IsFair m before
    (record { given = parts.1; apart = All-head PointsDiffer m before differ; answer = All-head AnswersWell m before well })
    (all_fair before parts.0 (All-tail PointsDiffer m before differ) (All-tail AnswersWell m before well))

-- ---- where a session begins

no_entries : (b : Bool) → ◌≡◌ {A = List PlainEffect} (if b then [] else []) []
no_entries true = refl
no_entries false = refl

-- with power, the chip keeps the opening record, and has a fresh state
begun_so : (opening : FullRecord) (number : ℕ) → StandsAt opening (silent (PoweredOn (Some number)) ∷ []) opening fresh
unfolding account
begun_so opening number = record {
  power = refl;
  record_kept = ap (record_after opening) (no_entries _) ∙ nothing_committed opening;
  state_left = refl;
}

-- ---- the PACEs

-- behind the PACE with the password
record IsBehindPace (w : Way) (plan : PlainPlan) (opening : FullRecord) (can_first : Option (List ℕ)) (told : List Told) : Type 0 where
  t : State
  identity : List ℕ
  is : IsPaced t (record { password = plan.password; template = plan.template; identity = identity })
  selected : t.selected ≡ false
  rest : List Told
  same : told ≡ first_pace can_first ++ (Passed steps.Pace ∷ rest)
  goes : AtCourse w (all_committed (pace_effects plan.password) opening) (unchained t) (behind_pace plan t.channel identity) rest

-- that PACE, behind one with the card access number or none
password_paced : (w : Way) (plan : PlainPlan) (opening : FullRecord) (s : State) (told : List Told) → IsWhole plan.template → start_refusal opening.fields plan.password (was_with is_can s.pace) ≡ None
    → plan.value ≡ digits_of opening.fields plan.password → HasNames opening.fields → opening.fields.number ≤ LAST_NUMBER → s.selected ≡ false
    → AtCourse w opening (unchained s) (with_password plan s.channel) told → IsBehindPace w plan opening None told
unfolding with_password
password_paced w plan opening s told size begins value names fits selected at =
    let did = paced w opening s (terms_of plan) (behind_pace plan) told size begins value names fits at in
    record { t = did.t; identity = did.identity; is = did.is; selected = did.selected ∙ selected; rest = did.rest; same = did.same; goes = did.goes }

both_paced : (w : Way) (plan : PlainPlan) (opening : FullRecord) (can_first : Option (List ℕ)) (told : List Told) → HasSizes plan → IfSome can_first (λ digits. digits ≡ opening.fields.can)
    → start_refusal opening.fields plan.password (is_some can_first) ≡ None → plan.value ≡ digits_of opening.fields plan.password → HasNames opening.fields → opening.fields.number ≤ LAST_NUMBER
    → AtCourse w opening fresh (with_can plan can_first) told → IsBehindPace w plan opening can_first told
both_paced w plan opening None told sizes first begins value names fits at = password_paced w plan opening fresh told sizes.template begins value names fits refl at
both_paced w plan opening (Some digits) told sizes first begins value names fits at =
    let did = paced w opening fresh (can_terms digits) (λ (channel : Option ChannelState) (identity : List ℕ). with_password plan channel) told tt refl first names fits at in
    let by_can : was_with is_can did.t.pace ≡ true = ap (was_with is_can) did.is.pace in
    let next = password_paced w plan opening did.t did.rest sizes.template (ap (start_refusal opening.fields plan.password) by_can ∙ begins) value names fits did.selected did.goes in
    record {
      t = next.t;
      identity = next.identity;
      is = next.is;
      selected = next.selected;
      rest = next.rest;
      same = did.same ∙ ap (λ (l : List Told). Passed steps.Pace ∷ l) next.same;
      goes = next.goes;
    }

-- ---- the record behind a PACE

-- both records say the same of what certificates are judged by, and of what they do not change
pub record SaysAlike (r q : PlainRecord) : Type 0 where
  pub date : r.date ≡ q.date
  pub current : r.current ≡ q.current
  pub previous : r.previous ≡ q.previous

alike_after : (effect : PlainEffect) (old new : FullRecord) → SaysAlike old.fields new.fields → SaysAlike (committed effect old).fields (committed effect new).fields
alike_after Spend old new is = record { date = is.date; current = is.current; previous = is.previous }
alike_after Refill old new is = record { date = is.date; current = is.current; previous = is.previous }
alike_after (Unblock by_puk) old new is = record { date = is.date; current = is.current; previous = is.previous }
alike_after (SetPin pin) old new is = record { date = is.date; current = is.current; previous = is.previous }
alike_after (SetCan can) old new is = record { date = is.date; current = is.current; previous = is.previous }
alike_after (Active active) old new is = record { date = is.date; current = is.current; previous = is.previous }
alike_after (Advance date current previous) old new is = record { date = refl; current = refl; previous = refl }
alike_after (Write file offset bytes) old new is = record { date = is.date; current = is.current; previous = is.previous }

alike_then : (effect : Option PlainEffect) (old new : FullRecord) → SaysAlike old.fields new.fields → SaysAlike (all_committed (one_effect effect) old).fields (all_committed (one_effect effect) new).fields
alike_then None old new is = is
alike_then (Some effect) old new is = alike_after effect old new is

-- so a certificate is judged alike
chain_alike : (role : Role) (r q : PlainRecord) (chain : PlainChain) (c : PlainBody) → SaysAlike r q → chain_with role r chain c ≡ chain_with role q chain c
chain_alike Cvca r q chain c is = refl
chain_alike Domestic r q chain c is =
    ap (λ (p : PlainTrustPoint). chain_with Domestic (record q { current = p; previous = r.previous }) chain c) is.current
    ∙ ap (λ (p : Option PlainTrustPoint). chain_with Domestic (record q { previous = p }) chain c) is.previous
chain_alike Foreign r q chain c is =
    ap (λ (p : PlainTrustPoint). chain_with Foreign (record q { current = p; previous = r.previous }) chain c) is.current
    ∙ ap (λ (p : Option PlainTrustPoint). chain_with Foreign (record q { previous = p }) chain c) is.previous
chain_alike Terminal r q chain c is = refl

advance_alike : (r q : PlainRecord) (chain : PlainChain) (c : PlainBody) → SaysAlike r q → advance r chain c ≡ advance q chain c
advance_alike r q chain c is =
    ap (λ (d : List ℕ). advance (record q { date = d; current = r.current; previous = r.previous }) chain c) is.date
    ∙ ap (λ (p : PlainTrustPoint). advance (record q { current = p; previous = r.previous }) chain c) is.current
    ∙ ap (λ (p : Option PlainTrustPoint). advance (record q { previous = p }) chain c) is.previous

-- by whom it is signed, or the rule that it fails
abbrev judged : PlainRecord → PlainChain → List ℕ → PlainBody → Result Signer ℕ
judged r chain name c = judged_by (signer_of r chain c.issuer) (refusal r chain name c)

signer_alike : (r q : PlainRecord) (chain : PlainChain) (name : List ℕ) (c : PlainBody) → SaysAlike r q → judged r chain name c ≡ judged q chain name c
signer_alike r q chain name c is =
    ap (λ (d : List ℕ). judged (record q { date = d; current = r.current; previous = r.previous }) chain name c) is.date
    ∙ ap (λ (p : PlainTrustPoint). judged (record q { current = p; previous = r.previous }) chain name c) is.current
    ∙ ap (λ (p : Option PlainTrustPoint). judged (record q { previous = p }) chain name c) is.previous

brings_alike : (signer : Result Signer ℕ) (r q : PlainRecord) (chain : PlainChain) (c : PlainBody) → SaysAlike r q → accepted_by signer r chain c ≡ accepted_by signer q chain c
brings_alike (Err rule) r q chain c is = refl
brings_alike (Ok signer) r q chain c is =
    ap (λ (x : PlainChain). Ok (record { key = key_of signer; chain = x; advance = advance r chain c })) (chain_alike (role_of c.template) r q chain c is)
    ∙ ap (λ (x : Option PlainEffect). Ok (record { key = key_of signer; chain = chain_after q chain c; advance = x })) (advance_alike r q chain c is)

judged_alike : (r q : PlainRecord) (chain : PlainChain) (name : List ℕ) (c : PlainBody) → SaysAlike r q → accept_given r chain name c ≡ accept_given q chain name c
judged_alike r q chain name c is =
    ap (λ (x : Result Signer ℕ). accepted_by x r chain c) (signer_alike r q chain name c is) ∙ brings_alike (judged q chain name c) r q chain c is

accepted_alike : (old new : FullRecord) (chain : PlainChain) (bytes : List ℕ) (accepted : PlainAccepted) → SaysAlike old.fields new.fields → IsAccepted old chain bytes accepted → IsAccepted new chain bytes accepted
accepted_alike old new chain bytes accepted alike is = record {
  certificate = is.certificate;
  reads = is.reads;
  given = sym (judged_alike old.fields new.fields chain is.certificate.body.issuer is.certificate.body alike) ∙ is.given;
  signed = is.signed;
}

-- and all of them are accepted over the other record too
record AreAcceptedToo (new : FullRecord) (chain : PlainChain) (certificates : List (List ℕ)) (chain_then : PlainChain) : Type 0 where
  kept_then : FullRecord
  are : AreAccepted new chain certificates kept_then chain_then

all_alike : (old new : FullRecord) (chain : PlainChain) (certificates : List (List ℕ)) (kept_then : FullRecord) (chain_then : PlainChain) → SaysAlike old.fields new.fields → AreAccepted old chain certificates kept_then chain_then
    → AreAcceptedToo new chain certificates chain_then
all_alike old new chain [] kept_then chain_then alike are = record { kept_then = new; are = (refl, are.1) }
all_alike old new chain (bytes ∷ later) kept_then chain_then alike are =
    let accepted = are.0 in
    let more = all_alike (all_committed (one_effect accepted.advance) old) (all_committed (one_effect accepted.advance) new) accepted.chain later kept_then chain_then (alike_then accepted.advance old new alike) are.1.1 in
    record { kept_then = more.kept_then; are = (accepted, (accepted_alike old new chain bytes accepted alike are.1.0, more.are)) }

-- What a PACE leaves of a record: all but the number and the tries.
record IsLeftByPace (old new : FullRecord) : Type 0 where
  files : new.files ≡ old.files
  ri_secret : new.fields.ri_secret ≡ old.fields.ri_secret
  ca_secret : new.fields.ca_secret ≡ old.fields.ca_secret
  alike : SaysAlike old.fields new.fields
  number : new.fields.number ≤ old.fields.number + 2

left_by_pace : (old : FullRecord) (pin : Bool) → IsLeftByPace old (all_committed (token_effects pin true) old)
left_by_pace old true =
    record { files = refl; ri_secret = refl; ca_secret = refl; alike = record { date = refl; current = refl; previous = refl }; number = omega arith }
left_by_pace old false =
    record { files = refl; ri_secret = refl; ca_secret = refl; alike = record { date = refl; current = refl; previous = refl }; number = omega arith }

-- the certificates are right over it too
certified_too : (plan : PlainPlan) (old new : FullRecord) (chain : PlainChain) → IsLeftByPace old new → IsCertified plan old chain → IsCertified plan new chain
certified_too plan old new chain left is =
    let too = all_alike old new _ plan.certificates is.kept_then chain left.alike is.accepted in
    record {
      template = is.template;
      kept_then = too.kept_then;
      accepted = too.are;
      terminal = is.terminal;
      ends = is.ends;
      named = is.named;
      terminal_key = is.terminal_key;
      chip_key = is.chip_key ∙ ap (λ (s : List ℕ). public_of s) (sym left.ca_secret);
    }

-- ---- behind the PACEs

-- what is told from there on
abbrev ToldBehind : PlainPlan → FullRecord → Option PlainChain → List Told → Type 0
ToldBehind plan opening chain told = told ≡ authentications chain ++ promised_results opening (asking plan chain) (sector_of plan) 0 plan.requests

-- without certificates the requests come at once
told_uncertified : (w : Way) (plan : PlainPlan) (opening full : FullRecord) (t : State) (identity : List ℕ) (told : List Told) → IsFit plan → HasSizes plan → IsLeftByPace opening full
    → IsPaced t (record { password = plan.password; template = plan.template; identity = identity }) → t.selected ≡ false
    → AtCourse w full (unchained t) (requests plan 0 plan.requests t.channel) told → ToldBehind plan opening None told × (w.at ≡ Ends)
told_uncertified w plan opening full t identity told fit sizes left is selected at =
    requested w full opening plan None plan.requests 0 t told left.files left.ri_secret sizes.sector fit.sector fit.requests
    (record {
      memory = record { password = plan.password; template = plan.template; identity = identity };
      pace = is.pace;
      password = refl;
      template = refl;
      certificates = is.certificates;
      terminal = subst (λ (o : Option PlainTerminalKnown). SameAux o None) (sym is.terminal) tt;
      chip_proven = is.chip;
      selected = selected;
    }) at

-- and else they come behind the authentications and the selection of the application
told_certified : (w : Way) (plan : PlainPlan) (opening full : FullRecord) (t : State) (identity : List ℕ) (chain : PlainChain) (told : List Told) → IsFit plan → HasSizes plan → IsLeftByPace opening full
    → IsPaced t (record { password = plan.password; template = plan.template; identity = identity }) → IsCertified plan opening chain → opening.fields.number + 2 + length plan.certificates ≤ LAST_NUMBER
    → AtCourse w full (unchained t) (imports plan identity plan.certificates t.channel) told → ToldBehind plan opening (Some chain) told × (w.at ≡ Ends)
told_certified w plan opening full t identity chain told fit sizes left is certified room at =
    let memory : PaceMemory = record { password = plan.password; template = plan.template; identity = identity } in
    let too = certified_too plan opening full chain left certified in
    let kept_then = too.kept_then in
    let authenticated = certificates_and_terminal w full t plan identity memory chain told is too.template refl too fit sizes.age sizes.validity (omega (arith, room, left.number)) at in
    let advanced = all_advanced full _ plan.certificates kept_then chain too.accepted in
    let secret : kept_then.fields.ca_secret ≡ full.fields.ca_secret = ap (λ (r : PlainRecord). r.ca_secret) advanced.fields in
    let ri : kept_then.fields.ri_secret ≡ full.fields.ri_secret = ap (λ (r : PlainRecord). r.ri_secret) advanced.fields in
    let key : plan.chip_key ≡ public_of kept_then.fields.ca_secret = too.chip_key ∙ ap (λ (s : List ℕ). public_of s) (sym secret) in
    let proven_so = proven w kept_then authenticated.state plan memory chain authenticated.terminal authenticated.number authenticated.rest authenticated.is authenticated.key_x key authenticated.goes in
    let last = requested w kept_then opening plan (Some chain) plan.requests 0 proven_so.state proven_so.rest (advanced.files ∙ left.files) (ri ∙ left.ri_secret) sizes.sector fit.sector fit.requests
    (record {
      memory = memory;
      pace = proven_so.is.pace;
      password = refl;
      template = refl;
      certificates = proven_so.is.certificates;
      terminal = subst (λ (o : Option PlainTerminalKnown). SameAux o (Some (terminal_of plan))) (sym proven_so.is.terminal) authenticated.aux;
      chip_proven = proven_so.is.chip;
      selected = proven_so.is.selected;
    }) proven_so.goes in (
      authenticated.passed ∙ ap (λ (l : List Told). Passed steps.Ta ∷ l) (proven_so.passed ∙ ap (λ (l : List Told). Passed steps.Ca ∷ Passed steps.Select ∷ l) last.0),
      last.1,
    )

told_behind : (w : Way) (plan : PlainPlan) (opening full : FullRecord) (t : State) (identity : List ℕ) (certificates : List (List ℕ)) (chain : Option PlainChain) (told : List Told) → plan.certificates ≡ certificates → IsFit plan → HasSizes plan → IsLeftByPace opening full
    → IsPaced t (record { password = plan.password; template = plan.template; identity = identity }) → t.selected ≡ false → IsCertifiedBy plan opening certificates chain → opening.fields.number + 2 + length plan.certificates ≤ LAST_NUMBER
    → AtCourse w full (unchained t) (certified plan identity certificates t.channel) told → ToldBehind plan opening chain told × (w.at ≡ Ends)
told_behind w plan opening full t identity [] None told those fit sizes left is selected right room at = told_uncertified w plan opening full t identity told fit sizes left is selected at
told_behind w plan opening full t identity [] (Some chain) told those fit sizes left is selected right room at = absurd right
told_behind w plan opening full t identity (first ∷ later) None told those fit sizes left is selected right room at = absurd right
told_behind w plan opening full t identity (first ∷ later) (Some chain) told those fit sizes left is selected right room at =
    told_certified w plan opening full t identity chain told fit sizes left is right room
    (subst (λ (l : List (List ℕ)). AtCourse w full (unchained t) (imports plan identity l t.channel) told) (sym those) at)

-- ---- the whole

told_all : (w : Way) (plan : PlainPlan) (opening : FullRecord) (told : List Told) → IsFit plan → HasSizes plan → HasNames opening.fields → (honest : IsHonest plan opening)
    → AtCourse w opening fresh (course plan) told → (told ≡ promised plan opening honest.chain) × (w.at ≡ Ends)
unfolding course behind_pace
told_all w plan opening told fit sizes names honest at =
    let behind = both_paced w plan opening plan.can_first told sizes honest.can_first honest.begins honest.value names (omega (arith, honest.room)) at in
    let rest = told_behind w plan opening (all_committed (pace_effects plan.password) opening) behind.t behind.identity plan.certificates honest.chain behind.rest refl fit sizes
    (left_by_pace opening (is_pin plan.password)) behind.is behind.selected honest.certified honest.room behind.goes in
    (behind.same ∙ ap (λ (l : List Told). first_pace plan.can_first ++ (Passed steps.Pace ∷ l)) rest.0, rest.1)

-- A session that went to its end with an honest plan told what the plan is promised.
pub promise_kept : (opening : FullRecord) (plan : PlainPlan) (happened : List LineEffect) (exchanges : List Exchange) (asks : List Ask) (told : List Told) (at : Course) → IsEnd at → AreLegal opening (journal happened) → AreSteady (journal happened)
    → All IsFair (journal happened) → lines_of happened ≡ session_lines exchanges → replies_in (journal happened) ≡ map reply_of exchanges → Talks (course plan) asks exchanges told at → All IsGiven asks
    → IsFit plan → HasSizes plan → HasNames opening.fields → (honest : IsHonest plan opening) → (told ≡ promised plan opening honest.chain) × (at ≡ Ends)
promise_kept opening plan happened exchanges asks told at end legal steady fair lines replies talks given fit sizes names honest =
    let leads = leads_to opening happened exchanges legal steady fair lines replies in
    told_all (record { opening = opening; after = journal happened; at = at }) plan opening told fit sizes names honest (record {
      before = silent (PoweredOn (Some leads.number)) ∷ [];
      asks = asks;
      exchanges = exchanges;
      stands = begun_so opening leads.number;
      end = end;
      given = given;
      leads = leads.leads;
      talks = talks;
    })

-- ---- an honest plan

named_so : (previous : Option PlainTrustPoint) → ForSome previous IsTrustPoint → IfSome previous (λ point. is_between 1 16 (length point.name) ≡ true)
named_so None is = tt
named_so (Some point) is = (is point refl).named

-- the trust points of a record have names
pub has_names : (kept : PlainRecord) → IsValid kept → HasNames kept
has_names kept valid = record { current = valid.current.named; previous = named_so kept.previous valid.previous }

-- all was carried out, and heard
all_carried : (happened : List LineEffect) (undone : List ScriptLine) (exchanges : List Exchange) (unheard : Option Exchange) → unheard ≡ None → undone ≡ [] → lines_of happened ++ undone ≡ session_lines (exchanges ++ option_to_list unheard)
    → lines_of happened ≡ session_lines exchanges
all_carried happened undone exchanges unheard heard done carried =
    sym (append-nil (lines_of happened)) ∙ ap (λ (l : List ScriptLine). lines_of happened ++ l) (sym done) ∙ carried
    ∙ ap (λ (o : Option Exchange). session_lines (exchanges ++ option_to_list o)) heard ∙ ap session_lines (append-nil exchanges)

all_heard : (happened : List LineEffect) (exchanges : List Exchange) (unheard : Option Exchange) → unheard ≡ None → replies_in (journal happened) ≡ map reply_of (exchanges ++ option_to_list unheard)
    → replies_in (journal happened) ≡ map reply_of exchanges
all_heard happened exchanges unheard heard same =
    same ∙ ap (λ (o : Option Exchange). map reply_of (exchanges ++ option_to_list o)) heard ∙ ap (map reply_of) (append-nil exchanges)

-- The session of an honest plan, in which points were found, was told as promised.
pub met_promised : (start : ℕ) (s : Meeting) (new_cells : List ℕ) (before now : SinkSeen) → (met : MetWhole start s new_cells before now) → IsFit s.plan → HasSizes s.plan → IsValid s.opening.fields
    → (honest : IsHonest s.plan s.opening) → FoundPoints (journal met.did.conversed.happened) met.did.conversed.asks → IsTrue before.tells
    → Grew before.written now.written (promised_report s.plan s.opening honest.chain)
unfolding promised_report
met_promised start s new_cells before now met fit sizes valid honest points tells =
    let talk = met.did.conversed in
    let exchanges = talk.exchanges in
    let given = all_given start (asked (journal talk.happened)) met.chip_told points.chip in
    let fair = all_fair (journal talk.happened) given points.differ talk.replies.sendable in
    let kept_so = promise_kept s.opening s.plan talk.happened exchanges talk.asks met.did.told met.did.at met.did.ended talk.ran.legal met.steady fair
    (all_carried talk.happened talk.undone exchanges talk.unheard met.did.heard met.did.done talk.carried)
    (all_heard talk.happened exchanges talk.unheard met.did.heard talk.replies.same) talk.talks
    (all_given (inverted start) talk.asks met.terminal_told points.terminal) fit sizes (has_names s.opening.fields valid) honest in
    subst (λ (c : Course). Grew before.written now.written (report s.plan (promised s.plan s.opening honest.chain) c)) kept_so.1
    (subst (λ (l : List Told). Grew before.written now.written (report s.plan l met.did.at)) kept_so.0 (met.did.written tells))
