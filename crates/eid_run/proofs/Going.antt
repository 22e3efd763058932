-- A session, one exchange after the other: what passed between terminal and chip, as the moments of its legal journal.
use Rattle.std.proofs.Common.{◌≡◌, ◌⊎◌, ℕ, true, false, List, [], ◌∷◌, ◌++◌, map, Some, None, refl, sym, ap, ◌∙◌, subst, inl, inr}
use Rattle.std.specs.List.{All}
use Rattle.std.proofs.lemmas.List.Elements.{All-head, All-tail}
use Rattle.std.proofs.lemmas.List.{map-append}
use Rattle.eid_copro.specs.Model.{answer_with, random_block}
use Rattle.eid_copro.specs.declared.ask.Ask.{Ask}
use Rattle.eid_model.specs.Legal.{AreLegal, IsLegalFor, IsLegalMoment, silent}
use Rattle.eid_model.specs.Moments.{Event, PoweredOn, PoweredOff, Received, PlainMoment, AreSteady, lost}
use Rattle.eid_model.proofs.Journals.{one_more}
use Rattle.eid_record.specs.Plain.{FullRecord}
use Rattle.eid_script.specs.Scripts.{ScriptLine, OnLine, ApduLine}
use Rattle.eid_run.specs.Conversations.{Exchange, reply_of}
use Rattle.eid_run.specs.Promised.{HasPoint, PointsDiffer}
use Rattle.eid_step.specs.Effects.{Did, Planned, LineEffect, line_for, line_of}
use Rattle.eid_run.specs.Runs.{journal, lines_of}
use Rattle.eid_step.specs.Sendable.{AnswersWell}
use Rattle.eid_run.specs.Sessions.{command_line, replied, replies_in, replies_to, session_lines}

-- What is asked of a session beside: the coprocessors answered each question as the model does, and with a point where one
-- was asked for.
pub record IsGiven (ask : Ask) : Type 0 where
  pub start : ℕ
  pub number : ℕ
  pub by_model : ask.answer ≡ answer_with (random_block start number) ask.question
  pub point : HasPoint ask

-- a moment of such a session, whose answer can be sent
pub record IsFair (m : PlainMoment) : Type 0 where
  pub given : All IsGiven m.asks
  pub apart : PointsDiffer m
  pub answer : AnswersWell m

-- A moment of a session: the command of an exchange came to the chip, and its reply went back.
pub record IsTurn (opening : FullRecord) (before : List PlainMoment) (e : Exchange) (m : PlainMoment) : Type 0 where
  pub legal : IsLegalMoment opening before m
  pub input : m.input ≡ Received e.command
  pub reply : e.reply ≡ replied m
  pub steady : lost m before ≡ false
  pub fair : IsFair m

-- these exchanges lead from the moments before them to those after them
abbrev pub Leads : FullRecord → List PlainMoment → List Exchange → List PlainMoment → Type 0
Leads opening before [] after = after ≡ before
Leads opening before (e ∷ later) after = (m : PlainMoment) × (IsTurn opening before e m × Leads opening (m ∷ before) later after)

-- one exchange more
leads_on : (opening : FullRecord) (before after : List PlainMoment) (exchanges : List Exchange) (e : Exchange) (m : PlainMoment) → Leads opening before exchanges after → IsTurn opening after e m → Leads opening before (exchanges ++ e ∷ []) (m ∷ after)
leads_on opening before after [] e m leads turn = (m, (subst (λ (b : List PlainMoment). IsTurn opening b e m) leads turn, ap (λ (b : List PlainMoment). m ∷ b) leads))
leads_on opening before after (first ∷ later) e m leads turn = (leads.0, (leads.1.0, leads_on opening (leads.0 ∷ before) after later e m leads.1.1 turn))

-- ---- lists

-- what stands in front of the last item
last_of : {A : Type 0} (front : List A) (last first : A) (rest : List A) → front ++ last ∷ [] ≡ first ∷ rest
    → ((front ≡ []) × (last ≡ first) × (rest ≡ [])) ⊎ ((middle : List A) × (front ≡ first ∷ middle) × (rest ≡ middle ++ last ∷ []))
last_of [] last first rest e = inl (refl, (cc), (cc))
last_of (x ∷ front) last first rest e =
    let same : x ≡ first = cc in
    let more : front ++ last ∷ [] ≡ rest = cc in
    inr (front, ap (λ (y : _). y ∷ front) same, sym more)

-- of a list that is made item by item the last one is made of a last one
record MadeLast {A B : Type 0} (f : A → B) (list : List A) (front : List B) (last : B) : Type 0 where
  init : List A
  end : A
  is : list ≡ init ++ end ∷ []
  front_is : map f init ≡ front
  last_is : f end ≡ last

made_last : {A B : Type 0} (f : A → B) (list : List A) (front : List B) (last : B) → map f list ≡ front ++ last ∷ [] → MadeLast f list front last
made_last f [] [] last e = absurd (cc)
made_last f [] (b ∷ front) last e = absurd (cc)
made_last f (x ∷ []) [] last e = record { init = []; end = x; is = refl; front_is = refl; last_is = cc }
made_last f (x ∷ y ∷ list) [] last e = absurd (cc)
made_last f (x ∷ list) (b ∷ front) last e =
    let first : f x ≡ b = cc in
    let more : map f list ≡ front ++ last ∷ [] = cc in
    let later = made_last f list front last more in
    record {
      init = x ∷ later.init;
      end = later.end;
      is = ap (λ (l : List _). x ∷ l) later.is;
      front_is = ap (λ (l : List _). f x ∷ l) later.front_is ∙ ap (λ (y : _). y ∷ front) first;
      last_is = later.last_is;
    }

-- ---- a session as such exchanges

nothing_ran : (happened : List LineEffect) → lines_of happened ≡ [] → happened ≡ []
nothing_ran [] none = refl
nothing_ran (h ∷ before) none = absurd (by (lines_of before) none) where
  by : (front : List ScriptLine) → front ++ line_of h ∷ [] ≡ [] → ⊥
  by [] e = cc
  by (x ∷ front) e = cc

no_exchange : (exchanges : List Exchange) → map command_line exchanges ≡ [] → exchanges ≡ []
no_exchange [] none = refl
no_exchange (e ∷ later) none = absurd (cc)

received : (input : Event) (bytes : List ℕ) → ApduLine bytes ≡ line_for input → input ≡ Received bytes
received (PoweredOn found) bytes e = absurd (cc)
received PoweredOff bytes e = absurd (cc)
received (Received command) bytes e = let same : bytes ≡ command = cc in ap Received (sym same)

-- power, and nothing more
record FirstOn (opening : FullRecord) (m : PlainMoment) : Type 0 where
  number : ℕ
  is : m ≡ silent (PoweredOn (Some number))

first_on : (opening : FullRecord) (m : PlainMoment) (input : Event) → m.input ≡ input → line_for input ≡ OnLine → IsLegalMoment opening [] m → lost m [] ≡ false → FirstOn opening m
first_on opening m (PoweredOn (Some n)) input line legal steady =
    let so : IsLegalFor (PoweredOn (Some n)) opening [] m = subst (λ (e : Event). IsLegalFor e opening [] m) input legal in
    record { number = n; is = so.1 }
first_on opening m (PoweredOn None) input line legal steady = absurd (let cut : lost m [] ≡ true = rw input refl in cc)
first_on opening m PoweredOff input line legal steady = absurd (cc)
first_on opening m (Received bytes) input line legal steady = absurd (cc)

-- with power at first, these exchanges lead to the journal
pub record LeadsTo (opening : FullRecord) (exchanges : List Exchange) (moments : List PlainMoment) : Type 0 where
  pub number : ℕ
  pub leads : Leads opening (silent (PoweredOn (Some number)) ∷ []) exchanges moments

-- the newest moment is that of the last exchange
last_turn : (opening : FullRecord) (m : PlainMoment) (earlier : List LineEffect) (exchanges : List Exchange) (middle : List ScriptLine) → MadeLast command_line exchanges middle (line_for m.input)
    → ((init : List Exchange) → lines_of earlier ≡ session_lines init → replies_in (journal earlier) ≡ map reply_of init → LeadsTo opening init (journal earlier))
    → lines_of earlier ≡ OnLine ∷ middle → IsLegalMoment opening (journal earlier) m → lost m (journal earlier) ≡ false → IsFair m
    → replies_in (m ∷ journal earlier) ≡ map reply_of exchanges → LeadsTo opening exchanges (m ∷ journal earlier)
last_turn opening m earlier exchanges middle made before lines legal steady fair replies =
    let input : m.input ≡ Received made.end.command = received m.input made.end.command made.last_is in
    let one : replies_to m.input (replied m) ≡ replied m ∷ [] = rw input refl in
    let all : replies_in (journal earlier) ++ replied m ∷ [] ≡ map reply_of made.init ++ made.end.reply ∷ [] =
    ap (λ (l : List (List ℕ)). replies_in (journal earlier) ++ l) (sym one) ∙ replies ∙ ap (map reply_of) made.is ∙ map-append reply_of made.init (made.end ∷ []) in
    let parts = one_more (replies_in (journal earlier)) (map reply_of made.init) (replied m) made.end.reply all in
    let so = before made.init (lines ∙ ap (λ (l : List ScriptLine). OnLine ∷ l) (sym made.front_is)) parts.0 in
    subst (λ (es : List Exchange). LeadsTo opening es (m ∷ journal earlier)) (sym made.is) (record {
      number = so.number;
      leads = leads_on opening (silent (PoweredOn (Some so.number)) ∷ []) (journal earlier) made.init made.end m so.leads (record {
        legal = legal;
        input = input;
        reply = sym parts.1;
        steady = steady;
        fair = fair;
      });
    })

pub leads_to : (opening : FullRecord) (happened : List LineEffect) (exchanges : List Exchange) → AreLegal opening (journal happened) → AreSteady (journal happened) → All IsFair (journal happened) → lines_of happened ≡ session_lines exchanges
    → replies_in (journal happened) ≡ map reply_of exchanges → LeadsTo opening exchanges (journal happened)
leads_to opening [] exchanges legal steady fair lines replies = absurd (cc)
leads_to opening (Planned write tear ∷ earlier) exchanges legal steady fair lines replies = absurd (by (last_of (lines_of earlier) (line_of (Planned write tear)) OnLine (map command_line exchanges) lines)) where
  no_plan : (middle : List ScriptLine) → MadeLast command_line exchanges middle (line_of (Planned write tear)) → ⊥
  no_plan middle made = let last = made.last_is in cc

  by : ((lines_of earlier ≡ []) × (line_of (Planned write tear) ≡ OnLine) × (map command_line exchanges ≡ [])) ⊎ ((middle : List ScriptLine) × (lines_of earlier ≡ OnLine ∷ middle) × (map command_line exchanges ≡ middle ++ line_of (Planned write tear) ∷ [])) → ⊥
  by (inl is) = let last = is.1 in cc
  by (inr is) = no_plan is.0 (made_last command_line exchanges is.0 (line_of (Planned write tear)) is.2)
leads_to opening (Did m ∷ earlier) exchanges legal steady fair lines replies =
    by (λ init earlier_lines earlier_replies. leads_to opening earlier init legal.1 steady.0 (All-tail IsFair m (journal earlier) fair) earlier_lines earlier_replies)
    (last_of (lines_of earlier) (line_for m.input) OnLine (map command_line exchanges) lines) where
      at_first : earlier ≡ [] → line_for m.input ≡ OnLine → exchanges ≡ [] → LeadsTo opening exchanges (m ∷ journal earlier)
      at_first none line no_more =
          let first = first_on opening m m.input refl line (subst (λ (l : List LineEffect). IsLegalMoment opening (journal l) m) none legal.0) (subst (λ (l : List LineEffect). lost m (journal l) ≡ false) none steady.1) in
          subst (λ (es : List Exchange). LeadsTo opening es (m ∷ journal earlier)) (sym no_more)
          (subst (λ (l : List LineEffect). LeadsTo opening [] (m ∷ journal l)) (sym none)
          (record { number = first.number; leads = ap (λ (x : PlainMoment). x ∷ []) first.is }))

      by : ((init : List Exchange) → lines_of earlier ≡ session_lines init → replies_in (journal earlier) ≡ map reply_of init → LeadsTo opening init (journal earlier))
          → ((lines_of earlier ≡ []) × (line_for m.input ≡ OnLine) × (map command_line exchanges ≡ [])) ⊎ ((middle : List ScriptLine) × (lines_of earlier ≡ OnLine ∷ middle) × (map command_line exchanges ≡ middle ++ line_for m.input ∷ [])) → LeadsTo opening exchanges (m ∷ journal earlier)
      by before (inl is) = at_first (nothing_ran earlier is.0) is.1 (no_exchange exchanges is.2)
      by before (inr is) =
          last_turn opening m earlier exchanges is.0 (made_last command_line exchanges is.0 (line_for m.input) is.2) before is.1 legal.0 steady.1 (All-head IsFair m (journal earlier) fair) replies
