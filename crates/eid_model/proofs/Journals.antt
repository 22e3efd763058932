-- What came determines the journal.
use Rattle.std.proofs.Common.{◌≡◌, ℕ, Bool, true, false, List, [], ◌∷◌, ◌++◌, length, Option, Some, None, refl, sym, ap, ◌∙◌, subst, arith, length-append, append_assoc}
use Rattle.eid_apdu.proofs.OneCommand.{spells_one}
use Rattle.eid_record.specs.Plain.{FullRecord, PlainEffect}
use Rattle.eid_apdu.specs.Command.{PlainCommand}
use Rattle.eid_apdu.specs.Answer.{PlainReply}
use Rattle.std.specs.Prelude.{is_none, ◌&&◌}
use Rattle.eid_copro.specs.Told.{Source, AnswersFrom}
use Rattle.eid_copro.specs.declared.ask.Ask.{Ask}
use Rattle.eid_copro.specs.declared.ask.Question.{Question}
use Rattle.eid_copro.specs.declared.ask.Answer.{Answer}
use Rattle.eid_sm.specs.Keys.{Keys, ChannelState, next_counter}
use Rattle.eid_sm.specs.Parts.{AreBytes}
use Rattle.eid_sm.specs.Commands.{IsProtected, LacksObjects, sent_command}
use Rattle.eid_sm.proofs.ProtectedFacts.{not_lacking, protected_has_objects}
use Rattle.eid_sm.proofs.OneProtected.{one_protected}
use Rattle.eid_model.specs.Moments.{Event, PoweredOn, PoweredOff, Received, PlainMoment, PlainLine, line_of, on, live, AreSteady, is_lost, lost, script, asked}
use Rattle.eid_model.specs.Runs.{answers_of}
use Rattle.eid_model.specs.Sessions.{channel}
use Rattle.eid_model.specs.Rules.{Incoming, NoCommand, MissingObjects, WrongObjects, OfCommand}
use Rattle.eid_model.specs.Answers.{Outcome, outcome, question, due}
use Rattle.eid_model.specs.Legal.{IsReadPlain, IsReadProtected, IsReadAs, AreAsked, IsMoment, IsPowered, IsHandled, IsLegalFor, IsLegalMoment, AreLegal, answered, silent, situation_after, IsOnlyJournal}
use Rattle.eid_model.specs.Ledger.{account, books, books_more, pending, kept, state_of}
use Rattle.eid_model.proofs.KeyBytes.{channel_bytes}

-- lists that are equal with one more item are equal without it
pub one_more : {A : Type 0} (xs ys : List A) (x y : A) → xs ++ x ∷ [] ≡ ys ++ y ∷ [] → (xs ≡ ys) × (x ≡ y)
one_more [] [] x y e = (refl, (cc))
one_more [] (b ∷ ys) x y e =
    let lens : length (x ∷ []) ≡ length (b ∷ (ys ++ y ∷ [])) = ap length e in
    absurd (omega (arith, lens, length-append ys (y ∷ [])))
one_more (a ∷ xs) [] x y e =
    let lens : length (a ∷ (xs ++ x ∷ [])) ≡ length (y ∷ []) = ap length e in
    absurd (omega (arith, lens, length-append xs (x ∷ [])))
one_more (a ∷ xs) (b ∷ ys) x y e =
    let rest : xs ++ x ∷ [] ≡ ys ++ y ∷ [] = cc in
    let same = one_more xs ys x y rest in
    let first : xs ≡ ys = same.0 in
    ((cc), same.1)

-- bytes say one thing
same_plain : (bytes : List ℕ) (one other : Incoming) → IsReadPlain bytes one → IsReadPlain bytes other → one ≡ other
same_plain bytes NoCommand NoCommand p q = refl
same_plain bytes NoCommand MissingObjects p q = absurd q
same_plain bytes NoCommand WrongObjects p q = absurd q
same_plain bytes NoCommand (OfCommand d) p q = absurd (p d q.0 q.1)
same_plain bytes MissingObjects other p q = absurd p
same_plain bytes WrongObjects other p q = absurd p
same_plain bytes (OfCommand c) NoCommand p q = absurd (q c p.0 p.1)
same_plain bytes (OfCommand c) MissingObjects p q = absurd q
same_plain bytes (OfCommand c) WrongObjects p q = absurd q
same_plain bytes (OfCommand c) (OfCommand d) p q = ap OfCommand (spells_one bytes c d p.0 q.0)

-- a protected command has the objects
not_missing : (keys : Keys) (n : ℕ) (bytes : List ℕ) (c : PlainCommand) → IsProtected keys n bytes c → LacksObjects bytes → ⊥
not_missing keys n bytes c is lacks = not_lacking bytes (sent_command keys n is.form c is.sent_ne) (protected_has_objects keys n bytes c is) lacks

same_protected : (ch : ChannelState) (bytes : List ℕ) (one other : Incoming) → AreBytes ch.keys.enc → IsReadProtected ch bytes one → IsReadProtected ch bytes other → one ≡ other
same_protected ch bytes NoCommand other k p q = absurd p
same_protected ch bytes MissingObjects NoCommand k p q = absurd q
same_protected ch bytes MissingObjects MissingObjects k p q = refl
same_protected ch bytes MissingObjects WrongObjects k p q = absurd (q.0 p)
same_protected ch bytes MissingObjects (OfCommand d) k p q = absurd (not_missing ch.keys (next_counter ch.counter) bytes d q p)
same_protected ch bytes WrongObjects NoCommand k p q = absurd q
same_protected ch bytes WrongObjects MissingObjects k p q = absurd (p.0 q)
same_protected ch bytes WrongObjects WrongObjects k p q = refl
same_protected ch bytes WrongObjects (OfCommand d) k p q = absurd (p.1 d q)
same_protected ch bytes (OfCommand c) NoCommand k p q = absurd q
same_protected ch bytes (OfCommand c) MissingObjects k p q = absurd (not_missing ch.keys (next_counter ch.counter) bytes c p q)
same_protected ch bytes (OfCommand c) WrongObjects k p q = absurd (q.1 c p)
same_protected ch bytes (OfCommand c) (OfCommand d) k p q = ap OfCommand (one_protected ch.keys (next_counter ch.counter) bytes c d k p q)

pub same_incoming : (session : List PlainMoment) (o : Option ChannelState) (bytes : List ℕ) (one other : Incoming) → channel session ≡ o → IsReadAs o bytes one → IsReadAs o bytes other → one ≡ other
same_incoming session None bytes one other is p q = same_plain bytes one other p q
same_incoming session (Some ch) bytes one other is p q = same_protected ch bytes one other (channel_bytes session ch is) p q

-- the questions that are put are the same, where they are answered from one source
same_first : (x y : Ask) → x.question ≡ y.question → x.answer ≡ y.answer → x ≡ y
same_first x y p q = ap (λ (k : Question). record { question = k; answer = x.answer }) p ∙ ap (λ (k : Answer). record { question = y.question; answer = k }) q

same_question : (o : Option Question) (x y : Question) → o ≡ Some x → o ≡ Some y → x ≡ y
same_question o x y p q = cc

same_asks : (source : Source) (next : List Answer → Option Question) (log : List Ask) (given : List Answer) (a b : List Ask) → AreAsked next given a → AreAsked next given b → AnswersFrom source (log ++ a) → AnswersFrom source (log ++ b) → a ≡ b
same_asks source next log given [] [] p q s t = refl
same_asks source next log given [] (y ∷ b) p q s t = absurd (none (next given) y.question p q.0) where
  none : (o : Option Question) (x : Question) → o ≡ None → o ≡ Some x → ⊥
  none o x p q = cc
same_asks source next log given (x ∷ a) [] p q s t = absurd (none (next given) x.question q p.0) where
  none : (o : Option Question) (x : Question) → o ≡ None → o ≡ Some x → ⊥
  none o x p q = cc
same_asks source next log given (x ∷ a) (y ∷ b) p q s t =
    let questions : x.question ≡ y.question = same_question (next given) x.question y.question p.0 q.0 in
    let answers : x.answer ≡ y.answer = s.each log a x refl ∙ ap (source log) questions ∙ sym (t.each log b y refl) in
    let first : x ≡ y = same_first x y questions answers in
    let later_a : AnswersFrom source ((log ++ x ∷ []) ++ a) = subst (AnswersFrom source) (sym (append_assoc log (x ∷ []) a)) s in
    let later_b : AnswersFrom source ((log ++ x ∷ []) ++ b) = subst (AnswersFrom source) (ap (λ (f : Ask). log ++ f ∷ b) (sym first) ∙ sym (append_assoc log (x ∷ []) b)) t in
    let asked_b : AreAsked next (given ++ x.answer ∷ []) b = subst (λ (f : Ask). AreAsked next (given ++ f.answer ∷ []) b) (sym first) q.2 in
    let later : a ≡ b = same_asks source next (log ++ x ∷ []) (given ++ x.answer ∷ []) a b p.2 asked_b later_a later_b in
    ap (λ (f : Ask). f ∷ a) first ∙ ap (λ (l : List Ask). y ∷ l) later

-- what was incoming and what was asked
same_powered : (source : Source) (opening : FullRecord) (before : List PlainMoment) (bytes : List ℕ) (m n : PlainMoment) (reply other : PlainReply) → AnswersFrom source (asked (m ∷ before)) → AnswersFrom source (asked (n ∷ before))
    → m.answer ≡ Some reply → n.answer ≡ Some other → IsPowered opening before bytes m → IsPowered opening before bytes n → m ≡ n
same_powered source opening before bytes m n reply other s t m_answered n_answered p q =
    let ch = channel (live before) in
    let incoming : p.incoming ≡ q.incoming = same_incoming (live before) ch bytes p.incoming q.incoming refl p.reads q.reads in
    let next : Incoming → List Answer → Option Question = λ (h : Incoming) (given : List Answer). question (situation_after opening before h given) in
    let q_asked : AreAsked (next p.incoming) [] n.asks = subst (λ (h : Incoming). AreAsked (next h) [] n.asks) (sym incoming) q.asked in
    let asks : m.asks ≡ n.asks = same_asks source (next p.incoming) (asked before) [] m.asks n.asks p.asked q_asked s t in
    let made : Incoming → List Ask → PlainMoment = λ (h : Incoming) (a : List Ask). answered ch bytes h a (length (due (situation_after opening before h (answers_of a)))) (outcome (situation_after opening before h (answers_of a))) in
    let due_for : Incoming → List Ask → List PlainEffect = λ (h : Incoming) (a : List Ask). due (situation_after opening before h (answers_of a)) in
    let ends : Incoming → List Ask → Outcome = λ (h : Incoming) (a : List Ask). outcome (situation_after opening before h (answers_of a)) in
    let m_is : m ≡ made p.incoming m.asks = subst (λ (o : Option PlainReply). IsMoment o ch bytes p.incoming (due_for p.incoming m.asks) (ends p.incoming m.asks) m) m_answered p.moment in
    let n_is : n ≡ made q.incoming n.asks = subst (λ (o : Option PlainReply). IsMoment o ch bytes q.incoming (due_for q.incoming n.asks) (ends q.incoming n.asks) n) n_answered q.moment in
    m_is ∙ ap (λ (h : Incoming). made h m.asks) incoming ∙ ap (λ (a : List Ask). made q.incoming a) asks ∙ sym n_is

same_handled : (source : Source) (power : Bool) (opening : FullRecord) (before : List PlainMoment) (bytes : List ℕ) (m n : PlainMoment) → AnswersFrom source (asked (m ∷ before)) → AnswersFrom source (asked (n ∷ before)) → on before ≡ power
    → (is_none m.answer && on before) ≡ false → (is_none n.answer && on before) ≡ false → IsHandled opening before bytes m → IsHandled opening before bytes n → m ≡ n
same_handled source true opening before bytes m n s t power m_kept n_kept p q = by m.answer n.answer refl refl where
  by : (a b : Option PlainReply) → m.answer ≡ a → n.answer ≡ b → m ≡ n
  by None b a_is b_is = absurd (let none : (is_none m.answer && on before) ≡ true = rw (a_is, power) refl in cc)
  by (Some reply) None a_is b_is = absurd (let none : (is_none n.answer && on before) ≡ true = rw (b_is, power) refl in cc)
  by (Some reply) (Some other) a_is b_is = same_powered source opening before bytes m n reply other s t a_is b_is (p.powered power) (q.powered power)
same_handled source false opening before bytes m n s t power m_kept n_kept p q = p.unpowered power ∙ sym (q.unpowered power)

-- without a cut nothing is pending
pub nothing_pending : (opening : FullRecord) (moments : List PlainMoment) → AreSteady moments → pending opening moments ≡ None
unfolding account
nothing_pending opening [] steady = refl
nothing_pending opening (m ∷ before) steady = by m.input refl (nothing_pending opening before steady.0) steady.1 where
  handled : (power : Bool) (o : Option PlainReply) → on before ≡ power → m.answer ≡ o → pending opening before ≡ None → (is_none m.answer && on before) ≡ false → (books_more opening (on before) (state_of opening before) m (Received []) (books opening before)).pending ≡ None
  handled false o power answer earlier kept = rw power earlier
  handled true None power answer earlier kept = absurd (let none : (is_none m.answer && on before) ≡ true = rw (answer, power) refl in cc)
  handled true (Some reply) power answer earlier kept = rw (power, answer) refl

  by : (e : Event) → m.input ≡ e → pending opening before ≡ None → lost m before ≡ false → (books_more opening (on before) (state_of opening before) m e (books opening before)).pending ≡ None
  by (PoweredOn None) is earlier kept = earlier
  by (PoweredOn (Some found)) is earlier kept = refl
  by PoweredOff is earlier kept = earlier
  by (Received bytes) is earlier kept = handled (on before) m.answer refl refl earlier (rw is at kept)

-- what came, and the moments before, determine the moment
same_for : (source : Source) (e f : Event) (opening : FullRecord) (before : List PlainMoment) (m n : PlainMoment) → AnswersFrom source (asked (m ∷ before)) → AnswersFrom source (asked (n ∷ before)) → IsLegalFor e opening before m → IsLegalFor f opening before n
    → pending opening before ≡ None → is_lost e (is_none m.answer && on before) ≡ false → is_lost f (is_none n.answer && on before) ≡ false → line_of e ≡ line_of f → m ≡ n
same_for source (PoweredOn None) f opening before m n from_m from_n p q none e_steady f_steady lines = absurd (cc)
same_for source (PoweredOn (Some x)) (PoweredOn None) opening before m n from_m from_n p q none e_steady f_steady lines = absurd (cc)
same_for source (PoweredOn (Some x)) (PoweredOn (Some y)) opening before m n from_m from_n p q none e_steady f_steady lines =
    let first : x ≡ (kept opening before).fields.number = rw none at p.0 in
    let second : y ≡ (kept opening before).fields.number = rw none at q.0 in
    let number : x ≡ y = first ∙ sym second in
    p.1 ∙ ap (λ (k : ℕ). silent (PoweredOn (Some k))) number ∙ sym q.1
same_for source (PoweredOn (Some x)) PoweredOff opening before m n from_m from_n p q none e_steady f_steady lines = absurd (cc)
same_for source (PoweredOn (Some x)) (Received bytes) opening before m n from_m from_n p q none e_steady f_steady lines = absurd (cc)
same_for source PoweredOff (PoweredOn found) opening before m n from_m from_n p q none e_steady f_steady lines = absurd (cc)
same_for source PoweredOff PoweredOff opening before m n from_m from_n p q none e_steady f_steady lines = p ∙ sym q
same_for source PoweredOff (Received bytes) opening before m n from_m from_n p q none e_steady f_steady lines = absurd (cc)
same_for source (Received bytes) (PoweredOn found) opening before m n from_m from_n p q none e_steady f_steady lines = absurd (cc)
same_for source (Received bytes) PoweredOff opening before m n from_m from_n p q none e_steady f_steady lines = absurd (cc)
same_for source (Received bytes) (Received others) opening before m n from_m from_n p q none e_steady f_steady lines =
    let same : others ≡ bytes = cc in
    same_handled source (on before) opening before bytes m n from_m from_n refl e_steady f_steady p (rw same at q)

-- a front of what a source answered
answers_front : (source : Source) (a b : List Ask) → AnswersFrom source (a ++ b) → AnswersFrom source a
answers_front source a b from = record {
  each = λ before later ask is. from.each before (later ++ b) ask (ap (λ (l : List Ask). l ++ b) is ∙ append_assoc before (ask ∷ later) b);
}

-- one journal for what came
pub one_journal : (source : Source) (opening : FullRecord) (one other : List PlainMoment) → AreLegal opening one → AreLegal opening other → AreSteady one → AreSteady other → script one ≡ script other → AnswersFrom source (asked one) → AnswersFrom source (asked other) → one ≡ other
one_journal source opening [] [] p q s t lines f g = refl
one_journal source opening [] (n ∷ b) p q s t lines f g =
    let lens : length {A = PlainLine} [] ≡ length (script b ++ line_of n.input ∷ []) = ap length lines in
    absurd (omega (arith, lens, length-append (script b) (line_of n.input ∷ [])))
one_journal source opening (m ∷ a) [] p q s t lines f g =
    let lens : length (script a ++ line_of m.input ∷ []) ≡ length {A = PlainLine} [] = ap length lines in
    absurd (omega (arith, lens, length-append (script a) (line_of m.input ∷ [])))
one_journal source opening (m ∷ a) (n ∷ b) p q s t lines f g =
    let parts = one_more (script a) (script b) (line_of m.input) (line_of n.input) lines in
    let before : b ≡ a = sym (one_journal source opening a b p.1 q.1 s.0 t.0 parts.0 (answers_front source (asked a) m.asks f) (answers_front source (asked b) n.asks g)) in
    let legal : IsLegalMoment opening a n = subst (λ (moments : List PlainMoment). IsLegalMoment opening moments n) before q.0 in
    let from_n : AnswersFrom source (asked (n ∷ a)) = subst (λ (moments : List PlainMoment). AnswersFrom source (asked (n ∷ moments))) before g in
    let same : m ≡ n = same_for source m.input n.input opening a m n f from_n p.0 legal (nothing_pending opening a s.0) s.1 (rw before at t.1) parts.1 in
    ap (λ (x : PlainMoment). x ∷ a) same ∙ ap (λ (l : List PlainMoment). n ∷ l) (sym before)

-- a journal without a cut is the only one
pub only_journal : (source : Source) (opening : FullRecord) (moments : List PlainMoment) → AreLegal opening moments → AreSteady moments → AnswersFrom source (asked moments) → IsOnlyJournal source opening moments
only_journal source opening moments legal steady told other of_other its_steady same answered = one_journal source opening other moments of_other legal its_steady steady same answered told
