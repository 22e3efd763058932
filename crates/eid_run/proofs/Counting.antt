-- The counts of generated sessions.
use Rattle.std.proofs.Common.{◌≡◌, ℕ, suc, ◌+◌, ◌%◌, false, List, [], ◌∷◌, ◌++◌, Option, Some, Result, Ok, Err, refl, sym, ap, ◌∙◌, subst, add_assoc, zero-add, arith}
use Rattle.std.specs.Prelude.{◌==◌, IfOk, IsSome, codes}
use Rattle.eid_base.specs.declared.codes.NoMemory.{NoMemory}
use Rattle.eid_cells.specs.Device.{Device}
use Rattle.eid_copro.specs.Told.{Start, KeepsTo}
use Rattle.eid_model.proofs.Journals.{nothing_pending}
use Rattle.eid_model.specs.Ledger.{MayHold, kept}
use Rattle.eid_perso.specs.Image.{image}
use Rattle.eid_record.specs.Plain.{FullRecord, PlainEffect}
use Rattle.eid_store.specs.declared.store.Store.{Store}
use Rattle.eid_store.specs.Stands.{stands}
use Rattle.eid_store.specs.Store.{Fits, fields_of}
use Rattle.eid_store.proofs.Laws.{stood_for}
use Rattle.eid_terminal.specs.Plans.{PlainPlan}
use Rattle.eid_workload.specs.Generated.{big_config, big_plans, big_record, first_plans, plan_with, six_digits}
use Rattle.eid_run.specs.Attempts.{Met, Tried}
use Rattle.eid_run.specs.Big.{AreSessions, AreTalks, IsSession, PlainCounts, Talk, counts_of, nothing, together}
use Rattle.eid_run.specs.Meetings.{Coprocessors, inverted, meeting}
use Rattle.eid_run.specs.Runs.{journal, outside, resting}
use Rattle.eid_step.specs.Sinks.{untold}
use Rattle.eid_run.specs.Tallies.{CountedSession, no_results}
use Rattle.eid_run.specs.declared.big.Left.{Left}
use Rattle.eid_run.specs.declared.tally.Tally.{Tally}
use Rattle.eid_run.proofs.Meeting.{met_whole, model_source}
use Rattle.eid_run.proofs.Running.{some_of}

-- ---- the record in cells

-- the fields that a store keeps are those of the record that the cells stand for
pub fields_are : (store : Store) (device : Device) (cells : List ℕ) (full : FullRecord) → Fits store device cells → stands cells ≡ Some full → fields_of store ≡ full.fields
fields_are store device cells full fits is =
    let found = stood_for store device cells fits in
    let same : found.0 ≡ full = cc in
    sym found.2 ∙ ap (λ (f : FullRecord). f.fields) same

-- ---- counts

abbrev counts : ℕ → ℕ → ℕ → PlainCounts
counts a b c = record { answered = a; refused = b; commits = c }

same_counts : (a b c d e f : ℕ) → a ≡ d → b ≡ e → c ≡ f → counts a b c ≡ counts d e f
same_counts a b c d e f p q r = rw (p, q, r) refl

nothing_together : (b : PlainCounts) → together nothing b ≡ b
nothing_together b = same_counts _ _ _ b.answered b.refused b.commits (zero-add b.answered) (zero-add b.refused) (zero-add b.commits)

together_nothing : (b : PlainCounts) → together b nothing ≡ b
together_nothing b = same_counts _ _ _ b.answered b.refused b.commits (omega arith) (omega arith) (omega arith)

together_on : (a b c : PlainCounts) → together (together a b) c ≡ together a (together b c)
together_on a b c = same_counts _ _ _ _ _ _ (add_assoc a.answered b.answered c.answered) (add_assoc a.refused b.refused c.refused) (add_assoc a.commits b.commits c.commits)

-- ---- one terminal

-- the cells that it left stand for the record kept
left_stands : (number : ℕ) (plan : PlainPlan) (cells left : List ℕ) (talk : Talk number plan cells left) → stands left ≡ Some (kept talk.opening (journal talk.met.did.conversed.happened))
left_stands number plan cells left talk =
    let moments = journal talk.met.did.conversed.happened in
    subst (λ (p : Option PlainEffect). MayHold p (kept talk.opening moments) (stands left)) (nothing_pending talk.opening moments talk.met.steady) talk.met.did.conversed.ran.cells

pub met_stands : (number : ℕ) (plan : PlainPlan) (cells left : List ℕ) (tally : Tally) → Met number plan cells left tally → IsSome (stands left)
met_stands number plan cells left tally met = rw (left_stands number plan cells left met.talk) refl

pub is_met : (number : ℕ) (plan : PlainPlan) (cells left : List ℕ) (copros : Coprocessors) (device : Device) (tally : Tally) → copros.chip.told ≡ Start number → copros.terminal.told ≡ Start (inverted number) → copros.chip.log ≡ [] → copros.terminal.log ≡ []
    → KeepsTo copros.chip_now.told copros.chip_now.log → KeepsTo copros.terminal_now.told copros.terminal_now.log → IsSome (stands cells)
    → ((opening : FullRecord) → stands cells ≡ Some opening → CountedSession plan opening (outside resting cells copros.chip untold) (outside device left copros.chip_now untold) copros.terminal copros.terminal_now tally)
    → Met number plan cells left tally
unfolding met_whole
is_met number plan cells left copros device tally chip_told terminal_told chip_unasked terminal_unasked chip_keeps terminal_keeps some did =
    let found = some_of (stands cells) some in
    let counted = did found.0 found.1 in
    record {
      talk = record {
        opening = found.0;
        stood = found.1;
        met = met_whole number (meeting found.0 cells plan) copros device left untold untold (model_source number copros.chip.told chip_told) (model_source (inverted number) copros.terminal.told terminal_told)
            chip_unasked terminal_unasked chip_keeps terminal_keeps counted.did refl;
      };
      counted = counted.counted;
    }

-- ---- terminals one after the other

none_tried : (number : ℕ) (cells : List ℕ) → Tried number [] cells cells no_results
none_tried number cells = record { commits = 0; talks = (refl, refl) }

-- where there is no attempt with a wrong PIN, and where there is one
pub not_tried : (number : ℕ) (cells : List ℕ) → (number % 3 == 0) ≡ false → Tried number (first_plans number) cells cells no_results
not_tried number cells other = rw other (none_tried number cells)

pub one_tried : (number : ℕ) (plan : PlainPlan) (cells left : List ℕ) (tally : Tally) → Met number plan cells left tally → Tried number (plan ∷ []) cells left tally
one_tried number plan cells left tally met =
    let counts = counts_of number plan cells left met.talk in
    record {
      commits = counts.commits;
      talks = (left, (met.talk, (nothing, ((refl, refl), same_counts _ _ _ _ _ _ met.counted.answered met.counted.refused refl ∙ sym (together_nothing counts)))));
    }

pub third_tried : (r : Result Left NoMemory) (number : ℕ) (plan : PlainPlan) (cells : List ℕ) → number % 3 ≡ 0 → plan ≡ plan_with number (codes "000000")
    → IfOk r (λ left. Met number plan cells left.cells.items left.tally) → IfOk r (λ left. Tried number (first_plans number) cells left.cells.items left.tally)
third_tried (Ok left) number plan cells third is met =
    rw third (one_tried number (plan_with number (codes "000000")) cells left.cells.items left.tally (subst (λ (p : PlainPlan). Met number p cells left.cells.items left.tally) is met))
third_tried (Err error) number plan cells third is met = met

joined : (number : ℕ) (first later : List PlainPlan) (cells middle left : List ℕ) (a b : PlainCounts) → AreTalks number first cells middle a → AreTalks number later middle left b → AreTalks number (first ++ later) cells left (together a b)
joined number [] later cells middle left a b one two =
    let from : AreTalks number later cells left b = subst (λ (c : List ℕ). AreTalks number later c left b) one.0 two in
    subst (λ (c : PlainCounts). AreTalks number later cells left c) (sym (ap (λ (c : PlainCounts). together c b) one.1 ∙ nothing_together b)) from
joined number (plan ∷ more) later cells middle left a b one two =
    let talk = one.1.0 in
    let rest = one.1.1.0 in
    let others = joined number more later one.0 middle left rest b one.1.1.1.0 two in
    (one.0, (talk, (together rest b, (others, ap (λ (c : PlainCounts). together c b) one.1.1.1.1 ∙ together_on (counts_of number plan cells one.0 talk) rest b))))

-- the commit number tells of all commits
number_left : (number : ℕ) (plans : List PlainPlan) (cells left : List ℕ) (counts : PlainCounts) (opening : FullRecord) → AreTalks number plans cells left counts → stands cells ≡ Some opening
    → (closing : FullRecord) × (stands left ≡ Some closing) × (closing.fields.number ≡ opening.fields.number + counts.commits)
number_left number [] cells left counts opening talks stood = (opening, ap stands talks.0 ∙ stood, omega (arith, ap (λ (c : PlainCounts). c.commits) talks.1))
number_left number (plan ∷ later) cells left counts opening talks stood =
    let talk = talks.1.0 in
    let rest = talks.1.1.0 in
    let next = kept talk.opening (journal talk.met.did.conversed.happened) in
    let more = number_left number later talks.0 left rest next talks.1.1.1.0 (left_stands number plan cells talks.0 talk) in
    let same : talk.opening ≡ opening = one_record talk.opening opening (sym talk.stood ∙ stood) in
    (more.0, more.1, omega (arith, more.2, ap (λ (c : PlainCounts). c.commits) talks.1.1.1.1, ap (λ (f : FullRecord). f.fields.number) same))
  where
    one_record : (a b : FullRecord) → Some a ≡ Some b → a ≡ b
    one_record a b same = cc

pub tried_stands : (number : ℕ) (plans : List PlainPlan) (cells left : List ℕ) (tally : Tally) → Tried number plans cells left tally → IsSome (stands cells) → IsSome (stands left)
tried_stands number plans cells left tally tried some =
    let found = some_of (stands cells) some in
    let closing = number_left number plans cells left _ found.0 tried.talks found.1 in
    rw closing.1 refl

-- ---- sessions

pub is_session : (number : ℕ) (cells middle left : List ℕ) (first second : Tally) (commits : ℕ) → cells ≡ image (big_config number) → stands cells ≡ Some (big_record number)
    → Tried number (first_plans number) cells middle first → Met number (plan_with number (six_digits number)) middle left second → ((full : FullRecord) → stands left ≡ Some full → commits ≡ full.fields.number)
    → IsSession number (record { answered = first.answered + second.answered; refused = first.refused + second.refused; commits = commits })
is_session number cells middle left first second commits is stood tried met commits_are =
    let plan = plan_with number (six_digits number) in
    let later = one_tried number plan middle left second met in
    let all = joined number (first_plans number) (plan ∷ []) cells middle left _ _ tried.talks later.talks in
    let closing = number_left number (big_plans number) cells left _ (big_record number) all stood in
    let number_is : commits ≡ tried.commits + later.commits = commits_are closing.0 closing.1 ∙ closing.2 ∙ zero-add (tried.commits + later.commits) in
    record {
      stood = subst (λ (c : List ℕ). stands c ≡ Some (big_record number)) is stood;
      left = left;
      talks = subst (λ (c : List ℕ). AreTalks number (big_plans number) c left (record { answered = first.answered + second.answered; refused = first.refused + second.refused; commits = commits })) is
          (subst (λ (n : ℕ). AreTalks number (big_plans number) cells left (record { answered = first.answered + second.answered; refused = first.refused + second.refused; commits = n })) (sym number_is) all);
    }

pub one_more : (done : ℕ) (earlier last : PlainCounts) → AreSessions done earlier → IsSession (done + 1) last → AreSessions (done + 1) (together earlier last)
one_more done earlier last ran session =
    let same : done + 1 ≡ suc done = omega arith in
    subst (λ (n : ℕ). AreSessions n (together earlier last)) (sym same) (earlier, (last, (ran, subst (λ (n : ℕ). IsSession n last) same session, refl)))
