-- One turn of a loop over the lines of a text.
use Rattle.std.proofs.Common.{◌≡◌, ℕ, ◌+◌, ◌<◌, ◌≤◌, List, [], ◌∷◌, ◌++◌, length, drop, get_or, refl, sym, ◌∙◌, ap, arith}
use Rattle.std.proofs.Common.{Option, Some, None, Result, Ok, Err, append_assoc}
use Rattle.std.proofs.lemmas.Bool.Decides.{nat_tests}
use Rattle.std.proofs.lemmas.List.{drop_more, drop_all, append-nil}
use Rattle.eid_text.specs.Lines.{after, joined, all_say, text_says, said_in, text_limit}

pub too_long : {S : Type 0} (says : List ℕ → Option (List S)) (text : List ℕ) → text_limit < length text → said_in says text ≡ Err 0
too_long says text long = grind (arith, nat_tests)

pub short_enough : {S : Type 0} (says : List ℕ → Option (List S)) (text : List ℕ) → length text ≤ text_limit → said_in says text ≡ text_says says text
short_enough says text short = grind (arith, nat_tests)

-- nothing was read yet
pub at_start : {S : Type 0} (read : Result (List S) ℕ) → read ≡ after [] read
at_start (Ok later) = refl
at_start (Err number) = refl

-- what was read, then a line, then the rest
after_more : {S : Type 0} (read said : List S) (rest : Result (List S) ℕ) → after read (after said rest) ≡ after (read ++ said) rest
after_more read said (Err line) = refl
after_more read said (Ok more) = ap Ok (sym (append_assoc read said more))

full_line : {S : Type 0} (says : List ℕ → Option (List S)) (number : ℕ) (line : List ℕ) (later : List (List ℕ))
    → all_say says number (line ∷ later) ≡ joined number (says line) (all_say says (number + 1) later)
unfolding all_say
full_line says number line later = refl

no_line : {S : Type 0} (says : List ℕ → Option (List S)) (number : ℕ) → all_say says number [] ≡ Ok []
unfolding all_say
no_line says number = refl

-- the next line of the text
next_line : (lines : List (List ℕ)) (number : ℕ) (line : List ℕ) → number < length lines → line ≡ get_or lines number line
    → drop number lines ≡ line ∷ drop (number + 1) lines
next_line lines number line more is = drop_more lines number line more ∙ ap (λ l. l ∷ drop (number + 1) lines) (sym is)

-- over a line that can be read
pub turn_said : {S : Type 0} (says : List ℕ → Option (List S)) (lines : List (List ℕ)) (number : ℕ) (line : List ℕ) (all : Result (List S) ℕ) (read first : List S)
    → (number < length lines) × (line ≡ get_or lines number line) → says line ≡ Some first
    → all ≡ after read (all_say says (number + 1) (drop number lines))
    → all ≡ after (read ++ first) (all_say says (number + 1 + 1) (drop (number + 1) lines))
turn_said says lines number line all read first next is so_far =
    let later = all_say says (number + 1 + 1) (drop (number + 1) lines) in
    so_far ∙ ap (λ l. after read (all_say says (number + 1) l)) (next_line lines number line next.0 next.1)
    ∙ ap (after read) (full_line says (number + 1) line (drop (number + 1) lines) ∙ ap (λ a. joined (number + 1) a later) is)
    ∙ after_more read first later

-- over one that cannot
pub turn_bad : {S : Type 0} (says : List ℕ → Option (List S)) (lines : List (List ℕ)) (number : ℕ) (line : List ℕ) (all : Result (List S) ℕ) (read : List S)
    → (number < length lines) × (line ≡ get_or lines number line) → says line ≡ None
    → all ≡ after read (all_say says (number + 1) (drop number lines)) → all ≡ Err (number + 1)
turn_bad says lines number line all read next none so_far =
    let later = all_say says (number + 1 + 1) (drop (number + 1) lines) in
    so_far ∙ ap (λ l. after read (all_say says (number + 1) l)) (next_line lines number line next.0 next.1)
    ∙ ap (after read) (full_line says (number + 1) line (drop (number + 1) lines) ∙ ap (λ a. joined (number + 1) a later) none)

-- behind the last line
pub at_end : {S : Type 0} (says : List ℕ → Option (List S)) (lines : List (List ℕ)) (number : ℕ) (all : Result (List S) ℕ) (read : List S) → number ≡ length lines
    → all ≡ after read (all_say says (number + 1) (drop number lines)) → all ≡ Ok read
at_end says lines number all read whole so_far =
    let none : drop number lines ≡ [] = drop_all number lines (omega arith) in
    so_far ∙ ap (λ l. after read (all_say says (number + 1) l)) none ∙ ap (after read) (no_line says (number + 1)) ∙ ap Ok (append-nil read)

-- the number of a bad line is at least the first one's
pub later_number : {S : Type 0} (says : List ℕ → Option (List S)) (number : ℕ) (lines : List (List ℕ)) (bad : ℕ) → all_say says number lines ≡ Err bad → number ≤ bad
unfolding all_say
later_number says number [] bad h = absurd (cc)
later_number {S = S} says number (line ∷ lines) bad h =
    at (says line) (all_say says (number + 1) lines) (λ e. later_number says (number + 1) lines bad e) h
  where
    at : (o : Option (List S)) (r : Result (List S) ℕ) → (r ≡ Err bad → number + 1 ≤ bad) → joined number o r ≡ Err bad → number ≤ bad
    at None r later e = let same : number ≡ bad = cc in omega arith
    at (Some said) (Ok more) later e = absurd (cc)
    at (Some said) (Err line) later e = let same : line ≡ bad = cc in omega (arith, later (ap Err same))
