-- Reading the lines of a text is the converse of a grammar that writes them.
use Rattle.std.proofs.Common.{◌≡◌, ℕ, ◌+◌, ◌≤◌, Bool, true, false, cond, inl, inr, List, [], ◌∷◌, ◌++◌, length}
use Rattle.std.proofs.Common.{Option, Some, None, Result, Ok, Err, refl, sym, ap, ◌∙◌, subst, arith}
use Rattle.std.specs.Prelude.{nat_le, ◌↔◌, ⊤}
use Rattle.std.specs.List.{slice_split, onto_first, join_with_byte}
use Rattle.std.proofs.lemmas.Bool.Decides.{nat_tests}
use Rattle.std.proofs.lemmas.List.Elements.{All-nil, All-cons}
use Rattle.std.proofs.lemmas.List.Splits.{slice_split_none, slice_split_at, join_with_byte-slice_split}
use Rattle.eid_text.specs.Lines.{joined, all_say, is_lf, text_says, text_limit, said_in}
use Rattle.eid_text.specs.Grammars.{Say, AreLines, Writes, IsBad, BreaksOff}

-- what a grammar says of a line that was read so
abbrev pub Told : {S : Type 0} → (List ℕ → Type 0) → (List ℕ → S → Type 0) → List ℕ → Option (List S) → Type 0
Told IsNote Spells line None = ⊤
Told IsNote Spells line (Some []) = IsNote line
Told IsNote Spells line (Some (s ∷ [])) = Spells line s
Told IsNote Spells line (Some (s ∷ t ∷ more)) = ⊥

-- each line is read as the grammar says
pub record Agrees {S : Type 0} (says : List ℕ → Option (List S)) (IsNote : List ℕ → Type 0) (Spells : List ℕ → S → Type 0) : Type 0 where
  pub told : (line : List ℕ) → Told IsNote Spells line (says line)
  pub notes : (line : List ℕ) → IsNote line → says line ≡ Some []
  pub things : (line : List ℕ) (s : S) → Spells line s → says line ≡ Some (s ∷ [])

-- ---- lines

say_note : {S : Type 0} (IsNote : List ℕ → Type 0) (Spells : List ℕ → S → Type 0) (line : List ℕ) (lines : List (List ℕ)) (said : List S)
    → IsNote line → Say IsNote Spells lines said → Say IsNote Spells (line ∷ lines) said
say_note IsNote Spells line lines [] note rest = (note, rest)
say_note IsNote Spells line lines (s ∷ said) note rest = inl (note, rest)

say_more : {S : Type 0} (IsNote : List ℕ → Type 0) (Spells : List ℕ → S → Type 0) (line : List ℕ) (lines : List (List ℕ)) (first later : List S)
    → Told IsNote Spells line (Some first) → Say IsNote Spells lines later → Say IsNote Spells (line ∷ lines) (first ++ later)
say_more IsNote Spells line lines [] later t rest = say_note IsNote Spells line lines later t rest
say_more IsNote Spells line lines (s ∷ []) later t rest = inr (t, rest)
say_more IsNote Spells line lines (s ∷ u ∷ more) later t rest = absurd t

all_told : {S : Type 0} (says : List ℕ → Option (List S)) (IsNote : List ℕ → Type 0) (Spells : List ℕ → S → Type 0) → Agrees says IsNote Spells
    → (number : ℕ) (lines : List (List ℕ)) (said : List S) → all_say says number lines ≡ Ok said → Say IsNote Spells lines said
unfolding all_say
all_told says IsNote Spells agrees number [] [] h = tt
all_told says IsNote Spells agrees number [] (s ∷ said) h = absurd (cc)
all_told {S = S} says IsNote Spells agrees number (line ∷ lines) said h =
    by (says line) (agrees.told line) (all_say says (number + 1) lines) (λ later e. all_told says IsNote Spells agrees (number + 1) lines later e) h where
      by : (o : Option (List S)) → Told IsNote Spells line o → (r : Result (List S) ℕ) → ((later : List S) → r ≡ Ok later → Say IsNote Spells lines later)
          → joined number o r ≡ Ok said → Say IsNote Spells (line ∷ lines) said
      by None t r rest h = absurd (cc)
      by (Some first) t (Err e) rest h = absurd (cc)
      by (Some first) t (Ok later) rest h =
          let same : first ++ later ≡ said = cc in
          subst (λ (x : List S). Say IsNote Spells (line ∷ lines) x) same (say_more IsNote Spells line lines first later t (rest later refl))

all_read : {S : Type 0} (says : List ℕ → Option (List S)) (IsNote : List ℕ → Type 0) (Spells : List ℕ → S → Type 0) → Agrees says IsNote Spells
    → (number : ℕ) (lines : List (List ℕ)) (said : List S) → Say IsNote Spells lines said → all_say says number lines ≡ Ok said
unfolding all_say
all_read says IsNote Spells agrees number [] [] h = refl
all_read says IsNote Spells agrees number [] (s ∷ said) h = absurd h
all_read says IsNote Spells agrees number (line ∷ lines) [] h =
    rw (agrees.notes line h.0, all_read says IsNote Spells agrees (number + 1) lines [] h.1) refl
all_read says IsNote Spells agrees number (line ∷ lines) (s ∷ said) (inl h) =
    rw (agrees.notes line h.0, all_read says IsNote Spells agrees (number + 1) lines (s ∷ said) h.1) refl
all_read says IsNote Spells agrees number (line ∷ lines) (s ∷ said) (inr h) =
    rw (agrees.things line s h.0, all_read says IsNote Spells agrees (number + 1) lines said h.1) refl

-- ---- the first bad line

bad_read : {S : Type 0} (says : List ℕ → Option (List S)) (IsNote : List ℕ → Type 0) (Spells : List ℕ → S → Type 0) → Agrees says IsNote Spells
    → (line : List ℕ) → IsBad IsNote Spells line → says line ≡ None
bad_read {S = S} says IsNote Spells agrees line bad = by (says line) (agrees.told line) where
  by : (o : Option (List S)) → Told IsNote Spells line o → o ≡ None
  by None t = refl
  by (Some []) t = absurd (bad.no_note t)
  by (Some (s ∷ [])) t = absurd (bad.no_thing s t)
  by (Some (s ∷ u ∷ more)) t = absurd t

none_bad : {S : Type 0} (says : List ℕ → Option (List S)) (IsNote : List ℕ → Type 0) (Spells : List ℕ → S → Type 0) → Agrees says IsNote Spells
    → (line : List ℕ) → says line ≡ None → IsBad IsNote Spells line
none_bad says IsNote Spells agrees line none = record {
  no_note = λ note. let some = agrees.notes line note in cc;
  no_thing = λ s thing. let some = agrees.things line s thing in cc;
}

-- where lines, counted from a number, break off
record Stops {S : Type 0} (IsNote : List ℕ → Type 0) (Spells : List ℕ → S → Type 0) (start : ℕ) (lines : List (List ℕ)) (number : ℕ) : Type 0 where
  before : List (List ℕ)
  bad : List ℕ
  later : List (List ℕ)
  said : List S
  is : lines ≡ before ++ bad ∷ later
  say : Say IsNote Spells before said
  is_bad : IsBad IsNote Spells bad
  counted : number ≡ start + length before

err_told : {S : Type 0} (says : List ℕ → Option (List S)) (IsNote : List ℕ → Type 0) (Spells : List ℕ → S → Type 0) → Agrees says IsNote Spells
    → (start : ℕ) (lines : List (List ℕ)) (number : ℕ) → all_say says start lines ≡ Err number → Stops IsNote Spells start lines number
unfolding all_say
err_told says IsNote Spells agrees start [] number h = absurd (cc)
err_told {S = S} says IsNote Spells agrees start (line ∷ lines) number h =
    by (says line) refl (agrees.told line) (all_say says (start + 1) lines) (λ e. err_told says IsNote Spells agrees (start + 1) lines number e) h where
      by : (o : Option (List S)) → says line ≡ o → Told IsNote Spells line o → (r : Result (List S) ℕ)
          → (r ≡ Err number → Stops IsNote Spells (start + 1) lines number) → joined start o r ≡ Err number → Stops IsNote Spells start (line ∷ lines) number
      by None is t r rest h = let same : start ≡ number = cc in record {
        before = [];
        bad = line;
        later = lines;
        said = [];
        is = refl;
        say = tt;
        is_bad = none_bad says IsNote Spells agrees line is;
        counted = omega arith;
      }
      by (Some first) is t (Ok later) rest h = absurd (cc)
      by (Some first) is t (Err e) rest h =
          let same : e ≡ number = cc in
          let stops = rest (ap Err same) in
          record {
            before = line ∷ stops.before;
            bad = stops.bad;
            later = stops.later;
            said = first ++ stops.said;
            is = ap (λ (l : List (List ℕ)). line ∷ l) stops.is;
            say = say_more IsNote Spells line stops.before first stops.said t stops.say;
            is_bad = stops.is_bad;
            counted = omega (arith, stops.counted);
          }

err_read : {S : Type 0} (says : List ℕ → Option (List S)) (IsNote : List ℕ → Type 0) (Spells : List ℕ → S → Type 0) → Agrees says IsNote Spells
    → (start : ℕ) (before : List (List ℕ)) (bad : List ℕ) (later : List (List ℕ)) (said : List S) → Say IsNote Spells before said → says bad ≡ None
    → all_say says start (before ++ bad ∷ later) ≡ Err (start + length before)
unfolding all_say
err_read says IsNote Spells agrees start [] bad later [] say none = rw none (ap Err (omega arith))
err_read says IsNote Spells agrees start [] bad later (s ∷ said) say none = absurd say
err_read says IsNote Spells agrees start (line ∷ before) bad later [] say none =
    let counted : (start + 1) + length before ≡ start + length (line ∷ before) = omega arith in
    rw (agrees.notes line say.0, err_read says IsNote Spells agrees (start + 1) before bad later [] say.1 none) (ap Err counted)
err_read says IsNote Spells agrees start (line ∷ before) bad later (s ∷ said) (inl say) none =
    let counted : (start + 1) + length before ≡ start + length (line ∷ before) = omega arith in
    rw (agrees.notes line say.0, err_read says IsNote Spells agrees (start + 1) before bad later (s ∷ said) say.1 none) (ap Err counted)
err_read says IsNote Spells agrees start (line ∷ before) bad later (s ∷ said) (inr say) none =
    let counted : (start + 1) + length before ≡ start + length (line ∷ before) = omega arith in
    rw (agrees.things line s say.0, err_read says IsNote Spells agrees (start + 1) before bad later said say.1 none) (ap Err counted)

-- ---- texts and their lines

split_joined : (line : List ℕ) (lines : List (List ℕ)) → AreLines (line ∷ lines) → slice_split is_lf (join_with_byte 10 (line ∷ lines)) ≡ line ∷ lines
split_joined line [] h = slice_split_none is_lf line h.0
split_joined line (next ∷ lines) h =
    slice_split_at is_lf line 10 (join_with_byte 10 (next ∷ lines)) h.0 refl ∙ ap (λ (l : List (List ℕ)). line ∷ l) (split_joined next lines h.1)

onto_line : (c : ℕ) (lines : List (List ℕ)) → is_lf c ≡ false → AreLines lines → AreLines (onto_first c lines)
onto_line c [] e h = (All-cons (λ d. is_lf d ≡ false) c [] e (All-nil (λ d. is_lf d ≡ false)), tt)
onto_line c (line ∷ lines) e h = (All-cons (λ d. is_lf d ≡ false) c line e h.0, h.1)

more_lines : (b : Bool) (c : ℕ) (lines : List (List ℕ)) → is_lf c ≡ b → AreLines lines → AreLines (cond b ([] ∷ lines) (onto_first c lines))
more_lines true c lines e h = (All-nil (λ d. is_lf d ≡ false), h)
more_lines false c lines e h = onto_line c lines e h

split_lines : (text : List ℕ) → AreLines (slice_split is_lf text)
split_lines [] = (All-nil (λ d. is_lf d ≡ false), tt)
split_lines (c ∷ cs) = more_lines (is_lf c) c (slice_split is_lf cs) refl (split_lines cs)

text_told : {S : Type 0} (says : List ℕ → Option (List S)) (IsNote : List ℕ → Type 0) (Spells : List ℕ → S → Type 0) → Agrees says IsNote Spells
    → (text : List ℕ) (said : List S) → text_says says text ≡ Ok said → Writes IsNote Spells text said
text_told says IsNote Spells agrees text said h = record {
  lines = slice_split is_lf text;
  parted = split_lines text;
  is = sym (join_with_byte-slice_split 10 text);
  say = all_told says IsNote Spells agrees 1 (slice_split is_lf text) said h;
}

lines_read : {S : Type 0} (says : List ℕ → Option (List S)) (IsNote : List ℕ → Type 0) (Spells : List ℕ → S → Type 0) → Agrees says IsNote Spells
    → says [] ≡ Some [] → (lines : List (List ℕ)) (said : List S) → AreLines lines → Say IsNote Spells lines said → text_says says (join_with_byte 10 lines) ≡ Ok said
unfolding all_say
lines_read says IsNote Spells agrees empty [] [] parted say = rw empty refl
lines_read says IsNote Spells agrees empty [] (s ∷ said) parted say = absurd say
lines_read says IsNote Spells agrees empty (line ∷ lines) said parted say =
    ap (all_say says 1) (split_joined line lines parted) ∙ all_read says IsNote Spells agrees 1 (line ∷ lines) said say

split_broken : (before : List (List ℕ)) (bad : List ℕ) (later : List (List ℕ)) → AreLines (before ++ bad ∷ later)
    → slice_split is_lf (join_with_byte 10 (before ++ bad ∷ later)) ≡ before ++ bad ∷ later
split_broken [] bad later parted = split_joined bad later parted
split_broken (line ∷ before) bad later parted = split_joined line (before ++ bad ∷ later) parted

within : {S : Type 0} (says : List ℕ → Option (List S)) (text : List ℕ) → length text ≤ text_limit → said_in says text ≡ text_says says text
within says text h =
    let short : nat_le (length text) text_limit ≡ true = grind (arith, nat_tests) in
    rw short refl

-- a text is read as these things exactly where the grammar writes it for them; an empty line says nothing
pub reads_exactly : {S : Type 0} (says : List ℕ → Option (List S)) (IsNote : List ℕ → Type 0) (Spells : List ℕ → S → Type 0) → Agrees says IsNote Spells
    → says [] ≡ Some [] → (text : List ℕ) (said : List S) → length text ≤ text_limit → (said_in says text ≡ Ok said) ↔ Writes IsNote Spells text said
reads_exactly says IsNote Spells agrees empty text said short = (
  λ e. text_told says IsNote Spells agrees text said (sym (within says text short) ∙ e),
  λ g. within says text short ∙ ap (text_says says) g.is ∙ lines_read says IsNote Spells agrees empty g.lines said g.parted g.say,
)

-- and is refused by the number of a line exactly where it breaks off there
pub names_exactly : {S : Type 0} (says : List ℕ → Option (List S)) (IsNote : List ℕ → Type 0) (Spells : List ℕ → S → Type 0) → Agrees says IsNote Spells
    → (text : List ℕ) (number : ℕ) → length text ≤ text_limit → (said_in says text ≡ Err number) ↔ BreaksOff IsNote Spells text number
names_exactly says IsNote Spells agrees text number short = (
  λ e.
      let stops = err_told says IsNote Spells agrees 1 (slice_split is_lf text) number (sym (within says text short) ∙ e) in
      record {
        before = stops.before;
        bad = stops.bad;
        later = stops.later;
        said = stops.said;
        parted = subst (λ (l : List (List ℕ)). AreLines l) stops.is (split_lines text);
        is = sym (join_with_byte-slice_split 10 text) ∙ ap (join_with_byte 10) stops.is;
        say = stops.say;
        is_bad = stops.is_bad;
        counted = omega (arith, stops.counted);
      },
  λ g.
      let none = bad_read says IsNote Spells agrees g.bad g.is_bad in
      let counted : 1 + length g.before ≡ number = omega (arith, g.counted) in
      within says text short ∙ ap (text_says says) g.is ∙ ap (all_say says 1) (split_broken g.before g.bad g.later g.parted)
      ∙ err_read says IsNote Spells agrees 1 g.before g.bad g.later g.said g.say none ∙ ap Err counted,
)
