-- Grammars of texts of lines, by what writes them: `IsNote` is true of the lines that say nothing, and `Spells` of a
-- line and the thing that it says. This project's own.
use Rattle.std.specs.Prelude.{◌≡◌, ℕ, ◌+◌, ◌⊎◌, false, List, [], ◌∷◌, ◌++◌, length, ⊤}
use Rattle.std.specs.List.{All, join_with_byte}
use Rattle.eid_text.specs.Lines.{is_lf}

-- no LF stands in a line
abbrev pub AreLines : List (List ℕ) → Type 0
AreLines [] = ⊤
AreLines (line ∷ lines) = All (λ c. is_lf c ≡ false) line × AreLines lines

-- lines each of which says nothing or the next of these things
abbrev pub Say : {S : Type 0} → (List ℕ → Type 0) → (List ℕ → S → Type 0) → List (List ℕ) → List S → Type 0
Say IsNote Spells [] [] = ⊤
Say IsNote Spells [] (s ∷ said) = ⊥
Say IsNote Spells (line ∷ lines) [] = IsNote line × Say IsNote Spells lines []
Say IsNote Spells (line ∷ lines) (s ∷ said) =
    (IsNote line × Say IsNote Spells lines (s ∷ said)) ⊎ (Spells line s × Say IsNote Spells lines said)

-- a text whose lines, parted by LF, say these things in this order; the last line may be empty
pub record Writes {S : Type 0} (IsNote : List ℕ → Type 0) (Spells : List ℕ → S → Type 0) (text : List ℕ) (said : List S) : Type 0 where
  pub lines : List (List ℕ)
  pub parted : AreLines lines
  pub is : text ≡ join_with_byte 10 lines
  pub say : Say IsNote Spells lines said

-- a line that says neither nothing nor a thing
pub record IsBad {S : Type 0} (IsNote : List ℕ → Type 0) (Spells : List ℕ → S → Type 0) (line : List ℕ) : Type 0 where
  pub no_note : IsNote line → ⊥
  pub no_thing : (s : S) → Spells line s → ⊥

-- a text whose first bad line has this number, where lines are counted from 1
pub record BreaksOff {S : Type 0} (IsNote : List ℕ → Type 0) (Spells : List ℕ → S → Type 0) (text : List ℕ) (number : ℕ) : Type 0 where
  pub before : List (List ℕ)
  pub bad : List ℕ
  pub later : List (List ℕ)
  pub said : List S
  pub parted : AreLines (before ++ bad ∷ later)
  pub is : text ≡ join_with_byte 10 (before ++ bad ∷ later)
  pub say : Say IsNote Spells before said
  pub is_bad : IsBad IsNote Spells bad
  pub counted : number ≡ length before + 1
