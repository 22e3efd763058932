-- What the lines of a text say, each nothing or one thing. This project's own.
use Rattle.std.specs.Prelude.{ℕ, ◌+◌, ◌==◌, nat_le, Bool, List, [], ◌∷◌, ◌++◌, length, Option, Some, None, Result, Ok, Err, if◌then◌else◌}
use Rattle.std.specs.List.{slice_split}

-- the end of a line
abbrev pub is_lf : ℕ → Bool
is_lf c = c == 10

abbrev pub is_space : ℕ → Bool
is_space c = c == 32

-- what was said first, and then what is said later
abbrev pub after : {S : Type 0} → List S → Result (List S) ℕ → Result (List S) ℕ
after first (Ok later) = Ok (first ++ later)
after first (Err line) = Err line

-- what a line of this number says, and then what is said later
abbrev pub joined : {S : Type 0} → ℕ → Option (List S) → Result (List S) ℕ → Result (List S) ℕ
joined number None later = Err number
joined number (Some first) later = after first later

-- what lines say together, counted from this number, or the number of the first that cannot be read
unfoldable pub all_say : {S : Type 0} → (List ℕ → Option (List S)) → ℕ → List (List ℕ) → Result (List S) ℕ
all_say says number [] = Ok []
all_say says number (line ∷ lines) = joined number (says line) (all_say says (number + 1) lines)

-- what a text says; each of its lines ends with LF, the last one with or without it
abbrev pub text_says : {S : Type 0} → (List ℕ → Option (List S)) → List ℕ → Result (List S) ℕ
text_says says text = all_say says 1 (slice_split is_lf text)

-- how many bytes the longest text has
abbrev pub text_limit : ℕ
text_limit = 1048576

-- what a text says, or its first line that cannot be read, 0 where the text is too long
abbrev pub said_in : {S : Type 0} → (List ℕ → Option (List S)) → List ℕ → Result (List S) ℕ
said_in says text = if nat_le (length text) text_limit then text_says says text else Err 0
