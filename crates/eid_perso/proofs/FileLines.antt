-- The lines of files, one after the other.
use Rattle.std.proofs.Common.{◌≡◌, ℕ, ◌+◌, ◌<◌, ◌≤◌, List, [], ◌++◌, length, drop, get_or, Option, None, refl}
use Rattle.std.proofs.lemmas.List.{drop_more, drop_all}
use Rattle.eid_perso.specs.Show.{file_line, file_lines}

-- the lines from a file on are its own and those of the files behind it
pub file_lines-drop : (i : ℕ) (names : List (List ℕ)) (lengths : List (Option ℕ)) → i < length names → i < length lengths
    → file_lines (drop i names) (drop i lengths) ≡ file_line (get_or names i []) (get_or lengths i None) ++ file_lines (drop (i + 1) names) (drop (i + 1) lengths)
file_lines-drop i names lengths name_there length_there = rw (drop_more names i [] name_there, drop_more lengths i None length_there) refl

-- behind the last file there are none
pub file_lines-end : (i : ℕ) (names : List (List ℕ)) (lengths : List (Option ℕ)) → length names ≤ i → file_lines (drop i names) (drop i lengths) ≡ []
file_lines-end i names lengths le = rw (drop_all i names le) refl
