-- The names of the files. This project's own.
use Rattle.std.specs.Prelude.{ℕ, ◌+◌, List, [], ◌∷◌, drop, Option, option_map, codes}
use Rattle.std.specs.List.{position}
use Rattle.std.specs.Str.{bytes_eq}

-- each file's name, in the order of the files' numbers
abbrev pub file_names : List (List ℕ)
file_names =
    codes "card_access" ∷ codes "card_security"
    ∷ codes "dg1" ∷ codes "dg2" ∷ codes "dg3" ∷ codes "dg4" ∷ codes "dg5" ∷ codes "dg6" ∷ codes "dg7"
    ∷ codes "dg8" ∷ codes "dg9" ∷ codes "dg10" ∷ codes "dg11" ∷ codes "dg12" ∷ codes "dg13" ∷ codes "dg14"
    ∷ codes "dg15" ∷ codes "dg16" ∷ codes "dg17" ∷ codes "dg18" ∷ codes "dg19" ∷ codes "dg20" ∷ codes "dg21"
    ∷ []

-- the number of the data group of this name; they are counted from 1, behind the first two files
abbrev pub group_named : List ℕ → Option ℕ
group_named name = option_map (λ place. place + 1) (position (λ file. bytes_eq file name) (drop 2 file_names))
