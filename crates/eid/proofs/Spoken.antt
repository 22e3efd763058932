-- Words are of one command.
use Rattle.std.proofs.Common.{◌≡◌, ℕ, ◌<◌, ◌≤◌, ◌^◌, List, [], refl, sym, ap, ◌∙◌, arith}
use Rattle.std.specs.Prelude.{codes, slice_index_or, if◌then◌else◌}
use Rattle.std.specs.Str.{bytes_eq}
use Rattle.std.specs.Str.Parse.{digits_value}
use Rattle.std.proofs.lemmas.Fmt.{decimal_is_IsNumeral}
use Rattle.eid.specs.Commands.{Command, Run, Replay, Session, Big, Make, Kit, Show, Says, words_of, HasNumbers}

-- the one command that words may be of, by the first word
said : List (List ℕ) → Command
said words =
    let word = λ (n : ℕ). slice_index_or words n [] in
    if bytes_eq (word 0) (codes "run") then Run (word 1) (word 2) (digits_value 10 (word 3))
    else if bytes_eq (word 0) (codes "replay") then Replay (word 1) (word 2) (word 3)
    else if bytes_eq (word 0) (codes "session") then Session (word 1) (word 2) (digits_value 10 (word 3))
    else if bytes_eq (word 0) (codes "big") then Big (digits_value 10 (word 1))
    else if bytes_eq (word 0) (codes "make") then Make (word 1) (word 2)
    else if bytes_eq (word 0) (codes "kit") then Kit (word 1) (word 2)
    else Show (word 1)

small : (n : ℕ) → n ≤ 1000 → n < 2 ^ 64
small n few = omega (arith, few)

said_back : (c : Command) → HasNumbers c → said (words_of c) ≡ c
unfolding said
said_back (Run image script start) numbers = ap (Run image script) (decimal_is_IsNumeral start numbers).1
said_back (Replay image script answers) numbers = refl
said_back (Session image terminal start) numbers = ap (Session image terminal) (decimal_is_IsNumeral start numbers).1
said_back (Big sessions) numbers = ap Big (decimal_is_IsNumeral sessions (small sessions numbers.1)).1
said_back (Make config image) numbers = refl
said_back (Kit config file) numbers = refl
said_back (Show image) numbers = refl

said_by : (words : List (List ℕ)) (c : Command) → Says words c → said words ≡ c
said_by words c says = ap said says.is ∙ said_back c says.numbers

pub one_command : (words : List (List ℕ)) (c d : Command) → Says words c → Says words d → c ≡ d
one_command words c d p q = sym (said_by words c p) ∙ said_by words d q
