-- Dates: of six digits, YYMMDD, and of eight ASCII digits, YYYYMMDD (BSI TR-03110-3).
use Rattle.std.specs.Prelude.{ℕ, ◌+◌, ◌-◌, ◌*◌, ◌==◌, Bool, false, ◌&&◌, List, [], ◌∷◌, length, drop, map, nat_le}
use Rattle.std.specs.Char.{is_ascii_digit}
use Rattle.std.specs.List.{list_all}

-- a number from low to high
abbrev pub is_between : ℕ → ℕ → ℕ → Bool
is_between low high n = nat_le low n && nat_le n high

-- six digits, of which the third and fourth are a month and the last two a day; how many days a month has
-- is not looked at
abbrev pub is_date : List ℕ → Bool
is_date (y1 ∷ y2 ∷ m1 ∷ m2 ∷ d1 ∷ d2 ∷ []) =
    nat_le y1 9 && nat_le y2 9 && nat_le m1 9 && nat_le m2 9 && nat_le d1 9 && nat_le d2 9
    && is_between 1 12 (10 * m1 + m2) && is_between 1 31 (10 * d1 + d2)
is_date bytes = false

-- the decimal number that digits spell, the first of them highest
abbrev pub spelled : ℕ → List ℕ → ℕ
spelled front [] = front
spelled front (d ∷ ds) = spelled (10 * front + d) ds

-- the number YYMMDD or YYYYMMDD, by which dates compare
abbrev pub number_of : List ℕ → ℕ
number_of digits = spelled 0 digits

-- the digits that ASCII characters are
abbrev pub digits_of : List ℕ → List ℕ
digits_of text = map (λ character. character - 0x30) text

-- eight ASCII digits, of which the last six are a date
abbrev pub is_long_date : List ℕ → Bool
is_long_date text = length text == 8 && list_all is_ascii_digit text && is_date (drop 2 (digits_of text))
