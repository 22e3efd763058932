-- Which texts are hexadecimal, and what they decode to.
use Rattle.std.proofs.Common.{◌≡◌, ℕ, ◌/◌, ◌%◌, ◌<◌, ◌≤◌, Bool, true, false, cond, ◌&&◌, ◌||◌, List, [], ◌∷◌, length}
use Rattle.std.proofs.Common.{Some, None, Result, Ok, Err, is_ok, refl, sym, ap, ◌∙◌, arith}
use Rattle.std.specs.Prelude.{nat_le, is_some, IsSome, option_and_then}
use Rattle.std.specs.Char.{is_ascii_hexdigit}
use Rattle.std.specs.List.{list_all}
use Rattle.std.specs.Result.{result_ok}
use Rattle.std.proofs.lemmas.Bool.Decides.{nat_tests}
use Rattle.std.proofs.lemmas.List.Sums.{AllPass-from_list_all, list_all-from_AllPass}
use Rattle.hex.specs.Hex.{decode_of, is_hex_digit}
use Rattle.hex.specs.declared.error.FromHexError.{FromHexError}
use Rattle.hex.proofs.HexLemmas.{decode_of-digits, decode_of-ok, decode_of-odd}
use Rattle.eid_text.specs.Hexadecimal.{IsHex, at_most, bytes_within}
use Rattle.eid_text.proofs.Hexadecimal.{decodes, decoded, hex_length}

cases : (a b d : Bool) (x y z : ℕ) → is_some (cond a (Some x) (cond b (Some y) (cond d (Some z) None))) ≡ ((d || a) || b)
cases true true true x y z = refl
cases true true false x y z = refl
cases true false true x y z = refl
cases true false false x y z = refl
cases false true true x y z = refl
cases false true false x y z = refl
cases false false true x y z = refl
cases false false false x y z = refl

same_digit : (c : ℕ) → is_hex_digit c ≡ is_ascii_hexdigit c
same_digit c = cases (nat_le 65 c && nat_le c 70) (nat_le 97 c && nat_le c 102) (nat_le 48 c && nat_le c 57) _ _ _

same_digits : (text : List ℕ) → list_all is_hex_digit text ≡ list_all is_ascii_hexdigit text
same_digits [] = refl
same_digits (c ∷ cs) = rw (same_digit c, same_digits cs) refl

-- an even number of bytes decodes exactly where each is a digit
pub even_text : (text : List ℕ) → length text % 2 ≡ 0 → list_all is_ascii_hexdigit text ≡ is_ok (decode_of text)
even_text text even = by (list_all is_hex_digit text) refl (decode_of text) refl where
  by : (b : Bool) → list_all is_hex_digit text ≡ b → (r : Result (List ℕ) FromHexError) → decode_of text ≡ r → list_all is_ascii_hexdigit text ≡ is_ok r
  by true all (Ok bytes) is = sym (same_digits text) ∙ all
  by true all (Err e) is =
      let ok = decode_of-digits text even (AllPass-from_list_all is_hex_digit text all) in
      let bytes = ok.0 in
      let decodes : decode_of text ≡ Ok bytes = ok.1 in
      absurd (cc)
  by false all (Ok bytes) is =
      let parts = decode_of-ok text bytes is in
      let every : list_all is_hex_digit text ≡ true = list_all-from_AllPass is_hex_digit text parts.1 in
      absurd (cc)
  by false all (Err e) is = sym (same_digits text) ∙ all

pub odd_text : (text : List ℕ) → length text % 2 ≡ 1 → is_ok (decode_of text) ≡ false
odd_text text odd = ap is_ok (decode_of-odd text odd)

-- no hexadecimal writes no bytes
pub no_hex : (most : ℕ) (text : List ℕ) → is_ok (decode_of text) ≡ false → bytes_within most text ≡ None
no_hex most text none = by (decode_of text) refl none where
  by : (r : Result (List ℕ) FromHexError) → decode_of text ≡ r → is_ok r ≡ false → bytes_within most text ≡ None
  by (Ok bytes) is none = absurd (cc)
  by (Err e) is none = rw is refl

at_most_some : (most : ℕ) (bytes : List ℕ) → length bytes ≤ most → at_most most bytes ≡ Some bytes
at_most_some most bytes short = grind (arith, nat_tests)

at_most_none : (most : ℕ) (bytes : List ℕ) → most < length bytes → at_most most bytes ≡ None
at_most_none most bytes long = grind (arith, nat_tests)

-- too many bytes
pub too_many : (most : ℕ) (text : List ℕ) → most < length text / 2 → bytes_within most text ≡ None
too_many most text long = by (decode_of text) refl where
  by : (r : Result (List ℕ) FromHexError) → decode_of text ≡ r → bytes_within most text ≡ None
  by (Err e) is = rw is refl
  by (Ok bytes) is =
      let parts = decode_of-ok text bytes is in
      let more : most < length bytes = omega (arith, parts.2) in
      rw is (at_most_none most bytes more)

pub few_enough : (most : ℕ) (text bytes : List ℕ) → length text / 2 ≤ most → decode_of text ≡ Ok bytes → bytes_within most text ≡ Some bytes
few_enough most text bytes short is =
    let parts = decode_of-ok text bytes is in
    let less : length bytes ≤ most = omega (arith, parts.2) in
    rw is (at_most_some most bytes less)

-- what decodes to few enough bytes writes some
pub writes_some : (most : ℕ) (text : List ℕ) → is_ok (decode_of text) ≡ true → length text / 2 ≤ most → IsSome (bytes_within most text)
writes_some most text ok short = by (decode_of text) refl ok where
  by : (r : Result (List ℕ) FromHexError) → decode_of text ≡ r → is_ok r ≡ true → IsSome (bytes_within most text)
  by (Ok bytes) is ok = rw (few_enough most text bytes short is) refl
  by (Err e) is ok = absurd (cc)

-- what digits write is what is read of them
pub within_reads : (most : ℕ) (digits bytes : List ℕ) → IsHex digits bytes → length bytes ≤ most → bytes_within most digits ≡ Some bytes
within_reads most digits bytes h short = rw (decodes digits bytes h) (at_most_some most bytes short)

pub within_told : (most : ℕ) (digits bytes : List ℕ) → bytes_within most digits ≡ Some bytes → IsHex digits bytes × (length bytes ≤ most)
within_told most digits bytes h = by (decode_of digits) refl h where
  some : (b : Bool) (given : List ℕ) → nat_le (length given) most ≡ b → cond b (Some given) None ≡ Some bytes → (given ≡ bytes) × (length given ≤ most)
  some true given short e = (cc, grind (arith, nat_tests))
  some false given short e = absurd (cc)

  by : (r : Result (List ℕ) FromHexError) → decode_of digits ≡ r → option_and_then (at_most most) (result_ok r) ≡ Some bytes → IsHex digits bytes × (length bytes ≤ most)
  by (Ok given) is e =
      let parts = some (nat_le (length given) most) given refl e in
      (decoded digits bytes (is ∙ ap Ok parts.0), omega (arith, parts.1, ap length parts.0))
  by (Err error) is e = absurd (cc)

-- digits that are there write bytes
pub some_bytes : (most : ℕ) (digits bytes : List ℕ) → 1 ≤ length digits → bytes_within most digits ≡ Some bytes → 1 ≤ length bytes
some_bytes most digits bytes some h = omega (arith, hex_length digits bytes (within_told most digits bytes h).0)
