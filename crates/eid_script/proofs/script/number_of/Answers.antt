-- One more digit.
use Rattle.std.proofs.Common.{◌≡◌, ℕ, ◌+◌, ◌-◌, ◌*◌, ◌^◌, ◌<◌, ◌≤◌, true, List, length, get_or, take, arith, rules}
use Rattle.std.specs.List.{list_all}
use Rattle.std.specs.Char.{is_ascii_digit, digit_value}
use Rattle.std.specs.Str.Parse.{digits_value}
use Rattle.std.proofs.Math.Nat.{pow-le-pow_right}
use Rattle.std.proofs.lemmas.Grind.{pow_more}
use Rattle.std.proofs.lemmas.Bool.Decides.{nat_tests}
use Rattle.std.proofs.lemmas.Int.Digits.{digits_value_more}
use Rattle.std.proofs.lemmas.List.Sums.{AllPass-from_list_all}
use Rattle.eid_script.proofs.script.number_of.Goals as goal

digit_at : (ds : List ℕ) (i : ℕ) → list_all is_ascii_digit ds ≡ true → i < length ds → is_ascii_digit (get_or ds i 0) ≡ true
digit_at ds i all inside = AllPass-from_list_all is_ascii_digit ds all i 0 inside

in_range : (c : ℕ) → is_ascii_digit c ≡ true → (48 ≤ c) × (c ≤ 57)
in_range c h = (grind (arith, nat_tests), grind (arith, nat_tests))

next_value : (ds : List ℕ) (i number : ℕ) → i < length ds → is_ascii_digit (get_or ds i 0) ≡ true → number ≡ digits_value 10 (take i ds) → number * 10 + (get_or ds i 0 - 48) ≡ digits_value 10 (take (i + 1) ds)
next_value ds i number inside digit value =
    let worth : digit_value (get_or ds i 0) ≡ get_or ds i 0 - 48 = grind (arith, nat_tests) in
    rw (digits_value_more 10 ds i inside, worth, value)

-- the number is below the power of ten
ten_more : (i n d : ℕ) → n < 10 ^ i → d < 10 → n * 10 + d < 10 ^ (i + 1)
ten_more i n d small digit =
    let power : 10 ^ (i + 1) ≡ 10 ^ i * 10 = pow_more 10 i in
    omega (arith, power)

tens : (i : ℕ) → i < 7 → 10 ^ i ≤ 10 ^ 6
tens i h = let most : i ≤ 6 = omega arith in pow-le-pow_right (omega arith) most

pub overflow_mul-number : goal.overflow_mul-number
overflow_mul-number c =
    let inside = c.loop-digit-test.true in
    let few = c.requires.few in
    let power = tens c.loop-digit.digit-index (omega arith) in
    omega (arith, c.loop-digit.invariant.1)

pub overflow_add-number : goal.overflow_add-number
overflow_add-number c =
    let inside = c.loop-digit-test.true in
    let few = c.requires.few in
    let power = tens c.loop-digit.digit-index (omega arith) in
    let range = in_range (get_or c.args.digits.now c.loop-digit.digit-index 0) (digit_at c.args.digits.now c.loop-digit.digit-index c.requires.digits inside) in
    let digit : c.from.result ≡ get_or c.args.digits.now c.loop-digit.digit-index 0 - 48 = search rules in
    omega (arith, c.loop-digit.invariant.1)

pub loop-digit-preserved : goal.loop-digit-preserved
loop-digit-preserved c =
    let inside = c.loop-digit-test.true in
    let is = digit_at c.args.digits.now c.loop-digit.digit-index c.requires.digits inside in
    let range = in_range (get_or c.args.digits.now c.loop-digit.digit-index 0) is in
    let digit : c.from.result ≡ get_or c.args.digits.now c.loop-digit.digit-index 0 - 48 = search rules in
    let value = next_value c.args.digits.now c.loop-digit.digit-index c.loop-digit.number inside is c.loop-digit.invariant.0 in
    let bound = ten_more c.loop-digit.digit-index c.loop-digit.number c.from.result c.loop-digit.invariant.1 (omega arith) in
    (rw digit value, bound)
