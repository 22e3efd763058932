-- What the answers of two model coprocessors have in common: both sides of a PACE come to one base and one secret.
use Rattle.std.proofs.Common.{◌≡◌, ℕ, ◌+◌, ◌*◌, ◌%◌, ◌^◌, ◌<◌, Bool, true, false, ◌==◌, ◌||◌, List, refl, sym, ap, ◌∙◌, arith}
use Rattle.std.specs.Prelude.{if◌then◌else◌, Option, slice_range}
use Rattle.std.specs.Int.{w64, from_be_bytes}
use Rattle.std.specs.Str.{bytes_eq}
use Rattle.std.proofs.Math.Nat.{mul_comm, mul_left_comm}
use Rattle.std.proofs.lemmas.Nat.{from_be_bytes-to_be_bytes_8, mod_below, mul-mod}
use Rattle.std.proofs.lemmas.Slice.Eq.{bytes_eq-Decides}
use Rattle.eid_copro.specs.Model.{agreement, answer_with, drawn_number, mapping, pair_from, random_block}
use Rattle.eid_copro.specs.Numbers.{base_number, generator, plus, point_number, point_of, scalar, secret_of, times, x_half}
use Rattle.eid_copro.specs.declared.ask.Ask.{Ask}
use Rattle.eid_copro.specs.declared.ask.Answer.{Answer}
use Rattle.eid_copro.specs.declared.ask.Answer.TheVariants as answers
use Rattle.eid_copro.specs.declared.ask.Question.TheVariants as questions
use Rattle.eid_model.specs.Rules.{is_no_point}
use Rattle.eid_run.proofs.Going.{IsGiven}

-- ---- numbers

mod_twice : (a : ℕ) → a % 2 ^ 64 % 2 ^ 64 ≡ a % 2 ^ 64
mod_twice a = omega arith

-- a factor counts by what 64 bits hold of it
times_mod : (a b : ℕ) → times a (b % 2 ^ 64) ≡ times a b
times_mod a b =
    mul-mod a (b % 2 ^ 64) (2 ^ 64)
    ∙ ap (λ (k : ℕ). a % 2 ^ 64 * k % 2 ^ 64) (mod_twice b)
    ∙ sym (mul-mod a b (2 ^ 64))

-- the order of two factors does not count
pub times_swapped : (a b base : ℕ) → times a (times b base) ≡ times b (times a base)
times_swapped a b base =
    times_mod a (b * base) ∙ ap (λ (k : ℕ). k % 2 ^ 64) (mul_left_comm a b base) ∙ sym (times_mod b (a * base))

pub times_small : (a b : ℕ) → times a b < 2 ^ 64
times_small a b = mod_below (a * b) (2 ^ 64) (omega arith)

pub plus_small : (a b : ℕ) → plus a b < 2 ^ 64
plus_small a b = mod_below (a + b) (2 ^ 64) (omega arith)

-- ---- points and secrets

pub point_again : (n : ℕ) → n < 2 ^ 64 → point_number (point_of n) ≡ n
unfolding point_of point_number
point_again n small =
    let number : from_be_bytes w64 (slice_range (point_of n) 25 33) ≡ n = from_be_bytes-to_be_bytes_8 n small in
    let same : bytes_eq (point_of n) (point_of n) ≡ true = (bytes_eq-Decides (point_of n) (point_of n)).1 refl in
    rw (number, same) refl

-- a secret counts by the 64 bits of its number
scalar_mod : (n : ℕ) → scalar (secret_of n) ≡ n % 2 ^ 64
unfolding scalar secret_of
scalar_mod n = omega arith

pub times_scalar : (n b : ℕ) → times (scalar (secret_of n)) b ≡ times n b
times_scalar n b =
    ap (λ (k : ℕ). times k b) (scalar_mod n)
    ∙ ap (λ (k : ℕ). k % 2 ^ 64) (mul_comm (n % 2 ^ 64) b)
    ∙ times_mod b n
    ∙ ap (λ (k : ℕ). k % 2 ^ 64) (mul_comm b n)

-- ---- answers

-- a pair over a base
pub record IsPair (base : Option (List ℕ)) (answer : Answer) : Type 0 where
  pub number : ℕ
  pub is : answer ≡ answers.Pair (secret_of number) (point_of (times number (base_number base)))

pub pair_given : (ask : Ask) (base : Option (List ℕ)) → IsGiven ask → ask.question ≡ questions.Pair base → IsPair base ask.answer
unfolding pair_from answer_with
pair_given ask base given is = record {
  number = drawn_number (random_block given.start given.number);
  is = given.by_model ∙ ap (answer_with (random_block given.start given.number)) is;
}

with_point : (b : Bool) (answer found : Answer) → answer ≡ (if b then answers.NoPoint else found) → is_no_point answer ≡ false → answer ≡ found
with_point true answer found is point = absurd (let none : is_no_point answer ≡ true = ap is_no_point is in cc)
with_point false answer found is point = is

-- where a point was found, it is this
pub map_given : (ask : Ask) (nonce secret peer : List ℕ) → IsGiven ask → ask.question ≡ questions.Map nonce secret peer
    → ask.answer ≡ answers.Mapped (point_of (plus (times (scalar nonce) generator) (times (scalar secret) (point_number peer))))
unfolding mapping answer_with
map_given ask nonce secret peer given is =
    let point = point_number peer in
    let result = plus (times (scalar nonce) generator) (times (scalar secret) point) in
    with_point (point == 0 || result == 0) ask.answer (answers.Mapped (point_of result)) (given.by_model ∙ ap (answer_with (random_block given.start given.number)) is) given.point

pub agree_given : (ask : Ask) (secret peer : List ℕ) → IsGiven ask → ask.question ≡ questions.Agree secret peer
    → ask.answer ≡ answers.Shared (x_half (point_of (times (scalar secret) (point_number peer))))
unfolding agreement answer_with
agree_given ask secret peer given is =
    let point = point_number peer in
    let result = times (scalar secret) point in
    with_point (point == 0 || result == 0) ask.answer (answers.Shared (x_half (point_of result))) (given.by_model ∙ ap (answer_with (random_block given.start given.number)) is) given.point

-- the products of both sides are one
one_product : (a b base : ℕ) → times (scalar (secret_of a)) (point_number (point_of (times b base))) ≡ times (scalar (secret_of b)) (point_number (point_of (times a base)))
one_product a b base =
    times_scalar a (point_number (point_of (times b base)))
    ∙ ap (times a) (point_again (times b base) (times_small b base))
    ∙ times_swapped a b base
    ∙ ap (times b) (sym (point_again (times a base) (times_small a base)))
    ∙ sym (times_scalar b (point_number (point_of (times a base))))

-- both sides come to one base
pub one_base : (nonce : List ℕ) (a b : ℕ)
    → point_of (plus (times (scalar nonce) generator) (times (scalar (secret_of a)) (point_number (point_of (times b generator)))))
    ≡ point_of (plus (times (scalar nonce) generator) (times (scalar (secret_of b)) (point_number (point_of (times a generator)))))
one_base nonce a b =
    ap (λ (k : ℕ). point_of (plus (times (scalar nonce) generator) k)) (one_product a b generator)

-- and to one secret, over any base
pub one_secret : (a b base : ℕ)
    → x_half (point_of (times (scalar (secret_of a)) (point_number (point_of (times b base)))))
    ≡ x_half (point_of (times (scalar (secret_of b)) (point_number (point_of (times a base)))))
one_secret a b base = ap (λ (k : ℕ). x_half (point_of k)) (one_product a b base)
