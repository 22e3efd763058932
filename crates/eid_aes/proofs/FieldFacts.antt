-- Sums and products in the field.
use Rattle.std.proofs.Common.{◌≡◌, ℕ, zero, suc, ◌/◌, ◌%◌, ◌<◌, Bool, true, false, inl, inr, List, [], ◌∷◌, map, refl, sym, ap, ◌∙◌, get_or, bit_xor, arith, slice_index}
use Rattle.std.specs.Prelude.{◌==◌, ◌&&◌, if◌then◌else◌, nat_eq}
use Rattle.std.proofs.lemmas.Nat.{xor_comm, xor_of_8}
use Rattle.std.proofs.lemmas.Bool.{cases_lt, eqb-true}
use lib.Bits.{xor_assoc, xor_self, xor_zero_r}
use Rattle.eid_aes.specs.Field.{xtimes, product_of_bits, product, sub, inv_sub}
use Rattle.eid_aes.specs.Cipher.{coefficient, sum_of_four, mixing, inv_mixing}
use Rattle.eid_aes.specs.declared.tables.TheConstants.{SUBSTITUTION, INVERSE_SUBSTITUTION}
use Rattle.eid_aes.proofs.TableFacts.{from, agree, SUBSTITUTION_at, INVERSE_SUBSTITUTION_at}

-- ---- sums

pub xor_twice : (a b : ℕ) → bit_xor (bit_xor a b) b ≡ a
xor_twice a b = rw (xor_assoc a b b, xor_self b, xor_zero_r a) refl

xor_exchange : (a b c d : ℕ) → bit_xor (bit_xor a b) (bit_xor c d) ≡ bit_xor (bit_xor a c) (bit_xor b d)
xor_exchange a b c d =
    rw (xor_assoc a b (bit_xor c d), ← xor_assoc b c d, xor_comm b c, xor_assoc c b d, ← xor_assoc a c (bit_xor b d)) refl

sum-xor : (a b c d e f g h : ℕ) → sum_of_four (bit_xor a e) (bit_xor b f) (bit_xor c g) (bit_xor d h) ≡ bit_xor (sum_of_four a b c d) (sum_of_four e f g h)
sum-xor a b c d e f g h =
    ap (λ (n : ℕ). bit_xor (bit_xor n (bit_xor c g)) (bit_xor d h)) (xor_exchange a e b f)
    ∙ ap (λ (n : ℕ). bit_xor n (bit_xor d h)) (xor_exchange (bit_xor a b) (bit_xor e f) c g)
    ∙ xor_exchange (bit_xor (bit_xor a b) c) (bit_xor (bit_xor e f) g) d h

-- a sum of rows is the sum of the columns
pub sum-sums : (a b c d e f g h i j k l m n o p : ℕ)
    → sum_of_four (sum_of_four a b c d) (sum_of_four e f g h) (sum_of_four i j k l) (sum_of_four m n o p)
    ≡ sum_of_four (sum_of_four a e i m) (sum_of_four b f j n) (sum_of_four c g k o) (sum_of_four d h l p)
sum-sums a b c d e f g h i j k l m n o p =
    sum-xor (bit_xor (bit_xor a b) c) (bit_xor (bit_xor e f) g) (bit_xor (bit_xor i j) k) (bit_xor (bit_xor m n) o) d h l p
    ∙ ap (λ (x : ℕ). bit_xor x (sum_of_four d h l p)) (sum-xor (bit_xor a b) (bit_xor e f) (bit_xor i j) (bit_xor m n) c g k o
    ∙ ap (λ (x : ℕ). bit_xor x (sum_of_four c g k o)) (sum-xor a e i m b f j n))

-- ---- tests over all numbers below a bound

abbrev pub each : ℕ → (ℕ → Bool) → Bool
each zero p = true
each (suc n) p = p n && each n p

and_left : (a b : Bool) → (a && b) ≡ true → a ≡ true
and_left true b h = refl
and_left false b h = h

and_right : (a b : Bool) → (a && b) ≡ true → b ≡ true
and_right true b h = h
and_right false b h = cc

pub each_at : (n : ℕ) (p : ℕ → Bool) (i : ℕ) → each n p ≡ true → i < n → p i ≡ true
each_at zero p i h below = absurd (omega arith)
each_at (suc n) p i h below = elim (cases_lt i n) [
  | inl less ↦ each_at n p i (and_right (p n) (each n p) h) less
  | inr least ↦
      let e : i ≡ n = omega arith in
      rw e (and_left (p n) (each n p) h)
]

-- two functions of two numbers that agree at each pair below a bound
pub each_pair : (n m : ℕ) (f g : ℕ → ℕ → ℕ) (i j : ℕ) → each n (λ a. each m (λ b. nat_eq (f a b) (g a b))) ≡ true → i < n → j < m → f i j ≡ g i j
each_pair n m f g i j h below_n below_m =
    eqb-true (f i j) (g i j) (each_at m (λ b. nat_eq (f i b) (g i b)) j (each_at n (λ a. each m (λ b. nat_eq (f a b) (g a b))) i h below_n) below_m)

-- ---- products

pub xtimes-lt : (a : ℕ) → a < 256 → xtimes a < 256
unfolding xtimes
xtimes-lt a h =
    let e : xtimes a % 256 ≡ xtimes a = agree (λ b. xtimes b % 256) xtimes 256 a refl h in
    omega arith

xtimes-test : each 256 (λ a. each 256 (λ b. nat_eq (xtimes (bit_xor a b)) (bit_xor (xtimes a) (xtimes b)))) ≡ true
unfolding xtimes
xtimes-test = refl

xtimes-xor : (a b : ℕ) → a < 256 → b < 256 → xtimes (bit_xor a b) ≡ bit_xor (xtimes a) (xtimes b)
xtimes-xor a b ha hb = each_pair 256 256 (λ x y. xtimes (bit_xor x y)) (λ x y. bit_xor (xtimes x) (xtimes y)) a b xtimes-test ha hb

chosen-xor : (b : Bool) (x y : ℕ) → (if b then bit_xor x y else 0) ≡ bit_xor (if b then x else 0) (if b then y else 0)
chosen-xor true x y = refl
chosen-xor false x y = refl

chosen-lt : (b : Bool) (x : ℕ) → x < 256 → (if b then x else 0) < 256
chosen-lt true x h = h
chosen-lt false x h = omega arith

product_of_bits-xor : (n k a b : ℕ) → a < 256 → b < 256 → product_of_bits n k (bit_xor a b) ≡ bit_xor (product_of_bits n k a) (product_of_bits n k b)
unfolding product_of_bits
product_of_bits-xor zero k a b ha hb = refl
product_of_bits-xor (suc n) k a b ha hb =
    rw (xtimes-xor a b ha hb, product_of_bits-xor n (k / 2) (xtimes a) (xtimes b) (xtimes-lt a ha) (xtimes-lt b hb), chosen-xor (k % 2 == 1) a b)
    (xor_exchange (if k % 2 == 1 then a else 0) (if k % 2 == 1 then b else 0) (product_of_bits n (k / 2) (xtimes a)) (product_of_bits n (k / 2) (xtimes b)))

product_of_bits-lt : (n k a : ℕ) → a < 256 → product_of_bits n k a < 256
unfolding product_of_bits
product_of_bits-lt zero k a h = omega arith
product_of_bits-lt (suc n) k a h = xor_of_8 _ _ (chosen-lt (k % 2 == 1) a h) (product_of_bits-lt n (k / 2) (xtimes a) (xtimes-lt a h))

product-xor : (k a b : ℕ) → a < 256 → b < 256 → product k (bit_xor a b) ≡ bit_xor (product k a) (product k b)
unfolding product
product-xor k a b ha hb = product_of_bits-xor 8 k a b ha hb

pub product-lt : (k a : ℕ) → a < 256 → product k a < 256
unfolding product
product-lt k a h = product_of_bits-lt 8 k a h

pub sum-lt : (a b c d : ℕ) → a < 256 → b < 256 → c < 256 → d < 256 → sum_of_four a b c d < 256
sum-lt a b c d ha hb hc hd = xor_of_8 _ _ (xor_of_8 _ _ (xor_of_8 a b ha hb) hc) hd

product-sum : (k a b c d : ℕ) → a < 256 → b < 256 → c < 256 → d < 256
    → product k (sum_of_four a b c d) ≡ sum_of_four (product k a) (product k b) (product k c) (product k d)
product-sum k a b c d ha hb hc hd =
    product-xor k (bit_xor (bit_xor a b) c) d (xor_of_8 _ _ (xor_of_8 a b ha hb) hc) hd
    ∙ ap (λ (n : ℕ). bit_xor n (product k d)) (product-xor k (bit_xor a b) c (xor_of_8 a b ha hb) hc
    ∙ ap (λ (n : ℕ). bit_xor n (product k c)) (product-xor k a b ha hb))

-- ---- the two matrices undo each other

-- what row r of one matrix makes of column j of the other, times x
abbrev crossed : List ℕ → List ℕ → ℕ → ℕ → ℕ → ℕ
crossed row other r j x =
    sum_of_four (product (coefficient row r 0) (product (coefficient other 0 j) x)) (product (coefficient row r 1) (product (coefficient other 1 j) x))
    (product (coefficient row r 2) (product (coefficient other 2 j) x)) (product (coefficient row r 3) (product (coefficient other 3 j) x))

abbrev pub Undoes : List ℕ → List ℕ → Type 0
Undoes row other = (r j x : ℕ) → r < 4 → j < 4 → x < 256 → crossed row other r j x ≡ (if r == j then x else 0)

undoes_from : (row other : List ℕ)
    → each 4 (λ r. each 4 (λ j. each 256 (λ x. nat_eq (crossed row other r j x) (if r == j then x else 0)))) ≡ true → Undoes row other
undoes_from row other h r j x hr hj hx =
    each_pair 4 256 (λ i y. crossed row other r i y) (λ i y. if r == i then y else 0) j x
    (each_at 4 (λ s. each 4 (λ i. each 256 (λ y. nat_eq (crossed row other s i y) (if s == i then y else 0)))) r h hr) hj hx

mixing_test : each 4 (λ r. each 4 (λ j. each 256 (λ x. nat_eq (crossed inv_mixing mixing r j x) (if r == j then x else 0)))) ≡ true
unfolding xtimes product_of_bits product
mixing_test = refl

inv_mixing_test : each 4 (λ r. each 4 (λ j. each 256 (λ x. nat_eq (crossed mixing inv_mixing r j x) (if r == j then x else 0)))) ≡ true
unfolding xtimes product_of_bits product
inv_mixing_test = refl

pub inv_mixing_undoes : Undoes inv_mixing mixing
inv_mixing_undoes = undoes_from inv_mixing mixing mixing_test

pub mixing_undoes : Undoes mixing inv_mixing
mixing_undoes = undoes_from mixing inv_mixing inv_mixing_test

-- row i of a matrix times a column
abbrev pub row_sum : List ℕ → ℕ → ℕ → ℕ → ℕ → ℕ → ℕ
row_sum row i a b c d =
    sum_of_four (product (coefficient row i 0) a) (product (coefficient row i 1) b) (product (coefficient row i 2) c) (product (coefficient row i 3) d)

pub row_sum-lt : (row : List ℕ) (i a b c d : ℕ) → a < 256 → b < 256 → c < 256 → d < 256 → row_sum row i a b c d < 256
row_sum-lt row i a b c d ha hb hc hd = sum-lt _ _ _ _ (product-lt _ a ha) (product-lt _ b hb) (product-lt _ c hc) (product-lt _ d hd)

-- one of four
picked : (r a b c d : ℕ) → r < 4
    → sum_of_four (if r == 0 then a else 0) (if r == 1 then b else 0) (if r == 2 then c else 0) (if r == 3 then d else 0) ≡ slice_index (a ∷ b ∷ c ∷ d ∷ []) r
picked zero a b c d h = rw (xor_zero_r a, xor_zero_r a, xor_zero_r a) refl
picked (suc zero) a b c d h = rw (xor_comm 0 b, xor_zero_r b, xor_zero_r b, xor_zero_r b) refl
picked (suc (suc zero)) a b c d h = rw (xor_comm 0 c, xor_zero_r c, xor_zero_r c) refl
picked (suc (suc (suc zero))) a b c d h = rw (xor_comm 0 d, xor_zero_r d) refl
picked (suc (suc (suc (suc r)))) a b c d h = absurd (omega arith)

-- a column multiplied by a matrix and then by one that undoes it
pub column_undone : (row other : List ℕ) → Undoes row other → (r a b c d : ℕ) → r < 4 → a < 256 → b < 256 → c < 256 → d < 256
    → row_sum row r (row_sum other 0 a b c d) (row_sum other 1 a b c d) (row_sum other 2 a b c d) (row_sum other 3 a b c d)
    ≡ slice_index (a ∷ b ∷ c ∷ d ∷ []) r
column_undone row other undoes r a b c d hr ha hb hc hd =
    let spread : (k i : ℕ) → product k (row_sum other i a b c d)
    ≡ sum_of_four (product k (product (coefficient other i 0) a)) (product k (product (coefficient other i 1) b))
    (product k (product (coefficient other i 2) c)) (product k (product (coefficient other i 3) d)) =
    λ k i. product-sum k _ _ _ _ (product-lt _ a ha) (product-lt _ b hb) (product-lt _ c hc) (product-lt _ d hd) in
    rw (
      spread (coefficient row r 0) 0,
      spread (coefficient row r 1) 1,
      spread (coefficient row r 2) 2,
      spread (coefficient row r 3) 3,
      sum-sums,
      undoes r 0 a hr (omega arith) ha,
      undoes r 1 b hr (omega arith) hb,
      undoes r 2 c hr (omega arith) hc,
      undoes r 3 d hr (omega arith) hd,
    )
    (picked r a b c d hr)

-- ---- the substitutions undo each other

sub_bound : map (λ a. get_or SUBSTITUTION a 0 % 256) (from 0 256) ≡ map (λ a. get_or SUBSTITUTION a 0) (from 0 256)
sub_bound = refl

inv_sub_bound : map (λ a. get_or INVERSE_SUBSTITUTION a 0 % 256) (from 0 256) ≡ map (λ a. get_or INVERSE_SUBSTITUTION a 0) (from 0 256)
inv_sub_bound = refl

pub sub-lt : (a : ℕ) → a < 256 → sub a < 256
sub-lt a h =
    let e : get_or SUBSTITUTION a 0 % 256 ≡ get_or SUBSTITUTION a 0 = agree (λ b. get_or SUBSTITUTION b 0 % 256) (λ b. get_or SUBSTITUTION b 0) 256 a sub_bound h in
    rw (← SUBSTITUTION_at a h) (omega arith)

pub inv_sub-lt : (a : ℕ) → a < 256 → inv_sub a < 256
inv_sub-lt a h =
    let e : get_or INVERSE_SUBSTITUTION a 0 % 256 ≡ get_or INVERSE_SUBSTITUTION a 0 = agree (λ b. get_or INVERSE_SUBSTITUTION b 0 % 256) (λ b. get_or INVERSE_SUBSTITUTION b 0) 256 a inv_sub_bound h in
    rw (← INVERSE_SUBSTITUTION_at a h) (omega arith)

sub_undone : map (λ a. get_or INVERSE_SUBSTITUTION (get_or SUBSTITUTION a 0) 0) (from 0 256) ≡ map (λ a. a) (from 0 256)
sub_undone = refl

inv_sub_undone : map (λ a. get_or SUBSTITUTION (get_or INVERSE_SUBSTITUTION a 0) 0) (from 0 256) ≡ map (λ a. a) (from 0 256)
inv_sub_undone = refl

pub inv_sub-sub : (a : ℕ) → a < 256 → inv_sub (sub a) ≡ a
inv_sub-sub a h =
    sym (INVERSE_SUBSTITUTION_at (sub a) (sub-lt a h)) ∙ ap (λ (n : ℕ). get_or INVERSE_SUBSTITUTION n 0) (sym (SUBSTITUTION_at a h))
    ∙ agree (λ b. get_or INVERSE_SUBSTITUTION (get_or SUBSTITUTION b 0) 0) (λ b. b) 256 a sub_undone h

pub sub-inv_sub : (a : ℕ) → a < 256 → sub (inv_sub a) ≡ a
sub-inv_sub a h =
    sym (SUBSTITUTION_at (inv_sub a) (inv_sub-lt a h)) ∙ ap (λ (n : ℕ). get_or SUBSTITUTION n 0) (sym (INVERSE_SUBSTITUTION_at a h))
    ∙ agree (λ b. get_or SUBSTITUTION (get_or INVERSE_SUBSTITUTION b 0) 0) (λ b. b) 256 a inv_sub_undone h
