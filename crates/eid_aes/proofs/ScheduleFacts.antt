-- The key expansion, word by word.
use Rattle.std.proofs.Common.{◌≡◌, ℕ, zero, suc, ◌+◌, ◌-◌, ◌*◌, ◌/◌, ◌%◌, ◌<◌, ◌≤◌, List, [], ◌∷◌, ◌++◌, length, take, map, inl, inr, Bool, true, false, refl, sym, ap, ◌∙◌, get_or, slice_index, bit_xor, arith, length-append}
use Rattle.std.proofs.lemmas.List.{take_all, take-take, get_or-take, take-append-le, get_or_append_left, get_or-append_right}
use lib.Bits.{xor_zero_r}
use Rattle.eid_aes.specs.Cipher.{words_of, rounds_of, key_of, IsSchedule, power_of_x, sub_word, rot_word, xor_word, transformed_word, next_word, expanded, key_expansion, word_at}
use Rattle.eid_aes.specs.Field.{sub, xtimes}
use Rattle.eid_aes.proofs.FieldFacts.{sub-lt, xtimes-lt}
use Rattle.std.specs.Prelude.{◌==◌, ◌&&◌, nat_lt, if◌then◌else◌}
use Rattle.std.proofs.lemmas.Nat.{xor_of_8}
use Rattle.std.proofs.lemmas.Bool.{cases_lt}
use Rattle.eid_aes.specs.declared.cipher.TheConstants.{RCON}
use Rattle.eid_aes.proofs.TableFacts.{from, of_table}

constants : map power_of_x (from 0 10) ≡ RCON
unfolding power_of_x xtimes
constants = refl

pub RCON_at : (i : ℕ) → i < 10 → get_or RCON i 0 ≡ power_of_x i
RCON_at i h = of_table power_of_x RCON 10 i constants h

-- a word whose number is a multiple of the key's
pub transformed_word_first : (nk i k : ℕ) (t : List ℕ) → i % nk ≡ 0 → k ≡ power_of_x (i / nk - 1)
    → transformed_word nk i t ≡ bit_xor (sub (slice_index t 1)) k ∷ sub (slice_index t 2) ∷ sub (slice_index t 3) ∷ sub (slice_index t 0) ∷ []
unfolding transformed_word
transformed_word_first nk i k t first e = rw (first, ← e, xor_zero_r (sub (slice_index t 2)), xor_zero_r (sub (slice_index t 3)), xor_zero_r (sub (slice_index t 0))) refl

-- the next word reads only the words before it
pub next_word-take : (nk i n : ℕ) (w : List ℕ) → 0 < nk → nk ≤ i → 4 * i ≤ n → next_word nk i (take n w) ≡ next_word nk i w
unfolding next_word
next_word-take nk i n w some from fits =
    let read : (k : ℕ) → k < 4 * i → get_or (take n w) k 0 ≡ get_or w k 0 = λ k h. get_or-take n w k 0 (omega arith) in
    let a = 4 * (i - nk) in
    let b = 4 * (i - 1) in
    rw (
      read a (omega arith),
      read (a + 1) (omega arith),
      read (a + 2) (omega arith),
      read (a + 3) (omega arith),
      read b (omega arith),
      read (b + 1) (omega arith),
      read (b + 2) (omega arith),
      read (b + 3) (omega arith),
    ) refl

pub length-next_word : (nk i : ℕ) (w : List ℕ) → length (next_word nk i w) ≡ 4
unfolding next_word
length-next_word nk i w = refl

-- one more word
pub expanded_more : (key w v ys : List ℕ) (nk i : ℕ) → nk ≡ words_of key → 0 < nk → nk ≤ i → 4 * i ≤ length w
    → take (4 * i) w ≡ expanded key (i - nk) → ys ≡ next_word nk i w → take (4 * i + length ys) v ≡ take (4 * i) w ++ ys
    → take (4 * (i + 1)) v ≡ expanded key (i + 1 - nk)
unfolding expanded
expanded_more key w v ys nk i words some from fits held ey written =
    let front : 4 * (i + 1) ≡ 4 * i + length ys = omega (arith, length-next_word nk i w, ap length ey) in
    let n : i + 1 - nk ≡ suc (i - nk) = omega arith in
    let at : words_of key + (i - nk) ≡ i = omega arith in
    rw (front, written, n, at, ← words, ← held, next_word-take nk i (4 * i) w some from (omega arith), ey) refl

-- the words of the key itself
pub expanded_none : (key w : List ℕ) (nk i : ℕ) → i ≡ nk → 4 * i ≡ length key → take (0 + length key) w ≡ key → take (4 * i) w ≡ expanded key (i - nk)
unfolding expanded
expanded_none key w nk i at len held =
    let n : i - nk ≡ 0 = omega arith in
    let front : 4 * i ≡ 0 + length key = omega arith in
    rw (n, front) held

-- all words
pub expanded_all : (key w : List ℕ) (rounds i : ℕ) → words_of key + 6 ≡ rounds → i ≡ 4 * (rounds + 1) → take (4 * i) w ≡ expanded key (i - (rounds - 6))
    → take (16 * (rounds + 1)) w ≡ key_expansion key
unfolding key_expansion
expanded_all key w rounds i e done held =
    let n : 16 * (rounds + 1) ≡ 4 * i = omega arith in
    let m : 4 * (rounds_of key + 1) - words_of key ≡ i - (rounds - 6) = omega arith in
    rw (n, m) held

length-expanded : (key : List ℕ) (n : ℕ) → length key ≤ length (expanded key n)
unfolding expanded
length-expanded key zero = omega arith
length-expanded key (suc n) = omega (arith, length-expanded key n, length-append (expanded key n) (next_word (words_of key) (words_of key + n) (expanded key n)))

-- the expansion begins with the key
take-expanded : (key : List ℕ) (n : ℕ) → take (length key) (expanded key n) ≡ key
unfolding expanded
take-expanded key zero = take_all (length key) key (omega arith)
take-expanded key (suc n) = take-append-le (length key) (expanded key n) _ (length-expanded key n) ∙ take-expanded key n

pub key_of_expansion : (key w : List ℕ) (n : ℕ) → length key ≤ n → take n w ≡ key_expansion key → take (length key) w ≡ key
unfolding key_expansion
key_of_expansion key w n fits held = sym (take-take (length key) n w fits) ∙ ap (λ (l : List ℕ). take (length key) l) held ∙ take-expanded key _

-- ---- the expansion of bytes

abbrev IsBytes : List ℕ → Type 0
IsBytes w = (i : ℕ) → slice_index w i < 256

word_of_bytes : (a b c d : ℕ) → a < 256 → b < 256 → c < 256 → d < 256 → IsBytes (a ∷ b ∷ c ∷ d ∷ [])
word_of_bytes a b c d ha hb hc hd zero = ha
word_of_bytes a b c d ha hb hc hd (suc zero) = hb
word_of_bytes a b c d ha hb hc hd (suc (suc zero)) = hc
word_of_bytes a b c d ha hb hc hd (suc (suc (suc zero))) = hd
word_of_bytes a b c d ha hb hc hd (suc (suc (suc (suc i)))) = omega arith

power_of_x-lt : (n : ℕ) → power_of_x n < 256
unfolding power_of_x
power_of_x-lt zero = omega arith
power_of_x-lt (suc n) = xtimes-lt (power_of_x n) (power_of_x-lt n)

xor_word-bytes : (a b : List ℕ) → IsBytes a → IsBytes b → IsBytes (xor_word a b)
xor_word-bytes a b ha hb = word_of_bytes _ _ _ _ (xor_of_8 _ _ (ha 0) (hb 0)) (xor_of_8 _ _ (ha 1) (hb 1)) (xor_of_8 _ _ (ha 2) (hb 2)) (xor_of_8 _ _ (ha 3) (hb 3))

sub_word-bytes : (t : List ℕ) → IsBytes t → IsBytes (sub_word t)
sub_word-bytes t h = word_of_bytes _ _ _ _ (sub-lt _ (h 0)) (sub-lt _ (h 1)) (sub-lt _ (h 2)) (sub-lt _ (h 3))

rot_word-bytes : (t : List ℕ) → IsBytes t → IsBytes (rot_word t)
rot_word-bytes t h = word_of_bytes _ _ _ _ (h 1) (h 2) (h 3) (h 0)

word_at-bytes : (w : List ℕ) (i : ℕ) → IsBytes w → IsBytes (word_at w i)
word_at-bytes w i h = word_of_bytes _ _ _ _ (h (4 * i)) (h (4 * i + 1)) (h (4 * i + 2)) (h (4 * i + 3))

chosen : (b d : Bool) (x y z : List ℕ) → IsBytes x → IsBytes y → IsBytes z → IsBytes (if b then x else if d then y else z)
chosen true d x y z hx hy hz = hx
chosen false true x y z hx hy hz = hy
chosen false false x y z hx hy hz = hz

transformed_word-bytes : (nk i : ℕ) (t : List ℕ) → IsBytes t → IsBytes (transformed_word nk i t)
unfolding transformed_word
transformed_word-bytes nk i t h =
    chosen (i % nk == 0) (nat_lt 6 nk && (i % nk == 4)) (xor_word (sub_word (rot_word t)) (power_of_x (i / nk - 1) ∷ 0 ∷ 0 ∷ 0 ∷ [])) (sub_word t) t
    (xor_word-bytes (sub_word (rot_word t)) (power_of_x (i / nk - 1) ∷ 0 ∷ 0 ∷ 0 ∷ []) (sub_word-bytes (rot_word t) (rot_word-bytes t h))
    (word_of_bytes (power_of_x (i / nk - 1)) 0 0 0 (power_of_x-lt (i / nk - 1)) (omega arith) (omega arith) (omega arith)))
    (sub_word-bytes t h) h

next_word-bytes : (nk i : ℕ) (w : List ℕ) → IsBytes w → IsBytes (next_word nk i w)
unfolding next_word
next_word-bytes nk i w h = xor_word-bytes (word_at w (i - nk)) (transformed_word nk i (word_at w (i - 1))) (word_at-bytes w (i - nk) h) (transformed_word-bytes nk i (word_at w (i - 1)) (word_at-bytes w (i - 1) h))

append-bytes : (a b : List ℕ) → IsBytes a → IsBytes b → IsBytes (a ++ b)
append-bytes a b ha hb i = elim (cases_lt i (length a)) [
  | inl h ↦ rw (get_or_append_left a b 0 i h) (ha i)
  | inr h ↦ rw (get_or-append_right a b (length a) i 0 refl h) (hb (i - length a))
]

expanded-bytes : (key : List ℕ) (n : ℕ) → IsBytes key → IsBytes (expanded key n)
unfolding expanded
expanded-bytes key zero h = h
expanded-bytes key (suc n) h =
    append-bytes (expanded key n) (next_word (words_of key) (words_of key + n) (expanded key n)) (expanded-bytes key n h) (next_word-bytes (words_of key) (words_of key + n) (expanded key n) (expanded-bytes key n h))

pub key_expansion-bytes : (key : List ℕ) → ((i : ℕ) → slice_index key i < 256) → (i : ℕ) → slice_index (key_expansion key) i < 256
unfolding key_expansion
key_expansion-bytes key h = expanded-bytes key (4 * (rounds_of key + 1) - words_of key) h

-- a made expansion is a schedule
pub schedule_of : (key w : List ℕ) (rounds : ℕ) → 10 ≤ rounds → rounds ≤ 14 → length w ≡ 240 → length key ≡ 4 * (rounds - 6) → ((i : ℕ) → slice_index key i < 256)
    → take (length key) w ≡ key → take (16 * (rounds + 1)) w ≡ key_expansion key → IsSchedule rounds w
schedule_of key w rounds low high size len bytes front made =
    let e : key_of rounds w ≡ key = ap (λ (n : ℕ). take n w) (sym len) ∙ front in record {
      least = low;
      most = high;
      size = size;
      bytes = rw e bytes;
      made = rw e made;
    }
