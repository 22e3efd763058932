-- Sums of blocks and of shorter lists, which count as if 00 followed.
use Rattle.std.proofs.Common.{◌≡◌, ℕ, ◌+◌, ◌-◌, ◌<◌, ◌≤◌, List, ◌++◌, length, replicate, get_or, slice_index, bit_xor, refl, sym, ap, ◌∙◌, arith, inl, inr}
use Rattle.std.proofs.lemmas.List.{length-replicate, get_or-append_right, get_or_append_left, get_or-replicate, get_or_past}
use Rattle.std.proofs.lemmas.Bool.{cases_lt}
use lib.Bits.{xor_assoc, xor_zero_r}
use Rattle.eid_aes.specs.Cipher.{xor_block}
use Rattle.eid_aes.proofs.BlockFacts.{at_place, by_places}

pub length-xor_block : (a b : List ℕ) → length (xor_block a b) ≡ 16
unfolding xor_block
length-xor_block a b = refl

pub xor_block_at : (a b : List ℕ) (k : ℕ) → k < 16 → get_or (xor_block a b) k 0 ≡ bit_xor (get_or a k 0) (get_or b k 0)
unfolding xor_block
xor_block_at a b k h = at_place (λ i. bit_xor (slice_index a i) (slice_index b i)) k h

pub xor_block_from : (a b t : List ℕ) → length t ≡ 16 → ((k : ℕ) → k < 16 → get_or t k 0 ≡ bit_xor (get_or a k 0) (get_or b k 0)) → t ≡ xor_block a b
unfolding xor_block
xor_block_from a b t len each = by_places _ t len each

pub xor_block_assoc : (a b c : List ℕ) → xor_block (xor_block a b) c ≡ xor_block a (xor_block b c)
xor_block_assoc a b c =
    xor_block_from a (xor_block b c) _ (length-xor_block (xor_block a b) c)
    (λ k h. xor_block_at (xor_block a b) c k h ∙ ap (λ (n : ℕ). bit_xor n (get_or c k 0)) (xor_block_at a b k h)
    ∙ xor_assoc (get_or a k 0) (get_or b k 0) (get_or c k 0) ∙ ap (bit_xor (get_or a k 0)) (sym (xor_block_at b c k h)))

-- before and behind a shifted list stands 00
shifted_before : (at k : ℕ) (d : List ℕ) → k < at → get_or (replicate at 0 ++ d) k 0 ≡ 0
shifted_before at k d h = get_or_append_left (replicate at 0) d 0 k (omega (arith, length-replicate {A = ℕ} at 0)) ∙ get_or-replicate at k 0 0 h

shifted_from : (at k : ℕ) (d : List ℕ) → at ≤ k → get_or (replicate at 0 ++ d) k 0 ≡ get_or d (k - at) 0
shifted_from at k d h = get_or-append_right (replicate at 0) d at k 0 (length-replicate {A = ℕ} at 0) h

-- what `add` leaves
pub added : (old new d : List ℕ) (at : ℕ) → length new ≡ 16 → ((k : ℕ) → k < at → get_or new k 0 ≡ get_or old k 0)
    → ((k : ℕ) → k < length d → get_or new (at + k) 0 ≡ bit_xor (get_or old (at + k) 0) (get_or d k 0))
    → ((k : ℕ) → at + length d ≤ k → get_or new k 0 ≡ get_or old k 0) → new ≡ xor_block old (replicate at 0 ++ d)
added old new d at len before inside behind =
    xor_block_from old (replicate at 0 ++ d) new len (λ k h. elim (cases_lt k at) [
      | inl less ↦ rw (shifted_before at k d less, xor_zero_r (get_or old k 0)) (before k less)
      | inr least ↦
          let place : at + (k - at) ≡ k = omega arith in
          rw (shifted_from at k d least) (elim (cases_lt (k - at) (length d)) [
            | inl within ↦ rw place at (inside (k - at) within)
            | inr past ↦ rw (get_or_past d (k - at) 0 past, xor_zero_r (get_or old k 0)) (behind k (omega arith))
          ])
    ])

-- bytes added, and more bytes behind them
pub xor_block_more : (a b d : List ℕ) → length b + length d ≤ 16 → xor_block (xor_block a b) (replicate (length b) 0 ++ d) ≡ xor_block a (b ++ d)
xor_block_more a b d fits =
    xor_block_from a (b ++ d) _ (length-xor_block (xor_block a b) _) (λ k h.
    xor_block_at (xor_block a b) (replicate (length b) 0 ++ d) k h ∙ ap (λ (n : ℕ). bit_xor n (get_or (replicate (length b) 0 ++ d) k 0)) (xor_block_at a b k h)
    ∙ elim (cases_lt k (length b)) [
      | inl less ↦ rw (shifted_before (length b) k d less, xor_zero_r (bit_xor (get_or a k 0) (get_or b k 0)), get_or_append_left b d 0 k less) refl
      | inr least ↦
          rw (shifted_from (length b) k d least, get_or_past b k 0 least, xor_zero_r (get_or a k 0), get_or-append_right b d (length b) k 0 refl least) refl
    ])

zeros_at : (n k : ℕ) → get_or {A = ℕ} (replicate n 0) k 0 ≡ 0
zeros_at n k = elim (cases_lt k n) [
  | inl h ↦ get_or-replicate n k 0 0 h
  | inr h ↦ get_or_past (replicate n 0) k 0 (omega (arith, length-replicate {A = ℕ} n 0))
]

-- 00 behind a list does not count
pub xor_block_zeros : (a b : List ℕ) (n : ℕ) → xor_block a (b ++ replicate n 0) ≡ xor_block a b
xor_block_zeros a b n =
    xor_block_from a b _ (length-xor_block a (b ++ replicate n 0)) (λ k h. xor_block_at a (b ++ replicate n 0) k h ∙ ap (bit_xor (get_or a k 0)) (elim (cases_lt k (length b)) [
      | inl less ↦ get_or_append_left b (replicate n 0) 0 k less
      | inr least ↦ get_or-append_right b (replicate n 0) (length b) k 0 refl least ∙ zeros_at n (k - length b) ∙ sym (get_or_past b k 0 least)
    ]))
