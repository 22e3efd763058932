-- What a padded string looks like.
use Rattle.std.proofs.Common.{◌≡◌, ◌≢◌, ℕ, suc, ◌+◌, ◌-◌, ◌%◌, ◌<◌, ◌≤◌, List, ◌∷◌, length, take, drop, replicate, get_or, refl, sym, ap, ◌∙◌, arith, length-append, inl, inr}
use Rattle.std.proofs.lemmas.List.{take-replicate, length-replicate, take-append-drop, length-take-le, drop_more, get_or-append_right, get_or-replicate, get_or_past, get_or-drop, length-drop}
use Rattle.std.proofs.Math.Seq.{take-append_seam}
use Rattle.std.proofs.lemmas.Grind.{same_number_lists}
use Rattle.std.proofs.lemmas.Bool.{cases_lt}
use Rattle.eid_cmac.specs.Padding.{padding, padded}

-- the first bytes of 80 and fifteen 00
pub padding-take : (size : ℕ) → take (16 - size % 16) (0x80 ∷ replicate 15 0) ≡ padding size
padding-take size =
    let e : 16 - size % 16 ≡ suc (15 - size % 16) = omega arith in
    let zeros : take {A = ℕ} (15 - size % 16) (replicate 15 0) ≡ replicate (15 - size % 16) 0 = take-replicate (15 - size % 16) 15 0 (omega arith) in
    rw (e, zeros) refl

-- the padding stands at n
pub record PaddedAt (bytes : List ℕ) (n : ℕ) : Type 0 where
  pub mark : get_or bytes n 0 ≡ 0x80
  pub after : (k : ℕ) → n < k → get_or bytes k 0 ≡ 0
  pub within : n < length bytes
  pub close : length bytes ≤ n + 16
  pub whole : length bytes % 16 ≡ 0

zeros_after : (n k : ℕ) → get_or {A = ℕ} (replicate n 0) k 0 ≡ 0
zeros_after n k = elim (cases_lt k n) [
  | inl h ↦ get_or-replicate n k 0 0 h
  | inr h ↦ get_or_past (replicate n 0) k 0 (omega (arith, length-replicate {A = ℕ} n 0))
]

pub padded_at : (bytes message : List ℕ) → bytes ≡ padded message → PaddedAt bytes (length message)
padded_at bytes message e =
    let size : length (padded message) ≡ length message + (1 + (15 - length message % 16)) =
    omega (arith, length-append message (padding (length message)), length-replicate {A = ℕ} (15 - length message % 16) 0) in
    let len : length bytes ≡ length message + (1 + (15 - length message % 16)) = ap length e ∙ size in
    let at : (k : ℕ) → length message ≤ k → get_or bytes k 0 ≡ get_or (padding (length message)) (k - length message) 0 =
    λ k h. rw e (get_or-append_right message (padding (length message)) (length message) k 0 refl h) in record {
      mark =
          let none : length message - length message ≡ 0 = omega arith in
          at (length message) (omega arith) ∙ rw none refl;
      after = λ k h.
          let more : k - length message ≡ suc (k - length message - 1) = omega arith in
          at k (omega arith) ∙ rw more (zeros_after (15 - length message % 16) (k - length message - 1));
      within = omega arith;
      close = omega arith;
      whole = omega arith;
    }

pub padded_from : (bytes : List ℕ) (n : ℕ) → PaddedAt bytes n → bytes ≡ padded (take n bytes)
padded_from bytes n p =
    let size : length (take n bytes) ≡ n = length-take-le n bytes (omega (arith, p.within)) in
    let count : length bytes - (n + 1) ≡ 15 - n % 16 = omega (arith, p.within, p.close, p.whole) in
    let zeros : drop (n + 1) bytes ≡ replicate (15 - n % 16) 0 =
    same_number_lists (drop (n + 1) bytes) (replicate (15 - n % 16) 0) (length-drop (n + 1) bytes ∙ count ∙ sym (length-replicate {A = ℕ} (15 - n % 16) 0))
    (λ k h. get_or-drop (n + 1) bytes k 0 ∙ p.after (n + 1 + k) (omega arith) ∙ sym (zeros_after (15 - n % 16) k)) in
    sym (take-append-drop n bytes) ∙ rw (size, drop_more bytes n 0 p.within, p.mark, zeros) refl

-- two places of the padding are one
pub padded_once : (bytes : List ℕ) (n k : ℕ) → PaddedAt bytes n → get_or bytes k 0 ≢ 0 → ((i : ℕ) → k < i → get_or bytes i 0 ≡ 0) → k ≡ n
padded_once bytes n k p some after = elim (cases_lt n k) [
  | inl h ↦ absurd (some (p.after k h))
  | inr h ↦ elim (cases_lt k n) [
    | inl g ↦
        let e : ◌≡◌ {A = ℕ} 0x80 0 = sym p.mark ∙ after n g in
        absurd (omega arith)
    | inr g ↦ omega arith
  ]
]

-- 00 alone are no padded string
pub none_padded : (bytes : List ℕ) (n : ℕ) → PaddedAt bytes n → ((i : ℕ) → get_or bytes i 0 ≡ 0) → {A : Type 0} → A
none_padded bytes n p all =
    let e : ◌≡◌ {A = ℕ} 0x80 0 = sym p.mark ∙ all n in
    absurd (omega arith)

pub one_padded : (a b : List ℕ) → padded a ≡ padded b → a ≡ b
one_padded a b e =
    let first = padded_at (padded a) a refl in
    let second = padded_at (padded a) b e in
    let marked : get_or (padded a) (length b) 0 ≢ 0 = λ none.
    let zero : ◌≡◌ {A = ℕ} 0x80 0 = sym second.mark ∙ none in
    absurd (omega arith) in
    let size : length b ≡ length a = padded_once (padded a) (length a) (length b) first marked second.after in
    let front : take (length b) (padded a) ≡ b = ap (λ (s : List ℕ). take (length b) s) e ∙ take-append_seam b (padding (length b)) in
    sym (take-append_seam a (padding (length a))) ∙ ap (λ n. take n (padded a)) (sym size) ∙ front
