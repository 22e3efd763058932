-- Cryptograms opened.
use Rattle.std.proofs.Common.{◌≡◌, ℕ, ◌%◌, ◌<◌, ◌≤◌, true, nat_lt, Some, List, length, take, get_or, slice_index, refl, sym, ap, ◌∙◌, arith, inl, inr, ◌⊎◌}
use Rattle.std.specs.Bool.{OnTrue}
use Rattle.std.proofs.Math.Seq.{take-append_seam}
use Rattle.std.proofs.lemmas.Bool.{OnTrue_from, ltb-true, lt-ltb, cases_lt}
use Rattle.std.proofs.lemmas.List.{length-take, length-take-le, get_or-take, get_or_past}
use Rattle.std.proofs.lemmas.Grind.{common_steps}
use Rattle.eid_aes.specs.Cipher.{cipher}
use Rattle.eid_aes.specs.Cbc.{AreBlocks, cbc_encrypted}
use Rattle.eid_cmac.specs.Padding.{padding, padded}
use Rattle.eid_cmac.proofs.PaddingFacts.{padded_at}
use Rattle.eid_sm.specs.Parts.{AreBytes, cryptogram}
use Rattle.eid_sm.proofs.Lengths.{length-padded, length-cryptogram}

front : (p : List ℕ) (i : ℕ) → i < length p → get_or (padded p) i 0 ≡ get_or p i 0
front p i within = grind (arith, common_steps)

pub padded_blocks : (p : List ℕ) → AreBytes p → AreBlocks (padded p)
padded_blocks p bytes = record {
  size = (length-padded p).0;
  bytes_each = λ i. at i (cases_lt i (length p)) (cases_lt (length p) i);
} where
  at : (i : ℕ) → (i < length p) ⊎ (length p ≤ i) → (length p < i) ⊎ (i ≤ length p) → slice_index (padded p) i < 256
  at i (inl before) other = rw (front p i before) (bytes i)
  at i (inr behind) (inl after) = rw ((padded_at (padded p) p refl).after i after) (omega arith)
  at i (inr behind) (inr not_after) =
      let here : i ≡ length p = omega arith in
      rw (here, (padded_at (padded p) p refl).mark) (omega arith)

-- a cryptogram is whole blocks
pub no_cryptogram : (key count bytes p : List ℕ) → (length bytes % 16 ≡ 0 → ⊥) → bytes ≡ cryptogram key count p → ⊥
no_cryptogram key count bytes p broken e =
    let size : length bytes ≡ length (padded p) = ap length e ∙ length-cryptogram key count p in
    broken (rw size (length-padded p).0)

as_encrypted : (key count bytes p : List ℕ) → bytes ≡ cryptogram key count p → bytes ≡ cbc_encrypted key (cipher key count) (padded p)
unfolding cryptogram
as_encrypted key count bytes p e = e

as_cryptogram : (key count bytes p : List ℕ) → bytes ≡ cbc_encrypted key (cipher key count) (padded p) → bytes ≡ cryptogram key count p
unfolding cryptogram
as_cryptogram key count bytes p e = e

abbrev pub Undone : List ℕ → List ℕ → List ℕ → List ℕ → Type 0
Undone key count bytes plain = (p : List ℕ) → AreBlocks p → bytes ≡ cbc_encrypted key (cipher key count) p → plain ≡ p

-- what was decrypted is the padded bytes
pub decrypted : (key count bytes plain p : List ℕ) → Undone key count bytes plain → AreBytes p → bytes ≡ cryptogram key count p → plain ≡ padded p
decrypted key count bytes plain p undone octets e = undone (padded p) (padded_blocks p octets) (as_encrypted key count bytes p e)

pub opened : (key count bytes plain new : List ℕ) (size : ℕ) → bytes ≡ cbc_encrypted key (cipher key count) plain → plain ≡ padded (take size plain) → size < length plain
    → new ≡ take size plain → OnTrue (nat_lt 0 size) ((bytes ≡ cryptogram key count new) × (0 < length new))
opened key count bytes plain new size again found within taken =
    OnTrue_from (nat_lt 0 size) ((bytes ≡ cryptogram key count new) × (0 < length new)) (λ some.
    let n : length new ≡ size = ap length taken ∙ length-take-le size plain (omega arith) in
    let more : 0 < size = ltb-true 0 size some in
    (as_cryptogram key count bytes new (again ∙ ap (λ s. cbc_encrypted key (cipher key count) s) (found ∙ ap padded (sym taken))), omega arith))

pub opened_only : (plain new p : List ℕ) (size : ℕ) → plain ≡ padded p → Some size ≡ Some (length p) → new ≡ take size plain → 0 < length p → (nat_lt 0 size ≡ true) × (new ≡ p)
opened_only plain new p size is found taken some =
    let n : size ≡ length p = cc in
    (lt-ltb 0 size (omega arith), taken ∙ rw (n, is) (take-append_seam p (padding (length p))))

pub front_bytes : (n : ℕ) (s : List ℕ) → AreBytes s → AreBytes (take n s)
front_bytes n s bytes = λ i. elim (cases_lt i n) [
  | inl before ↦ rw (get_or-take n s i 0 before) (bytes i)
  | inr behind ↦ rw (get_or_past (take n s) i 0 (omega (arith, length-take n s))) (omega arith)
]
