-- Keys that are derived are lists of bytes.
use Rattle.std.proofs.Common.{ℕ, zero, suc, ◌<◌, List, [], ◌∷◌, ◌++◌, take, slice_index, arith}
use Rattle.std.specs.Int.{w32, to_be_bytes}
use Rattle.sha1.specs.Sha1.{sha1, digest_bytes}
use Rattle.eid_cmac.specs.Derivation.{derived}

-- each of them is a byte
All : List ℕ → Type 0
All [] = Unit {0}
All (b ∷ bytes) = (b < 256) × All bytes

all_both : (a b : List ℕ) → All a → All b → All (a ++ b)
unfolding All
all_both [] b p q = q
all_both (x ∷ a) b p q = (p.0, all_both a b p.1 q)

all_front : (n : ℕ) (bytes : List ℕ) → All bytes → All (take n bytes)
unfolding All
all_front zero bytes p = _
all_front (suc n) [] p = _
all_front (suc n) (b ∷ bytes) p = (p.0, all_front n bytes p.1)

are_bytes : (bytes : List ℕ) → All bytes → (i : ℕ) → slice_index bytes i < 256
unfolding All
are_bytes [] p i = omega arith
are_bytes (b ∷ bytes) p zero = p.0
are_bytes (b ∷ bytes) p (suc i) = are_bytes bytes p.1 i

word_bytes : (n : ℕ) → All (to_be_bytes w32 n)
unfolding All
word_bytes n = (omega arith, (omega arith, (omega arith, (omega arith, _))))

digest_are : (h : List ℕ) (n : ℕ) → All (digest_bytes h n)
unfolding All digest_bytes
digest_are h zero = _
digest_are h (suc n) = all_both (digest_bytes h n) (to_be_bytes w32 (slice_index h n)) (digest_are h n) (word_bytes (slice_index h n))

pub derived_bytes : (secret nonce : List ℕ) (which : ℕ) (i : ℕ) → slice_index (derived secret nonce which) i < 256
unfolding sha1
derived_bytes secret nonce which i = are_bytes _ (all_front 16 _ (digest_are _ 5)) i
