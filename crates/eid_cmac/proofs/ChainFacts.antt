-- The chain of a message as it grows.
use Rattle.std.proofs.Common.{◌≡◌, ℕ, zero, suc, ◌+◌, ◌-◌, ◌*◌, ◌%◌, ◌<◌, ◌≤◌, List, [], ◌∷◌, ◌++◌, false, length, take, drop, replicate, refl, sym, ap, ◌∙◌, arith, length-append, length-drop, take-add}
use Rattle.std.proofs.lemmas.List.{drop-append-le, take-append-le, append_assoc, drop_at, take_all, length-take-le}
use Rattle.std.specs.Prelude.{◌==◌}
use Rattle.std.proofs.lemmas.Bool.{ne_eqb}
use Rattle.eid_aes.specs.Cipher.{cipher, xor_block}
use Rattle.eid_cmac.specs.Padding.{padded}
use Rattle.eid_cmac.specs.Cmac.{zeros, first_subkey, second_subkey, chain, blocks_before, last_bytes, last_block, cmac}
use Rattle.eid_cmac.specs.Absorbing.{Holds}
use Rattle.eid_cmac.proofs.SumFacts.{xor_block_assoc, xor_block_more, xor_block_zeros}

-- the chain reads only the blocks that it counts
chain-append : (key m d : List ℕ) (n : ℕ) → 16 * n ≤ length m → chain key (m ++ d) n ≡ chain key m n
unfolding chain
chain-append key m d zero h = refl
chain-append key m d (suc n) h =
    let fits : 16 ≤ length (drop (16 * n) m) = omega (arith, length-drop (16 * n) m) in
    rw (chain-append key m d n (omega arith), drop-append-le (16 * n) m d (omega arith), take-append-le 16 (drop (16 * n) m) d fits) refl

chain_more : (key m : List ℕ) (n : ℕ) → chain key m (n + 1) ≡ cipher key (xor_block (chain key m n) (take 16 (drop (16 * n) m)))
unfolding chain
chain_more key m n =
    let e : n + 1 ≡ suc n = omega arith in
    rw e refl

pub length-last_bytes : (m : List ℕ) → length (last_bytes m) ≡ length m - 16 * blocks_before m
length-last_bytes m = length-drop (16 * blocks_before m) m

pub holds_none : (key : List ℕ) → Holds key zeros 0 []
unfolding chain xor_block
holds_none key = record { added = refl; count = refl }

-- bytes that fit into the last block
same_before : (m d : List ℕ) → length (last_bytes m) + length d ≤ 16 → blocks_before (m ++ d) ≡ blocks_before m
same_before m d fits = omega (arith, length-append m d, length-last_bytes m)

same_last : (m d : List ℕ) → length (last_bytes m) + length d ≤ 16 → last_bytes (m ++ d) ≡ last_bytes m ++ d
same_last m d fits =
    let same : blocks_before (m ++ d) ≡ blocks_before m = same_before m d fits in
    let reach : 16 * blocks_before m ≤ length m = omega arith in
    rw same (drop-append-le (16 * blocks_before m) m d reach)

pub holds_filled : (key state next m d : List ℕ) (held : ℕ) → Holds key state held m → held + length d ≤ 16
    → next ≡ xor_block state (replicate held 0 ++ d) → Holds key next (held + length d) (m ++ d)
holds_filled key state next m d held h fits e =
    let room : length (last_bytes m) + length d ≤ 16 = rw (← h.count) fits in
    let reach : 16 * blocks_before m ≤ length m = omega arith in
    let last : last_bytes (m ++ d) ≡ last_bytes m ++ d = same_last m d room in
    let before : chain key (m ++ d) (blocks_before (m ++ d)) ≡ chain key m (blocks_before m) =
    ap (chain key (m ++ d)) (same_before m d room) ∙ chain-append key m d (blocks_before m) reach in record {
      added = rw (before, last) (e ∙ ap (λ (s : List ℕ). xor_block s (replicate held 0 ++ d)) h.added ∙ rw h.count (xor_block_more (chain key m (blocks_before m)) (last_bytes m) d room));
      count = rw (last, length-append (last_bytes m) d, ← h.count) refl;
    }

-- a block behind a whole one
next_before : (m d : List ℕ) → length (last_bytes m) ≡ 16 → 0 < length d → length d ≤ 16 → blocks_before (m ++ d) ≡ blocks_before m + 1
next_before m d whole some fits = omega (arith, length-append m d, length-last_bytes m)

pub holds_next : (key state middle next m d : List ℕ) → Holds key state 16 m → 0 < length d → length d ≤ 16
    → middle ≡ cipher key state → next ≡ xor_block middle (replicate 0 0 ++ d) → Holds key next (length d) (m ++ d)
holds_next key state middle next m d h some fits em en =
    let whole : length (last_bytes m) ≡ 16 = sym h.count in
    let size : length m ≡ 16 * (blocks_before m + 1) = omega (arith, length-last_bytes m) in
    let last : last_bytes (m ++ d) ≡ d = rw (next_before m d whole some fits) (drop_at m d (16 * (blocks_before m + 1)) size) in
    let all : take 16 (last_bytes m) ≡ last_bytes m = take_all 16 (last_bytes m) (omega arith) in
    let before : chain key (m ++ d) (blocks_before (m ++ d)) ≡ middle =
    ap (chain key (m ++ d)) (next_before m d whole some fits) ∙ chain-append key m d (blocks_before m + 1) (omega arith)
    ∙ chain_more key m (blocks_before m) ∙ rw (all, ← h.added) (sym em) in record {
      added = rw (before, last) en;
      count = ap length (sym last);
    }

-- ---- the last block

last_whole : (key bytes : List ℕ) → length bytes ≡ 16 → last_block key bytes ≡ xor_block bytes (first_subkey key)
last_whole key bytes whole = rw whole refl

last_padded : (key bytes : List ℕ) → length bytes < 16 → last_block key bytes ≡ xor_block (padded bytes) (second_subkey key)
last_padded key bytes short =
    let no : (length bytes == 16) ≡ false = ne_eqb (length bytes) 16 (omega arith) in
    rw no refl

pub mac_whole : (key state summed m subkey : List ℕ) (held : ℕ) → Holds key state held m → held ≡ 16 → subkey ≡ first_subkey key
    → summed ≡ xor_block state (replicate 0 0 ++ subkey) → cipher key summed ≡ cmac key m
unfolding cmac
mac_whole key state summed m subkey held h whole ek es =
    rw (last_whole key (last_bytes m) (sym h.count ∙ whole), ← xor_block_assoc (chain key m (blocks_before m)) (last_bytes m) (first_subkey key), ← h.added, ← ek)
    (ap (cipher key) es)

pub mac_padded : (key state marked summed m subkey : List ℕ) (held : ℕ) → Holds key state held m → held < 16 → subkey ≡ second_subkey key
    → marked ≡ xor_block state (replicate held 0 ++ (0x80 ∷ [])) → summed ≡ xor_block marked (replicate 0 0 ++ subkey) → cipher key summed ≡ cmac key m
unfolding cmac
mac_padded key state marked summed m subkey held h short ek em es =
    let size : length (last_bytes m) < 16 = rw (← h.count) short in
    let x : List ℕ = chain key m (blocks_before m) in
    let b : List ℕ = last_bytes m in
    let mark : marked ≡ xor_block x (b ++ 0x80 ∷ []) =
    em ∙ ap (λ (s : List ℕ). xor_block s (replicate held 0 ++ (0x80 ∷ []))) h.added ∙ rw h.count (xor_block_more x b (0x80 ∷ []) (omega arith)) in
    let tail : padded b ≡ (b ++ 0x80 ∷ []) ++ replicate (15 - length b % 16) 0 = sym (append_assoc b (0x80 ∷ []) (replicate (15 - length b % 16) 0)) in
    let pad : xor_block x (padded b) ≡ marked = ap (xor_block x) tail ∙ xor_block_zeros x (b ++ 0x80 ∷ []) (15 - length b % 16) ∙ sym mark in
    rw (last_padded key (last_bytes m) size, ← xor_block_assoc (chain key m (blocks_before m)) (padded (last_bytes m)) (second_subkey key), pad, ← ek)
    (ap (cipher key) es)

-- the same for the next part of a piece
pub holds_part : (key state middle next m piece : List ℕ) (held at end : ℕ) → Holds key state held (m ++ take at piece) → held ≡ 16
    → at < end → end ≤ at + 16 → end ≤ length piece → middle ≡ cipher key state → next ≡ xor_block middle (replicate 0 0 ++ take (end - at) (drop at piece))
    → Holds key next (end - at) (m ++ take end piece)
holds_part key state middle next m piece held at end h whole some fits within em en =
    let d : List ℕ = take (end - at) (drop at piece) in
    let size : length (take (end - at) (drop at piece)) ≡ end - at = length-take-le (end - at) (drop at piece) (omega (arith, length-drop at piece)) in
    let prior = rw whole at h in
    let grown = holds_next key state middle next (m ++ take at piece) d prior (omega arith) (omega arith) em en in
    let e : at + (end - at) ≡ end = omega arith in
    let joined : (m ++ take at piece) ++ take (end - at) (drop at piece) ≡ m ++ take end piece =
    append_assoc m (take at piece) d ∙ ap (λ (l : List ℕ). m ++ l) (sym (take-add at (end - at) piece) ∙ ap (λ (n : ℕ). take n piece) e) in
    rw (size, joined) at grown
