-- Cipher block chaining, block by block.
use Rattle.std.proofs.Common.{◌≡◌, ℕ, zero, suc, ◌+◌, ◌-◌, ◌*◌, ◌/◌, ◌<◌, ◌≤◌, List, [], ◌∷◌, ◌++◌, length, take, drop, refl, sym, ap, ◌∙◌, slice_index, arith, inl, inr, length-append, length-drop, append_assoc}
use Rattle.std.proofs.lemmas.List.{length-take-le, take_at, drop_at, take-append-drop, get_or-take, get_or-drop, get_or_past, drop-drop, append-nil, take_all, drop_all}
use Rattle.std.proofs.lemmas.Slice.{take-put_mid, drop-put_mid}
use Rattle.std.proofs.lemmas.Bool.{cases_lt}
use Rattle.std.proofs.lemmas.Nat.{xor_comm}
use Rattle.std.specs.List.{concat}
use borrow.Rule.Slice.PartMut.{put_mid}
use Rattle.eid_aes.specs.Cipher.{IsBlock, cipher, inv_cipher, xor_block}
use Rattle.eid_aes.specs.Cbc.{AreBlocks, blocks, encrypted_blocks, decrypted_blocks, cbc_encrypted, cbc_decrypted}
use Rattle.eid_aes.proofs.BlockFacts.{same_places}
use Rattle.eid_aes.proofs.Undone.{xor_block_twice, xor_block-block}
use Rattle.eid_aes.proofs.RoundFacts.{IsPair}

pub xor_block_comm : (a b : List ℕ) → xor_block a b ≡ xor_block b a
unfolding xor_block
xor_block_comm a b = same_places _ _ (λ k h. xor_comm (slice_index a k) (slice_index b k))

-- ---- a step of the loops

-- a block at place k of the bytes is written; what is behind it is as before
pub written : (k j : ℕ) (bytes old block : List ℕ) → k + 16 ≤ length bytes → length block ≡ 16 → j ≡ 16 → drop k bytes ≡ drop k old
    → drop (k + 16) (put_mid k j bytes block) ≡ drop (k + 16) old
written k j bytes old block fits size wide rest =
    drop-put_mid k j bytes block (k + 16) (omega arith) (omega arith) (omega arith)
    ∙ sym (drop-drop 16 k bytes) ∙ ap (λ (l : List ℕ). drop 16 l) rest ∙ drop-drop 16 k old

-- what was done, a block more, and the rest
joined_more : (k j : ℕ) (bytes block tail whole : List ℕ) → k + 16 ≤ length bytes → length block ≡ 16
    → take k bytes ++ (block ++ tail) ≡ whole → take (k + 16) (put_mid k j bytes block) ++ tail ≡ whole
joined_more k j bytes block tail whole fits size done =
    rw (take-put_mid k j bytes block (k + 16) (omega arith) (omega arith), append_assoc (take k bytes) block tail) done

pub encrypted_more : (key chain old bytes next whole : List ℕ) (i n k j : ℕ) → i < n → k ≡ 16 * i → j ≡ 16 → k + 16 ≤ length bytes → length next ≡ 16
    → take k bytes ++ concat (encrypted_blocks key chain (blocks (n - i) (drop k old))) ≡ whole
    → next ≡ cipher key (xor_block (take 16 (drop k old)) chain)
    → take (k + 16) (put_mid k j bytes next) ++ concat (encrypted_blocks key next (blocks (n - (i + 1)) (drop (k + 16) old))) ≡ whole
unfolding encrypted_blocks blocks
encrypted_more key chain old bytes next whole i n k j left at wide fits size done e =
    let m : n - i ≡ suc (n - (i + 1)) = omega arith in
    joined_more k j bytes next _ whole fits size (rw (e, ← drop-drop 16 k old) (rw m at done))

pub decrypted_more : (key chain old bytes cryptogram next whole : List ℕ) (i n k j : ℕ) → i < n → k ≡ 16 * i → j ≡ 16 → k + 16 ≤ length bytes → length next ≡ 16
    → take k bytes ++ concat (decrypted_blocks key chain (blocks (n - i) (drop k old))) ≡ whole
    → cryptogram ≡ take 16 (drop k old) → next ≡ xor_block (inv_cipher key cryptogram) chain
    → take (k + 16) (put_mid k j bytes next) ++ concat (decrypted_blocks key cryptogram (blocks (n - (i + 1)) (drop (k + 16) old))) ≡ whole
unfolding decrypted_blocks blocks
decrypted_more key chain old bytes cryptogram next whole i n k j left at wide fits size done c e =
    let m : n - i ≡ suc (n - (i + 1)) = omega arith in
    joined_more k j bytes next _ whole fits size (rw (e, c, ← drop-drop 16 k old) (rw m at done))

-- nothing is left
pub encrypted_all : (key chain rest bytes whole : List ℕ) (n k : ℕ) → n ≡ 0 → length bytes ≤ k → take k bytes ++ concat (encrypted_blocks key chain (blocks n rest)) ≡ whole → bytes ≡ whole
unfolding encrypted_blocks blocks
encrypted_all key chain rest bytes whole n k none end done =
    let d = rw (none, take_all k bytes end, append-nil bytes) at done in
    d

pub decrypted_all : (key chain rest bytes whole : List ℕ) (n k : ℕ) → n ≡ 0 → length bytes ≤ k → take k bytes ++ concat (decrypted_blocks key chain (blocks n rest)) ≡ whole → bytes ≡ whole
unfolding decrypted_blocks blocks
decrypted_all key chain rest bytes whole n k none end done =
    let d = rw (none, take_all k bytes end, append-nil bytes) at done in
    d

-- ---- decryption undoes encryption

abbrev AllBlocks : List (List ℕ) → Type 0
AllBlocks [] = Unit {0}
AllBlocks (b ∷ bs) = IsBlock b × AllBlocks bs

decrypted-encrypted : (key : List ℕ) → IsPair key → (bs : List (List ℕ)) (iv : List ℕ) → IsBlock iv → AllBlocks bs
    → decrypted_blocks key iv (encrypted_blocks key iv bs) ≡ bs
unfolding encrypted_blocks decrypted_blocks
decrypted-encrypted key pair [] iv v all = refl
decrypted-encrypted key pair (b ∷ bs) iv v all =
    let mixed : IsBlock (xor_block b iv) = xor_block-block b iv all.0 v.bytes in
    rw (pair.undone (xor_block b iv) mixed, xor_block_twice b iv all.0.size)
    (ap (λ (l : List (List ℕ)). b ∷ l) (decrypted-encrypted key pair bs (cipher key (xor_block b iv)) (pair.block_of _ mixed) all.1))

encrypted-decrypted : (key : List ℕ) → IsPair key → (bs : List (List ℕ)) (iv : List ℕ) → IsBlock iv → AllBlocks bs
    → encrypted_blocks key iv (decrypted_blocks key iv bs) ≡ bs
unfolding encrypted_blocks decrypted_blocks
encrypted-decrypted key pair [] iv v all = refl
encrypted-decrypted key pair (b ∷ bs) iv v all =
    let plain : IsBlock (inv_cipher key b) = pair.inv_block_of b all.0 in
    rw (xor_block_twice (inv_cipher key b) iv plain.size, pair.redone b all.0)
    (ap (λ (l : List (List ℕ)). b ∷ l) (encrypted-decrypted key pair bs b all.0 all.1))

encrypted-AllBlocks : (key : List ℕ) → IsPair key → (bs : List (List ℕ)) (iv : List ℕ) → IsBlock iv → AllBlocks bs → AllBlocks (encrypted_blocks key iv bs)
unfolding encrypted_blocks
encrypted-AllBlocks key pair [] iv v all = tt
encrypted-AllBlocks key pair (b ∷ bs) iv v all =
    let c : IsBlock (cipher key (xor_block b iv)) = pair.block_of _ (xor_block-block b iv all.0 v.bytes) in
    (c, encrypted-AllBlocks key pair bs (cipher key (xor_block b iv)) c all.1)

decrypted-AllBlocks : (key : List ℕ) → IsPair key → (bs : List (List ℕ)) (iv : List ℕ) → IsBlock iv → AllBlocks bs → AllBlocks (decrypted_blocks key iv bs)
unfolding decrypted_blocks
decrypted-AllBlocks key pair [] iv v all = tt
decrypted-AllBlocks key pair (b ∷ bs) iv v all =
    (xor_block-block (inv_cipher key b) iv (pair.inv_block_of b all.0) v.bytes, decrypted-AllBlocks key pair bs b all.0 all.1)

-- ---- bytes and their blocks

blocks-AllBlocks : (n : ℕ) (bytes : List ℕ) → length bytes ≡ 16 * n → ((i : ℕ) → slice_index bytes i < 256) → AllBlocks (blocks n bytes)
unfolding blocks
blocks-AllBlocks zero bytes size each = tt
blocks-AllBlocks (suc n) bytes size each = (
  record {
    size = length-take-le 16 bytes (omega arith);
    bytes = λ i. elim (cases_lt i 16) [
      | inl h ↦ rw (get_or-take 16 bytes i 0 h) (each i)
      | inr h ↦
          let past : length (take 16 bytes) ≤ i = omega (arith, length-take-le 16 bytes) in
          rw (get_or_past (take 16 bytes) i 0 past) (omega arith)
    ];
  },
  blocks-AllBlocks n (drop 16 bytes) (omega (arith, length-drop 16 bytes)) (λ i. rw (get_or-drop 16 bytes i 0) (each (16 + i))),
)

concat-blocks : (n : ℕ) (bytes : List ℕ) → length bytes ≡ 16 * n → concat (blocks n bytes) ≡ bytes
unfolding blocks
concat-blocks zero bytes size = sym (drop_all 0 bytes (omega arith))
concat-blocks (suc n) bytes size =
    ap (λ (l : List ℕ). take 16 bytes ++ l) (concat-blocks n (drop 16 bytes) (omega (arith, length-drop 16 bytes))) ∙ take-append-drop 16 bytes

blocks-concat : (bs : List (List ℕ)) → AllBlocks bs → blocks (length bs) (concat bs) ≡ bs
unfolding blocks
blocks-concat [] all = refl
blocks-concat (b ∷ bs) all =
    rw (take_at b (concat bs) 16 all.0.size, drop_at b (concat bs) 16 all.0.size, blocks-concat bs all.1) refl

length-concat : (bs : List (List ℕ)) → AllBlocks bs → length (concat bs) ≡ 16 * length bs
length-concat [] all = refl
length-concat (b ∷ bs) all = omega (arith, length-append b (concat bs), all.0.size, length-concat bs all.1)

length-encrypted : (key : List ℕ) (bs : List (List ℕ)) (iv : List ℕ) → length (encrypted_blocks key iv bs) ≡ length bs
unfolding encrypted_blocks
length-encrypted key [] iv = refl
length-encrypted key (b ∷ bs) iv = ap suc (length-encrypted key bs (cipher key (xor_block b iv)))

length-decrypted : (key : List ℕ) (bs : List (List ℕ)) (iv : List ℕ) → length (decrypted_blocks key iv bs) ≡ length bs
unfolding decrypted_blocks
length-decrypted key [] iv = refl
length-decrypted key (b ∷ bs) iv = ap suc (length-decrypted key bs b)

-- the blocks of joined blocks
blocks_again : (bs : List (List ℕ)) → AllBlocks bs → blocks (length (concat bs) / 16) (concat bs) ≡ bs
blocks_again bs all =
    let n : length (concat bs) / 16 ≡ length bs = omega (arith, length-concat bs all) in
    rw n (blocks-concat bs all)

pub cbc_undone : (key iv plain : List ℕ) → IsPair key → IsBlock iv → AreBlocks plain → cbc_decrypted key iv (cbc_encrypted key iv plain) ≡ plain
unfolding cbc_encrypted cbc_decrypted
cbc_undone key iv plain pair v whole =
    let n : ℕ = length plain / 16 in
    let size : length plain ≡ 16 * (length plain / 16) = omega (arith, whole.size) in
    let all = blocks-AllBlocks (length plain / 16) plain size whole.bytes_each in
    rw (
      blocks_again (encrypted_blocks key iv (blocks (length plain / 16) plain)) (encrypted-AllBlocks key pair _ iv v all),
      decrypted-encrypted key pair (blocks (length plain / 16) plain) iv v all,
    ) (concat-blocks (length plain / 16) plain size)

pub cbc_redone : (key iv bytes : List ℕ) → IsPair key → IsBlock iv → AreBlocks bytes → cbc_encrypted key iv (cbc_decrypted key iv bytes) ≡ bytes
unfolding cbc_encrypted cbc_decrypted
cbc_redone key iv bytes pair v whole =
    let size : length bytes ≡ 16 * (length bytes / 16) = omega (arith, whole.size) in
    let all = blocks-AllBlocks (length bytes / 16) bytes size whole.bytes_each in
    rw (
      blocks_again (decrypted_blocks key iv (blocks (length bytes / 16) bytes)) (decrypted-AllBlocks key pair _ iv v all),
      encrypted-decrypted key pair (blocks (length bytes / 16) bytes) iv v all,
    ) (concat-blocks (length bytes / 16) bytes size)
