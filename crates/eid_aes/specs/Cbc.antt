-- Cipher block chaining (ISO/IEC 10116; NIST SP 800-38A, 6.2) over bytes that are whole blocks.
use Rattle.std.specs.Prelude.{ℕ, zero, suc, ◌/◌, ◌%◌, ◌≡◌, ◌<◌, List, [], ◌∷◌, length, take, drop, slice_index}
use Rattle.std.specs.List.{concat}
use Rattle.eid_aes.specs.Cipher.{cipher, inv_cipher, xor_block}

-- whole blocks of bytes
pub record AreBlocks (bytes : List ℕ) : Type 0 where
  pub size : length bytes % 16 ≡ 0
  pub bytes_each : (i : ℕ) → slice_index bytes i < 256

-- the first n blocks of the bytes
unfoldable pub blocks : ℕ → List ℕ → List (List ℕ)
blocks zero bytes = []
blocks (suc n) bytes = take 16 bytes ∷ blocks n (drop 16 bytes)

-- each block is added to the cryptogram before it, the first to iv, and encrypted
unfoldable pub encrypted_blocks : List ℕ → List ℕ → List (List ℕ) → List (List ℕ)
encrypted_blocks key iv [] = []
encrypted_blocks key iv (b ∷ bs) = cipher key (xor_block b iv) ∷ encrypted_blocks key (cipher key (xor_block b iv)) bs

unfoldable pub decrypted_blocks : List ℕ → List ℕ → List (List ℕ) → List (List ℕ)
decrypted_blocks key iv [] = []
decrypted_blocks key iv (b ∷ bs) = xor_block (inv_cipher key b) iv ∷ decrypted_blocks key b bs

-- the bytes encrypted under the key, from the initialization vector iv
unfoldable pub cbc_encrypted : List ℕ → List ℕ → List ℕ → List ℕ
cbc_encrypted key iv bytes = concat (encrypted_blocks key iv (blocks (length bytes / 16) bytes))

-- the bytes decrypted
unfoldable pub cbc_decrypted : List ℕ → List ℕ → List ℕ → List ℕ
cbc_decrypted key iv bytes = concat (decrypted_blocks key iv (blocks (length bytes / 16) bytes))
