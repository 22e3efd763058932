-- How long the parts of protected messages are.
use Rattle.std.proofs.Common.{◌≡◌, ℕ, zero, suc, ◌+◌, ◌-◌, ◌*◌, ◌/◌, ◌%◌, ◌<◌, ◌≤◌, List, [], ◌∷◌, ◌++◌, length, take, drop, refl, ap, ◌∙◌, arith, length-append}
use Rattle.std.specs.List.{concat}
use Rattle.std.proofs.lemmas.List.{length-take-le, length-replicate}
use Rattle.eid_aes.specs.Cipher.{cipher, cipher_rounds, xor_block}
use Rattle.eid_aes.specs.Cbc.{blocks, encrypted_blocks, cbc_encrypted}
use Rattle.eid_cmac.specs.Padding.{padding, padded}
use Rattle.eid_cmac.specs.Cmac.{cmac, mac8}
use Rattle.eid_apdu.specs.Answer.{status_bytes}
use Rattle.eid_apdu.specs.Command.{PlainCommand, Case, Bare, ShortLe, ShortBody, ShortBodyLe, ExtendedLe, ExtendedBody, ExtendedBodyLe, tail, short_le, extended_le, two_bytes}
use Rattle.eid_apdu.specs.Writing.{case_written, written}
use Rattle.eid_tlv.specs.Objects.{object, tag_bytes, length_bytes}
use Rattle.eid_sm.specs.Parts.{cryptogram, encrypted_object, padded_objects, mac_object, with_mac}
use Rattle.eid_sm.specs.Replies.{reply_objects}
use Rattle.eid_sm.proofs.PartFacts.{object_fits, status_object_is}

pub length-cipher : (key block : List ℕ) → length (cipher key block) ≡ 16
unfolding cipher cipher_rounds xor_block
length-cipher key block = refl

front_of_cipher : (key block : List ℕ) → length (take 8 (cipher key block)) ≡ 8
front_of_cipher key block = length-take-le 8 (cipher key block) (omega (arith, length-cipher key block))

-- a MAC has 8 bytes
pub length-mac8 : (key message : List ℕ) → length (mac8 key message) ≡ 8
unfolding cmac
length-mac8 key message = front_of_cipher key _

-- an object with a value of 8 bytes under a tag of one byte
small_object : (value : List ℕ) → length value ≡ 8 → object 0x8E value ≡ 0x8E ∷ 8 ∷ value
unfolding object tag_bytes length_bytes
small_object value size = rw size refl

pub mac_object_is : (key start objects : List ℕ) → mac_object key start objects ≡ 0x8E ∷ 8 ∷ mac8 key (start ++ padded_objects objects)
unfolding mac_object
mac_object_is key start objects = small_object _ (length-mac8 key _)

pub length-mac_object : (key start objects : List ℕ) → length (mac_object key start objects) ≡ 10
length-mac_object key start objects =
    let eight : length (mac8 key (start ++ padded_objects objects)) ≡ 8 = length-mac8 key _ in
    ap length (mac_object_is key start objects) ∙ omega arith

length-encrypted_blocks : (n : ℕ) (key iv bytes : List ℕ) → length (concat (encrypted_blocks key iv (blocks n bytes))) ≡ 16 * n
unfolding encrypted_blocks blocks
length-encrypted_blocks zero key iv bytes = refl
length-encrypted_blocks (suc n) key iv bytes =
    let first : List ℕ = cipher key (xor_block (take 16 bytes) iv) in
    let rest : length (concat (encrypted_blocks key first (blocks n (drop 16 bytes)))) ≡ 16 * n = length-encrypted_blocks n key first (drop 16 bytes) in
    let one : length first ≡ 16 = length-cipher key (xor_block (take 16 bytes) iv) in
    length-append first (concat (encrypted_blocks key first (blocks n (drop 16 bytes)))) ∙ omega arith

pub length-cbc_encrypted : (key iv bytes : List ℕ) → length bytes % 16 ≡ 0 → length (cbc_encrypted key iv bytes) ≡ length bytes
unfolding cbc_encrypted
length-cbc_encrypted key iv bytes whole = length-encrypted_blocks (length bytes / 16) key iv bytes ∙ omega (arith, whole)

pub length-padded : (bytes : List ℕ) → (length (padded bytes) % 16 ≡ 0) × (length bytes < length (padded bytes)) × (length (padded bytes) ≤ length bytes + 16)
length-padded bytes =
    let size : length (padded bytes) ≡ length bytes + (1 + (15 - length bytes % 16)) =
    omega (arith, length-append bytes (padding (length bytes)), length-replicate {A = ℕ} (15 - length bytes % 16) 0) in
    (omega arith, omega arith, omega arith)

pub length-cryptogram : (key count plain : List ℕ) → length (cryptogram key count plain) ≡ length (padded plain)
unfolding cryptogram
length-cryptogram key count plain = length-cbc_encrypted key _ (padded plain) (length-padded plain).0

pub length-encrypted_object : (key count plain : List ℕ) → length (encrypted_object key count plain) ≤ length plain + 22
unfolding encrypted_object
length-encrypted_object key count [] = omega arith
length-encrypted_object key count (b ∷ bs) =
    let some = length-padded (b ∷ bs) in
    let size : length (0x01 ∷ cryptogram key count (b ∷ bs)) ≡ suc (length (padded (b ∷ bs))) = ap suc (length-cryptogram key count (b ∷ bs)) in
    omega (arith, object_fits 0x87 (0x01 ∷ cryptogram key count (b ∷ bs)), some.2)

-- the objects of a reply with at most 2,100 bytes of data, with their MAC
pub length-sealed_objects : (enc mac count content : List ℕ) (status : ℕ) → length content ≤ 2100
    → length (with_mac mac count (reply_objects enc count content (status_bytes status))) ≤ 2136
length-sealed_objects enc mac count content status short =
    let encrypted : List ℕ = encrypted_object enc count content in
    let all : List ℕ = reply_objects enc count content (status_bytes status) in
    let four : length (object 0x99 (status_bytes status)) ≡ 4 = ap length (status_object_is _ _) in
    let sum = length-append encrypted (object 0x99 (status_bytes status)) in
    let whole = length-append all (mac_object mac count all) in
    omega (arith, length-encrypted_object enc count content, length-mac_object mac count all)

-- a written command has at most nine bytes more than its body
tail_size : (form : Case) (body : List ℕ) (ne : ℕ) → length (tail form body ne) ≤ length body + 5
tail_size Bare body ne = omega arith
tail_size ShortLe body ne = omega arith
tail_size ShortBody body ne = omega arith
tail_size ShortBodyLe body ne = omega (arith, length-append body (short_le ne ∷ []))
tail_size ExtendedLe body ne = omega arith
tail_size ExtendedBody body ne = omega arith
tail_size ExtendedBodyLe body ne = omega (arith, length-append body (two_bytes (extended_le ne)))

pub size_written : (c : PlainCommand) → length (written c) ≤ length c.body + 9
unfolding written
size_written c = omega (arith, tail_size (case_written c.body c.ne) c.body c.ne)
