-- The data objects of protected messages (BSI TR-03110-3; ISO/IEC 7816-4, secure messaging). `count` is the send
-- sequence counter as bytes.
use Rattle.std.specs.Prelude.{ℕ, ◌<◌, List, [], ◌∷◌, ◌++◌, slice_index}
use Rattle.eid_aes.specs.Cipher.{cipher}
use Rattle.eid_aes.specs.Cbc.{cbc_encrypted}
use Rattle.eid_cmac.specs.Padding.{padded}
use Rattle.eid_cmac.specs.Cmac.{mac8}
use Rattle.eid_tlv.specs.Objects.{object}

-- a list of bytes
abbrev pub AreBytes : List ℕ → Type 0
AreBytes bytes = (i : ℕ) → slice_index bytes i < 256

-- the padded bytes encrypted, from the encrypted counter on
unfoldable pub cryptogram : List ℕ → List ℕ → List ℕ → List ℕ
cryptogram key count plain = cbc_encrypted key (cipher key count) (padded plain)

-- DO 87 with the byte 01 and the cryptogram, where there are bytes to protect
unfoldable pub encrypted_object : List ℕ → List ℕ → List ℕ → List ℕ
encrypted_object key count [] = []
encrypted_object key count (b ∷ bs) = object 0x87 (0x01 ∷ cryptogram key count (b ∷ bs))

-- data objects, padded where there are any
unfoldable pub padded_objects : List ℕ → List ℕ
padded_objects [] = []
padded_objects (b ∷ bs) = padded (b ∷ bs)

-- DO 8E with the MAC of what stands before the data objects and of the data objects
unfoldable pub mac_object : List ℕ → List ℕ → List ℕ → List ℕ
mac_object key start objects = object 0x8E (mac8 key (start ++ padded_objects objects))

-- data objects, and DO 8E with the MAC of what stands before them and of them
abbrev pub with_mac : List ℕ → List ℕ → List ℕ → List ℕ
with_mac key start objects = objects ++ mac_object key start objects
