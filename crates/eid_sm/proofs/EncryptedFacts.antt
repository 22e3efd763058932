-- DO 87 as it is written: its head, the byte 01, and the cryptogram made in place.
use Rattle.std.proofs.Common.{◌≡◌, ℕ, ◌+◌, ◌<◌, List, [], ◌∷◌, ◌++◌, length, take, drop, refl, sym, ap, ◌∙◌, arith, append_assoc, length-append}
use Rattle.std.proofs.Math.Seq.{take-append_seam, drop-append_seam}
use Rattle.eid_aes.specs.Cipher.{cipher}
use Rattle.eid_aes.specs.Cbc.{cbc_encrypted}
use Rattle.eid_cmac.specs.Padding.{padding, padded}
use Rattle.eid_tlv.specs.Objects.{object, tag_bytes, length_bytes}
use Rattle.eid_sm.specs.Parts.{cryptogram, encrypted_object}
use Rattle.eid_sm.proofs.PartFacts.{encrypted_some}
use Rattle.eid_sm.proofs.Lengths.{length-cryptogram}

cryptogram_is : (key count plain : List ℕ) → cbc_encrypted key (cipher key count) (padded plain) ≡ cryptogram key count plain
unfolding cryptogram
cryptogram_is key count plain = refl

-- a buffer in which what stands behind `old` was encrypted
pub cryptogram_written : (key count old plain pad all new : List ℕ) (at : ℕ) → all ≡ (old ++ plain) ++ pad → at ≡ length old → pad ≡ padding (length plain)
    → new ≡ take at all ++ cbc_encrypted key (cipher key count) (drop at all)
    → take (length all) (new ++ drop (length new) all) ≡ old ++ cryptogram key count plain
cryptogram_written key count old plain pad all new at is_all is_at is_pad is_new =
    let whole : all ≡ old ++ padded plain = is_all ∙ append_assoc old plain pad ∙ ap (λ p. old ++ (plain ++ p)) is_pad in
    let front : take at all ≡ old = rw (is_at, whole) (take-append_seam old (padded plain)) in
    let back : drop at all ≡ padded plain = rw (is_at, whole) (drop-append_seam old (padded plain)) in
    let made : new ≡ old ++ cryptogram key count plain =
    is_new ∙ ap (λ (f : List ℕ). f ++ cbc_encrypted key (cipher key count) (drop at all)) front
    ∙ ap (λ (b : List ℕ). old ++ cbc_encrypted key (cipher key count) b) back ∙ ap (λ (b : List ℕ). old ++ b) (cryptogram_is key count plain) in
    let long : length new ≡ length old + length (cryptogram key count plain) = ap length made ∙ length-append old (cryptogram key count plain) in
    let size : length all ≡ length new = ap length whole ∙ length-append old (padded plain) ∙ omega (arith, long, length-cryptogram key count plain) in
    ap (λ n. take n (new ++ drop (length new) all)) size ∙ take-append_seam new (drop (length new) all) ∙ made

object_is : (value : List ℕ) → object 0x87 value ≡ tag_bytes 0x87 ++ length_bytes (length value) ++ value
unfolding object
object_is value = refl

-- DO 87 of some bytes, piece by piece
pub encrypted_in_parts : (key count plain old head first second out : List ℕ) (size : ℕ) → 0 < length plain → head ≡ tag_bytes 0x87 ++ length_bytes size
    → size ≡ 1 + length plain + length (padding (length plain)) → first ≡ old ++ head → second ≡ first ++ 0x01 ∷ [] → out ≡ second ++ cryptogram key count plain
    → out ≡ old ++ encrypted_object key count plain
encrypted_in_parts key count plain old head first second out size some is_head is_size is_first is_second is_out =
    let value : List ℕ = 0x01 ∷ cryptogram key count plain in
    let long : size ≡ length value = omega (arith, is_size, length-cryptogram key count plain, length-append plain (padding (length plain))) in
    let whole : encrypted_object key count plain ≡ tag_bytes 0x87 ++ length_bytes size ++ value =
    encrypted_some key count plain some ∙ object_is value ∙ ap (λ n. tag_bytes 0x87 ++ length_bytes n ++ value) (sym long) in
    rw (whole, is_out, is_second, is_first, is_head) (simp append_assoc)
