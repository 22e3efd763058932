-- How long the parts of an object are.
use Rattle.std.proofs.Common.{◌≡◌, ℕ, ◌+◌, ◌≤◌, List, ◌++◌, length, arith, length-append, append_assoc, inl, inr}
use Rattle.std.proofs.lemmas.Bool.{cases_lt}
use Rattle.eid_tlv.specs.Objects.{tag_bytes, length_bytes, object}
use Rattle.eid_tlv.proofs.Forms.{tag_bytes-one, tag_bytes-two, length_bytes-one, length_bytes-two, length_bytes-three}

pub tag_size : (tag : ℕ) → length (tag_bytes tag) ≤ 2
tag_size tag = elim (cases_lt tag 256) [
  | inl short ↦ rw (tag_bytes-one tag short) (omega arith)
  | inr long ↦ rw (tag_bytes-two tag long) (omega arith)
]

pub length_size : (size : ℕ) → length (length_bytes size) ≤ 3
length_size size = elim (cases_lt size 0x80) [
  | inl short ↦ rw (length_bytes-one size short) (omega arith)
  | inr long ↦ elim (cases_lt size 0x100) [
    | inl short ↦ rw (length_bytes-two size long short) (omega arith)
    | inr longer ↦ rw (length_bytes-three size longer) (omega arith)
  ]
]

pub some_length : (size : ℕ) → 1 ≤ length (length_bytes size)
some_length size = elim (cases_lt size 0x80) [
  | inl short ↦ rw (length_bytes-one size short) (omega arith)
  | inr long ↦ elim (cases_lt size 0x100) [
    | inl short ↦ rw (length_bytes-two size long short) (omega arith)
    | inr longer ↦ rw (length_bytes-three size longer) (omega arith)
  ]
]

-- an object has at most five bytes more than its value
pub object_size : (tag : ℕ) (value : List ℕ)
    → length (object tag value) ≡ length (tag_bytes tag) + length (length_bytes (length value)) + length value
unfolding object
object_size tag value = simp length-append

pub object_written : (before : List ℕ) (tag : ℕ) (value : List ℕ)
    → before ++ (tag_bytes tag ++ length_bytes (length value)) ++ value ≡ before ++ object tag value
unfolding object
object_written before tag value = append_assoc before (tag_bytes tag ++ length_bytes (length value)) value
