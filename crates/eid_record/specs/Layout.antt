-- The layout of a record's fixed bytes, and these bytes as they are written.
use Rattle.std.specs.Prelude.{ℕ, ◌+◌, Bool, List, [], ◌∷◌, ◌++◌, length, take, drop, replicate, Option, Some, None, if◌then◌else◌}
use Rattle.std.specs.List.{flat_map}
use Rattle.std.specs.Int.{w16, w32, to_be_bytes}
use Rattle.eid_record.specs.Plain.{PlainTrustPoint, PlainRecord}

-- ---- where each field stands in the fixed bytes: the place of its first byte (this project's own layout). A byte of no
-- field is written 00, and not read.

abbrev pub fixed_size : ℕ
fixed_size = 448

-- the files that there are, present or absent
abbrev pub file_count : ℕ
file_count = 23

abbrev pub number_place : ℕ  -- four bytes, big-endian
number_place = 0

abbrev pub tries_place : ℕ
tries_place = 4

abbrev pub unblocks_place : ℕ
unblocks_place = 5

abbrev pub active_place : ℕ  -- 01 where the PIN is active, else 00
active_place = 6

abbrev pub pin_place : ℕ  -- six ASCII digits
pin_place = 7

abbrev pub can_place : ℕ  -- six
can_place = 13

abbrev pub puk_place : ℕ  -- ten
puk_place = 19

abbrev pub date_place : ℕ  -- six digits, a byte each
date_place = 29

abbrev pub current_place : ℕ  -- a trust point, 128 bytes
current_place = 64

abbrev pub previous_place : ℕ  -- another, or 00 throughout
previous_place = 192

abbrev pub ca_secret_place : ℕ  -- 32 bytes
ca_secret_place = 320

abbrev pub ri_secret_place : ℕ  -- 32 bytes
ri_secret_place = 352

abbrev pub lengths_place : ℕ  -- the lengths of the files, two bytes each, big-endian; FFFF where the file is absent
lengths_place = 384

-- in a trust point
abbrev pub name_place : ℕ  -- 16 bytes; its length stands at 0
name_place = 1

abbrev pub template_place : ℕ  -- five bytes
template_place = 17

abbrev pub key_place : ℕ  -- 65 bytes, of which the first is 04
key_place = 22

abbrev pub present_place : ℕ  -- 01 where there is a trust point, else 00
present_place = 87

-- the length of a file that is absent
abbrev pub absent : ℕ
absent = 0xFFFF

-- ---- the fixed bytes

-- all, with these bytes from this place on
abbrev pub replaced : ℕ → List ℕ → List ℕ → List ℕ
replaced place bytes all = take place all ++ (bytes ++ drop (place + length bytes) all)

-- bytes, and the place of the first of them
pub record Piece : Type 0 where
  pub place : ℕ
  pub bytes : List ℕ

infix 5 ◌at◌
abbrev pub ◌at◌ : List ℕ → ℕ → Piece
bytes at place = record { place = place; bytes = bytes }

-- all, with each piece at its place
abbrev pub laid : List Piece → List ℕ → List ℕ
laid [] all = all
laid (piece ∷ later) all = laid later (replaced piece.place piece.bytes all)

-- a trust point whose first byte stands at this place; of one that is absent there are no pieces
abbrev pub trust_point_pieces : ℕ → Option PlainTrustPoint → List Piece
trust_point_pieces place None = []
trust_point_pieces place (Some t) =
    (length t.name ∷ [] at place)
    ∷ (t.name at place + name_place)
    ∷ (t.template at place + template_place)
    ∷ (t.key at place + key_place)
    ∷ (1 ∷ [] at place + present_place)
    ∷ []

abbrev pub flag : Bool → ℕ
flag b = if b then 1 else 0

-- the two bytes of a file's length
abbrev pub length_bytes : Option ℕ → List ℕ
length_bytes None = to_be_bytes w16 absent
length_bytes (Some n) = to_be_bytes w16 n

-- the values before the trust points
abbrev pub value_pieces : PlainRecord → List Piece
value_pieces r =
    (to_be_bytes w32 r.number at number_place)
    ∷ (r.tries ∷ [] at tries_place)
    ∷ (r.unblocks ∷ [] at unblocks_place)
    ∷ (flag r.active ∷ [] at active_place)
    ∷ (r.pin at pin_place)
    ∷ (r.can at can_place)
    ∷ (r.puk at puk_place)
    ∷ (r.date at date_place)
    ∷ []

-- the values behind the trust points
abbrev pub later_pieces : PlainRecord → List Piece
later_pieces r =
    (r.ca_secret at ca_secret_place)
    ∷ (r.ri_secret at ri_secret_place)
    ∷ (flat_map length_bytes r.lengths at lengths_place)
    ∷ []

-- the fixed bytes: each field at its place, and 00 at every other
unfoldable pub fixed_bytes : PlainRecord → List ℕ
fixed_bytes r =
    laid (later_pieces r) (
    laid (trust_point_pieces previous_place r.previous) (
    laid (trust_point_pieces current_place (Some r.current)) (
    laid (value_pieces r) (replicate fixed_size 0))))
