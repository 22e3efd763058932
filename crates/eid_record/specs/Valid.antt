-- The values that a record may have.
use Rattle.std.specs.Prelude.{◌≡◌, ℕ, ◌+◌, ◌≤◌, Bool, true, ◌&&◌, List, [], ◌∷◌, length, Option, Some, None, IsTrue, slice_get, nat_le}
use Rattle.std.specs.Char.{is_ascii_digit}
use Rattle.std.specs.List.{list_all}
use Rattle.std.specs.Option.{ForSome}
use Rattle.eid_bits.specs.Date.{is_between, is_date}
use Rattle.eid_record.specs.Plain.{PlainTrustPoint, PlainRecord}
use Rattle.eid_record.specs.Layout.{file_count}

-- this many ASCII digits
pub record AreDigits (n : ℕ) (bytes : List ℕ) : Type 0 where
  pub count : length bytes ≡ n
  pub digits : IsTrue (list_all is_ascii_digit bytes)

-- a name of 1 to 16 bytes, five bytes of rights, and an uncompressed point
pub record IsTrustPoint (t : PlainTrustPoint) : Type 0 where
  pub named : IsTrue (is_between 1 16 (length t.name))
  pub template : length t.template ≡ 5
  pub key : length t.key ≡ 65
  pub uncompressed : slice_get t.key 0 ≡ Some 4

-- the number of bytes that each of its fields may have
pub record IsShaped (t : PlainTrustPoint) : Type 0 where
  pub short : length t.name ≤ 16
  pub template : length t.template ≡ 5
  pub key : length t.key ≡ 65

-- each at most 2,048, and 24,000 together, where those before them have this sum
abbrev pub lengths_fit : ℕ → List (Option ℕ) → Bool
lengths_fit sum [] = true
lengths_fit sum (None ∷ later) = lengths_fit sum later
lengths_fit sum (Some n ∷ later) = nat_le n 2048 && nat_le (sum + n) 24000 && lengths_fit (sum + n) later

pub record IsValid (r : PlainRecord) : Type 0 where
  pub tries : r.tries ≤ 3
  pub unblocks : r.unblocks ≤ 10
  pub pin : AreDigits 6 r.pin
  pub can : AreDigits 6 r.can
  pub puk : AreDigits 10 r.puk
  pub date : IsTrue (is_date r.date)
  pub current : IsTrustPoint r.current
  pub previous : ForSome r.previous IsTrustPoint
  pub ca_secret : length r.ca_secret ≡ 32
  pub ri_secret : length r.ri_secret ≡ 32
  pub files : length r.lengths ≡ file_count
  pub lengths : IsTrue (lengths_fit 0 r.lengths)
