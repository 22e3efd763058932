-- What the fixed bytes of a record say: its fields, or the first place of the first field that is refused.
use Rattle.std.specs.Prelude.{◌≡◌, ℕ, zero, suc, ◌+◌, Bool, ◌&&◌, List, [], ◌∷◌, Option, Some, None, Result, Ok, Err, slice_index, slice_range, nat_le, ◌==◌, if◌then◌else◌}
use Rattle.std.specs.Char.{is_ascii_digit}
use Rattle.std.specs.List.{list_all}
use Rattle.std.specs.Int.{w16, w32, from_be_bytes}
use Rattle.eid_bits.specs.Date.{is_between, is_date}
use Rattle.eid_record.specs.Layout.{file_count, number_place, tries_place, unblocks_place, active_place, pin_place, can_place, puk_place, date_place, current_place, previous_place, ca_secret_place, ri_secret_place, lengths_place, name_place, template_place, key_place, present_place, absent}
use Rattle.eid_record.specs.declared.reading.BadRecord.{BadRecord}
use Rattle.eid_record.specs.Plain.{PlainTrustPoint, PlainRecord}

infixl 10 ◌>>=◌
abbrev pub ◌>>=◌ : {A B : Type 0} → Result A ℕ → (A → Result B ℕ) → Result B ℕ
(Ok x) >>= f = f x
(Err place) >>= f = Err place

-- What a function returned, seen by view, is what reading gives.
abbrev pub Reads : {X Y : Type 0} → (X → Y) → Result X BadRecord → Result Y ℕ → Type 0
Reads view (Ok x) read = read ≡ Ok (view x)
Reads view (Err e) read = read ≡ Err e.place

-- this many bytes from this place on
abbrev pub bytes_from : ℕ → ℕ → List ℕ → List ℕ
bytes_from count place fixed = slice_range fixed place (place + count)

-- a number of at most so much
unfoldable pub at_most : ℕ → ℕ → List ℕ → Result ℕ ℕ
at_most most place fixed =
    if nat_le (slice_index fixed place) most then Ok (slice_index fixed place) else Err place

-- this many ASCII digits
unfoldable pub digits_at : ℕ → ℕ → List ℕ → Result (List ℕ) ℕ
digits_at count place fixed =
    if list_all is_ascii_digit (bytes_from count place fixed) then Ok (bytes_from count place fixed) else Err place

unfoldable pub date_at : ℕ → List ℕ → Result (List ℕ) ℕ
date_at place fixed = if is_date (bytes_from 6 place fixed) then Ok (bytes_from 6 place fixed) else Err place

-- a trust point that is there: a name of 1 to 16 bytes, and a key that begins with 04
abbrev pub is_trust_point_at : ℕ → List ℕ → Bool
is_trust_point_at place fixed =
    (slice_index fixed (place + present_place) == 1)
    && is_between 1 16 (slice_index fixed place)
    && (slice_index fixed (place + key_place) == 4)

abbrev pub trust_point_of : ℕ → List ℕ → PlainTrustPoint
trust_point_of place fixed = record {
  name = bytes_from (slice_index fixed place) (place + name_place) fixed;
  template = bytes_from 5 (place + template_place) fixed;
  key = bytes_from 65 (place + key_place) fixed;
}

unfoldable pub trust_point_at : ℕ → List ℕ → Result PlainTrustPoint ℕ
trust_point_at place fixed =
    if is_trust_point_at place fixed then Ok (trust_point_of place fixed) else Err place

-- of one that is absent nothing else is read
unfoldable pub optional_point_at : ℕ → List ℕ → Result (Option PlainTrustPoint) ℕ
optional_point_at place fixed =
    if slice_index fixed (place + present_place) == 0 then Ok None else do
      t ← trust_point_at place fixed
      Ok (Some t)

-- the number of bytes of a file; an absent one has none
abbrev pub size : Option ℕ → ℕ
size None = 0
size (Some n) = n

-- a length, where those before it have this sum
unfoldable pub length_at : ℕ → ℕ → ℕ → Result (Option ℕ) ℕ
length_at place sum n =
    if n == absent then Ok None
    else if nat_le n 2048 && nat_le (sum + n) 24000 then Ok (Some n) else Err place

-- so many lengths from this place on, where those before them have this sum
unfoldable pub lengths_from : ℕ → ℕ → ℕ → List ℕ → Result (List (Option ℕ)) ℕ
lengths_from zero place sum fixed = Ok []
lengths_from (suc count) place sum fixed = do
  n ← length_at place sum (from_be_bytes w16 (bytes_from 2 place fixed))
  later ← lengths_from count (place + 2) (sum + size n) fixed
  Ok (n ∷ later)

-- tries, unblockings, and whether the PIN is active
unfoldable pub counters_in : List ℕ → Result (ℕ × ℕ × Bool) ℕ
counters_in fixed = do
  tries ← at_most 3 tries_place fixed
  unblocks ← at_most 10 unblocks_place fixed
  active ← at_most 1 active_place fixed
  Ok (tries, unblocks, active == 1)

-- PIN, CAN and PUK
unfoldable pub passwords_in : List ℕ → Result (List ℕ × List ℕ × List ℕ) ℕ
passwords_in fixed = do
  pin ← digits_at 6 pin_place fixed
  can ← digits_at 6 can_place fixed
  puk ← digits_at 10 puk_place fixed
  Ok (pin, can, puk)

-- the record, its fields read in the order of their places
unfoldable pub record_in : List ℕ → Result PlainRecord ℕ
record_in fixed = do
  counters ← counters_in fixed
  passwords ← passwords_in fixed
  date ← date_at date_place fixed
  current ← trust_point_at current_place fixed
  previous ← optional_point_at previous_place fixed
  lengths ← lengths_from file_count lengths_place 0 fixed
  Ok (record {
    number = from_be_bytes w32 (bytes_from 4 number_place fixed);
    tries = counters.0;
    unblocks = counters.1;
    active = counters.2;
    pin = passwords.0;
    can = passwords.1;
    puk = passwords.2;
    date = date;
    current = current;
    previous = previous;
    ca_secret = bytes_from 32 ca_secret_place fixed;
    ri_secret = bytes_from 32 ri_secret_place fixed;
    lengths = lengths;
  })
