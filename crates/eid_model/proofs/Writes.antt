-- What one Write more in the ledger does to the files kept: it replaces its bytes in its own file, and no other byte changes.
use Rattle.std.proofs.Common.{◌≡◌, ◌≢◌, ℕ, zero, suc, ◌+◌, ◌-◌, ◌<◌, ◌≤◌, Bool, true, false, List, [], ◌∷◌, ◌++◌, length, take, drop, nat_lt, Option, Some, None, IsSomeAnd, slice_index, slice_index_or, slice_set, refl, sym, ap, ◌∙◌, arith, length-append, length-drop, option_map}
use Rattle.std.proofs.lemmas.Bool.Decides.{nat_tests}
use Rattle.std.proofs.lemmas.Bool.{ltb-true, ltb-false}
use Rattle.std.proofs.lemmas.List.{ext_get_or, length-take, length-take-le, get_or-take, get_or-drop, get_or_append_left, get_or-append_right}
use Rattle.eid_record.specs.Plain.{PlainEffect, Write}
use Rattle.eid_record.specs.Layout.{replaced}
use Rattle.eid_model.specs.Ledger.{byte_after, bytes_after, files_kept}

-- ---- one byte

-- a place before the bytes written, and one behind them
byte_before : (file place b written offset : ℕ) (bytes : List ℕ) (ledger : List PlainEffect) → place < offset → byte_after file place b (Write written offset bytes ∷ ledger) ≡ byte_after file place b ledger
byte_before file place b written offset bytes ledger before = grind (arith, nat_tests)

byte_behind : (file place b written offset : ℕ) (bytes : List ℕ) (ledger : List PlainEffect) → offset + length bytes ≤ place → byte_after file place b (Write written offset bytes ∷ ledger) ≡ byte_after file place b ledger
byte_behind file place b written offset bytes ledger behind = grind (arith, nat_tests)

-- a place in another file
byte_elsewhere : (file place b written offset : ℕ) (bytes : List ℕ) (ledger : List PlainEffect) → file ≢ written → byte_after file place b (Write written offset bytes ∷ ledger) ≡ byte_after file place b ledger
byte_elsewhere file place b written offset bytes ledger other = grind (arith, nat_tests)

-- a place among the bytes written
byte_written : (file place b offset : ℕ) (bytes : List ℕ) (ledger : List PlainEffect) → offset ≤ place → place < offset + length bytes → byte_after file place b (Write file offset bytes ∷ ledger) ≡ slice_index bytes (place - offset)
byte_written file place b offset bytes ledger from before = grind (arith, nat_tests)

-- ---- bytes that are replaced

length-replaced : (offset : ℕ) (bytes all : List ℕ) → offset + length bytes ≤ length all → length (replaced offset bytes all) ≡ length all
length-replaced offset bytes all within =
    omega (arith, within, length-append (take offset all) (bytes ++ drop (offset + length bytes) all), length-append bytes (drop (offset + length bytes) all), length-take offset all, length-drop (offset + length bytes) all)

replaced_before : (offset : ℕ) (bytes all : List ℕ) (i : ℕ) → offset ≤ length all → i < offset → slice_index (replaced offset bytes all) i ≡ slice_index all i
replaced_before offset bytes all i within before =
    get_or_append_left (take offset all) (bytes ++ drop (offset + length bytes) all) 0 i (omega (arith, within, before, length-take offset all)) ∙ get_or-take offset all i 0 before

replaced_from : (offset : ℕ) (bytes all : List ℕ) (i : ℕ) → offset ≤ length all → offset ≤ i → slice_index (replaced offset bytes all) i ≡ slice_index (bytes ++ drop (offset + length bytes) all) (i - offset)
replaced_from offset bytes all i within from =
    get_or-append_right (take offset all) (bytes ++ drop (offset + length bytes) all) offset i 0 (length-take-le offset all within) from

replaced_here : (offset : ℕ) (bytes all : List ℕ) (i : ℕ) → offset ≤ length all → offset ≤ i → i < offset + length bytes → slice_index (replaced offset bytes all) i ≡ slice_index bytes (i - offset)
replaced_here offset bytes all i within from before =
    replaced_from offset bytes all i within from ∙ get_or_append_left bytes (drop (offset + length bytes) all) 0 (i - offset) (omega (arith, from, before))

replaced_behind : (offset : ℕ) (bytes all : List ℕ) (i : ℕ) → offset ≤ length all → offset + length bytes ≤ i → slice_index (replaced offset bytes all) i ≡ slice_index all i
replaced_behind offset bytes all i within behind =
    replaced_from offset bytes all i within (omega (arith, behind))
    ∙ get_or-append_right bytes (drop (offset + length bytes) all) (length bytes) (i - offset) 0 refl (omega (arith, behind))
    ∙ get_or-drop (offset + length bytes) all (i - offset - length bytes) 0
    ∙ ap (λ (n : ℕ). slice_index all n) (omega (arith, behind))

-- ---- the bytes of a file

length-bytes_after : (file place : ℕ) (orig : List ℕ) (ledger : List PlainEffect) → length (bytes_after file place orig ledger) ≡ length orig
length-bytes_after file place [] ledger = refl
length-bytes_after file place (b ∷ orig) ledger = ap suc (length-bytes_after file (place + 1) orig ledger)

byte_at : (file place : ℕ) (orig : List ℕ) (ledger : List PlainEffect) (i : ℕ) → i < length orig → slice_index (bytes_after file place orig ledger) i ≡ byte_after file (place + i) (slice_index orig i) ledger
byte_at file place [] ledger i in_range = absurd (omega (arith, in_range))
byte_at file place (b ∷ orig) ledger zero in_range = ap (λ (n : ℕ). byte_after file n b ledger) (omega arith)
byte_at file place (b ∷ orig) ledger (suc i) in_range =
    byte_at file (place + 1) orig ledger i (omega (arith, in_range)) ∙ ap (λ (n : ℕ). byte_after file n (slice_index orig i) ledger) (omega arith)

-- a Write elsewhere leaves each byte
bytes_elsewhere : (file place : ℕ) (orig : List ℕ) (written offset : ℕ) (bytes : List ℕ) (ledger : List PlainEffect) → file ≢ written → bytes_after file place orig (Write written offset bytes ∷ ledger) ≡ bytes_after file place orig ledger
bytes_elsewhere file place [] written offset bytes ledger other = refl
bytes_elsewhere file place (b ∷ orig) written offset bytes ledger other =
    ap (λ (x : ℕ). x ∷ bytes_after file (place + 1) orig (Write written offset bytes ∷ ledger)) (byte_elsewhere file place b written offset bytes ledger other)
    ∙ ap (λ (l : List ℕ). byte_after file place b ledger ∷ l) (bytes_elsewhere file (place + 1) orig written offset bytes ledger other)

-- One in the file replaces the bytes that stand so far behind the place from which the bytes are taken.
pub bytes_written : (file place : ℕ) (orig : List ℕ) (offset index : ℕ) (bytes : List ℕ) (ledger : List PlainEffect) → offset ≡ place + index → index + length bytes ≤ length orig
    → bytes_after file place orig (Write file offset bytes ∷ ledger) ≡ replaced index bytes (bytes_after file place orig ledger)
bytes_written file place orig offset index bytes ledger start within =
    ext_get_or 0 after (replaced index bytes all) (length-bytes_after file place orig (write ∷ ledger) ∙ sym (length-replaced index bytes all fits ∙ long))
    (λ i. λ (in_range : i < length after). by i (omega (arith, in_range, length-bytes_after file place orig (write ∷ ledger))) (nat_lt i index) refl (nat_lt i (index + length bytes)) refl) where
      write : PlainEffect
      write = Write file offset bytes

      after : List ℕ
      after = bytes_after file place orig (write ∷ ledger)

      all : List ℕ
      all = bytes_after file place orig ledger

      long : length all ≡ length orig
      long = length-bytes_after file place orig ledger

      fits : index + length bytes ≤ length all
      fits = omega (arith, within, long)

      starts : index ≤ length all
      starts = omega (arith, fits)

      by : (i : ℕ) → i < length orig → (is_before : Bool) → nat_lt i index ≡ is_before → (is_within : Bool) → nat_lt i (index + length bytes) ≡ is_within → slice_index after i ≡ slice_index (replaced index bytes all) i
      by i in_range true at is_within end =
          let before : i < index = ltb-true i index at in
          byte_at file place orig (write ∷ ledger) i in_range
          ∙ byte_before file (place + i) (slice_index orig i) file offset bytes ledger (omega (arith, start, before))
          ∙ sym (byte_at file place orig ledger i in_range) ∙ sym (replaced_before index bytes all i starts before)
      by i in_range false at true end =
          let from : index ≤ i = ltb-false i index at in
          let before : i < index + length bytes = ltb-true i (index + length bytes) end in
          byte_at file place orig (write ∷ ledger) i in_range
          ∙ byte_written file (place + i) (slice_index orig i) offset bytes ledger (omega (arith, start, from)) (omega (arith, start, before))
          ∙ ap (λ (n : ℕ). slice_index bytes n) (omega (arith, start, from)) ∙ sym (replaced_here index bytes all i starts from before)
      by i in_range false at false end =
          let behind : index + length bytes ≤ i = ltb-false i (index + length bytes) end in
          byte_at file place orig (write ∷ ledger) i in_range
          ∙ byte_behind file (place + i) (slice_index orig i) file offset bytes ledger (omega (arith, start, behind))
          ∙ sym (byte_at file place orig ledger i in_range) ∙ sym (replaced_behind index bytes all i starts behind)

-- ---- the files

-- a Write to a file before these leaves each
files_elsewhere : (file : ℕ) (files : List (Option (List ℕ))) (written offset : ℕ) (bytes : List ℕ) (ledger : List PlainEffect) → written < file → files_kept file files (Write written offset bytes ∷ ledger) ≡ files_kept file files ledger
files_elsewhere file [] written offset bytes ledger before = refl
files_elsewhere file (None ∷ later) written offset bytes ledger before =
    ap (λ (l : List (Option (List ℕ))). None ∷ l) (files_elsewhere (file + 1) later written offset bytes ledger (omega (arith, before)))
files_elsewhere file (Some orig ∷ later) written offset bytes ledger before =
    ap (λ (b : List ℕ). Some b ∷ files_kept (file + 1) later (Write written offset bytes ∷ ledger)) (bytes_elsewhere file 0 orig written offset bytes ledger (λ same. omega (arith, before, same)))
    ∙ ap (λ (l : List (Option (List ℕ))). Some (bytes_after file 0 orig ledger) ∷ l) (files_elsewhere (file + 1) later written offset bytes ledger (omega (arith, before)))

-- the file of this number among these is there, and the bytes fit in it
abbrev HasRoom : List (Option (List ℕ)) → ℕ → ℕ → List ℕ → Type 0
HasRoom files file offset bytes = IsSomeAnd (slice_index_or files file None) (λ (b : List ℕ). offset + length bytes ≤ length b)

-- one to the file that stands at this index among these replaces its bytes there
pub files_written : (file : ℕ) (files : List (Option (List ℕ))) (index written offset : ℕ) (bytes : List ℕ) (ledger : List PlainEffect) → written ≡ file + index
    → HasRoom (files_kept file files ledger) index offset bytes
    → files_kept file files (Write written offset bytes ∷ ledger) ≡ slice_set (files_kept file files ledger) index (option_map (replaced offset bytes) (slice_index_or (files_kept file files ledger) index None))
files_written file [] index written offset bytes ledger at room = absurd room
files_written file (None ∷ later) zero written offset bytes ledger at room = absurd room
files_written file (Some orig ∷ later) zero written offset bytes ledger at room =
    let here : written ≡ file = omega (arith, at) in
    let whole : bytes_after file 0 orig (Write written offset bytes ∷ ledger) ≡ replaced offset bytes (bytes_after file 0 orig ledger) =
    rw here (bytes_written file 0 orig offset offset bytes ledger (omega arith) (omega (arith, room, length-bytes_after file 0 orig ledger))) in
    ap (λ (b : List ℕ). Some b ∷ files_kept (file + 1) later (Write written offset bytes ∷ ledger)) whole
    ∙ ap (λ (l : List (Option (List ℕ))). Some (replaced offset bytes (bytes_after file 0 orig ledger)) ∷ l) (files_elsewhere (file + 1) later written offset bytes ledger (omega (arith, here)))
files_written file (None ∷ later) (suc index) written offset bytes ledger at room =
    ap (λ (l : List (Option (List ℕ))). None ∷ l) (files_written (file + 1) later index written offset bytes ledger (omega (arith, at)) room)
files_written file (Some orig ∷ later) (suc index) written offset bytes ledger at room =
    ap (λ (b : List ℕ). Some b ∷ files_kept (file + 1) later (Write written offset bytes ∷ ledger)) (bytes_elsewhere file 0 orig written offset bytes ledger (λ same. omega (arith, at, same)))
    ∙ ap (λ (l : List (Option (List ℕ))). Some (bytes_after file 0 orig ledger) ∷ l) (files_written (file + 1) later index written offset bytes ledger (omega (arith, at)) room)
