-- The record kept after one commit more.
use Rattle.std.proofs.Common.{◌≡◌, ℕ, zero, suc, ◌+◌, ◌≤◌, List, [], ◌∷◌, length, take, drop, Option, Some, None, IsSomeAnd, slice_index_or, refl, sym, ap, ◌∙◌, subst, arith}
use Rattle.eid_record.specs.Plain.{FullRecord, PlainEffect, Spend, Refill, Unblock, SetPin, SetCan, Active, Advance, Write}
use Rattle.eid_record.specs.Effect.{committed}
use Rattle.eid_trust.specs.Trust.{later_date}
use Rattle.eid_model.specs.Ledger.{byte_after, bytes_after, files_kept, record_after, onto, all_committed}
use Rattle.eid_model.proofs.Writes.{files_written}

same_bytes : (file place : ℕ) (bytes : List ℕ) → bytes_after file place bytes [] ≡ bytes
same_bytes file place [] = refl
same_bytes file place (b ∷ bytes) = ap (λ (l : List ℕ). b ∷ l) (same_bytes file (place + 1) bytes)

same_files : (file : ℕ) (files : List (Option (List ℕ))) → files_kept file files [] ≡ files
same_files file [] = refl
same_files file (None ∷ later) = ap (λ (l : List (Option (List ℕ))). None ∷ l) (same_files (file + 1) later)
same_files file (Some bytes ∷ later) =
    ap (λ (b : List ℕ). Some b ∷ files_kept (file + 1) later []) (same_bytes file 0 bytes) ∙ ap (λ (l : List (Option (List ℕ))). Some bytes ∷ l) (same_files (file + 1) later)

-- without a commit the record kept is the opening one
pub nothing_committed : (opening : FullRecord) → record_after opening [] ≡ opening
nothing_committed opening =
    let number : opening.fields.number + 0 ≡ opening.fields.number = omega arith in
    ap (λ (n : ℕ). record { fields = record opening.fields { number = n }; files = files_kept 0 opening.files [] }) number
    ∙ ap (λ (f : List (Option (List ℕ))). record { fields = opening.fields; files = f }) (same_files 0 opening.files)

-- The effect may be committed to this record: an Advance is to no earlier date, and a Write is to a file that is there, within its bytes.
abbrev pub IsEntered : FullRecord → PlainEffect → Type 0
IsEntered kept Spend = Unit {0}
IsEntered kept Refill = Unit {0}
IsEntered kept (Unblock by_puk) = Unit {0}
IsEntered kept (SetPin pin) = Unit {0}
IsEntered kept (SetCan can) = Unit {0}
IsEntered kept (Active active) = Unit {0}
IsEntered kept (Advance date current previous) = later_date kept.fields.date date ≡ date
IsEntered kept (Write file offset bytes) = IsSomeAnd (slice_index_or kept.files file None) (λ (b : List ℕ). offset + length bytes ≤ length b)

-- and so may these, one behind the other
abbrev pub AreEntered : FullRecord → List PlainEffect → Type 0
AreEntered kept [] = Unit {0}
AreEntered kept (effect ∷ later) = IsEntered kept effect × AreEntered (committed effect kept) later

-- the effect writes to no file
abbrev WritesNothing : PlainEffect → Type 0
WritesNothing Spend = Unit {0}
WritesNothing Refill = Unit {0}
WritesNothing (Unblock by_puk) = Unit {0}
WritesNothing (SetPin pin) = Unit {0}
WritesNothing (SetCan can) = Unit {0}
WritesNothing (Active active) = Unit {0}
WritesNothing (Advance date current previous) = Unit {0}
WritesNothing (Write file offset bytes) = ⊥

byte_more : (effect : PlainEffect) (ledger : List PlainEffect) (file place b : ℕ) → WritesNothing effect → byte_after file place b (effect ∷ ledger) ≡ byte_after file place b ledger
byte_more Spend ledger file place b nothing = refl
byte_more Refill ledger file place b nothing = refl
byte_more (Unblock by_puk) ledger file place b nothing = refl
byte_more (SetPin pin) ledger file place b nothing = refl
byte_more (SetCan can) ledger file place b nothing = refl
byte_more (Active active) ledger file place b nothing = refl
byte_more (Advance date current previous) ledger file place b nothing = refl
byte_more (Write written offset bytes) ledger file place b nothing = absurd nothing

bytes_more : (effect : PlainEffect) (ledger : List PlainEffect) (file place : ℕ) (bytes : List ℕ) → WritesNothing effect → bytes_after file place bytes (effect ∷ ledger) ≡ bytes_after file place bytes ledger
bytes_more effect ledger file place [] nothing = refl
bytes_more effect ledger file place (b ∷ bytes) nothing =
    ap (λ (x : ℕ). x ∷ bytes_after file (place + 1) bytes (effect ∷ ledger)) (byte_more effect ledger file place b nothing)
    ∙ ap (λ (l : List ℕ). byte_after file place b ledger ∷ l) (bytes_more effect ledger file (place + 1) bytes nothing)

files_more : (effect : PlainEffect) (ledger : List PlainEffect) (file : ℕ) (files : List (Option (List ℕ))) → WritesNothing effect → files_kept file files (effect ∷ ledger) ≡ files_kept file files ledger
files_more effect ledger file [] nothing = refl
files_more effect ledger file (None ∷ later) nothing = ap (λ (l : List (Option (List ℕ))). None ∷ l) (files_more effect ledger (file + 1) later nothing)
files_more effect ledger file (Some bytes ∷ later) nothing =
    ap (λ (b : List ℕ). Some b ∷ files_kept (file + 1) later (effect ∷ ledger)) (bytes_more effect ledger file 0 bytes nothing)
    ∙ ap (λ (l : List (Option (List ℕ))). Some (bytes_after file 0 bytes ledger) ∷ l) (files_more effect ledger (file + 1) later nothing)

-- a record by its number and its files, with the fields of another
abbrev numbered : FullRecord → ℕ → List (Option (List ℕ)) → FullRecord
numbered full number files = record { fields = record full.fields { number = number }; files = files }

-- and by its date
abbrev dated : FullRecord → List ℕ → ℕ → List (Option (List ℕ)) → FullRecord
dated full date number files = record { fields = record full.fields { number = number; date = date }; files = files }

counted : (effect : PlainEffect) (opening : FullRecord) (ledger : List PlainEffect) → opening.fields.number + length (effect ∷ ledger) ≡ (record_after opening ledger).fields.number + 1
counted effect opening ledger = omega arith

-- one commit more is one more in the ledger
pub record_more : (opening : FullRecord) (effect : PlainEffect) (ledger : List PlainEffect) → IsEntered (record_after opening ledger) effect → record_after opening (effect ∷ ledger) ≡ committed effect (record_after opening ledger)
record_more opening Spend ledger is = ap (λ (n : ℕ). numbered (committed Spend (record_after opening ledger)) n (files_kept 0 opening.files (Spend ∷ ledger))) (counted Spend opening ledger)
    ∙ ap (λ (f : List (Option (List ℕ))). numbered (committed Spend (record_after opening ledger)) ((record_after opening ledger).fields.number + 1) f) (files_more Spend ledger 0 opening.files tt)
record_more opening Refill ledger is = ap (λ (n : ℕ). numbered (committed Refill (record_after opening ledger)) n (files_kept 0 opening.files (Refill ∷ ledger))) (counted Refill opening ledger)
    ∙ ap (λ (f : List (Option (List ℕ))). numbered (committed Refill (record_after opening ledger)) ((record_after opening ledger).fields.number + 1) f) (files_more Refill ledger 0 opening.files tt)
record_more opening (Unblock by_puk) ledger is = ap (λ (n : ℕ). numbered (committed (Unblock by_puk) (record_after opening ledger)) n (files_kept 0 opening.files (Unblock by_puk ∷ ledger))) (counted (Unblock by_puk) opening ledger)
    ∙ ap (λ (f : List (Option (List ℕ))). numbered (committed (Unblock by_puk) (record_after opening ledger)) ((record_after opening ledger).fields.number + 1) f) (files_more (Unblock by_puk) ledger 0 opening.files tt)
record_more opening (SetPin pin) ledger is = ap (λ (n : ℕ). numbered (committed (SetPin pin) (record_after opening ledger)) n (files_kept 0 opening.files (SetPin pin ∷ ledger))) (counted (SetPin pin) opening ledger)
    ∙ ap (λ (f : List (Option (List ℕ))). numbered (committed (SetPin pin) (record_after opening ledger)) ((record_after opening ledger).fields.number + 1) f) (files_more (SetPin pin) ledger 0 opening.files tt)
record_more opening (SetCan can) ledger is = ap (λ (n : ℕ). numbered (committed (SetCan can) (record_after opening ledger)) n (files_kept 0 opening.files (SetCan can ∷ ledger))) (counted (SetCan can) opening ledger)
    ∙ ap (λ (f : List (Option (List ℕ))). numbered (committed (SetCan can) (record_after opening ledger)) ((record_after opening ledger).fields.number + 1) f) (files_more (SetCan can) ledger 0 opening.files tt)
record_more opening (Active active) ledger is = ap (λ (n : ℕ). numbered (committed (Active active) (record_after opening ledger)) n (files_kept 0 opening.files (Active active ∷ ledger))) (counted (Active active) opening ledger)
    ∙ ap (λ (f : List (Option (List ℕ))). numbered (committed (Active active) (record_after opening ledger)) ((record_after opening ledger).fields.number + 1) f) (files_more (Active active) ledger 0 opening.files tt)
record_more opening (Advance date current previous) ledger is =
    ap (λ (d : List ℕ). dated (committed (Advance date current previous) (record_after opening ledger)) d (opening.fields.number + length (Advance date current previous ∷ ledger)) (files_kept 0 opening.files (Advance date current previous ∷ ledger))) is
    ∙ ap (λ (n : ℕ). numbered (committed (Advance date current previous) (record_after opening ledger)) n (files_kept 0 opening.files (Advance date current previous ∷ ledger))) (counted (Advance date current previous) opening ledger)
    ∙ ap (λ (f : List (Option (List ℕ))). numbered (committed (Advance date current previous) (record_after opening ledger)) ((record_after opening ledger).fields.number + 1) f) (files_more (Advance date current previous) ledger 0 opening.files tt)
record_more opening (Write file offset bytes) ledger is = ap (λ (n : ℕ). numbered (committed (Write file offset bytes) (record_after opening ledger)) n (files_kept 0 opening.files (Write file offset bytes ∷ ledger))) (counted (Write file offset bytes) opening ledger)
    ∙ ap (λ (f : List (Option (List ℕ))). numbered (committed (Write file offset bytes) (record_after opening ledger)) ((record_after opening ledger).fields.number + 1) f) (files_written 0 opening.files file file offset bytes ledger (omega arith) is)

-- and so are several
pub record_onto : (opening : FullRecord) (effects ledger : List PlainEffect) → AreEntered (record_after opening ledger) effects → record_after opening (onto effects ledger) ≡ all_committed effects (record_after opening ledger)
record_onto opening [] ledger are = refl
record_onto opening (effect ∷ later) ledger are =
    let one = record_more opening effect ledger are.0 in
    record_onto opening later (effect ∷ ledger) (subst (λ (r : FullRecord). AreEntered r later) (sym one) are.1) ∙ ap (λ (r : FullRecord). all_committed later r) one

pub take_entered : (kept : FullRecord) (n : ℕ) (effects : List PlainEffect) → AreEntered kept effects → AreEntered kept (take n effects)
take_entered kept zero effects are = tt
take_entered kept (suc n) [] are = tt
take_entered kept (suc n) (effect ∷ later) are = (are.0, take_entered (committed effect kept) n later are.1)

pub drop_entered : (kept : FullRecord) (n : ℕ) (effects : List PlainEffect) → AreEntered kept effects → AreEntered (all_committed (take n effects) kept) (drop n effects)
drop_entered kept zero effects are = are
drop_entered kept (suc n) [] are = tt
drop_entered kept (suc n) (effect ∷ later) are = drop_entered (committed effect kept) n later are.1
