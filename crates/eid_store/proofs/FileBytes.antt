-- The bytes of files that stand one behind the other.
use Rattle.std.proofs.Common.{◌≡◌, ℕ, zero, suc, ◌+◌, ◌-◌, ◌≤◌, ◌<◌, List, [], ◌∷◌, ◌++◌, length, take, drop, slice_range, Option, Some, None, refl, sym, ap, ◌∙◌, arith, append_assoc, length-append}
use Rattle.std.specs.Prelude.{slice_index_or}
use Rattle.std.specs.Option.{option_map}
use Rattle.std.proofs.lemmas.List.{length-take, length-drop, take-take, drop-drop, drop-take, take_at, drop_at, take-append-le, drop-append-le}
use Rattle.eid_record.specs.Plain.{PlainEffect, Spend, Refill, Unblock, SetPin, SetCan, Active, Advance, Write}
use Rattle.eid_record.specs.Layout.{replaced}
use Rattle.eid_record.specs.Files.{total, files_in}
use Rattle.eid_record.specs.Effect.{HasRange, files_after}
use Rattle.eid_store.specs.Pages.{change_place, change_bytes}

-- only so many bytes count as the files have together
pub files_in-front : (lengths : List (Option ℕ)) (n : ℕ) (bytes : List ℕ) → total lengths ≤ n → files_in lengths (take n bytes) ≡ files_in lengths bytes
files_in-front [] n bytes le = refl
files_in-front (None ∷ lengths) n bytes le = ap (λ (fs : List (Option (List ℕ))). None ∷ fs) (files_in-front lengths n bytes (omega (arith, le)))
files_in-front (Some m ∷ lengths) n bytes le =
    let first : take m (take n bytes) ≡ take m bytes = take-take m n bytes (omega (arith, le)) in
    let rest : drop m (take n bytes) ≡ take (n - m) (drop m bytes) = ap (λ (k : ℕ). drop m (take k bytes)) (omega (arith, le)) ∙ drop-take m (n - m) bytes in
    let later : files_in lengths (take (n - m) (drop m bytes)) ≡ files_in lengths (drop m bytes) = files_in-front lengths (n - m) (drop m bytes) (omega (arith, le)) in
    ap (λ (f : List ℕ). Some f ∷ files_in lengths (drop m (take n bytes))) first ∙ ap (λ (fs : List (Option (List ℕ))). Some (take m bytes) ∷ fs) (ap (files_in lengths) rest ∙ later)

pub files_in-append : (lengths : List (Option ℕ)) (bytes more : List ℕ) → length bytes ≡ total lengths → files_in lengths (bytes ++ more) ≡ files_in lengths bytes
files_in-append lengths bytes more long =
    sym (files_in-front lengths (length bytes) (bytes ++ more) (omega (arith, long))) ∙ ap (files_in lengths) (take_at bytes more (length bytes) refl)

-- ---- bytes that are replaced behind or inside a front

take-replaced_behind : (m q : ℕ) (bytes all : List ℕ) → m ≤ q → m ≤ length all → take m (replaced q bytes all) ≡ take m all
take-replaced_behind m q bytes all le long =
    take-append-le m (take q all) (bytes ++ drop (q + length bytes) all) (omega (arith, length-take q all, le, long)) ∙ take-take m q all le

drop-replaced_behind : (m q : ℕ) (bytes all : List ℕ) → m ≤ length all → drop m (replaced (m + q) bytes all) ≡ replaced q bytes (drop m all)
drop-replaced_behind m q bytes all long =
    drop-append-le m (take (m + q) all) (bytes ++ drop ((m + q) + length bytes) all) (omega (arith, length-take (m + q) all, long))
    ∙ ap (λ (t : List ℕ). t ++ (bytes ++ drop ((m + q) + length bytes) all)) (drop-take m q all)
    ∙ ap (λ (t : List ℕ). take q (drop m all) ++ (bytes ++ t)) (ap (λ (k : ℕ). drop k all) (omega arith) ∙ sym (drop-drop (q + length bytes) m all))

drop-replaced_inside : (m q : ℕ) (bytes all : List ℕ) → q + length bytes ≤ m → m ≤ length all → drop m (replaced q bytes all) ≡ drop m all
drop-replaced_inside m q bytes all inside long =
    let front = take q all ++ bytes in
    let rest = drop (q + length bytes) all in
    let size_of : length front ≡ q + length bytes = omega (arith, length-append (take q all) bytes, length-take q all, inside, long) in
    let far : m ≡ (q + length bytes) + (m - (q + length bytes)) = omega (arith, inside) in
    ap (drop m) (sym (append_assoc (take q all) bytes rest)) ∙ ap (λ (k : ℕ). drop k (front ++ rest)) far
    ∙ sym (drop-drop (m - (q + length bytes)) (q + length bytes) (front ++ rest)) ∙ ap (drop (m - (q + length bytes))) (drop_at front rest (q + length bytes) size_of)
    ∙ drop-drop (m - (q + length bytes)) (q + length bytes) all ∙ ap (λ (k : ℕ). drop k all) (sym far)

take_longer : (front rest : List ℕ) (n : ℕ) → take (length front + n) (front ++ rest) ≡ front ++ take n rest
take_longer [] rest n = let same : 0 + n ≡ n = omega arith in ap (λ (k : ℕ). take k rest) same
take_longer (x ∷ front) rest n =
    let same : suc (length front) + n ≡ suc (length front + n) = omega arith in
    ap (λ (k : ℕ). take k (x ∷ (front ++ rest))) same ∙ ap (λ (t : List ℕ). x ∷ t) (take_longer front rest n)

take-replaced_inside : (m q : ℕ) (bytes all : List ℕ) → q + length bytes ≤ m → m ≤ length all → take m (replaced q bytes all) ≡ replaced q bytes (take m all)
take-replaced_inside m q bytes all inside long =
    let front = take q all ++ bytes in
    let rest = drop (q + length bytes) all in
    let n = m - (q + length bytes) in
    let size_of : length front ≡ q + length bytes = omega (arith, length-append (take q all) bytes, length-take q all, inside, long) in
    let whole : take m (front ++ rest) ≡ front ++ take n rest =
    let far : m ≡ length front + n = omega (arith, size_of, inside) in ap (λ (k : ℕ). take k (front ++ rest)) far ∙ take_longer front rest n in
    let taken : take n rest ≡ drop (q + length bytes) (take m all) = sym (drop-take (q + length bytes) n all) ∙ ap (λ (k : ℕ). drop (q + length bytes) (take k all)) (omega (arith, inside)) in
    let head : take q all ≡ take q (take m all) = sym (take-take q m all (omega (arith, inside))) in
    ap (take m) (sym (append_assoc (take q all) bytes rest)) ∙ whole ∙ append_assoc (take q all) bytes (take n rest)
    ∙ ap (λ (t : List ℕ). t ++ (bytes ++ take n rest)) head ∙ ap (λ (t : List ℕ). take q (take m all) ++ (bytes ++ t)) taken

-- ---- what a write changes

pub files_in-written : (lengths : List (Option ℕ)) (file offset : ℕ) (bytes all : List ℕ) → HasRange lengths file offset (length bytes) → total lengths ≤ length all
    → files_in lengths (replaced (total (take file lengths) + offset) bytes all) ≡ files_after (Write file offset bytes) (files_in lengths all)
files_in-written [] file offset bytes all has long = absurd has
files_in-written (None ∷ lengths) zero offset bytes all has long = absurd has
files_in-written (Some m ∷ lengths) zero offset bytes all has long =
    let place : 0 + offset ≡ offset = omega arith in
    let first : take m (replaced offset bytes all) ≡ replaced offset bytes (take m all) = take-replaced_inside m offset bytes all has (omega (arith, long)) in
    let rest : drop m (replaced offset bytes all) ≡ drop m all = drop-replaced_inside m offset bytes all has (omega (arith, long)) in
    ap (λ (k : ℕ). files_in (Some m ∷ lengths) (replaced k bytes all)) place
    ∙ ap (λ (f : List ℕ). Some f ∷ files_in lengths (drop m (replaced offset bytes all))) first
    ∙ ap (λ (r : List ℕ). Some (replaced offset bytes (take m all)) ∷ files_in lengths r) rest
files_in-written (None ∷ lengths) (suc file) offset bytes all has long =
    let place : (0 + total (take file lengths)) + offset ≡ total (take file lengths) + offset = omega arith in
    ap (λ (k : ℕ). None ∷ files_in lengths (replaced k bytes all)) place
    ∙ ap (λ (fs : List (Option (List ℕ))). None ∷ fs) (files_in-written lengths file offset bytes all has (omega (arith, long)))
files_in-written (Some m ∷ lengths) (suc file) offset bytes all has long =
    let q = total (take file lengths) + offset in
    let place : (m + total (take file lengths)) + offset ≡ m + q = omega arith in
    let first : take m (replaced (m + q) bytes all) ≡ take m all = take-replaced_behind m (m + q) bytes all (omega arith) (omega (arith, long)) in
    let rest : drop m (replaced (m + q) bytes all) ≡ replaced q bytes (drop m all) = drop-replaced_behind m q bytes all (omega (arith, long)) in
    ap (λ (k : ℕ). files_in (Some m ∷ lengths) (replaced k bytes all)) place
    ∙ ap (λ (f : List ℕ). Some f ∷ files_in lengths (drop m (replaced (m + q) bytes all))) first
    ∙ ap (λ (r : List ℕ). Some (take m all) ∷ files_in lengths r) rest
    ∙ ap (λ (fs : List (Option (List ℕ))). Some (take m all) ∷ fs) (files_in-written lengths file offset bytes (drop m all) has (omega (arith, long, length-drop m all)))

nothing_replaced : (all : List ℕ) → replaced 0 [] all ≡ all
nothing_replaced all = refl

-- what any effect changes
pub files_in-changed : (effect : PlainEffect) (lengths : List (Option ℕ)) (all : List ℕ)
    → ((file offset : ℕ) (bytes : List ℕ) → effect ≡ Write file offset bytes → HasRange lengths file offset (length bytes)) → total lengths ≤ length all
    → files_in lengths (replaced (change_place effect lengths) (change_bytes effect) all) ≡ files_after effect (files_in lengths all)
files_in-changed (Write file offset bytes) lengths all has long = files_in-written lengths file offset bytes all (has file offset bytes refl) long
files_in-changed Spend lengths all has long = ap (files_in lengths) (nothing_replaced all)
files_in-changed Refill lengths all has long = ap (files_in lengths) (nothing_replaced all)
files_in-changed (Unblock by_puk) lengths all has long = ap (files_in lengths) (nothing_replaced all)
files_in-changed (SetPin pin) lengths all has long = ap (files_in lengths) (nothing_replaced all)
files_in-changed (SetCan can) lengths all has long = ap (files_in lengths) (nothing_replaced all)
files_in-changed (Active active) lengths all has long = ap (files_in lengths) (nothing_replaced all)
files_in-changed (Advance date now before) lengths all has long = ap (files_in lengths) (nothing_replaced all)

-- ---- reading a file

pub file_range-is : (lengths : List (Option ℕ)) (file offset count : ℕ) (all : List ℕ) → HasRange lengths file offset count → total lengths ≤ length all
    → option_map (λ (bytes : List ℕ). slice_range bytes offset (offset + count)) (slice_index_or (files_in lengths all) file None)
    ≡ Some (slice_range all (total (take file lengths) + offset) (total (take file lengths) + offset + count))
file_range-is [] file offset count all has long = absurd has
file_range-is (None ∷ lengths) zero offset count all has long = absurd has
file_range-is (Some m ∷ lengths) zero offset count all has long =
    let n : (offset + count) - offset ≡ count = omega arith in
    let n' : (0 + offset + count) - (0 + offset) ≡ count = omega arith in
    let split : m ≡ offset + (m - offset) = omega (arith, has) in
    let cut : drop offset (take m all) ≡ take (m - offset) (drop offset all) = ap (λ (k : ℕ). drop offset (take k all)) split ∙ drop-take offset (m - offset) all in
    let inner : take count (take (m - offset) (drop offset all)) ≡ take count (drop offset all) = take-take count (m - offset) (drop offset all) (omega (arith, has)) in
    let place : offset ≡ 0 + offset = omega arith in
    ap (λ (t : List ℕ). Some t) (
    ap (λ (k : ℕ). take k (drop offset (take m all))) n ∙ ap (take count) cut ∙ inner
    ∙ ap (λ (k : ℕ). take count (drop k all)) place ∙ ap (λ (k : ℕ). take k (drop (0 + offset) all)) (sym n'))
file_range-is (None ∷ lengths) (suc file) offset count all has long =
    file_range-is lengths file offset count all has (omega (arith, long))
    ∙ ap (λ (k : ℕ). Some (slice_range all (k + offset) (k + offset + count))) (omega arith)
file_range-is (Some m ∷ lengths) (suc file) offset count all has long =
    let q = total (take file lengths) + offset in
    let q' = m + total (take file lengths) + offset in
    let later = file_range-is lengths file offset count (drop m all) has (omega (arith, long, length-drop m all)) in
    let n : (q + count) - q ≡ (q' + count) - q' = omega arith in
    let place : m + q ≡ q' = omega arith in
    later ∙ ap (λ (t : List ℕ). Some t) (
    ap (take ((q + count) - q)) (drop-drop q m all ∙ ap (λ (k : ℕ). drop k all) place) ∙ ap (λ (k : ℕ). take k (drop q' all)) n)

pub total-take : (n : ℕ) (lengths : List (Option ℕ)) → total (take n lengths) ≤ total lengths
total-take zero lengths = omega arith
total-take (suc n) [] = omega arith
total-take (suc n) (m ∷ lengths) = omega (arith, total-take n lengths)

pub range_known : (lengths : List (Option ℕ)) (file offset count : ℕ) → HasRange lengths file offset count → file < length lengths
range_known [] file offset count has = absurd has
range_known (n ∷ lengths) zero offset count has = omega arith
range_known (n ∷ lengths) (suc file) offset count has = omega (arith, range_known lengths file offset count has)

pub range_inside : (lengths : List (Option ℕ)) (file offset count : ℕ) → HasRange lengths file offset count → total (take file lengths) + offset + count ≤ total lengths
range_inside [] file offset count has = absurd has
range_inside (None ∷ lengths) zero offset count has = absurd has
range_inside (Some m ∷ lengths) zero offset count has = omega (arith, has)
range_inside (None ∷ lengths) (suc file) offset count has = omega (arith, range_inside lengths file offset count has)
range_inside (Some m ∷ lengths) (suc file) offset count has = omega (arith, range_inside lengths file offset count has)
