-- Bytes that stand at a place, and stay there while others are put behind them.
use Rattle.std.proofs.Common.{◌≡◌, ℕ, zero, suc, ◌+◌, ◌-◌, ◌≤◌, ◌<◌, true, List, [], ◌∷◌, ◌++◌, length, take, drop, get_or, Some, refl, sym, ap, ◌∙◌, append_assoc, arith, length-append, length-drop, slice_index, slice_get, nat_le}
use Rattle.std.specs.List.{list_all}
use Rattle.std.proofs.lemmas.List.{take_at, drop_at, drop-take, drop-drop, length-take, take-append-le, take-take, get_or-drop, get_or-take}
use Rattle.std.proofs.lemmas.Bool.{leb-true, and_parts}
use Rattle.eid_record.specs.Layout.{Piece, replaced, laid}
use Rattle.eid_record.specs.Reading.{bytes_from}

pub record Stands (place : ℕ) (bytes all : List ℕ) : Type 0 where
  pub here : take (length bytes) (drop place all) ≡ bytes
  pub within : place + length bytes ≤ length all

pub length-replaced : (place : ℕ) (bytes all : List ℕ) → length all ≤ length (replaced place bytes all)
length-replaced place bytes all =
    omega (arith, length-append (take place all) (bytes ++ drop (place + length bytes) all), length-append bytes (drop (place + length bytes) all), length-take place all, length-drop (place + length bytes) all)

pub stands_here : (place : ℕ) (bytes all : List ℕ) → place + length bytes ≤ length all → Stands place bytes (replaced place bytes all)
stands_here place bytes all within =
    let front : length (take place all) ≡ place = omega (arith, length-take place all) in
    record {
      here = rw (drop_at (take place all) (bytes ++ drop (place + length bytes) all) place front) (take_at bytes (drop (place + length bytes) all) (length bytes) refl);
      within = omega (arith, within, length-replaced place bytes all);
    }

pub stands_before : (place : ℕ) (bytes all : List ℕ) (other : ℕ) (others : List ℕ) → place + length bytes ≤ other → Stands place bytes all → Stands place bytes (replaced other others all)
stands_before place bytes all other others before stands =
    let n = length bytes in
    let rest = others ++ drop (other + length others) all in
    let front : take (place + n) (take other all ++ rest) ≡ take (place + n) all =
    take-append-le (place + n) (take other all) rest (omega (arith, length-take other all, stands.within)) ∙ take-take (place + n) other all before in
    record {
      here = sym (drop-take place n (replaced other others all)) ∙ ap (drop place) front ∙ drop-take place n all ∙ stands.here;
      within = omega (arith, stands.within, length-replaced other others all);
    }

-- each piece stands at this place or behind it
abbrev pub AreBehind : ℕ → List Piece → Type 0
AreBehind place [] = Unit {0}
AreBehind place (piece ∷ later) = (place ≤ piece.place) × AreBehind place later

pub behind_by_test : (place : ℕ) (pieces : List Piece) → list_all (λ (piece : Piece). nat_le place piece.place) pieces ≡ true → AreBehind place pieces
behind_by_test place [] test = tt
behind_by_test place (piece ∷ later) test =
    let both = and_parts (nat_le place piece.place) (list_all (λ (p : Piece). nat_le place p.place) later) test in
    (leb-true place piece.place both.0, behind_by_test place later both.1)

pub stands_laid : (place : ℕ) (bytes : List ℕ) (end : ℕ) (pieces : List Piece) (all : List ℕ) → place + length bytes ≤ end → AreBehind end pieces → Stands place bytes all → Stands place bytes (laid pieces all)
stands_laid place bytes end [] all before behind stands = stands
stands_laid place bytes end (piece ∷ later) all before behind stands =
    stands_laid place bytes end later (replaced piece.place piece.bytes all) before behind.1
    (stands_before place bytes all piece.place piece.bytes (omega (arith, before, behind.0)) stands)

abbrev pub no_piece : Piece
no_piece = record { place = 0; bytes = [] }

-- of pieces in the order of their places, that of this number
pub stands_nth : (n : ℕ) (pieces : List Piece) (end : ℕ) (all : List ℕ) → n < length pieces → AreBehind end (drop (suc n) pieces)
    → (get_or pieces n no_piece).place + length (get_or pieces n no_piece).bytes ≤ end → end ≤ length all
    → Stands (get_or pieces n no_piece).place (get_or pieces n no_piece).bytes (laid pieces all)
stands_nth n [] end all in_range behind before within = absurd (omega (arith, in_range))
stands_nth zero (piece ∷ later) end all in_range behind before within =
    stands_laid piece.place piece.bytes end later (replaced piece.place piece.bytes all) before behind (stands_here piece.place piece.bytes all (omega (arith, before, within)))
stands_nth (suc n) (piece ∷ later) end all in_range behind before within =
    stands_nth n later end (replaced piece.place piece.bytes all) (omega (arith, in_range)) behind before (omega (arith, within, length-replaced piece.place piece.bytes all))

pub length-laid : (pieces : List Piece) (all : List ℕ) → length all ≤ length (laid pieces all)
length-laid [] all = omega arith
length-laid (piece ∷ later) all = omega (arith, length-laid later (replaced piece.place piece.bytes all), length-replaced piece.place piece.bytes all)

-- what is read where bytes stand
pub bytes_from-stands : (count place : ℕ) (bytes all : List ℕ) → length bytes ≡ count → Stands place bytes all → bytes_from count place all ≡ bytes
bytes_from-stands count place bytes all long stands =
    let n : (place + count) - place ≡ length bytes = omega (arith, long) in
    ap (λ (k : ℕ). take k (drop place all)) n ∙ stands.here

first-is : (bytes : List ℕ) (b : ℕ) → slice_get bytes 0 ≡ Some b → (get_or bytes 0 0 ≡ b) × (0 < length bytes)
first-is [] b h = absurd cc
first-is (x ∷ later) b h = (cc, omega arith)

pub slice_index-stands : (place : ℕ) (bytes all : List ℕ) (b : ℕ) → slice_get bytes 0 ≡ Some b → Stands place bytes all → slice_index all place ≡ b
slice_index-stands place bytes all b first stands =
    let f = first-is bytes b first in
    let here : get_or (drop place all) 0 0 ≡ get_or all place 0 = get_or-drop place all 0 0 ∙ ap (λ (k : ℕ). get_or all k 0) (omega arith) in
    sym here ∙ sym (get_or-take (length bytes) (drop place all) 0 0 f.1) ∙ ap (λ (t : List ℕ). get_or t 0 0) stands.here ∙ f.0

-- two runs of bytes that stand one behind the other
pub stands_first : (place : ℕ) (a b all : List ℕ) → Stands place (a ++ b) all → Stands place a all
stands_first place a b all stands =
    let both = length-append a b in
    record {
      here = sym (take-take (length a) (length (a ++ b)) (drop place all) (omega (arith, both))) ∙ ap (take (length a)) stands.here ∙ take_at a b (length a) refl;
      within = omega (arith, both, stands.within);
    }

pub stands_second : (place next : ℕ) (a b all : List ℕ) → next ≡ place + length a → Stands place (a ++ b) all → Stands next b all
stands_second place next a b all at stands =
    let both = length-append a b in
    let n : length (a ++ b) ≡ length a + length b = both in
    let whole : take (length a + length b) (drop place all) ≡ a ++ b = ap (λ (k : ℕ). take k (drop place all)) (sym n) ∙ stands.here in
    let second : take (length b) (drop (length a) (drop place all)) ≡ b = sym (drop-take (length a) (length b) (drop place all)) ∙ ap (drop (length a)) whole ∙ drop_at a b (length a) refl in
    let there : drop (length a) (drop place all) ≡ drop next all = drop-drop (length a) place all ∙ ap (λ (k : ℕ). drop k all) (sym at) in
    record {
      here = ap (take (length b)) (sym there) ∙ second;
      within = omega (arith, both, stands.within, at);
    }

-- each piece ends at this place or before it
abbrev pub AreBefore : ℕ → List Piece → Type 0
AreBefore place [] = Unit {0}
AreBefore place (piece ∷ later) = (piece.place + length piece.bytes ≤ place) × AreBefore place later

pub stands_after : (place : ℕ) (bytes all : List ℕ) (other : ℕ) (others : List ℕ) → other + length others ≤ place → Stands place bytes all → Stands place bytes (replaced other others all)
stands_after place bytes all other others before stands =
    let front = take other all ++ others in
    let rest = drop (other + length others) all in
    let long : length front ≡ other + length others = omega (arith, length-append (take other all) others, length-take other all, stands.within, before) in
    let parts : replaced other others all ≡ front ++ rest = sym (append_assoc (take other all) others rest) in
    let far : place ≡ (other + length others) + (place - (other + length others)) = omega (arith, before) in
    let there : drop place (replaced other others all) ≡ drop place all =
    ap (drop place) parts ∙ ap (λ (k : ℕ). drop k (front ++ rest)) far ∙ sym (drop-drop (place - (other + length others)) (other + length others) (front ++ rest))
    ∙ ap (drop (place - (other + length others))) (drop_at front rest (other + length others) long)
    ∙ drop-drop (place - (other + length others)) (other + length others) all ∙ ap (λ (k : ℕ). drop k all) (sym far) in
    record {
      here = ap (take (length bytes)) there ∙ stands.here;
      within = omega (arith, stands.within, length-replaced other others all);
    }

pub stands_laid_after : (place : ℕ) (bytes : List ℕ) (pieces : List Piece) (all : List ℕ) → AreBefore place pieces → Stands place bytes all → Stands place bytes (laid pieces all)
stands_laid_after place bytes [] all before stands = stands
stands_laid_after place bytes (piece ∷ later) all before stands =
    stands_laid_after place bytes later (replaced piece.place piece.bytes all) before.1 (stands_after place bytes all piece.place piece.bytes before.0 stands)
