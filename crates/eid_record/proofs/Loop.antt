-- Reading the lengths one after the other, as a loop does.
use Rattle.std.proofs.Common.{◌≡◌, ℕ, suc, ◌-◌, ◌+◌, ◌≤◌, ◌<◌, List, [], ◌∷◌, ◌++◌, Option, Result, Ok, Err, refl, sym, ap, ◌∙◌, append_assoc, arith}
use Rattle.std.specs.Int.{w16, from_be_bytes}
use Rattle.std.proofs.lemmas.List.{append-nil}
use Rattle.eid_record.specs.Reading.{◌>>=◌, bytes_from, size, length_at, lengths_from}

-- what was read before, and what is still read
abbrev pub with_front : List (Option ℕ) → Result (List (Option ℕ)) ℕ → Result (List (Option ℕ)) ℕ
with_front front read = read >>= λ later. Ok (front ++ later)

regroup : (front : List (Option ℕ)) (n : Option ℕ) (read : Result (List (Option ℕ)) ℕ) → with_front front (read >>= λ later. Ok (n ∷ later)) ≡ with_front (front ++ n ∷ []) read
regroup front n (Ok later) = ap (λ (ns : List (Option ℕ)). Ok ns) (simp append_assoc)
regroup front n (Err place) = refl

-- a length that is read at its place
abbrev pub read_there : ℕ → ℕ → List ℕ → Result (Option ℕ) ℕ
read_there place sum fixed = length_at place sum (from_be_bytes w16 (bytes_from 2 place fixed))

pub goes_on : (front : List (Option ℕ)) (i place sum : ℕ) (fixed : List ℕ) (n : Option ℕ) (total : Result (List (Option ℕ)) ℕ) → i < 23 → read_there place sum fixed ≡ Ok n
    → with_front front (lengths_from (23 - i) place sum fixed) ≡ total → with_front (front ++ n ∷ []) (lengths_from (23 - (i + 1)) (place + 2) (sum + size n) fixed) ≡ total
unfolding lengths_from
goes_on front i place sum fixed n total lt h so_far =
    let k : 23 - i ≡ suc (23 - (i + 1)) = omega arith in
    let one : with_front front (lengths_from (23 - i) place sum fixed) ≡ with_front (front ++ n ∷ []) (lengths_from (23 - (i + 1)) (place + 2) (sum + size n) fixed) = rw (k, h) (regroup front n (lengths_from (23 - (i + 1)) (place + 2) (sum + size n) fixed)) in
    sym one ∙ so_far

pub ends : (front : List (Option ℕ)) (i place sum : ℕ) (fixed : List ℕ) (bad : ℕ) (total : Result (List (Option ℕ)) ℕ) → i < 23 → read_there place sum fixed ≡ Err bad
    → with_front front (lengths_from (23 - i) place sum fixed) ≡ total → total ≡ Err bad
unfolding lengths_from
ends front i place sum fixed bad total lt h so_far =
    let k : 23 - i ≡ suc (23 - (i + 1)) = omega arith in
    let one : with_front front (lengths_from (23 - i) place sum fixed) ≡ Err bad = rw (k, h) refl in
    sym so_far ∙ one

pub is_done : (front : List (Option ℕ)) (i place sum : ℕ) (fixed : List ℕ) (total : Result (List (Option ℕ)) ℕ) → 23 ≤ i → with_front front (lengths_from (23 - i) place sum fixed) ≡ total → total ≡ Ok front
unfolding lengths_from
is_done front i place sum fixed total le so_far =
    let k : 23 - i ≡ 0 = omega arith in
    let one : with_front front (lengths_from (23 - i) place sum fixed) ≡ Ok front = rw k (ap (λ (ns : List (Option ℕ)). Ok ns) (append-nil front)) in
    sym so_far ∙ one
