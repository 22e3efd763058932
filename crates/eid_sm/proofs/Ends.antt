-- Bytes with a known end.
use Rattle.std.proofs.Common.{◌≡◌, ℕ, ◌+◌, ◌-◌, true, false, nat_eq, List, ◌++◌, length, take, drop, Option, Some, None, refl, sym, ap, ◌∙◌, arith, length-append, take-append-drop}
use Rattle.std.specs.Prelude.{MatchOption, IfSome, IsSomeAnd}
use Rattle.std.proofs.lemmas.Bool.{false≢true}
use Rattle.std.specs.Cmp.Lexicographic.{pointwise, bytes_decides}
use Rattle.std.proofs.Math.Seq.{take-append_seam, drop-append_seam}

pub size_with_end : (bytes before end : List ℕ) → bytes ≡ before ++ end → length bytes ≡ length before + length end
size_with_end bytes before end e = ap length e ∙ length-append before end

pub before_end : (bytes before end : List ℕ) (m : ℕ) → bytes ≡ before ++ end → length end ≡ m → take (length bytes - m) bytes ≡ before
before_end bytes before end m e size =
    let n : length bytes - m ≡ length before = omega (arith, size_with_end bytes before end e) in
    rw n (rw e (take-append_seam before end))

pub after_before : (bytes before end : List ℕ) (m : ℕ) → bytes ≡ before ++ end → length end ≡ m → drop (length bytes - m) bytes ≡ end
after_before bytes before end m e size =
    let n : length bytes - m ≡ length before = omega (arith, size_with_end bytes before end e) in
    rw n (rw e (drop-append_seam before end))

-- what `strip_suffix` gives
abbrev pub Strips : {A : Type 0} → (A → List ℕ) → List ℕ → List ℕ → Option A → Type 0
Strips now bytes end result =
    MatchOption result (pointwise nat_eq (drop (length bytes - length end) bytes) end ≡ false)
    (λ x. (pointwise nat_eq (drop (length bytes - length end) bytes) end ≡ true) × (now x ≡ take (length bytes - length end) bytes)
    × (length (now x) + length end ≡ length bytes))

pub stripped : {A : Type 0} (now : A → List ℕ) (bytes end : List ℕ) (result : Option A) → Strips now bytes end result → IfSome result (λ r. bytes ≡ now r ++ end)
stripped now bytes end None is = tt
stripped now bytes end (Some r) is =
    let behind : drop (length bytes - length end) bytes ≡ end = (bytes_decides _ end).0 is.0 in
    sym (take-append-drop (length bytes - length end) bytes) ∙ ap (λ (b : List ℕ). b ++ drop (length bytes - length end) bytes) (sym is.1) ∙ ap (λ (b : List ℕ). now r ++ b) behind

pub stripped_only : {A : Type 0} (now : A → List ℕ) (bytes end : List ℕ) (result : Option A) → Strips now bytes end result → (before : List ℕ) → bytes ≡ before ++ end → IsSomeAnd result (λ r. now r ≡ before)
stripped_only now bytes end None is before e =
    let equal = (bytes_decides _ end).1 (after_before bytes before end (length end) e refl) in
    absurd (false≢true (sym is ∙ equal))
stripped_only now bytes end (Some r) is before e = is.1 ∙ before_end bytes before end (length end) e refl
