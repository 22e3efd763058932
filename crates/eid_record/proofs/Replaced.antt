-- Bytes that are replaced: what stands at their place, and that nothing else changed.
use Rattle.std.proofs.Common.{add-zero, ◌≡◌, ℕ, ◌+◌, ◌*◌, ◌≤◌, List, [], ◌∷◌, ◌++◌, length, take, drop, Option, Some, None, refl, sym, ap, ◌∙◌, append_assoc, arith, length-append}
use Rattle.std.specs.List.{flat_map}
use Rattle.std.proofs.lemmas.List.{take-append-drop, take_at, drop_at, drop-drop, length-take}
use Rattle.eid_record.specs.Layout.{replaced, length_bytes}

pub replaced_more : (p q : ℕ) (a b x : List ℕ) → q ≡ p + length a → q ≤ length x → replaced q b (replaced p a x) ≡ replaced p (a ++ b) x
replaced_more p q a b x at within =
    let front = take p x ++ a in
    let rest = drop (p + length a) x in
    let long : length front ≡ q = omega (arith, length-append (take p x) a, length-take p x) in
    let parts : replaced p a x ≡ front ++ rest = sym (append_assoc (take p x) a rest) in
    let first : take q (front ++ rest) ≡ front = take_at front rest q long in
    let behind : drop (q + length b) (front ++ rest) ≡ drop (p + length (a ++ b)) x =
    sym (drop-drop (length b) q (front ++ rest)) ∙ ap (drop (length b)) (drop_at front rest q long)
    ∙ drop-drop (length b) (p + length a) x ∙ ap (λ (n : ℕ). drop n x) (omega (arith, length-append a b)) in
    ap (replaced q b) parts ∙ rw (first, behind) (append_assoc (take p x) a (b ++ drop (p + length (a ++ b)) x) ∙ ap (λ (t : List ℕ). take p x ++ t) (sym (append_assoc a b (drop (p + length (a ++ b)) x))))

pub length-length_bytes : (n : Option ℕ) → length (length_bytes n) ≡ 2
length-length_bytes None = refl
length-length_bytes (Some n) = refl

pub length-lengths : (ns : List (Option ℕ)) → length (flat_map length_bytes ns) ≡ 2 * length ns
length-lengths [] = refl
length-lengths (n ∷ ns) = omega (arith, length-append (length_bytes n) (flat_map length_bytes ns), length-length_bytes n, length-lengths ns)

pub replaced_nothing : (p : ℕ) (x : List ℕ) → replaced p [] x ≡ x
replaced_nothing p x = rw add-zero (take-append-drop p x)
