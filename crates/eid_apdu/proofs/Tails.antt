-- What a reader finds behind a header is written in the case of its arm.
use Rattle.std.proofs.Common.{◌≡◌, ℕ, ◌-◌, ◌<◌, ◌≤◌, List, [], ◌∷◌, ◌++◌, length, take, drop, get_or, refl, sym, ap, ◌∙◌, arith}
use Rattle.std.proofs.lemmas.List.{append-nil, take_all}
use Rattle.eid_apdu.specs.Command.{Bare, ShortLe, ShortBody, ShortBodyLe, ExtendedLe, ExtendedBody, ExtendedBodyLe, short_le, extended_le, two_bytes, IsShortLe, IsExtendedLe, IsTail}

none : (bytes : List ℕ) → length bytes < 1 → bytes ≡ []
none [] few = refl
none (x ∷ xs) few = absurd (omega arith)

one : (bytes : List ℕ) → 1 ≤ length bytes → length bytes < 2 → bytes ≡ get_or bytes 0 0 ∷ []
one [] some few = absurd (omega arith)
one (x ∷ []) some few = refl
one (x ∷ y ∷ xs) some few = absurd (omega arith)

two : (bytes : List ℕ) → 2 ≤ length bytes → length bytes < 3 → bytes ≡ get_or bytes 0 0 ∷ get_or bytes 1 0 ∷ []
two [] some few = absurd (omega arith)
two (x ∷ []) some few = absurd (omega arith)
two (x ∷ y ∷ []) some few = refl
two (x ∷ y ∷ z ∷ xs) some few = absurd (omega arith)

-- the first byte of a list, or the first two, and the rest
pub first_rest : (bytes : List ℕ) → 1 ≤ length bytes → bytes ≡ get_or bytes 0 0 ∷ take (length bytes - 1) (drop 1 bytes)
first_rest [] some = absurd (omega arith)
first_rest (x ∷ rest) some = ap (λ r. x ∷ r) (sym (take_all _ rest (omega arith)))

pub two_rest : (bytes : List ℕ) → 2 ≤ length bytes → bytes ≡ get_or bytes 0 0 ∷ get_or bytes 1 0 ∷ take (length bytes - 2) (drop 2 bytes)
two_rest [] some = absurd (omega arith)
two_rest (x ∷ []) some = absurd (omega arith)
two_rest (x ∷ y ∷ rest) some = ap (λ r. x ∷ y ∷ r) (sym (take_all _ rest (omega arith)))

pub bare_tail : (bytes : List ℕ) → length bytes < 1 → IsTail bytes [] 0
bare_tail bytes few = record { form = Bare; carries = (refl, refl); written = none bytes few }

pub le_tail : (bytes : List ℕ) (ne : ℕ) → 1 ≤ length bytes → length bytes < 2 → short_le ne ≡ get_or bytes 0 0 → IsShortLe ne → IsTail bytes [] ne
le_tail bytes ne some few le fits =
    record { form = ShortLe; carries = (refl, fits); written = one bytes some few ∙ ap (λ b. b ∷ []) (sym le) }

pub body_tail : (bytes body after : List ℕ) (size : ℕ) → bytes ≡ body ++ after → length body ≡ size → 0 < size → size < 256 → length after < 1 → IsTail (size ∷ bytes) body 0
body_tail bytes body after size whole sized some small few = record {
  form = ShortBody;
  carries = ((omega arith, omega arith), refl);
  written = rw (whole, none after few, append-nil body, sized) refl;
}

pub body_le_tail : (bytes body after : List ℕ) (size ne : ℕ) → bytes ≡ body ++ after → length body ≡ size → 0 < size → size < 256 → 1 ≤ length after → length after < 2 → short_le ne ≡ get_or after 0 0 → IsShortLe ne → IsTail (size ∷ bytes) body ne
body_le_tail bytes body after size ne whole sized some small least most le fits = record {
  form = ShortBodyLe;
  carries = ((omega arith, omega arith), fits);
  written =
      let last : after ≡ short_le ne ∷ [] = one after least most ∙ ap (λ b. b ∷ []) (sym le) in
      rw (whole, last, sized) refl;
}

pub extended_le_tail : (bytes : List ℕ) (ne : ℕ) → 2 ≤ length bytes → length bytes < 3 → two_bytes (extended_le ne) ≡ get_or bytes 0 0 ∷ get_or bytes 1 0 ∷ [] → IsExtendedLe ne → IsTail (0 ∷ bytes) [] ne
extended_le_tail bytes ne some few le fits =
    record { form = ExtendedLe; carries = (refl, fits); written = ap (λ b. 0 ∷ b) (two bytes some few ∙ sym le) }

pub extended_body_tail : (bytes body after : List ℕ) (high low size : ℕ) → bytes ≡ body ++ after → two_bytes size ≡ high ∷ low ∷ [] → length body ≡ size → 0 < size → size < 65536 → length after < 1 → IsTail (0 ∷ high ∷ low ∷ bytes) body 0
extended_body_tail bytes body after high low size whole said sized some small few = record {
  form = ExtendedBody;
  carries = ((omega arith, omega arith), refl);
  written = rw (whole, none after few, append-nil body, sized) (ap (λ s. 0 ∷ (s ++ body)) (sym said));
}

pub extended_body_le_tail : (bytes body after : List ℕ) (high low size ne : ℕ) → bytes ≡ body ++ after → two_bytes size ≡ high ∷ low ∷ [] → length body ≡ size → 0 < size → size < 65536 → 2 ≤ length after → length after < 3 → two_bytes (extended_le ne) ≡ get_or after 0 0 ∷ get_or after 1 0 ∷ [] → IsExtendedLe ne → IsTail (0 ∷ high ∷ low ∷ bytes) body ne
extended_body_le_tail bytes body after high low size ne whole said sized some small least most le fits = record {
  form = ExtendedBodyLe;
  carries = ((omega arith, omega arith), fits);
  written =
      let last : after ≡ two_bytes (extended_le ne) = two after least most ∙ sym le in
      rw (whole, last, sized) (ap (λ s. 0 ∷ (s ++ body ++ two_bytes (extended_le ne))) (sym said));
}
