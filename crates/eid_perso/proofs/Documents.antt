-- Which texts write a table.
use Rattle.std.proofs.Common.{◌≡◌, ℕ, ◌<◌, ◌≤◌, Bool, true, false, List, length, Option, Some, None, Ok, Err, refl, ap, arith, nat_le, ◌&&◌}
use Rattle.std.specs.Prelude.{if◌then◌else◌}
use Rattle.std.specs.Str.{is_utf8, IsUtf8}
use Rattle.std.proofs.lemmas.Bool.Decides.{nat_tests}
use Rattle.std.proofs.lemmas.Str.{is_utf8-from_IsUtf8, IsUtf8-from_is_utf8}
use Rattle.toml.specs.Data.{Members}
use Rattle.toml.specs.Parse.{parse_document}
use Rattle.eid_perso.specs.Keys.{or_refused}
use Rattle.eid_perso.specs.Reading.{document_in}

pub too_long : (text : List ℕ) → 1048576 < length text → document_in text ≡ Err 0
unfolding document_in
too_long text long =
    let test : nat_le (length text) 1048576 ≡ false = grind (arith, nat_tests) in
    rw test refl

none_there : (short utf8 : Bool) (found : Option Members) → (utf8 ≡ true → ⊥) → or_refused 0 (if short && utf8 then found else None) ≡ Err 0
none_there true true found never = absurd (never refl)
none_there true false found never = refl
none_there false true found never = refl
none_there false false found never = refl

pub no_text : (text : List ℕ) → (IsUtf8 text → ⊥) → document_in text ≡ Err 0
unfolding document_in
no_text text never = none_there (nat_le (length text) 1048576) (is_utf8 text) (parse_document text) (λ is. never (IsUtf8-from_is_utf8 text is))

no_found : (short utf8 : Bool) (found : Option Members) → found ≡ None → or_refused 0 (if short && utf8 then found else None) ≡ Err 0
no_found true true found none = ap (or_refused 0) none
no_found true false found none = refl
no_found false true found none = refl
no_found false false found none = refl

pub no_table : (text : List ℕ) → parse_document text ≡ None → document_in text ≡ Err 0
unfolding document_in
no_table text none = no_found (nat_le (length text) 1048576) (is_utf8 text) (parse_document text) none

pub document : (text : List ℕ) (table : Members) → length text ≤ 1048576 → IsUtf8 text → parse_document text ≡ Some table → document_in text ≡ Ok table
unfolding document_in
document text table fits utf8 found =
    let short : nat_le (length text) 1048576 ≡ true = grind (arith, nat_tests) in
    rw (short, is_utf8-from_IsUtf8 text utf8, found) refl
