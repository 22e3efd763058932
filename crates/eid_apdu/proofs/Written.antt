-- The parts that a command is written in, and that they spell it.
use Rattle.std.proofs.Common.{◌≡◌, ℕ, suc, ◌+◌, ◌<◌, ◌≤◌, Bool, true, false, List, [], ◌∷◌, ◌++◌, length, refl, ap, arith, append_assoc, length-append}
use Rattle.std.specs.Prelude.{nat_lt, if◌then◌else◌}
use Rattle.std.proofs.lemmas.List.{append-nil}
use Rattle.std.proofs.lemmas.Bool.Decides.{nat_tests}
use Rattle.eid_apdu.specs.Command.{PlainCommand, tail, short_le, extended_le, two_bytes, Carries, Spells}
use Rattle.eid_apdu.specs.Writing.{is_short, case_of, case_written, written}
use Rattle.eid_apdu.specs.Fields.{lc_bytes, le_bytes}

empty : (body : List ℕ) → nat_lt 0 (length body) ≡ false → body ≡ []
empty [] none = refl
empty (x ∷ xs) none = absurd (positive_is (suc (length xs)) (omega arith) none)
  where
    positive_is : (n : ℕ) → 0 < n → nat_lt 0 n ≡ false → ⊥
    positive_is n some none = grind (arith, nat_tests)

-- the fields, by the same choices as the case
fields : (short some expects : Bool) (body : List ℕ) (ne : ℕ) → (some ≡ false → body ≡ [])
    → (if some then (if short then length body ∷ [] else 0 ∷ two_bytes (length body)) else []) ++ body ++ (if expects then (if short then short_le ne ∷ [] else if some then two_bytes (extended_le ne) else 0 ∷ two_bytes (extended_le ne)) else []) ≡ tail (case_of short some expects) body ne
fields true false false body ne none = rw (none refl) refl
fields false false false body ne none = rw (none refl) refl
fields true false true body ne none = rw (none refl) refl
fields true true false body ne none = ap (λ b. length body ∷ b) (append-nil body)
fields true true true body ne none = refl
fields false false true body ne none = rw (none refl) refl
fields false true false body ne none = ap (λ b. 0 ∷ (two_bytes (length body) ++ b)) (append-nil body)
fields false true true body ne none = refl

abbrev header : PlainCommand → List ℕ
header c = c.cla ∷ c.ins ∷ c.p1 ∷ c.p2 ∷ lc_bytes (is_short c.body c.ne) (length c.body)

parts : (c : PlainCommand) → header c ++ c.body ++ le_bytes (is_short c.body c.ne) (length c.body) c.ne ≡ written c
unfolding written
parts c =
    ap (λ rest. c.cla ∷ c.ins ∷ c.p1 ∷ c.p2 ∷ rest) (fields (is_short c.body c.ne) (nat_lt 0 (length c.body)) (nat_lt 0 c.ne) c.body c.ne (empty c.body))

-- what the writer makes of a command
pub record IsParts (c : PlainCommand) (short : Bool) (before after : List ℕ) : Type 0 where
  pub short_is : short ≡ is_short c.body c.ne
  pub before_is : before ≡ c.cla ∷ c.ins ∷ c.p1 ∷ c.p2 ∷ lc_bytes short (length c.body)
  pub after_is : after ≡ le_bytes short (length c.body) c.ne

whole : (c : PlainCommand) (short : Bool) (before after : List ℕ) → IsParts c short before after → before ++ c.body ++ after ≡ written c
whole c short before after made = rw (made.before_is, made.after_is, made.short_is) (parts c)

-- the three parts appended to what was there
pub appended : (c : PlainCommand) (short : Bool) (before after old : List ℕ) → IsParts c short before after → ((old ++ before) ++ c.body) ++ after ≡ old ++ written c
appended c short before after old made = rw (← whole c short before after made) (simp append_assoc)

pub whole_size : (c : PlainCommand) (short : Bool) (before after : List ℕ) → IsParts c short before after → length before + length c.body + length after ≡ length (written c)
whole_size c short before after made = rw (← whole c short before after made) (simp length-append (omega arith))

-- each choice carries what it was made for
carried : (short some expects : Bool) (body : List ℕ) (ne : ℕ) → (short ≡ true → (length body ≤ 255) × (ne ≤ 256)) → length body ≤ 65535 → ne ≤ 65536
    → (some ≡ true → 0 < length body) → (some ≡ false → body ≡ []) → (expects ≡ true → 0 < ne) → (expects ≡ false → ne ≡ 0) → Carries (case_of short some expects) body ne
carried true false false body ne fits long most has none wants free = (none refl, free refl)
carried false false false body ne fits long most has none wants free = (none refl, free refl)
carried true false true body ne fits long most has none wants free = (none refl, (wants refl, (fits refl).1))
carried true true false body ne fits long most has none wants free = ((has refl, omega (arith, (fits refl).0)), free refl)
carried true true true body ne fits long most has none wants free = ((has refl, omega (arith, (fits refl).0)), (wants refl, (fits refl).1))
carried false false true body ne fits long most has none wants free = (none refl, (wants refl, most))
carried false true false body ne fits long most has none wants free = ((has refl, omega arith), free refl)
carried false true true body ne fits long most has none wants free = ((has refl, omega arith), (wants refl, most))

pub spells_written : (c : PlainCommand) → length c.body ≤ 65535 → c.ne ≤ 65536 → Spells (written c) c
unfolding written
spells_written c long most = record {
  rest = tail (case_written c.body c.ne) c.body c.ne;
  header = refl;
  tail = record {
    form = case_written c.body c.ne;
    carries = carried (is_short c.body c.ne) (nat_lt 0 (length c.body)) (nat_lt 0 c.ne) c.body c.ne
        (λ short. short_fits c.body c.ne short) long most (λ some. positive (length c.body) some) (empty c.body) (λ some. positive c.ne some) (λ none. zero_is c.ne none);
    written = refl;
  };
}
  where
    short_fits : (body : List ℕ) (ne : ℕ) → is_short body ne ≡ true → (length body ≤ 255) × (ne ≤ 256)
    short_fits body ne short = (grind (arith, nat_tests), grind (arith, nat_tests))

    positive : (n : ℕ) → nat_lt 0 n ≡ true → 0 < n
    positive n some = grind (arith, nat_tests)

    zero_is : (n : ℕ) → nat_lt 0 n ≡ false → n ≡ 0
    zero_is n none = grind (arith, nat_tests)
