-- What digits say as a command.
use Rattle.std.proofs.Common.{◌≡◌, ℕ, ◌≤◌, true, List, [], ◌∷◌, length, Option, Some, None, refl, arith}
use Rattle.std.specs.Prelude.{nat_le, IsSome}
use Rattle.std.proofs.lemmas.Bool.Decides.{nat_tests}
use Rattle.hex.specs.Hex.{decode_pairs}
use Rattle.eid_text.specs.Hexadecimal.{bytes_within}
use Rattle.eid_text.proofs.Decoding.{some_bytes}
use Rattle.eid_script.specs.Scripts.{ApduLine, command_line}

-- digits that are there say a command, if they say bytes
pub command_said : (digits bytes : List ℕ) → 1 ≤ length digits → bytes_within 65544 digits ≡ Some bytes
    → command_line (bytes_within 65544 digits) ≡ Some (ApduLine bytes ∷ [])
command_said digits bytes some is =
    let more = some_bytes 65544 digits bytes some is in
    let test : nat_le 1 (length bytes) ≡ true = grind (arith, nat_tests) in
    rw (is, test) refl

pub good_command : (digits : List ℕ) → 1 ≤ length digits → IsSome (bytes_within 65544 digits) → IsSome (command_line (bytes_within 65544 digits))
good_command digits some good = by (bytes_within 65544 digits) refl good where
  by : (o : Option (List ℕ)) → bytes_within 65544 digits ≡ o → IsSome o → IsSome (command_line (bytes_within 65544 digits))
  by (Some bytes) is good = rw (command_said digits bytes some is) refl
  by None is good = absurd (cc)

pub no_command : (digits : List ℕ) → length digits ≡ 0 → command_line (bytes_within 65544 digits) ≡ None
unfolding decode_pairs
no_command [] none = refl
no_command (digit ∷ digits) none = absurd (omega arith)
