-- Inside: cited by private contracts alone.
-- What a writer took. This project's own.
use Rattle.std.specs.Prelude.{ℕ, List, Option}
use Rattle.std.specs.Io.KnownBytes.{Appends}
use Rattle.eid_base.specs.Seen.{IsFront}

-- what the writer holds grew by a front of the bytes, as far as it is known
abbrev pub TookFront : Option (List ℕ) → Option (List ℕ) → List ℕ → Type 0
TookFront old new bytes = (front : List ℕ) × IsFront front bytes × Appends old new front
