-- Command APDUs, by writing them (ISO/IEC 7816-4): a header of four bytes, and behind it a body, an
-- expected length, both or neither, with length fields of one byte or extended ones.
use Rattle.std.specs.Prelude.{◌≡◌, ℕ, ◌/◌, ◌%◌, ◌<◌, ◌≤◌, List, [], ◌∷◌, ◌++◌, length}
use Rattle.eid_apdu.specs.declared.command.Command.{Command}

-- A command as its fields alone. Where no length is expected, ne is 0.
pub record PlainCommand : Type 0 where
  pub cla : ℕ
  pub ins : ℕ
  pub p1 : ℕ
  pub p2 : ℕ
  pub body : List ℕ
  pub ne : ℕ

-- the fields of a command of the code
abbrev pub plain_command : Command → PlainCommand
plain_command c = record { cla = c.cla; ins = c.ins; p1 = c.p1; p2 = c.p2; body = c.body.now; ne = c.ne }

-- The cases, by what follows the header.
pub data Case : Type 0 where
  Bare : Case
  ShortLe : Case
  ShortBody : Case
  ShortBodyLe : Case
  ExtendedLe : Case
  ExtendedBody : Case
  ExtendedBodyLe : Case

-- an expected length of 1 to 256 as a number of one byte, 00 for 256
abbrev pub short_le : ℕ → ℕ
short_le ne = ne % 256

-- an expected length of 1 to 65,536 as a number of two bytes, 0000 for 65,536
abbrev pub extended_le : ℕ → ℕ
extended_le ne = ne % 65536

-- a number below 65,536 as two bytes, big-endian
abbrev pub two_bytes : ℕ → List ℕ
two_bytes n = n / 256 ∷ n % 256 ∷ []

-- What follows the header in each case. An extended field Lc, or Le where there is no Lc, has a byte 00
-- before its two bytes.
abbrev pub tail : Case → List ℕ → ℕ → List ℕ
tail Bare body ne = []
tail ShortLe body ne = short_le ne ∷ []
tail ShortBody body ne = length body ∷ body
tail ShortBodyLe body ne = length body ∷ (body ++ short_le ne ∷ [])
tail ExtendedLe body ne = 0 ∷ two_bytes (extended_le ne)
tail ExtendedBody body ne = 0 ∷ (two_bytes (length body) ++ body)
tail ExtendedBodyLe body ne = 0 ∷ (two_bytes (length body) ++ body ++ two_bytes (extended_le ne))

-- a body with a length field of one byte
abbrev pub IsShortBody : List ℕ → Type 0
IsShortBody body = (0 < length body) × (length body < 256)

-- an expected length with a field of one byte
abbrev pub IsShortLe : ℕ → Type 0
IsShortLe ne = (0 < ne) × (ne ≤ 256)

-- a body with a length field of two bytes
abbrev pub IsExtendedBody : List ℕ → Type 0
IsExtendedBody body = (0 < length body) × (length body < 65536)

-- an expected length with a field of two bytes
abbrev pub IsExtendedLe : ℕ → Type 0
IsExtendedLe ne = (0 < ne) × (ne ≤ 65536)

-- what each case can carry
abbrev pub Carries : Case → List ℕ → ℕ → Type 0
Carries Bare body ne = (body ≡ []) × (ne ≡ 0)
Carries ShortLe body ne = (body ≡ []) × IsShortLe ne
Carries ShortBody body ne = IsShortBody body × (ne ≡ 0)
Carries ShortBodyLe body ne = IsShortBody body × IsShortLe ne
Carries ExtendedLe body ne = (body ≡ []) × IsExtendedLe ne
Carries ExtendedBody body ne = IsExtendedBody body × (ne ≡ 0)
Carries ExtendedBodyLe body ne = IsExtendedBody body × IsExtendedLe ne

-- the bytes behind a header say this body and this expected length, in one of the cases
pub record IsTail (bytes body : List ℕ) (ne : ℕ) : Type 0 where
  pub form : Case
  pub carries : Carries form body ne
  pub written : bytes ≡ tail form body ne

-- the bytes spell the command
pub record Spells (bytes : List ℕ) (c : PlainCommand) : Type 0 where
  pub rest : List ℕ
  pub header : bytes ≡ c.cla ∷ c.ins ∷ c.p1 ∷ c.p2 ∷ rest
  pub tail : IsTail rest c.body c.ne
