-- Restricted identification (BSI TR-03110-3): whose the sector keys are that a terminal sends, the points to agree with, and
-- the identifiers.
use Rattle.std.specs.Prelude.{ℕ, ◌&&◌, Bool, true, false, List, [], ◌∷◌, ◌++◌, Option, Some, None}
use Rattle.std.specs.Str.{bytes_eq}
use Rattle.eid_tlv.specs.Objects.{object}
use Rattle.eid_copro.specs.declared.ask.Answer.{Answer}
use Rattle.eid_copro.specs.declared.ask.Answer.TheVariants as answers
use Rattle.eid_ri.specs.Identifiers.{identifier, sector_hash}
use Rattle.eid_ri.specs.SectorKeys.{PlainSectorKey, PlainSectorKeys}

-- a sector key, where one was sent, has this hash
abbrev pub is_of_sector : Option (List ℕ) → Option PlainSectorKey → Bool
is_of_sector hash None = true
is_of_sector None (Some key) = false
is_of_sector (Some hash) (Some key) = bytes_eq (sector_hash key.object) hash

-- the first key is that of the terminal's first sector, and the second that of its second one, by the hashes in its
-- certificate
abbrev pub are_its_sectors : List (Option (List ℕ)) → Option PlainSectorKeys → Bool
are_its_sectors (first ∷ second ∷ []) (Some keys) = is_of_sector first keys.first && is_of_sector second keys.second
are_its_sectors hashes keys = false

-- the points of the keys that were sent, in their order
abbrev pub point_of : Option PlainSectorKey → List (List ℕ)
point_of None = []
point_of (Some key) = key.point ∷ []

abbrev pub points_of : Option PlainSectorKeys → List (List ℕ)
points_of None = []
points_of (Some keys) = point_of keys.first ++ point_of keys.second

-- the one that is behind so many answers
abbrev pub next_point : List (List ℕ) → List Answer → Option (List ℕ)
next_point [] answers = None
next_point (point ∷ later) [] = Some point
next_point (point ∷ later) (answer ∷ answers) = next_point later answers

-- the identifier in the first sector in 81, and that in the second one in 83, by the secrets that were agreed
abbrev pub identifiers : (first second : Option PlainSectorKey) → List Answer → List ℕ
identifiers (Some first) (Some second) (answers.Shared one ∷ answers.Shared other ∷ []) =
    object 0x81 (identifier one) ++ object 0x83 (identifier other)
identifiers (Some first) None (answers.Shared one ∷ []) = object 0x81 (identifier one)
identifiers None (Some second) (answers.Shared other ∷ []) = object 0x83 (identifier other)
identifiers first second answers = []
