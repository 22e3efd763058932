-- Inside: cited by private contracts alone.
-- What the reading of an input gives.
use Rattle.std.specs.Prelude.{◌≡◌, ℕ, Bool, IsTrue, List, Option, None, Result, Err, ◌⊎◌, IsSome, IsOk}
use Rattle.eid_inputs.specs.declared.exit.Exit.{Exit}
use Rattle.eid_inputs.specs.declared.exit.Exit.TheVariants.{Done, Usage, FileFault, NoMemory, BadImage, BadScript, BadConfig, SinkFault, BadAnswers}

-- a file could not be read: memory, where it is there, a fault, or it is absent
abbrev pub IsUnread : Bool → Option (List ℕ) → Type 0 → Exit → Type 0
IsUnread tells file rose NoMemory = IsTrue tells → IsSome file
IsUnread tells file rose FileFault = rose ⊎ (IsTrue tells × (file ≡ None))
IsUnread tells file rose SinkFault = ⊥
IsUnread tells file rose Done = ⊥
IsUnread tells file rose Usage = ⊥
IsUnread tells file rose BadImage = ⊥
IsUnread tells file rose (BadScript line) = ⊥
IsUnread tells file rose (BadConfig key) = ⊥
IsUnread tells file rose (BadAnswers line) = ⊥

-- an input was refused: memory, a fault, or what the file is
abbrev pub IsRefused : {A : Type 0} → Bool → Result A Exit → Type 0 → Exit → Type 0
IsRefused tells input rose NoMemory = Unit {0}
IsRefused tells input rose FileFault = rose ⊎ (IsTrue tells × (input ≡ Err FileFault))
IsRefused tells input rose SinkFault = ⊥
IsRefused tells input rose Done = ⊥
IsRefused tells input rose Usage = ⊥
IsRefused tells input rose BadImage = IsTrue tells → input ≡ Err BadImage
IsRefused tells input rose (BadScript line) = IsTrue tells → input ≡ Err (BadScript line)
IsRefused tells input rose (BadConfig key) = IsTrue tells → input ≡ Err (BadConfig key)
IsRefused tells input rose (BadAnswers line) = IsTrue tells → input ≡ Err (BadAnswers line)

-- the first of two inputs was refused, or the second one, behind a first that is good
abbrev pub IsFirstRefused : {A B : Type 0} → Bool → Result A Exit → Result B Exit → Type 0 → Exit → Type 0
IsFirstRefused tells first second rose e = IsRefused tells first rose e ⊎ ((IsTrue tells → IsOk first) × IsRefused tells second rose e)

-- the exit names the line of a script, the key of a configuration, or the line of the answers, that is none
abbrev pub IsBad : {A : Type 0} → Exit → Result A Exit → Type 0
IsBad (BadScript line) said = said ≡ Err (BadScript line)
IsBad (BadConfig key) said = said ≡ Err (BadConfig key)
IsBad (BadAnswers line) said = said ≡ Err (BadAnswers line)
IsBad Done said = ⊥
IsBad Usage said = ⊥
IsBad FileFault said = ⊥
IsBad NoMemory said = ⊥
IsBad BadImage said = ⊥
IsBad SinkFault said = ⊥
