-- Inside: cited by private contracts alone.
-- How the question about a sector key can end (BSI TR-03110-3): where one was sent, a secret is agreed with it.
use Rattle.std.specs.Prelude.{ℕ, List, [], ◌∷◌, Option, Some, None, Result, Ok, Err}
use Rattle.eid_tlv.specs.Objects.{object}
use Rattle.eid_copro.specs.declared.ask.Ask.{Ask}
use Rattle.eid_copro.specs.declared.ask.Answer.{Answer}
use Rattle.eid_copro.specs.declared.ask.Answer.TheVariants as answers
use Rattle.eid_copro.specs.Asking.{agree_ask}
use Rattle.eid_ri.specs.Identifiers.{identifier}
use Rattle.eid_ri.specs.SectorKeys.{PlainSectorKey}
use Rattle.eid_chip.specs.declared.refusal.Refusal.{Refusal}
use Rattle.eid_chip.specs.Steps.{PlainRefusal, refusal}

pub data SectorEnd : Type 0 where
  Faulted : SectorEnd
  NoSecret : SectorEnd
  Agreed : (shared : List ℕ) → SectorEnd

abbrev pub answer_of : SectorEnd → Answer
answer_of Faulted = answers.Fault
answer_of NoSecret = answers.NoPoint
answer_of (Agreed shared) = answers.Shared shared

-- the question with its answer, where there is a key
abbrev pub sector_asks : List ℕ → Option PlainSectorKey → SectorEnd → List Ask
sector_asks secret None end = []
sector_asks secret (Some key) end = agree_ask secret key.point (answer_of end) ∷ []

-- the identifier in the key's sector, or what the command is refused with
abbrev pub identified : SectorEnd → Result (Option (List ℕ)) PlainRefusal
identified Faulted = Err (record { rule = 50; status = 0x6F00 })
identified NoSecret = Err (record { rule = 52; status = 0x6A80 })
identified (Agreed shared) = Ok (Some (identifier shared))

-- none where there is no key
abbrev pub sector_given : Option PlainSectorKey → SectorEnd → Result (Option (List ℕ)) PlainRefusal
sector_given None end = Ok None
sector_given (Some key) end = identified end

-- a result of the code with its refusal as numbers
abbrev pub plain_result : Result (Option (List ℕ)) Refusal → Result (Option (List ℕ)) PlainRefusal
plain_result (Ok found) = Ok found
plain_result (Err refused) = Err (refusal refused)

-- an identifier under its tag, where there is one
abbrev pub identifier_object : ℕ → Option (List ℕ) → List ℕ
identifier_object tag None = []
identifier_object tag (Some found) = object tag found
