-- Inside: what the private fields of a collector stand for, and how a body is appended to them.
use Rattle.std.specs.Prelude.{ℕ, ◌≡◌, ◌<◌, ◌≤◌, true, false, List, ◌++◌, length, Option, Some, None}
use Rattle.eid_apdu.specs.Command.{PlainCommand}
use Rattle.eid_apdu.specs.Chaining.{OpenChain, Collected, nothing_collected, is_fragment, body_so_far, MAX_REQUEST}
use Rattle.eid_apdu.specs.declared.chain.Fed.{Fed}
use Rattle.eid_apdu.specs.declared.chain.Fed.TheVariants.{More, Whole, Broken, TooLong}
use Rattle.eid_apdu.specs.declared.chain.Stage.{Stage}
use Rattle.eid_apdu.specs.declared.chain.Stage.TheVariants.{Empty, Open, Complete}

-- the chain that is open at a stage, with the bytes of the buffer
abbrev pub chain_of : Stage → List ℕ → Option OpenChain
chain_of Empty joined = None
chain_of (Open head) joined = Some (record { ins = head.ins; p1 = head.p1; p2 = head.p2; joined = joined })
chain_of Complete joined = None

-- what is held at a stage, with the bytes of the buffer
abbrev pub held : Stage → List ℕ → Collected
held Empty joined = nothing_collected
held (Open head) joined = record { pending = chain_of (Open head) joined; body = joined }
held Complete joined = record { pending = None; body = joined }

-- what appending a command's body to the bodies before it gives
abbrev pub Joins : List ℕ → PlainCommand → Fed → List ℕ → Type 0
Joins old c More new = (is_fragment c ≡ true) × (new ≡ old ++ c.body) × (length new ≤ MAX_REQUEST)
Joins old c Whole new = (is_fragment c ≡ false) × (new ≡ old ++ c.body) × (length new ≤ MAX_REQUEST)
Joins old c Broken new = ⊥
Joins old c TooLong new = (MAX_REQUEST < length (old ++ c.body)) × (new ≡ old)

-- the buffer holds the request's body behind a command that was taken
abbrev pub IsJoined : Option OpenChain → PlainCommand → Fed → List ℕ → Type 0
IsJoined chain c More new = new ≡ body_so_far chain c.body
IsJoined chain c Whole new = new ≡ body_so_far chain c.body
IsJoined chain c Broken new = Unit {0}
IsJoined chain c TooLong new = Unit {0}
