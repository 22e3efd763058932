-- Command chaining (ISO/IEC 7816-4): a request that is sent in several commands. All but the last have class 10, and all have
-- the same instruction and parameters; the request's body is their bodies, joined.
use Rattle.std.specs.Prelude.{ℕ, Bool, true, false, ◌≡◌, ◌<◌, ◌≤◌, ◌==◌, ◌&&◌, ◌||◌, not, nat_le, List, [], ◌∷◌, ◌++◌, length, Option, Some, None, if◌then◌else◌}
use Rattle.eid_apdu.specs.Command.{PlainCommand}
use Rattle.eid_apdu.specs.declared.chain.Fed.{Fed}
use Rattle.eid_apdu.specs.declared.chain.Fed.TheVariants.{More, Whole, Broken, TooLong}

-- A chain of fragments that has not ended: instruction and parameters of its commands, and their bodies joined.
pub record OpenChain : Type 0 where
  pub ins : ℕ
  pub p1 : ℕ
  pub p2 : ℕ
  pub joined : List ℕ

-- the instructions whose requests may be sent in fragments: MSE, PSO, UPDATE BINARY
abbrev pub may_be_chained : ℕ → Bool
may_be_chained ins = ins == 0x22 || ins == 0x2A || ins == 0xD6

-- the command is one that further commands of its request follow
abbrev pub is_fragment : PlainCommand → Bool
is_fragment c = c.cla == 0x10 && may_be_chained c.ins

-- no chain is open, or the command has the instruction and parameters of the chain
abbrev pub continues : Option OpenChain → PlainCommand → Bool
continues None c = true
continues (Some chain) c = chain.ins == c.ins && chain.p1 == c.p1 && chain.p2 == c.p2

-- the body of the request so far
abbrev pub body_so_far : Option OpenChain → List ℕ → List ℕ
body_so_far None body = body
body_so_far (Some chain) body = chain.joined ++ body

-- the command with the bodies of the fragments before it in front of its own
abbrev pub request : Option OpenChain → PlainCommand → PlainCommand
request chain c = record c { body = body_so_far chain c.body }

-- the longest body of one request
abbrev pub MAX_REQUEST : ℕ
MAX_REQUEST = 2048

-- what a command is to the chain that is open, or to none
unfoldable pub fed : Option OpenChain → PlainCommand → Fed
fed chain c =
    if not (continues chain c) then Broken
    else if not (nat_le (length (body_so_far chain c.body)) MAX_REQUEST) then TooLong
    else if is_fragment c then More
    else Whole

-- the chain after it: open behind a fragment that goes on with it, or begins one
abbrev pub chain_after : Option OpenChain → PlainCommand → Fed → Option OpenChain
chain_after chain c More = Some (record { ins = c.ins; p1 = c.p1; p2 = c.p2; joined = body_so_far chain c.body })
chain_after chain c Whole = None
chain_after chain c Broken = None
chain_after chain c TooLong = None

-- The same case by case: what is known of a command of which this was said.
abbrev pub Says : Option OpenChain → PlainCommand → Fed → Type 0
Says chain c More = (continues chain c ≡ true) × (length (body_so_far chain c.body) ≤ MAX_REQUEST) × (is_fragment c ≡ true)
Says chain c Whole = (continues chain c ≡ true) × (length (body_so_far chain c.body) ≤ MAX_REQUEST) × (is_fragment c ≡ false)
Says chain c Broken = continues chain c ≡ false
Says chain c TooLong = (continues chain c ≡ true) × (MAX_REQUEST < length (body_so_far chain c.body))

-- What a collector of requests holds: the chain that is open, and the bodies joined so far.
pub record Collected : Type 0 where
  pub pending : Option OpenChain
  pub body : List ℕ

-- nothing is open, and no body is there
abbrev pub nothing_collected : Collected
nothing_collected = record { pending = None; body = [] }

-- the body that is held after a command
abbrev pub body_after : Option OpenChain → PlainCommand → Fed → List ℕ
body_after chain c More = body_so_far chain c.body
body_after chain c Whole = body_so_far chain c.body
body_after chain c Broken = []
body_after chain c TooLong = []

-- what is held after a command
abbrev pub collected : Option OpenChain → PlainCommand → Fed → Collected
collected chain c said = record { pending = chain_after chain c said; body = body_after chain c said }

-- the command is a fragment, with the instruction and the parameters of the last command of its request
pub record IsFragmentOf (last c : PlainCommand) : Type 0 where
  pub fragment : is_fragment c ≡ true
  pub ins : c.ins ≡ last.ins
  pub p1 : c.p1 ≡ last.p1
  pub p2 : c.p2 ≡ last.p2

-- the bodies of commands, joined
abbrev pub joined_bodies : List PlainCommand → List ℕ
joined_bodies [] = []
joined_bodies (c ∷ cs) = c.body ++ joined_bodies cs

-- the chain after commands, fed one after the other
abbrev pub chain_after_all : Option OpenChain → List PlainCommand → Option OpenChain
chain_after_all chain [] = chain
chain_after_all chain (c ∷ cs) = chain_after_all (chain_after chain c (fed chain c)) cs

-- The last command is the request of the whole: of all bodies in their order.
pub record IsWholeOf (fragments : List PlainCommand) (last : PlainCommand) : Type 0 where
  pub said : fed (chain_after_all None fragments) last ≡ Whole
  pub joined : request (chain_after_all None fragments) last ≡ record last { body = joined_bodies fragments ++ last.body }
