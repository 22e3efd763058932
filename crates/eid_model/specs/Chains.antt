-- Requests that are sent in fragments (ISO/IEC 7816-4, command chaining), by looking back over the moments of a session.
use Rattle.std.specs.Prelude.{ℕ, List, [], ◌∷◌, ◌++◌, Option, Some, None, option_map, option_and_then, if◌then◌else◌}
use Rattle.eid_apdu.specs.Command.{PlainCommand}
use Rattle.eid_apdu.specs.Chaining.{OpenChain, is_fragment, request}
use Rattle.eid_model.specs.Moments.{PlainMoment, succeeded}

abbrev pub as_fragment : PlainCommand → Option PlainCommand
as_fragment c = if is_fragment c then Some c else None

-- the fragment that a moment took, where it took one
abbrev pub fragment : PlainMoment → Option PlainCommand
fragment m = if succeeded m then option_and_then as_fragment m.plain else None

-- a fragment goes on with those before it; anything else leaves none
abbrev pub more_pieces : Option PlainCommand → List PlainCommand → List PlainCommand
more_pieces None before = []
more_pieces (Some c) before = c ∷ before

-- the fragments with which the moments end, the newest first: nothing stands between them
abbrev pub pieces : List PlainMoment → List PlainCommand
pieces [] = []
pieces (m ∷ before) = more_pieces (fragment m) (pieces before)

-- their bodies, one behind the other
abbrev pub bodies : List PlainCommand → List ℕ
bodies [] = []
bodies (c ∷ before) = bodies before ++ c.body

-- the open chain that fragments are; none of them are none
abbrev pub chain_of : List PlainCommand → Option OpenChain
chain_of [] = None
chain_of (c ∷ before) = Some (record { ins = c.ins; p1 = c.p1; p2 = c.p2; joined = bodies (c ∷ before) })

-- the chain of fragments that is open
abbrev pub chaining : List PlainMoment → Option OpenChain
chaining session = chain_of (pieces session)

-- the request that ends with the newest moment
abbrev pub request_of : PlainMoment → List PlainMoment → Option PlainCommand
request_of m before = option_map (request (chaining before)) m.plain
