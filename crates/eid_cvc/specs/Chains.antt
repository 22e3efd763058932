-- What contracts see of the certificates that were accepted.
use Rattle.std.specs.Prelude.{ℕ, List, [], ◌∷◌, map, Option, None, option_map}
use Rattle.eid_bits.specs.Dates.{date_text}
use Rattle.eid_bits.specs.Template.{template_bytes}
use Rattle.eid_cvc.specs.declared.chain.Aux.{Aux}
use Rattle.eid_cvc.specs.declared.chain.ChainState.{ChainState}
use Rattle.eid_cvc.specs.declared.chain.Party.{Party}
use Rattle.eid_cvc.specs.declared.chain.TerminalKnown.{TerminalKnown}

-- The holder of a certificate that was accepted.
pub record PlainParty : Type 0 where
  pub name : List ℕ
  pub template : List ℕ
  pub key : List ℕ

-- What the certificates accepted since a PACE leave.
pub record PlainChain : Type 0 where
  -- the template of the trust point that verified the document verifier
  pub root : Option (List ℕ)
  pub verifier : Option PlainParty
  pub terminal : Option PlainParty
  -- the hashes of the terminal's first and second sector key
  pub sectors : List (Option (List ℕ))

abbrev pub party_view : Party → PlainParty
party_view p = record { name = p.name.items; template = template_bytes p.template; key = p.key }

abbrev pub chain_view : ChainState → PlainChain
chain_view c = record {
  root = option_map template_bytes c.root;
  verifier = option_map party_view c.verifier;
  terminal = option_map party_view c.terminal;
  sectors = c.sectors;
}

-- before any certificate
abbrev pub no_chain : PlainChain
no_chain = record { root = None; verifier = None; terminal = None; sectors = None ∷ None ∷ [] }

-- Auxiliary data of terminal authentication, each where the terminal sent it: dates as eight ASCII digits.
pub record PlainAux : Type 0 where
  pub birth : Option (List ℕ)
  pub expiry : Option (List ℕ)
  pub community : Option (List ℕ)

-- A terminal that has authenticated itself.
pub record PlainTerminalKnown : Type 0 where
  -- of trust point, document verifier and terminal
  pub templates : List (List ℕ)
  -- the X half of the ephemeral key that it announced
  pub key_x : List ℕ
  pub aux : PlainAux
  -- the hashes of its first and second sector key
  pub sectors : List (Option (List ℕ))

-- no auxiliary data
abbrev pub no_aux : PlainAux
no_aux = record { birth = None; expiry = None; community = None }

abbrev pub aux_view : Aux → PlainAux
aux_view a = record {
  birth = option_map date_text a.birth;
  expiry = option_map date_text a.expiry;
  community = option_map (λ c. c.items) a.community;
}

abbrev pub known_view : TerminalKnown → PlainTerminalKnown
known_view k = record {
  templates = map template_bytes k.templates;
  key_x = k.key_x;
  aux = aux_view k.aux;
  sectors = k.sectors;
}
