-- What the steps of terminal authentication give (BSI TR-03110-3).
use Rattle.std.specs.Prelude.{ℕ, List, [], ◌∷◌, ◌++◌, Option, Some, None, Result, Ok, Err, if◌then◌else◌}
use Rattle.std.specs.Str.{bytes_eq}
use Rattle.eid_cvc.specs.Chains.{PlainChain, PlainParty, PlainTerminalKnown}
use Rattle.eid_ta.specs.Rules.{form_rule, chain_rule, name_rule}
use Rattle.eid_ta.specs.States.{PlainAnnouncement, PlainAnnounced, PlainChallenged}

-- an announcement, or that the body has not its form
abbrev pub of_form : Option PlainAnnouncement → Result PlainAnnouncement ℕ
of_form None = Err form_rule
of_form (Some announcement) = Ok announcement

-- the state after an announcement by that terminal
abbrev pub announced_with : List ℕ → PlainParty → PlainParty → List (Option (List ℕ)) → PlainAnnouncement → PlainAnnounced
announced_with root verifier terminal sectors announcement = record {
  templates = root ∷ verifier.template ∷ terminal.template ∷ [];
  key = terminal.key;
  key_x = announcement.key_x;
  sent = announcement.sent;
  aux = announcement.aux;
  sectors = sectors;
}

-- by the template of the trust point, the document verifier, the terminal and its sectors
abbrev pub announced_under : Option (List ℕ) → Option PlainParty → Option PlainParty → List (Option (List ℕ)) → PlainAnnouncement
    → Result PlainAnnounced ℕ
announced_under None verifier terminal sectors announcement = Err chain_rule
announced_under (Some root) None terminal sectors announcement = Err chain_rule
announced_under (Some root) (Some verifier) None sectors announcement = Err chain_rule
announced_under (Some root) (Some verifier) (Some terminal) sectors announcement =
    if bytes_eq announcement.reference terminal.name then Ok (announced_with root verifier terminal sectors announcement) else Err name_rule

-- the state after an announcement, or the rule that failed
abbrev pub announced_by : PlainChain → PlainAnnouncement → Result PlainAnnounced ℕ
announced_by chain announcement = announced_under chain.root chain.verifier chain.terminal chain.sectors announcement

-- the same, where the body is an announcement
abbrev pub announced_in : PlainChain → Option PlainAnnouncement → Result PlainAnnounced ℕ
announced_in chain None = Err form_rule
announced_in chain (Some announcement) = announced_by chain announcement

-- what the terminal signs: the chip's identity, the challenge, the X half of its ephemeral key, and the object 67
-- whole or nothing
abbrev pub signed_bytes : List ℕ → PlainChallenged → List ℕ
signed_bytes identity challenged =
    identity ++ challenged.challenge ++ challenged.announced.key_x ++ challenged.announced.sent

-- what is known of a terminal that announced itself so, once it has signed
abbrev pub known_of : PlainAnnounced → PlainTerminalKnown
known_of announced = record {
  templates = announced.templates;
  key_x = announced.key_x;
  aux = announced.aux;
  sectors = announced.sectors;
}

-- the same, after the challenge
abbrev pub known_by : PlainChallenged → PlainTerminalKnown
known_by challenged = known_of challenged.announced
