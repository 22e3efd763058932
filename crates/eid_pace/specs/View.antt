-- The plain copies of the states, and of what the steps give.
use Rattle.std.specs.Prelude.{ℕ, List, Result, Ok, Err}
use Rattle.std.specs.Option.{option_map}
use Rattle.eid_base.specs.declared.codes.Rule.{Rule}
use Rattle.eid_bits.specs.Template.{template_bytes}
use Rattle.eid_cmac.specs.SessionKeys.{enc_of, mac_of}
use Rattle.eid_pace.specs.Selections.{PlainSelection}
use Rattle.eid_pace.specs.States.{PlainChoice, PlainNonceSent, PlainMapped, PlainAgreed, PlainDone}
use Rattle.eid_pace.specs.declared.agreed.Agreed.{Agreed}
use Rattle.eid_pace.specs.declared.agreed.Done.{Done}
use Rattle.eid_pace.specs.declared.choice.Choice.{Choice}
use Rattle.eid_pace.specs.declared.chosen.Chosen.{Chosen}
use Rattle.eid_pace.specs.declared.mapped.Mapped.{Mapped}
use Rattle.eid_pace.specs.declared.nonce_sent.NonceSent.{NonceSent}
use Rattle.eid_pace.specs.declared.selection.Selection.{Selection}

abbrev pub choice_view : Choice → PlainChoice
choice_view c = record { protocol = c.protocol; password = c.password; template = option_map template_bytes c.template }

abbrev pub chosen_view : Chosen → PlainChoice
chosen_view s = choice_view s.choice

abbrev pub nonce_sent_view : NonceSent → PlainNonceSent
nonce_sent_view s = record { choice = choice_view s.choice; nonce = s.nonce }

abbrev pub mapped_view : Mapped → PlainMapped
mapped_view s = record { choice = choice_view s.choice; base = s.base }

abbrev pub agreed_view : Agreed → PlainAgreed
agreed_view s = record {
  choice = choice_view s.choice;
  chip_point = s.chip_point;
  terminal_point = s.terminal_point;
  shared = s.shared;
}

abbrev pub done_view : Done → PlainDone
done_view d = record {
  password = d.password;
  template = option_map template_bytes d.template;
  identity = d.identity;
  enc = enc_of d.keys;
  mac = mac_of d.keys;
}

abbrev pub selection_view : Selection → PlainSelection
selection_view s = record { protocol = s.protocol; reference = s.reference; template = option_map template_bytes s.template }

-- a choice, or the number of the rule
abbrev pub selected : Result Chosen Rule → Result PlainChoice ℕ
selected (Ok chosen) = Ok (chosen_view chosen)
selected (Err rule) = Err rule.0

-- a state and what is sent, or the number of the rule
abbrev pub given : {S P : Type 0} → (S → P) → Result (S × List ℕ) Rule → Result (P × List ℕ) ℕ
given view (Ok next) = Ok (view next.0, next.1)
given view (Err rule) = Err rule.0
