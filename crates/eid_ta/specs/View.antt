-- The plain copies of the announcement, of the states, and of what the steps give.
use Rattle.std.specs.Prelude.{ℕ, List, map, Result, Ok, Err}
use Rattle.std.specs.Option.{option_copied}
use Rattle.eid_base.specs.declared.codes.Rule.{Rule}
use Rattle.eid_bits.specs.Template.{template_bytes}
use Rattle.eid_cvc.specs.Chains.{PlainTerminalKnown, aux_view, known_view}
use Rattle.eid_cvc.specs.declared.chain.TerminalKnown.{TerminalKnown}
use Rattle.eid_ta.specs.AnnouncementIn.{whole}
use Rattle.eid_ta.specs.AuxiliaryIn.{PlainEntry}
use Rattle.eid_ta.specs.States.{PlainAnnouncement, PlainAnnounced, PlainChallenged}
use Rattle.eid_ta.specs.declared.announced.Announced.{Announced}
use Rattle.eid_ta.specs.declared.announcement.Announcement.{Announcement}
use Rattle.eid_ta.specs.declared.auxiliary.Entry.{Entry}
use Rattle.eid_ta.specs.declared.challenged.Challenged.{Challenged}

-- inside: an entry of auxiliary data
abbrev pub entry_view : Entry → PlainEntry
entry_view e = record { identifier = e.identifier.now; value = e.value.now }

abbrev pub announcement_view : Announcement → PlainAnnouncement
announcement_view a = record {
  reference = a.reference.now;
  key_x = a.key_x;
  sent = whole (option_copied a.sent);
  aux = aux_view a.aux;
}

abbrev pub announced_view : Announced → PlainAnnounced
announced_view s = record {
  templates = map template_bytes s.templates;
  key = s.key;
  key_x = s.key_x;
  sent = s.sent.items;
  aux = aux_view s.aux;
  sectors = s.sectors;
}

abbrev pub challenged_view : Challenged → PlainChallenged
challenged_view s = record { announced = announced_view s.announced; challenge = s.challenge }

-- an announcement, or the number of the rule
abbrev pub read : Result Announcement Rule → Result PlainAnnouncement ℕ
read (Ok announcement) = Ok (announcement_view announcement)
read (Err rule) = Err rule.0

-- the state after an announcement, or the number of the rule
abbrev pub announced : Result Announced Rule → Result PlainAnnounced ℕ
announced (Ok next) = Ok (announced_view next)
announced (Err rule) = Err rule.0

-- the state after a challenge and the challenge, or the number of the rule
abbrev pub challenged : Result (Challenged × List ℕ) Rule → Result (PlainChallenged × List ℕ) ℕ
challenged (Ok next) = Ok (challenged_view next.0, next.1)
challenged (Err rule) = Err rule.0

-- what is known of the terminal, or the number of the rule
abbrev pub known : Result TerminalKnown Rule → Result PlainTerminalKnown ℕ
known (Ok terminal) = Ok (known_view terminal)
known (Err rule) = Err rule.0
