-- Moments and journals. A journal is a list of moments with the newest first: m ∷ before is the
-- moment m, and those before it. This project's own.
use Rattle.std.specs.Prelude.{◌≡◌, ℕ, Bool, true, false, ◌==◌, ◌&&◌, ◌||◌, not, List, [], ◌∷◌, ◌++◌, Option, is_some, is_none, if◌then◌else◌}
use Rattle.eid_apdu.specs.Command.{PlainCommand}
use Rattle.eid_apdu.specs.Answer.{PlainReply}
use Rattle.eid_copro.specs.declared.ask.Ask.{Ask}

-- What came from outside: power with the commit number found, or none where mounting was cut; power
-- taken away; the bytes of a command.
pub data Event : Type 0 where
  PoweredOn : Option ℕ → Event
  PoweredOff : Event
  Received : List ℕ → Event

-- One moment: what came, the plain command, the questions to the coprocessor with their answers (the first one
-- first), how many commits finished, the number of the first failed rule or 0, the answer, and the bytes sent.
pub record PlainMoment : Type 0 where
  pub input : Event
  pub plain : Option PlainCommand
  pub asks : List Ask
  pub finished : ℕ
  pub rule : ℕ
  pub answer : Option PlainReply
  pub sent : Option (List ℕ)

-- the chip has power after this: a power-on that found a number; a command where the chip had power, and answered
abbrev pub keeps_power : Event → Bool → Bool
keeps_power (PoweredOn found) stays = is_some found
keeps_power PoweredOff stays = false
keeps_power (Received bytes) stays = stays

-- the chip has power: some power-on found a number, and neither power-off nor a lost moment stands after it
abbrev pub on : List PlainMoment → Bool
on [] = false
on (m ∷ before) = keeps_power m.input (is_some m.answer && on before)

-- the moment was carried out
abbrev pub succeeded : PlainMoment → Bool
succeeded m = is_some m.answer && m.rule == 0

abbrev pub is_received : Event → Bool
is_received (PoweredOn found) = false
is_received PoweredOff = false
is_received (Received bytes) = true

-- rules 2, 3 and 50 end the session
abbrev pub ends_session_by : ℕ → Bool
ends_session_by rule = rule == 2 || rule == 3 || rule == 50

-- a session is over after power on or off, a moment without answer, and a refusal by one of these rules
abbrev pub ends_session : PlainMoment → Bool
ends_session m = not (is_received m.input && is_some m.answer && not (ends_session_by m.rule))

-- an on, an off, or no answer
abbrev pub leaves_no_session : PlainMoment → Bool
leaves_no_session m = not (is_received m.input && is_some m.answer)

-- the moments of the session
abbrev pub live : List PlainMoment → List PlainMoment
live [] = []
live (m ∷ before) = if ends_session m then [] else m ∷ live before

-- A line of a script: what is asked for, and not what comes of it.
pub data PlainLine : Type 0 where
  OnLine : PlainLine
  OffLine : PlainLine
  ApduLine : List ℕ → PlainLine

abbrev pub line_of : Event → PlainLine
line_of (PoweredOn found) = OnLine
line_of PoweredOff = OffLine
line_of (Received bytes) = ApduLine bytes

-- the lines that the moments came of, the first one first
abbrev pub script : List PlainMoment → List PlainLine
script [] = []
script (m ∷ before) = script before ++ line_of m.input ∷ []

-- the questions of all moments with their answers, the first one first
abbrev pub asked : List PlainMoment → List Ask
asked [] = []
asked (m ∷ before) = asked before ++ m.asks

-- the power was cut in this moment: a power-on that found no number, or a command that reached a chip with power and
-- was not answered
abbrev pub is_lost : Event → Bool → Bool
is_lost (PoweredOn found) unanswered = is_none found
is_lost PoweredOff unanswered = false
is_lost (Received bytes) unanswered = unanswered

abbrev pub lost : PlainMoment → List PlainMoment → Bool
lost m before = is_lost m.input (is_none m.answer && on before)

-- a journal in which no power was cut
abbrev pub AreSteady : List PlainMoment → Type 0
AreSteady [] = Unit {0}
AreSteady (m ∷ before) = AreSteady before × (lost m before ≡ false)
