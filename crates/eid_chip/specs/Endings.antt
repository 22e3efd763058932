-- Inside: cited by private contracts alone.
-- How a command ended, with the session that it left.
use Rattle.std.specs.Prelude.{ℕ, Bool, true, false, Option, Some, None, if◌then◌else◌}
use Rattle.eid_apdu.specs.Chaining.{OpenChain}
use Rattle.eid_sm.specs.Keys.{ChannelState}
use Rattle.eid_chip.specs.declared.reaction.Reaction.{Reaction}
use Rattle.eid_chip.specs.declared.reaction.Ending.{Ending}
use Rattle.eid_chip.specs.declared.reaction.Ending.TheVariants as endings
use Rattle.eid_chip.specs.declared.exchange.HandledIn.{HandledIn}
use Rattle.eid_chip.specs.declared.exchange.HandledIn.TheVariants as handled
use Rattle.eid_chip.specs.declared.running.Running.{Running}
use Rattle.eid_chip.specs.declared.session.Session.{Session}
use Rattle.eid_chip.specs.States.{ChipView, running_view}

-- How a command was answered: by the first failed rule, or 0, with the channel that it opened, and the session behind it.
pub record Reacted : Type 0 where
  pub rule : ℕ
  pub opened : Option ChannelState
  pub session : Session

abbrev pub reacted : Reaction → Session → Reacted
reacted reaction session = record { rule = reaction.rule.0; opened = reaction.opened; session = session }

-- It was answered, after so many commits; or the power was cut in the commit behind so many.
pub data Ended : Type 0 where
  Answered : (reacted : Reacted) (finished : ℕ) → Ended
  Lost : (finished : ℕ) → Ended

abbrev pub ended : Ending → Session → Ended
ended (endings.Answered reaction finished) session = Answered (reacted reaction session) finished
ended (endings.Lost finished) session = Lost finished

-- the power was cut in a commit
abbrev pub is_loss : HandledIn → Bool
is_loss handled.Silent = false
is_loss (handled.Answered plain finished rule) = false
is_loss (handled.Lost plain finished) = true

-- the chip with power, and these fragments
abbrev pub powered : Option OpenChain → Running → ChipView
powered fragments running = record { running = Some (running_view fragments running) }

-- the chip after a command of which this came
abbrev pub left_by : HandledIn → Option OpenChain → Running → ChipView
left_by came fragments running = record { running = if is_loss came then None else Some (running_view fragments running) }
