-- The chip is off.
use Rattle.std.proofs.Common.{refl}
use Rattle.eid_chip.proofs.Chips.{off_follows}
use Rattle.eid_chip.proofs.chip.Chip.power_off.Goals as goal

pub returns-clause-follows : goal.returns-clause-follows
returns-clause-follows g c = off_follows _ _ refl c.power.ensures.cells
