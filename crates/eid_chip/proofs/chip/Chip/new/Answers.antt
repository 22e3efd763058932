-- Without power and without moments.
use Rattle.std.proofs.Common.{refl}
use Rattle.eid_chip.proofs.Chips.{new_fits}
use Rattle.eid_chip.proofs.chip.Chip.new.Goals as goal

pub returns-clause-fits : goal.returns-clause-fits
returns-clause-fits c device cells opening standing = new_fits _ opening refl standing
