use Rattle.eid_store.proofs.TwoSlotLaws.{two_slot_fitting, two_slot_refitting}
use Rattle.eid_store.proofs.two_slot.TwoSlotDurable.law_fits.Goals as goal

pub returns-clause-stands : goal.returns-clause-stands
returns-clause-stands c = two_slot_fitting

pub returns-clause-device : goal.returns-clause-device
returns-clause-device c = two_slot_refitting
