use Rattle.eid_store.proofs.TwoSlotLaws.{two_slot_complete}
use Rattle.eid_store.proofs.two_slot.TwoSlotDurable.law_complete.Goals as goal

pub returns : goal.returns
returns c = two_slot_complete
