-- What the file says, by its front.
use Rattle.eid_inputs.proofs.Reading.{found_in, refused_in}
use Rattle.eid_inputs.proofs.loading.load.Goals as goal

pub returns-clause-found : goal.returns-clause-found
returns-clause-found g c =
    found_in c.read.result g.I.Input.plain g.I.Input.said 1048577 _ _ c.in_ok-text.text.items c.law_front.ensures c.in_ok-text.ensures.found (rw c.as_slice.ensures.value at c.read.ensures.found)

pub returns-clause-refused : goal.returns-clause-refused
returns-clause-refused g c =
    refused_in c.read.result g.I.Input.said 1048577 _ _ c.in_ok-text.text.items _ c.law_front.ensures c.in_ok-text.ensures.found (rw c.as_slice.ensures.value at c.read.ensures.refused)
