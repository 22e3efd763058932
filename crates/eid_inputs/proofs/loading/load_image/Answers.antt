-- What the file holds, by its front.
use Rattle.std.proofs.Common.{arith}
use Rattle.eid_inputs.proofs.Reading.{image_front, image_held, refused_image}
use Rattle.eid_inputs.proofs.loading.load_image.Goals as goal

pub returns-clause-held : goal.returns-clause-held
returns-clause-held g c = image_held c.image_of.result 65537 _ _ c.in_ok-bytes.bytes (omega arith) c.in_ok-bytes.ensures.found c.image_of.ensures.image

pub returns-clause-refused : goal.returns-clause-refused
returns-clause-refused g c = refused_image c.image_of.result 65537 _ _ c.in_ok-bytes.bytes.items _ image_front c.in_ok-bytes.ensures.found c.image_of.ensures.refused
