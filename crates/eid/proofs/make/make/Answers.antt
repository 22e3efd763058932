-- Each end of the making of an image, by what its steps promise.
use Rattle.eid_perso.specs.Config.{config_view}
use Rattle.eid.proofs.EndsOfMake.{config_refused, made, make_meets}
use Rattle.eid.proofs.make.make.Goals as goal

pub returns-in-Err-clause-meets : goal.returns-in-Err-clause-meets
returns-in-Err-clause-meets g c = λ sink. config_refused c.args.config.now c.args.image.now _ _ sink c.in-Err.exit c.load.ensures.same c.in-Err.ensures.refused

pub returns-clause-meets : goal.returns-clause-meets
returns-clause-meets g c = λ sink.
    let cells = c.in-Ok-image_of.cells.items in
    let is = made c.args.config.now _ (config_view c.in-Ok.config) cells c.in-Ok.ensures.found c.in-Ok-image_of.ensures.bytes c.in-Ok-image_of.ensures.size c.in-Ok-image_of.ensures.stands in
    make_meets c.args.config.now c.args.image.now _ _ _ sink cells c.store_file.result is c.load.ensures.same c.load.ensures.later (rw c.as_slice.ensures.value at c.store_file.ensures.stored)
