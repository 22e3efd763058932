-- Each end of the showing of an image, by what its steps promise.
use Rattle.std.proofs.Common.{ap, Err}
use Rattle.eid.proofs.EndsOfShow.{image_refused, text_is, show_done, show_broke_off}
use Rattle.eid.proofs.show.show.Goals as goal

pub returns-in-Err-clause-meets : goal.returns-in-Err-clause-meets
returns-in-Err-clause-meets g c = image_refused c.args.image.now _ _ _ c.in-Err.exit c.load_image.ensures.same c.in-Err.ensures.refused

pub returns-in-Ok-put-clause-meets : goal.returns-in-Ok-put-clause-meets
returns-in-Ok-put-clause-meets g c =
    let is = text_is c.args.image.now _ c.in-Ok.cells.items c.in-Ok-text_of.text.items c.in-Ok.ensures.stands c.in-Ok.ensures.held c.in-Ok-text_of.ensures in
    show_done c.args.image.now _ _ _ _ c.in-Ok-text_of.text.items is c.load_image.ensures.same c.put.ensures.tells (rw c.as_slice.ensures.value at c.in-Ok-put.ensures.whole)

pub returns-clause-meets : goal.returns-clause-meets
returns-clause-meets g c =
    let is = text_is c.args.image.now _ c.in-Ok.cells.items c.in-Ok-text_of.text.items c.in-Ok.ensures.stands c.in-Ok.ensures.held c.in-Ok-text_of.ensures in
    let there = rw c.in-Err-put.is at c.put.ensures.never_absent in
    let rose = rw c.in-Err-put.is at c.put.ensures.cause.fault in
    rw c.of_put.ensures (show_broke_off c.args.image.now _ _ _ _ c.in-Ok-text_of.text.items c.in-Err-put.error is c.load_image.ensures.same c.put.ensures.tells (rw c.as_slice.ensures.value at c.in-Err-put.ensures.part) (λ e. there (ap Err e)) (λ e. rose (ap Err e)))
