-- Each end of the making of a test certificate, by what its steps promise.
use Rattle.eid_perso.specs.Kit.{kit_view}
use Rattle.eid.proofs.EndsOfKit.{config_refused, kit_meets, made}
use Rattle.eid.proofs.kit.kit.Goals as goal

pub returns-in-Err-clause-meets : goal.returns-in-Err-clause-meets
returns-in-Err-clause-meets g c = λ sink. config_refused c.args.config.now c.args.file.now _ _ sink c.in-Err.exit c.load.ensures.same c.in-Err.ensures.refused

pub returns-clause-meets : goal.returns-clause-meets
returns-clause-meets g c = λ sink.
    let bytes = c.in-Ok-certificate_of.bytes.items in
    let is = made c.args.config.now _ (kit_view c.in-Ok.plan) bytes c.in-Ok.ensures.found c.in-Ok-certificate_of.ensures.bytes c.in-Ok-certificate_of.ensures.reads in
    kit_meets c.args.config.now c.args.file.now _ _ _ sink bytes c.store_file.result is c.load.ensures.same c.load.ensures.later (rw c.as_slice.ensures.value at c.store_file.ensures.stored)
