-- Each end of a run, by what its steps promise.
use Rattle.std.proofs.Common.{◌^◌, ◌<◌, length, ap, Err, arith}
use Rattle.std.proofs.lemmas.List.{length-map}
use Rattle.std.specs.Prelude.{map}
use Rattle.eid_script.specs.Scripts.{plain_line}
use Rattle.eid.specs.Ends.{setup}
use Rattle.eid.proofs.EndsOfRun.{broke_off, ran_and_stored, ran_whole}
use Rattle.eid.proofs.run.run_and_store.Goals as goal

pub returns-in-Err-clause-ends : goal.returns-in-Err-clause-ends
returns-in-Err-clause-ends g c = λ old source opening same has stood.
    let s = setup opening c.args.cells.items (map plain_line c.args.lines.now) in
    let seen = g.C.Coprocessor.seen in
    let did = rw (c.new-device.ensures.cells, c.new-device.ensures.device) at c.in-Err.ensures.broke in
    let keeps = g.met.C.Coprocessor.keeps_to_told c.run_script.new.copro in
    let few : length s.lines < 2 ^ 64 = omega (arith, length-map c.args.lines.now plain_line, c.requires.few) in
    let rose = rw c.in-Err.is at c.run_script.ensures.sink.fault in
    rw c.of_run.ensures (broke_off c.args.image.now source s old _ (seen c.args.copro.now) (seen c.run_script.new.copro) _ _ _ _ c.in-Err.error same has c.requires.log keeps few (did opening stood) c.run_script.ensures.sink.tells (λ e. rose (ap Err e)))

pub returns-clause-ends : goal.returns-clause-ends
returns-clause-ends g c = λ old source opening same has stood.
    let s = setup opening c.args.cells.items (map plain_line c.args.lines.now) in
    let seen = g.C.Coprocessor.seen in
    let did = rw (c.new-device.ensures.cells, c.new-device.ensures.device) at c.in_default.ensures.did in
    let keeps = g.met.C.Coprocessor.keeps_to_told c.run_script.new.copro in
    let few : length s.lines < 2 ^ 64 = omega (arith, length-map c.args.lines.now plain_line, c.requires.few) in
    let ran = ran_whole source s (seen c.args.copro.now) (seen c.run_script.new.copro) _ _ _ _ has c.requires.log keeps few (did opening stood) c.run_script.ensures.sink.tells in
    ran_and_stored c.args.image.now source s old _ _ _ _ _ c.store_file.result same ran c.run_script.new.cells.count (rw c.cells.ensures at c.store_file.ensures.stored)
