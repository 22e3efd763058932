-- Each end of the command, by what its steps promise.
use Rattle.std.specs.Prelude.{map}
use Rattle.eid_copro.specs.Model.{model_answer}
use Rattle.eid_script.specs.Scripts.{plain_line}
use Rattle.eid.specs.Commands.{Run}
use Rattle.eid.specs.Ends.{setup}
use Rattle.eid_run.proofs.Meeting.{model_source}
use Rattle.eid.proofs.EndsOfRun.{run_reads, opened, run_ends}
use Rattle.eid.proofs.Refusals.{either_refused}
use Rattle.eid.proofs.Endings.{meets_by_end}
use Rattle.eid.proofs.run.run.Goals as goal

pub returns-in-Err-clause-meets : goal.returns-in-Err-clause-meets
returns-in-Err-clause-meets g c =
    let image = c.args.image.now in
    let script = c.args.script.now in
    either_refused (Run image script c.args.start) _ _ _ _ _ _ c.in-Err.exit c.load_both.ensures.same c.in-Err.ensures.refused (run_reads image script c.args.start _).is

pub returns-clause-meets : goal.returns-clause-meets
returns-clause-meets g c =
    let image = c.args.image.now in
    let script = c.args.script.now in
    let cells = c.in-Ok.both.0.items in
    let o = opened image _ _ cells c.in-Ok.ensures.stands c.in-Ok.ensures.held c.load_both.ensures.same c.load_both.ensures.later in
    let s = setup o.0 cells (map plain_line c.in-Ok.both.1.items) in
    let end = rw c.as_slice.ensures.value at c.run_and_store.ensures.ends in
    meets_by_end (Run image script c.args.start) _ _ _ _ _ _ _ _ c.run_and_store.result (run_ends image script c.args.start s _ _ _ _ (record { is_record = o.1.is_image; stood = o.1.stood; held = o.1.held; read = c.in-Ok.ensures.found })) o.1.later (end (g.F.Folder.seen c.args.folder.now) (model_answer c.args.start) o.0 o.1.same (model_source c.args.start _ c.new-copro.ensures.told) o.1.is_record)
