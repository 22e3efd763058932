-- Each end of the command, by what its steps promise.
use Rattle.std.specs.Prelude.{map}
use Rattle.eid_copro.specs.Script.{script_answer}
use Rattle.eid_script.specs.Scripts.{plain_line}
use Rattle.eid.specs.Commands.{Replay}
use Rattle.eid.specs.Ends.{setup}
use Rattle.eid.proofs.EndsOfRun.{replay_reads, answers_refused, opened, read_after, answers_back, script_source, replay_ends}
use Rattle.eid.proofs.Refusals.{either_refused}
use Rattle.eid.proofs.Endings.{meets_by_end}
use Rattle.eid.proofs.replay.replay.Goals as goal

pub returns-in-Err-clause-meets : goal.returns-in-Err-clause-meets
returns-in-Err-clause-meets g c =
    let image = c.args.image.now in
    let script = c.args.script.now in
    let answers = c.args.answers.now in
    either_refused (Replay image script answers) _ _ _ _ _ _ c.in-Err.exit c.load_both.ensures.same c.in-Err.ensures.refused (replay_reads image script answers _).is

pub returns-in-Err-load-clause-meets : goal.returns-in-Err-load-clause-meets
returns-in-Err-load-clause-meets g c =
    let image = c.args.image.now in
    let cells = c.in-Ok.both.0.items in
    let o = opened image _ _ cells c.in-Ok.ensures.stands c.in-Ok.ensures.held c.load_both.ensures.same c.load_both.ensures.later in
    answers_refused image c.args.script.now c.args.answers.now _ _ _ _ o.0 cells _ c.in-Err-load.exit o.1 c.in-Ok.ensures.found c.load.ensures.same c.in-Err-load.ensures.refused

pub returns-clause-meets : goal.returns-clause-meets
returns-clause-meets g c =
    let image = c.args.image.now in
    let script = c.args.script.now in
    let answers = c.args.answers.now in
    let cells = c.in-Ok.both.0.items in
    let o = opened image _ _ cells c.in-Ok.ensures.stands c.in-Ok.ensures.held c.load_both.ensures.same c.load_both.ensures.later in
    let all = read_after image _ _ _ o.0 cells o.1 c.load.ensures.same c.load.ensures.later in
    let listed = answers_back _ _ answers _ o.1.same c.in-Ok-load.ensures.found in
    let s = setup o.0 cells (map plain_line c.in-Ok.both.1.items) in
    let list = c.in-Ok-load.told.items in
    let end = rw c.as_slice.ensures.value at c.run_and_store.ensures.ends in
    meets_by_end (Replay image script answers) _ _ _ _ _ _ _ _ c.run_and_store.result (replay_ends image script answers s list _ _ _ _ (record { is_record = o.1.is_image; stood = o.1.stood; held = o.1.held; read = c.in-Ok.ensures.found }) listed) all.later (end (g.F.Folder.seen c.args.folder.now) (script_answer list) o.0 all.same (script_source list _ c.new-copro.ensures.told) o.1.is_record)
