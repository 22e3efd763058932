-- Each end of the command, by what its steps promise.
use Rattle.eid_terminal.specs.Plans.{plan_view}
use Rattle.eid.specs.Commands.{Session}
use Rattle.eid_run.specs.Meetings.{inverted, meeting}
use Rattle.eid_run.proofs.Meeting.{model_source}
use Rattle.eid.proofs.EndsOfRun.{opened}
use Rattle.eid.proofs.EndsOfSession.{session_meets, session_reads}
use Rattle.eid.proofs.Refusals.{either_refused}
use Rattle.eid.proofs.session.session.Goals as goal

pub returns-in-Err-clause-meets : goal.returns-in-Err-clause-meets
returns-in-Err-clause-meets g c =
    let image = c.args.image.now in
    let terminal = c.args.terminal.now in
    either_refused (Session image terminal c.args.start) _ _ _ _ _ _ c.in-Err.exit c.load_both.ensures.same c.in-Err.ensures.refused (session_reads image terminal c.args.start _)

pub returns-clause-meets : goal.returns-clause-meets
returns-clause-meets g c =
    let image = c.args.image.now in
    let terminal = c.args.terminal.now in
    let start = c.args.start in
    let cells = c.in-Ok.both.0.items in
    let o = opened image _ _ cells c.in-Ok.ensures.stands c.in-Ok.ensures.held c.load_both.ensures.same c.load_both.ensures.later in
    let s = meeting o.0 cells (plan_view c.in-Ok.both.1) in
    let end = c.meet_and_store.ensures.ends (g.F.Folder.seen c.args.folder.now) start o.0 o.1.same (model_source start _ c.new-chip_copro.ensures.told) (model_source (inverted start) _ c.new-terminal_copro.ensures.told) o.1.is_record in
    session_meets image terminal start s _ (g.F.Folder.seen c.load_both.new.folder) _ _ _ c.meet_and_store.result (record { is_record = o.1.is_image; stood = o.1.stood; held = o.1.held; read = c.in-Ok.ensures.found }) o.1.later end
