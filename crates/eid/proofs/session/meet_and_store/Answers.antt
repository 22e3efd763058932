-- Each end of a session, by what its steps promise.
use Rattle.std.proofs.Common.{ap, Err}
use Rattle.eid_terminal.specs.Plans.{plan_view}
use Rattle.eid_run.specs.Meetings.{Coprocessors, meeting}
use Rattle.eid_run.proofs.Meeting.{met_whole}
use Rattle.eid.proofs.EndsOfSession.{broke_off, met_and_stored}
use Rattle.eid.proofs.session.meet_and_store.Goals as goal

pub returns-in-Err-clause-ends : goal.returns-in-Err-clause-ends
returns-in-Err-clause-ends g c = λ old start opening same chip_has terminal_has stood.
    let s = meeting opening c.args.cells.items (plan_view c.args.plan) in
    let copros : Coprocessors = record {
      chip = g.C.Coprocessor.seen c.args.chip_copro.now;
      chip_now = g.C.Coprocessor.seen c.run_session.new.chip_copro;
      terminal = g.D.Coprocessor.seen c.args.terminal_copro.now;
      terminal_now = g.D.Coprocessor.seen c.run_session.new.terminal_copro;
    } in
    let did = rw (c.new-device.ensures.cells, c.new-device.ensures.device) at c.in-Err.ensures.broke in
    let chip_keeps = g.met.C.Coprocessor.keeps_to_told c.run_session.new.chip_copro in
    let terminal_keeps = g.met.D.Coprocessor.keeps_to_told c.run_session.new.terminal_copro in
    let rose = rw c.in-Err.is at c.run_session.ensures.sink.fault in
    rw c.of_run.ensures (broke_off c.args.image.now start s old _ copros _ _ _ _ c.in-Err.error same chip_has terminal_has c.requires.chip_log c.requires.terminal_log chip_keeps terminal_keeps (did opening stood) c.run_session.ensures.sink.tells (λ e. rose (ap Err e)))

pub returns-clause-ends : goal.returns-clause-ends
returns-clause-ends g c = λ old start opening same chip_has terminal_has stood.
    let s = meeting opening c.args.cells.items (plan_view c.args.plan) in
    let copros : Coprocessors = record {
      chip = g.C.Coprocessor.seen c.args.chip_copro.now;
      chip_now = g.C.Coprocessor.seen c.run_session.new.chip_copro;
      terminal = g.D.Coprocessor.seen c.args.terminal_copro.now;
      terminal_now = g.D.Coprocessor.seen c.run_session.new.terminal_copro;
    } in
    let did = rw (c.new-device.ensures.cells, c.new-device.ensures.device) at c.in_default.ensures.did in
    let chip_keeps = g.met.C.Coprocessor.keeps_to_told c.run_session.new.chip_copro in
    let terminal_keeps = g.met.D.Coprocessor.keeps_to_told c.run_session.new.terminal_copro in
    let met = met_whole start s copros _ _ _ _ chip_has terminal_has c.requires.chip_log c.requires.terminal_log chip_keeps terminal_keeps (did opening stood) c.run_session.ensures.sink.tells in
    met_and_stored c.args.image.now start s old _ _ _ _ _ c.store_file.result same met c.requires.fit c.law_has_sizes.ensures c.requires.size stood c.run_session.new.cells.count (rw c.cells.ensures at c.store_file.ensures.stored)
