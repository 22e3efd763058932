-- The session grows by its turns, and ends in time.
use Rattle.std.proofs.Common.{◌≡◌, None, List, ℕ, ◌+◌, ◌++◌, suc, refl, sym, ap, subst, ◌∙◌, arith}
use Rattle.eid_base.specs.declared.codes.RunError.TheVariants.{SinkFault}
use Rattle.eid_store.specs.Stands.{stands}
use Rattle.eid_chip.specs.Fits.{scene}
use Rattle.eid_model.specs.Moments.{PoweredOn}
use Rattle.eid_terminal.specs.declared.plan.Request.{Request}
use Rattle.eid_terminal.specs.Plans.{plan_view}
use Rattle.eid_terminal.specs.Seen.{terminal_view}
use Rattle.eid_terminal.specs.Terminals.{TerminalView, begun}
use Rattle.eid_run.specs.Runs.{outside}
use Rattle.eid_run.specs.Talk.{BrokeTurn, DidTurn, due_bytes, standing, stands_at}
use Rattle.eid_run.specs.Tallies.{no_results}
use Rattle.eid_run.specs.declared.tally.Tally.{Tally}
use Rattle.eid_run.proofs.SoFar.{IsTalkSoFar}
use Rattle.eid_run.proofs.Running.{some_of}
use Rattle.eid_run.proofs.Talking.{fault_on, some_mapped, talk_begun, talk_broke, talk_ended, talk_more, talk_untaken, too_many}
use Rattle.eid_run.proofs.session.converse.Goals as goal

pub returns-in_default-clause-broke : goal.returns-in_default-clause-broke
returns-in_default-clause-broke g c = λ opening stood.
    talk_untaken (plan_view c.args.plan) opening c.new-stepper.result.chip
    (outside (g.E.Eeprom.device c.args.cells.now) (g.E.Eeprom.cells c.args.cells.now) (g.C.Coprocessor.seen c.args.chip_copro.now) (g.K.Sink.seen c.args.out.now))
    (g.D.Coprocessor.seen c.args.terminal_copro.now) (c.new-stepper.ensures.fits (g.E.Eeprom.device c.args.cells.now) (g.E.Eeprom.cells c.args.cells.now) opening stood)

pub loop-init : goal.loop-init
loop-init g c =
    let device = g.E.Eeprom.device in
    let cells = g.E.Eeprom.cells in
    let plan = plan_view c.args.plan in
    let start = scene (record { running = None }) (device c.args.cells.now) (cells c.args.cells.now) in
    let log = (g.C.Coprocessor.seen c.args.chip_copro.now).log in
    let copro = g.D.Coprocessor.seen c.args.terminal_copro.now in
    let sink = g.K.Sink.seen c.args.out.now in
    record {
      talk = λ opening stood.
          talk_begun plan opening start (scene c.new-stepper.result.chip (device c.args.cells.now) (cells c.args.cells.now)) (standing start log copro (begun plan) None sink no_results)
          (standing (scene c.power_on.new.self.chip (device c.power_on.new.cells) (cells c.power_on.new.cells)) log copro (terminal_view c.new-terminal.result) None sink c.new-tally.result)
          (PoweredOn c.power_on.result) (c.new-stepper.ensures.fits (device c.args.cells.now) (cells c.args.cells.now) opening stood) refl (λ off is. off)
          (c.power_on.ensures.made log) c.power_on.ensures.keeps c.new-terminal.ensures refl refl refl refl c.new-tally.ensures;
      going = ap (λ (t : TerminalView). t.ended) c.new-terminal.ensures;
      requests = c.in-Ok.ensures.items ∙ ap (λ (l : List Request). l ++ c.as_slice.result.now) c.new-requests.ensures.items ∙ c.as_slice.ensures.value;
      sound = c.power_on.ensures.keeps.sound;
      layout = c.power_on.ensures.keeps.layout;
      chip_told = refl;
      terminal_told = refl;
      tells = refl;
      still = refl;
      answered = omega (arith, ap (λ (t : Tally). t.answered) c.new-tally.ensures);
      refused = omega (arith, ap (λ (t : Tally). t.refused) c.new-tally.ensures);
    }

pub take_turn-requires-clause-waits : goal.take_turn-requires-clause-waits
take_turn-requires-clause-waits g c =
    let found = some_of (stands (g.E.Eeprom.cells c.args.cells.now)) c.requires.stands in
    let so = c.loop.invariant.talk found.0 found.1 in
    some_mapped so.pending (due_bytes c.loop.conversation.due c.loop.conversation.stepper.exchange.sent.items) so.due_is ∙ sym so.waits

pub returns-in-Err-clause-broke : goal.returns-in-Err-clause-broke
returns-in-Err-clause-broke g c = λ opening stood.
    let device = g.E.Eeprom.device in
    let cells = g.E.Eeprom.cells in
    let chip = g.C.Coprocessor.seen in
    let terminal = g.D.Coprocessor.seen in
    let sink = g.K.Sink.seen in
    let plan = plan_view c.args.plan in
    let was = stands_at c.loop.conversation (device c.loop.cells) (cells c.loop.cells) (chip c.loop.chip_copro).log (terminal c.loop.terminal_copro) (sink c.loop.out) in
    let now = stands_at c.take_turn.new.self (device c.take_turn.new.cells) (cells c.take_turn.new.cells) (chip c.take_turn.new.chip_copro).log (terminal c.take_turn.new.terminal_copro) (sink c.take_turn.new.out) in
    talk_broke plan opening (record { running = None }) c.loop.conversation.stepper.chip c.take_turn.new.self.stepper.chip
    (outside (device c.args.cells.now) (cells c.args.cells.now) (chip c.args.chip_copro.now) (sink c.args.out.now))
    (outside (device c.loop.cells) (cells c.loop.cells) (chip c.loop.chip_copro) (sink c.loop.out))
    (outside (device c.take_turn.new.cells) (cells c.take_turn.new.cells) (chip c.take_turn.new.chip_copro) (sink c.take_turn.new.out))
    (terminal c.args.terminal_copro.now) (terminal c.loop.terminal_copro) (terminal c.take_turn.new.terminal_copro)
    (begun plan) (terminal_view c.loop.conversation.terminal) (terminal_view c.take_turn.new.self.terminal) None (due_bytes c.loop.conversation.due c.loop.conversation.stepper.exchange.sent.items) (due_bytes c.take_turn.new.self.due c.take_turn.new.self.stepper.exchange.sent.items) c.loop.conversation.tally c.take_turn.new.self.tally c.loop.counter
    (c.loop.invariant.talk opening stood) c.loop.invariant.going c.loop.invariant.tells
    (subst (λ (l : List Request). BrokeTurn l was now) c.loop.invariant.requests c.in-Err.ensures.broke)
    (c.take_turn.ensures.chip_told ∙ c.loop.invariant.chip_told) (c.take_turn.ensures.layout ∙ c.loop.invariant.layout) (c.take_turn.ensures.terminal_told ∙ c.loop.invariant.terminal_told)

pub returns-then-ended-clause-did : goal.returns-then-ended-clause-did
returns-then-ended-clause-did g c = λ opening stood.
    let device = g.E.Eeprom.device in
    let cells = g.E.Eeprom.cells in
    let chip = g.C.Coprocessor.seen in
    let terminal = g.D.Coprocessor.seen in
    let sink = g.K.Sink.seen in
    let plan = plan_view c.args.plan in
    let start = scene (record { running = None }) (device c.args.cells.now) (cells c.args.cells.now) in
    let first = standing start (chip c.args.chip_copro.now).log (terminal c.args.terminal_copro.now) (begun plan) None (sink c.args.out.now) no_results in
    let was = stands_at c.loop.conversation (device c.loop.cells) (cells c.loop.cells) (chip c.loop.chip_copro).log (terminal c.loop.terminal_copro) (sink c.loop.out) in
    let now = stands_at c.take_turn.new.self (device c.take_turn.new.cells) (cells c.take_turn.new.cells) (chip c.take_turn.new.chip_copro).log (terminal c.take_turn.new.terminal_copro) (sink c.take_turn.new.out) in
    let did = subst (λ (l : List Request). DidTurn l was now) c.loop.invariant.requests c.in_default-take_turn.ensures.did in
    talk_ended plan opening (record { running = None }) c.take_turn.new.self.stepper.chip
    (outside (device c.args.cells.now) (cells c.args.cells.now) (chip c.args.chip_copro.now) (sink c.args.out.now))
    (outside (device c.take_turn.new.cells) (cells c.take_turn.new.cells) (chip c.take_turn.new.chip_copro) (sink c.take_turn.new.out))
    (terminal c.args.terminal_copro.now) (terminal c.take_turn.new.terminal_copro) (begun plan) (terminal_view c.take_turn.new.self.terminal) None (due_bytes c.take_turn.new.self.due c.take_turn.new.self.stepper.exchange.sent.items) c.take_turn.new.self.tally (suc c.loop.counter)
    (talk_more plan opening start first was now c.loop.counter (c.loop.invariant.talk opening stood) c.loop.invariant.going c.loop.invariant.tells did) (sym c.ended.ensures ∙ c.if-ended.true)
    (c.take_turn.ensures.chip_told ∙ c.loop.invariant.chip_told) (c.take_turn.ensures.layout ∙ c.loop.invariant.layout) (c.take_turn.ensures.terminal_told ∙ c.loop.invariant.terminal_told)

pub loop-preserved : goal.loop-preserved
loop-preserved g c =
    let device = g.E.Eeprom.device in
    let cells = g.E.Eeprom.cells in
    let chip = g.C.Coprocessor.seen in
    let terminal = g.D.Coprocessor.seen in
    let sink = g.K.Sink.seen in
    let plan = plan_view c.args.plan in
    let start = scene (record { running = None }) (device c.args.cells.now) (cells c.args.cells.now) in
    let first = standing start (chip c.args.chip_copro.now).log (terminal c.args.terminal_copro.now) (begun plan) None (sink c.args.out.now) no_results in
    let was = stands_at c.loop.conversation (device c.loop.cells) (cells c.loop.cells) (chip c.loop.chip_copro).log (terminal c.loop.terminal_copro) (sink c.loop.out) in
    let now = stands_at c.take_turn.new.self (device c.take_turn.new.cells) (cells c.take_turn.new.cells) (chip c.take_turn.new.chip_copro).log (terminal c.take_turn.new.terminal_copro) (sink c.take_turn.new.out) in
    let did = subst (λ (l : List Request). DidTurn l was now) c.loop.invariant.requests c.in_default-take_turn.ensures.did in
    let one_more : suc c.loop.counter ≡ c.loop.counter + 1 = omega arith in
    record {
      talk = λ opening stood. subst (λ (n : ℕ). IsTalkSoFar plan opening start first now n) one_more
          (talk_more plan opening start first was now c.loop.counter (c.loop.invariant.talk opening stood) c.loop.invariant.going c.loop.invariant.tells did);
      going = sym c.ended.ensures ∙ c.if-ended.false;
      requests = c.take_turn.ensures.requests ∙ c.loop.invariant.requests;
      sound = c.take_turn.ensures.sound;
      layout = c.take_turn.ensures.layout ∙ c.loop.invariant.layout;
      chip_told = c.take_turn.ensures.chip_told ∙ c.loop.invariant.chip_told;
      terminal_told = c.take_turn.ensures.terminal_told ∙ c.loop.invariant.terminal_told;
      tells = c.take_turn.ensures.sink.tells ∙ c.loop.invariant.tells;
      still = c.take_turn.ensures.sink.still (c.in_default-take_turn.not-Err SinkFault) ∙ c.loop.invariant.still;
      answered = omega (arith, c.loop.invariant.answered, c.take_turn.ensures.answered);
      refused = omega (arith, c.loop.invariant.refused, c.take_turn.ensures.refused);
    }

pub unreachable-requires : goal.unreachable-requires
unreachable-requires g c =
    let device = g.E.Eeprom.device in
    let cells = g.E.Eeprom.cells in
    let chip = g.C.Coprocessor.seen in
    let terminal = g.D.Coprocessor.seen in
    let sink = g.K.Sink.seen in
    let plan = plan_view c.args.plan in
    let start = scene (record { running = None }) (device c.args.cells.now) (cells c.args.cells.now) in
    let first = standing start (chip c.args.chip_copro.now).log (terminal c.args.terminal_copro.now) (begun plan) None (sink c.args.out.now) no_results in
    let at = stands_at c.loop.conversation (device c.loop.cells) (cells c.loop.cells) (chip c.loop.chip_copro).log (terminal c.loop.terminal_copro) (sink c.loop.out) in
    let found = some_of (stands (cells c.args.cells.now)) c.requires.stands in
    too_many plan found.0 start first at c.loop.counter c.requires.fit (c.loop.invariant.talk found.0 found.1) c.loop.invariant.going c.loop-test.false

pub returns-in-Err-clause-sink : goal.returns-in-Err-clause-sink
returns-in-Err-clause-sink g c =
    fault_on (g.K.Sink.seen c.args.out.now) (g.K.Sink.seen c.loop.out) (g.K.Sink.seen c.take_turn.new.out) c.in-Err.error c.loop.invariant.tells c.loop.invariant.still c.in-Err.ensures.sink
