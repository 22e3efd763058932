-- The chip had no room for the questions of a command.
use Rattle.std.proofs.Common.{Option, List, ℕ, IsTrue, inr, refl, subst}
use Rattle.std.specs.Prelude.{OnOk, OnErr}
use Rattle.eid_base.specs.Seen.{Grew, GrewByPart}
use Rattle.eid_terminal.specs.declared.plan.Request.{Request}
use Rattle.eid_run.specs.Talk.{turn_line}
use Rattle.eid_apdu.specs.Answer.{plain_reply}
use Rattle.eid_terminal.specs.Seen.{terminal_view}
use Rattle.eid_terminal.specs.Terminals.{Goes, move_made}
use Rattle.eid_step.proofs.Lines.{on_err, on_ok}
use Rattle.eid_chip.specs.Fits.{scene}
use Rattle.eid_run.proofs.Talking.{left_alone, untold_part}
use Rattle.eid_run.proofs.session.Conversation.take_turn.Goals as goal

pub returns-in_default-answer-clause-broke : goal.returns-in_default-answer-clause-broke
returns-in_default-answer-clause-broke g c =
    let asked = g.D.Coprocessor.seen c.make_room.new.self in
    let now = g.D.Coprocessor.seen c.next_in-deed.new.copro in
    let message = c.next_in-deed.new.message.items in
    let heard = plain_reply c.next_in-deed.new.heard in
    inr (record {
      asked = asked;
      room = c.make_room.ensures.log;
      deed = c.next_in-deed.result;
      message = message;
      heard = heard;
      goes = subst (λ (due : Option (List ℕ)). Goes asked now (terminal_view c.args.self.now.terminal) (terminal_view c.next_in-deed.new.self) due (move_made c.next_in-deed.result message heard)) c.due_reply.ensures c.next_in-deed.ensures;
      chip = c.in_default-answer.ensures.alone;
      written = λ telling. untold_part c.args.self.now.requests.items c.next_in-deed.result message (g.K.Sink.seen c.args.out.now).written heard c.in-Send.is;
    })

pub returns-clause-did : goal.returns-clause-did
returns-clause-did g c =
    let asked = g.D.Coprocessor.seen c.make_room.new.self in
    let now = g.D.Coprocessor.seen c.next_in-deed.new.copro in
    let deed = c.next_in-deed.result in
    let message = c.next_in-deed.new.message.items in
    let heard = plain_reply c.next_in-deed.new.heard in
    let at = scene c.args.self.now.stepper.chip (g.E.Eeprom.device c.args.cells.now) (g.E.Eeprom.cells c.args.cells.now) in
    let log = (g.C.Coprocessor.seen c.args.chip_copro.now).log in
    on_ok c.tell.result (λ written. record {
      asked = asked;
      room = c.make_room.ensures.log;
      deed = deed;
      message = message;
      heard = heard;
      goes = subst (λ (due : Option (List ℕ)). Goes asked now (terminal_view c.args.self.now.terminal) (terminal_view c.next_in-deed.new.self) due (move_made deed message heard)) c.due_reply.ensures c.next_in-deed.ensures;
      chip = left_alone at log deed message heard c.in_default.not-Send;
      written = written;
      counted = c.count.ensures.more message;
    }) (subst
    (λ (l : List Request). OnOk c.tell.result (IsTrue (g.K.Sink.seen c.args.out.now).tells → Grew (g.K.Sink.seen c.args.out.now).written (g.K.Sink.seen c.tell.new.out).written (turn_line l (move_made deed message heard))))
    c.as_slice-2.ensures.value (c.tell.ensures.whole message))

pub returns-clause-broke : goal.returns-clause-broke
returns-clause-broke g c =
    let asked = g.D.Coprocessor.seen c.make_room.new.self in
    let now = g.D.Coprocessor.seen c.next_in-deed.new.copro in
    let deed = c.next_in-deed.result in
    let message = c.next_in-deed.new.message.items in
    let heard = plain_reply c.next_in-deed.new.heard in
    let at = scene c.args.self.now.stepper.chip (g.E.Eeprom.device c.args.cells.now) (g.E.Eeprom.cells c.args.cells.now) in
    let log = (g.C.Coprocessor.seen c.args.chip_copro.now).log in
    on_err c.tell.result (λ written. inr (record {
      asked = asked;
      room = c.make_room.ensures.log;
      deed = deed;
      message = message;
      heard = heard;
      goes = subst (λ (due : Option (List ℕ)). Goes asked now (terminal_view c.args.self.now.terminal) (terminal_view c.next_in-deed.new.self) due (move_made deed message heard)) c.due_reply.ensures c.next_in-deed.ensures;
      chip = (refl, refl);
      written = written;
    })) (subst
    (λ (l : List Request). OnErr c.tell.result (IsTrue (g.K.Sink.seen c.args.out.now).tells → GrewByPart (g.K.Sink.seen c.args.out.now).written (g.K.Sink.seen c.tell.new.out).written (turn_line l (move_made deed message heard))))
    c.as_slice-2.ensures.value (c.tell.ensures.part message))
