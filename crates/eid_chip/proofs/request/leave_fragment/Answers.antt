-- Any other fragment ends the run.
use Rattle.std.proofs.Common.{◌≡◌, false, Some, ap, sym}
use Rattle.eid_apdu.specs.Command.{plain_command}
use Rattle.eid_model.specs.Runs.{is_piece_of_next}
use Rattle.eid_chip.specs.States.{next_of}
use Rattle.eid_chip.specs.Transitions.{state_later}
use Rattle.eid_chip.proofs.CarriedOut.{idle_state}
use Rattle.eid_chip.proofs.request.leave_fragment.Goals as goal

pub returns-then-not-is_piece_of_next : goal.returns-then-not-is_piece_of_next
returns-then-not-is_piece_of_next c = λ channel.
    let none : is_piece_of_next (next_of c.args.session.now) (Some (plain_command c.args.c.now)) ≡ false = sym c.if-not-is_piece_of_next.ensures in
    rw none (ap state_later (idle_state c.end_run.new.self c.args.session.now.memory channel c.end_run.ensures.idle.0 c.end_run.ensures.idle.1 c.end_run.ensures.memory))
