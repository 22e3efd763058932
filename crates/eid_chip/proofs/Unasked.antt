-- Steps that put no question.
use Rattle.std.proofs.Common.{◌≡◌, [], Option, refl}
use Rattle.eid_apdu.specs.Command.{PlainCommand}
use Rattle.eid_apdu.specs.Answer.{PlainReply}
use Rattle.eid_copro.specs.Seen.{CoproSeen}
use Rattle.eid_record.specs.Plain.{FullRecord}
use Rattle.eid_copro.proofs.Asking.{not_asked}
use Rattle.eid_sm.specs.Keys.{ChannelState}
use Rattle.eid_model.specs.declared.kind.Kind.{Kind}
use Rattle.eid_model.specs.declared.kind.Kind.TheVariants.{NoStep}
use Rattle.eid_model.specs.Sessions.{State}
use Rattle.eid_model.specs.Answers.{status_alone}
use Rattle.eid_chip.specs.Transitions.{state_refused}
use Rattle.eid_chip.specs.declared.session.Session.{Session}
use Rattle.eid_chip.specs.Endings.{Reacted}
use Rattle.eid_chip.specs.States.{state}
use Rattle.eid_chip.specs.Steps.{IsAnsweredByKind, Stepped, state_left, state_due}

-- the coprocessor stays as it is
pub unasked : (copro : CoproSeen) (kind : Kind) (kept : FullRecord) (session : Session) (c : PlainCommand) (r : Reacted) (reply : PlainReply)
    → ((channel : Option ChannelState) → IsAnsweredByKind kind kept (state session channel) c [] r reply) → Stepped copro copro kind kept session c r reply
unasked copro kind kept session c r reply tells = record { asks = []; were_asked = not_asked copro; tells = tells }

-- a GENERAL AUTHENTICATE that the run has not come to is refused
pub no_step : (kept : FullRecord) (old : State) (c : PlainCommand) (r : Reacted) (reply : PlainReply) → r.rule ≡ 9 → reply ≡ status_alone 0x6985 → state_left r old.channel ≡ state_due 9 (state_refused old) → IsAnsweredByKind NoStep kept old c [] r reply
no_step kept old c r reply rule answered left = record {
  asked = refl;
  ended = rw (rule, answered) refl;
  left = rw rule (rw rule at left);
}
