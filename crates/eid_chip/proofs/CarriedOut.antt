-- How a step ends that asks nothing and is carried out.
use Rattle.std.proofs.Common.{◌≡◌, ◌∙◌, ap, Bool, true, false, [], ◌++◌, Option, None, Some, refl}
use Rattle.std.specs.Prelude.{option_map, is_none, if◌then◌else◌}
use Rattle.eid_apdu.specs.Command.{PlainCommand}
use Rattle.eid_apdu.specs.Answer.{PlainReply}
use Rattle.eid_copro.specs.declared.ask.Question.{Question}
use Rattle.eid_record.specs.Plain.{FullRecord}
use Rattle.eid_sm.specs.Keys.{ChannelState}
use Rattle.eid_model.specs.declared.kind.Kind.{Kind}
use Rattle.eid_model.specs.Sessions.{State}
use Rattle.eid_model.specs.Rules.{RuleRow, kind_rules, answer_rules, commit_rules, proof_rules, first_failed}
use Rattle.eid_model.specs.Answers.{outcome_by, question_of, success_of}
use Rattle.eid_chip.specs.declared.session.Memory.{Memory}
use Rattle.eid_chip.specs.declared.session.Session.{Session}
use Rattle.eid_chip.specs.declared.session.Run.TheVariants as runs
use Rattle.eid_chip.specs.declared.session.Authentication.TheVariants.{NotBegun}
use Rattle.eid_chip.specs.Endings.{Reacted}
use Rattle.eid_chip.specs.States.{state, authentication_of, phase_of, next_in_run, next_in_authentication}
use Rattle.eid_chip.specs.Steps.{IsAnsweredByKind, known}
use Rattle.eid_chip.specs.Transitions.{state_carried_out, two_messages_later}

-- no question, whatever the rules say
pub unasked_at : (b : Bool) (q : Option Question) → q ≡ None → (if b then q else None) ≡ None
unasked_at true q e = e
unasked_at false q e = refl

-- the state of a session without a run
pub idle_state : (s : Session) (m : Memory) (channel : Option ChannelState) → s.run ≡ runs.Idle → s.authentication ≡ NotBegun → s.memory ≡ m
    → state s channel ≡ state (record { run = runs.Idle; authentication = NotBegun; memory = m }) channel
idle_state s m channel run begun kept =
    let phase = ap phase_of run in
    let next = ap next_in_run run in
    let none = ap authentication_of begun in
    let later = ap next_in_authentication begun in
    rw (phase, next, none, later, kept) refl

-- a command of a kind without questions that fails no rule
pub carried : (kind : Kind) (kept : FullRecord) (old : State) (c : PlainCommand) (r : Reacted) (reply : PlainReply) → question_of (Some kind) (known kind kept old c []) ≡ None → first_failed (kind_rules ++ answer_rules ++ commit_rules ++ proof_rules) (known kind kept old c []) ≡ None → r.rule ≡ 0 → r.opened ≡ None → reply ≡ success_of kind (known kind kept old c []) → state r.session (option_map two_messages_later old.channel) ≡ state_carried_out kept.fields kind c [] old → IsAnsweredByKind kind kept old c [] r reply
carried kind kept old c r reply silent passes rule opened answered left = record {
  asked = unasked_at (is_none (first_failed (kind_rules ++ answer_rules) (known kind kept old c []))) _ silent;
  ended = ap (λ (f : Option RuleRow). outcome_by f (known kind kept old c [])) passes ∙ cc;
  left = rw (rule, opened) left;
}
