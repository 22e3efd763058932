-- By cases: the session ends, or its run does.
use Rattle.std.proofs.Common.{◌≡◌, ◌∙◌, ap, true, false, Option, None}
use Rattle.eid_sm.specs.Keys.{ChannelState}
use Rattle.eid_model.specs.Moments.{ends_session_by}
use Rattle.eid_model.specs.Sessions.{fresh}
use Rattle.eid_chip.specs.declared.session.Session.{Session}
use Rattle.eid_chip.specs.States.{state}
use Rattle.eid_chip.specs.Transitions.{without_run}
use Rattle.eid_chip.proofs.CarriedOut.{idle_state}
use Rattle.eid_chip.proofs.Refusals.{left_by}
use Rattle.eid_chip.proofs.ending.refused.Goals as goal
use Rattle.eid_chip.proofs.ending.refused.Goals.{then-ends_session, else-ends_session}

pub returns-clause-left : goal.returns-clause-left
returns-clause-left c = λ channel.
    let is_fresh : ends_session_by c.args.refusal.rule.0 ≡ true → state c.if-ends_session.session None ≡ fresh =
    λ e. elim c.if-ends_session.branch [ then-ends_session w ↦ ap (λ (s : Session). state s None) w.session-is ∙ w.forget.ensures.forgot | else-ends_session w ↦ let t : true ≡ false = cc in absurd (cc) ] in
    let is_same : ends_session_by c.args.refusal.rule.0 ≡ false → (ch : Option ChannelState) → state c.if-ends_session.session ch ≡ without_run (state c.args.session.now ch) =
    λ e ch. elim c.if-ends_session.branch [ then-ends_session w ↦ let t : true ≡ false = cc in absurd (cc) | else-ends_session w ↦ ap (λ (s : Session). state s ch) w.session-is ∙ idle_state w.end_run.new.self c.args.session.now.memory ch w.end_run.ensures.idle.0 w.end_run.ensures.idle.1 w.end_run.ensures.memory ] in
    left_by (ends_session_by c.args.refusal.rule.0) c.args.session.now c.if-ends_session.session channel is_fresh is_same
