-- What comes by the reply.
use Rattle.std.proofs.Common.{ap, sym, ◌∙◌, Some}
use Rattle.std.specs.Str.{bytes_eq}
use Rattle.eid_terminal.specs.declared.action.Step.TheVariants.{Pace}
use Rattle.eid_terminal.specs.Courses.{Passes}
use Rattle.eid_pace.specs.Keys.{enc_key, mac_key}
use Rattle.eid_terminal.specs.Pace.{channel_under}
use Rattle.eid_terminal.specs.View.{opened_after}
use Rattle.eid_terminal.proofs.Coming.{did_at, not_so, so}
use Rattle.eid_terminal.proofs.PaceSteps.{no_token, other_token, right_token}
use Rattle.eid_terminal.proofs.pace.after_token.Goals as goal

pub returns-in_default : goal.returns-in_default
returns-in_default c plan message heard = did_at plan _ _ _ (no_token _ _ _ _ _ _ (sym c.in_default.ensures)) (c.stopped.ensures plan _ _ _)

pub returns-then-ne : goal.returns-then-ne
returns-then-ne c plan message heard =
    did_at plan _ _ _
    (other_token _ _ _ _ _ _ c.in-Some.found (sym c.in-Some.ensures) (ap (bytes_eq c.in-Some.found) (sym c.token_for.ensures) ∙ not_so (bytes_eq c.in-Some.found c.token_for.result) c.if-ne.ensures))
    (c.stopped-then-ne.ensures plan _ _ _)

pub returns : goal.returns
returns c plan message heard =
    let behind = c.standing_behind.ensures plan (Some c.channel_under.result)
    ∙ ap (λ opened. opened_after plan c.args.round opened c.identity_of.result) c.channel_under.ensures
    ∙ ap (λ identity. opened_after plan c.args.round (channel_under (enc_key c.args.shared.now) (mac_key c.args.shared.now)) identity) c.identity_of.ensures in
    did_at plan _ _ _
    (right_token _ _ _ _ _ _ c.in-Some.found (sym c.in-Some.ensures) (ap (bytes_eq c.in-Some.found) (sym c.token_for.ensures) ∙ so (bytes_eq c.in-Some.found c.token_for.result) c.if-ne.ensures)
    ∙ ap (Passes Pace) (sym behind))
    (c.passed.ensures plan _ _ _)
