-- What comes by the reply.
use Rattle.std.proofs.Common.{ap, sym, ◌∙◌}
use Rattle.std.specs.Option.{option_copied}
use Rattle.eid_terminal.specs.Commands.{import_certificate}
use Rattle.eid_terminal.specs.Plans.{plan_view}
use Rattle.eid_terminal.proofs.Coming.{did_at}
use Rattle.eid_terminal.proofs.PaceSteps.{exchanged}
use Rattle.eid_terminal.proofs.AuthenticationSteps.{expected, unexpected}
use Rattle.eid_terminal.proofs.RequestSteps.{found_at, is_short, some_within}
use Rattle.eid_terminal.proofs.authentication.after_key_selection.Goals as goal

pub unwrap-certificate-requires : goal.unwrap-certificate-requires
unwrap-certificate-requires c = some_within (plan_view c.args.plan.now).certificates c.args.place c.certificate_at.result c.certificate_at.ensures c.requires.there

pub returns-then-not-is_done : goal.returns-then-not-is_done
returns-then-not-is_done c heard = did_at (plan_view c.args.plan.now) _ _ _ (unexpected _ _ _ _ (sym c.if-not-is_done.ensures)) (c.stopped.ensures (plan_view c.args.plan.now) _ _ _)

pub send-requires-clause-body : goal.send-requires-clause-body
send-requires-clause-body c =
    let found = sym c.certificate_at.ensures ∙ ap option_copied c.unwrap-certificate.ensures in
    is_short (plan_view c.args.plan.now).certificates c.args.place c.unwrap-certificate.result.now found c.requires.fit.certificates

pub returns : goal.returns
returns c heard =
    let found = sym c.certificate_at.ensures ∙ ap option_copied c.unwrap-certificate.ensures in
    let same = found_at (plan_view c.args.plan.now).certificates c.args.place c.unwrap-certificate.result.now found in
    did_at (plan_view c.args.plan.now) _ _ _ (expected _ _ _ _ (sym c.if-not-is_done.ensures) ∙ exchanged _ _ _ _)
    (c.send.ensures (plan_view c.args.plan.now) _ (ap import_certificate (sym same)) c.requires.there)
