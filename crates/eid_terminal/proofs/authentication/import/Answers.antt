-- The certificate at the place, or the announcement.
use Rattle.std.proofs.Common.{ap, refl, sym, ◌∙◌, List, ℕ}
use Rattle.std.proofs.lemmas.Option.{slice_get_within}
use Rattle.eid_terminal.specs.Authentication.{imports, issuer_of}
use Rattle.eid_terminal.specs.Commands.{command, key_selection}
use Rattle.eid_terminal.specs.Plans.{plan_view}
use Rattle.eid_terminal.proofs.Coming.{came_at, came_now}
use Rattle.eid_terminal.proofs.AuthenticationSteps.{all_imported}
use Rattle.eid_terminal.proofs.RequestSteps.{found_at, from_behind, import_waits}
use Rattle.eid_terminal.proofs.authentication.import.Goals as goal

pub returns-in_default : goal.returns-in_default
returns-in_default g c heard =
    let plan = plan_view c.args.plan.now in
    came_at _ _ plan _ _ _ (ap (λ certificates. imports plan c.args.identity certificates c.args.channel.now) (from_behind plan.certificates c.args.place (sym c.in_default.ensures))
    ∙ all_imported plan c.args.identity c.args.channel.now) (c.announce.ensures _)

pub returns : goal.returns
returns g c heard =
    let plan = plan_view c.args.plan.now in
    let within = slice_get_within plan.certificates c.args.place c.in-Some.certificate.now (sym c.in-Some.ensures) in
    let same = found_at plan.certificates c.args.place c.in-Some.certificate.now (sym c.in-Some.ensures) in
    let body = c.deref.ensures.0 ∙ c.key_selection.ensures ∙ ap key_selection c.issuer_of.ensures.name ∙ ap (λ (found : List ℕ). key_selection (issuer_of found)) (sym same) in
    came_now _ plan _ _ _ (import_waits plan c.args.identity c.args.place c.args.channel.now within) refl (c.send.ensures plan _ (ap (λ b. command 0x00 0x22 0x81 0xB6 b 0) body) within)
