-- What comes by the reply.
use Rattle.std.proofs.Common.{ap, sym, ◌∙◌, Option, List, [], ℕ}
use Rattle.std.specs.Option.{option_copied, unwrap_or}
use Rattle.eid_bits.specs.Identifiers.{known_bytes}
use Rattle.eid_bits.specs.declared.identifier.Known.TheVariants.{RiSha256}
use Rattle.eid_cvc.specs.PublicKeys.{token_object}
use Rattle.eid_terminal.specs.Commands.{authentication_data, command}
use Rattle.eid_terminal.specs.Plans.{plan_view}
use Rattle.eid_terminal.proofs.Coming.{did_at}
use Rattle.eid_terminal.proofs.RequestSteps.{protocol_refused, protocol_selected}
use Rattle.eid_terminal.proofs.requests.after_protocol.Goals as goal

pub returns-then-not-is_success : goal.returns-then-not-is_success
returns-then-not-is_success c = did_at (plan_view c.args.plan.now) _ _ _ (protocol_refused _ _ _ _ _ _ (sym c.if-not-is_success.ensures)) (c.give.ensures (plan_view c.args.plan.now) _ _ _)

pub returns : goal.returns
returns c =
    let sector = sym c.as_ref.ensures.value ∙ ap option_copied c.unwrap-sector.ensures in
    let body = c.deref-2.ensures.0 ∙ c.authentication_data-body.ensures ∙ ap (authentication_data 0xA0) (c.deref.ensures.0 ∙ c.token_object.ensures)
    ∙ ap (λ (s : Option (List ℕ)). authentication_data 0xA0 (token_object (known_bytes RiSha256) (unwrap_or s []))) (sym sector) in
    did_at (plan_view c.args.plan.now) _ _ _ (protocol_selected _ _ _ _ _ _ (sym c.if-not-is_success.ensures))
    (c.send.ensures (plan_view c.args.plan.now) _ (ap (λ b. command 0x00 0x86 0x00 0x00 b 256) body) c.requires.there)
