-- Carried out: the terminal of the chain announces itself.
use Rattle.std.proofs.Common.{ap, sym, refl, ◌∙◌, arith}
use Rattle.std.specs.Prelude.{option_map}
use Rattle.eid_apdu.specs.Command.{plain_command}
use Rattle.eid_apdu.specs.Answer.{plain_reply}
use Rattle.eid_cvc.specs.Chains.{known_view}
use Rattle.eid_ta.specs.View.{announced_view, announcement_view}
use Rattle.eid_ta.proofs.AnnouncementFacts.{sent_within}
use Rattle.eid_model.specs.declared.kind.Kind.TheVariants.{AnnounceTerminal}
use Rattle.eid_chip.specs.Endings.{reacted}
use Rattle.eid_chip.specs.States.{state}
use Rattle.eid_chip.specs.Transitions.{two_messages_later}
use Rattle.eid_chip.specs.declared.session.LastPace.{LastPace}
use Rattle.eid_chip.specs.declared.session.Session.{Session}
use Rattle.eid_chip.proofs.CarriedOut.{carried}
use Rattle.eid_chip.proofs.CertificateSteps.{template_so}
use Rattle.eid_chip.proofs.Selections.{some_after}
use Rattle.eid_chip.proofs.TerminalSteps.{announcement_leaves, announcement_passes, formed_so}
use Rattle.eid_chip.proofs.terminal.announce_terminal.Goals as goal

pub begin-requires : goal.begin-requires
begin-requires c =
    let found = formed_so _ _ c.in-Ok.ensures in
    let within = sent_within c.args.c.now.body.now _ found in
    omega (arith, within, c.requires)

pub returns-in-Ok-begin-clause-told : goal.returns-in-Ok-begin-clause-told
returns-in-Ok-begin-clause-told c = λ kept channel.
    let old = state c.args.session.now channel in
    let command = plain_command c.args.c.now in
    let found = formed_so _ (announcement_view c.in-Ok.announcement) c.in-Ok.ensures in
    let given = template_so c.args.session.now.memory.pace c.in-Some.pace c.in-Some.is c.if-is_none.ensures in
    let unknown = some_after known_view c.args.session.now.memory.terminal ∙ sym c.if-is_some.ensures in
    let identity = ap (option_map (λ (pace : LastPace). pace.identity)) c.in-Some.is in
    let announced = announced_view c.in-Ok-begin.announced in
    let passes = announcement_passes kept old command (announcement_view c.in-Ok.announcement) announced found given.0 given.1 unknown c.in-Ok-begin.ensures in
    let out = c.carried_out.ensures.did in
    carried AnnounceTerminal kept old command (reacted c.carried_out.result c.authenticate.new.self) (plain_reply c.carried_out.new.reply) refl passes out.0 out.2 out.1
    (ap (λ (s : Session). state s (option_map two_messages_later channel)) c.authenticate.ensures
    ∙ announcement_leaves kept old command (announcement_view c.in-Ok.announcement) c.in-Some.pace.identity announced found (rw c.in-Some.is refl) c.in-Ok-begin.ensures)
