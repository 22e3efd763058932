-- A body of another form is refused; the tokens of the PIN commit, those of the other passwords do not.
use Rattle.std.proofs.Common.{◌≡◌, [], refl, ap, sym, ◌∙◌, subst}
use Rattle.eid_apdu.specs.Command.{plain_command}
use Rattle.eid_apdu.specs.Answer.{plain_reply}
use Rattle.eid_base.specs.declared.codes.Rule.{Rule}
use Rattle.eid_copro.proofs.Asking.{not_asked}
use Rattle.eid_model.specs.declared.kind.Kind.TheVariants.{MutualAuthentication}
use Rattle.eid_model.specs.Rules.{kind_rules}
use Rattle.eid_model.proofs.Books.{nothing_due_by}
use Rattle.eid_chip.specs.Endings.{reacted, ended}
use Rattle.eid_chip.specs.Held.{held}
use Rattle.eid_chip.specs.States.{state}
use Rattle.eid_chip.specs.Steps.{Performed, SendsToken, at_tokens, known}
use Rattle.eid_chip.specs.Worlds.{world}
use Rattle.eid_chip.specs.declared.session.Memory.{Memory}
use Rattle.eid_chip.specs.declared.session.Run.{Run}
use Rattle.eid_chip.specs.declared.session.Session.{Session}
use Rattle.eid_chip.proofs.HeldFiles.{held_fields}
use Rattle.eid_chip.proofs.Outcomes.{kind_refused, performed_unasked}
use Rattle.eid_chip.proofs.PinSteps.{not_pin}
use Rattle.eid_chip.proofs.pace.mutual_authentication.Goals as goal

pub returns-in_default-clause-performed : goal.returns-in_default-clause-performed
returns-in_default-clause-performed g c = λ copro.
    let cells = g.E.Eeprom.cells c.args.cells.now in
    let command = plain_command c.args.c.now in
    let said = plain_reply c.refused.new.reply in
    performed_unasked MutualAuthentication c.args.session.now command _ (reacted c.refused.result c.refused.new.session) said copro c.args.store.now (g.E.Eeprom.device c.args.cells.now) cells c.requires.fits (c.uncommitted.ensures.ended _)
    (λ channel. kind_refused MutualAuthentication (held cells) (state c.args.session.now channel) command (record { rule = 10; status = 0x6A80 }) (reacted c.refused.result c.refused.new.session) said (rw c.in_default.ensures.none refl) refl
    (ap (λ (r : Rule). r.0) c.refused.ensures.rule) c.refused.ensures.reply (c.refused.ensures.left channel))

pub returns-in-Pin-clause-performed : goal.returns-in-Pin-clause-performed
returns-in-Pin-clause-performed g c = λ copro.
    let device = g.E.Eeprom.device in
    let cells = g.E.Eeprom.cells in
    let command = plain_command c.args.c.now in
    let said = plain_reply c.prove_pin.new.reply in
    let old = world copro c.args.store.now (device c.args.cells.now) (cells c.args.cells.now) in
    let new = world copro c.prove_pin.new.store (device c.prove_pin.new.cells) (cells c.prove_pin.new.cells) in
    let begun = c.args.session.now.authentication in
    let memory = c.take_run.new.self.memory in
    let same : c.args.session.now ≡ at_tokens c.in-Agreed.agreed begun memory =
    ap (λ (r : Run). record c.args.session.now { run = r }) (sym c.take_run.ensures.run ∙ c.in-Agreed.is) ∙ ap (λ (m : Memory). at_tokens c.in-Agreed.agreed begun m) (sym c.take_run.ensures.memory) in
    let sends : SendsToken command c.in-Some.token = record { formed = c.in-Some.ensures.found.1; is = c.in-Some.ensures.found.0 } in
    subst (λ (s : Session). Performed MutualAuthentication s command (ended c.prove_pin.result c.prove_pin.new.session) said old new) (sym same) (record {
      asks = [];
      were_asked = not_asked copro;
      ended = λ channel. c.prove_pin.ensures.ended copro channel command begun sends;
      layout = c.prove_pin.ensures.layout;
    })

pub prove-requires : goal.prove-requires
prove-requires g c = record { other = not_pin c.in-Agreed.agreed.choice.password (λ is. c.in_default-password.not-Pin (c.password.ensures ∙ is)) }

pub returns-in_default-password-clause-performed : goal.returns-in_default-password-clause-performed
returns-in_default-password-clause-performed g c = λ copro.
    let device = g.E.Eeprom.device in
    let cells = g.E.Eeprom.cells in
    let command = plain_command c.args.c.now in
    let said = plain_reply c.prove.new.reply in
    let w = world copro c.args.store.now (device c.args.cells.now) (cells c.args.cells.now) in
    let full = held (cells c.args.cells.now) in
    let other = not_pin c.in-Agreed.agreed.choice.password (λ is. c.in_default-password.not-Pin (c.password.ensures ∙ is)) in
    let begun = c.args.session.now.authentication in
    let memory = c.take_run.new.self.memory in
    let same : c.args.session.now ≡ at_tokens c.in-Agreed.agreed begun memory =
    ap (λ (r : Run). record c.args.session.now { run = r }) (sym c.take_run.ensures.run ∙ c.in-Agreed.is) ∙ ap (λ (m : Memory). at_tokens c.in-Agreed.agreed begun m) (sym c.take_run.ensures.memory) in
    let sends : SendsToken command c.in-Some.token = record { formed = c.in-Some.ensures.found.1; is = c.in-Some.ensures.found.0 } in
    let fields = held_fields c.args.store.now (device c.args.cells.now) (cells c.args.cells.now) c.requires.fits ∙ sym c.kept.ensures in
    subst (λ (s : Session). Performed MutualAuthentication s command (ended c.uncommitted-in_default-password.result c.prove.new.session) said w w) (sym same)
    (performed_unasked MutualAuthentication (at_tokens c.in-Agreed.agreed begun memory) command _ (reacted c.prove.result c.prove.new.session) said copro c.args.store.now (device c.args.cells.now) (cells c.args.cells.now) c.requires.fits (c.uncommitted-in_default-password.ensures.ended _)
    (λ channel. (nothing_due_by kind_rules (known MutualAuthentication full (state (at_tokens c.in-Agreed.agreed begun memory) channel) command []) (rw other refl), c.prove.ensures.told full channel command begun fields sends)))
