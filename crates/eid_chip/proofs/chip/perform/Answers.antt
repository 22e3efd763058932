-- The kinds that never commit leave all but the coprocessor as it was.
use Rattle.std.proofs.Common.{refl}
use Rattle.eid_apdu.specs.Answer.{plain_reply}
use Rattle.eid_apdu.specs.Command.{plain_command}
use Rattle.eid_chip.specs.Endings.{reacted}
use Rattle.eid_chip.proofs.Calm.{is_calm, never_commits}
use Rattle.eid_chip.proofs.Outcomes.{settled}
use Rattle.eid_chip.proofs.chip.perform.Goals as goal

pub returns-in_default-clause-performed : goal.returns-in_default-clause-performed
returns-in_default-clause-performed g c =
    let n = c.in_default in
    let calm = is_calm c.args.kind n.not-UpdateBinary n.not-VerifyCertificate n.not-MutualAuthentication n.not-ChangePin n.not-UnblockPin n.not-ChangeCan n.not-ActivatePin n.not-DeactivatePin in
    settled _ c.args.kind c.args.session.now (plain_command c.args.c.now) _ (reacted c.perform_uncommitted.result c.perform_uncommitted.new.session) (plain_reply c.perform_uncommitted.new.reply) (g.C.Coprocessor.seen c.args.copro.now) (g.C.Coprocessor.seen c.perform_uncommitted.new.copro) c.args.store.now (g.E.Eeprom.device c.args.cells.now) (g.E.Eeprom.cells c.args.cells.now)
    refl (λ s. never_commits c.args.kind s calm) c.requires.mounted (c.uncommitted.ensures.ended _) c.perform_uncommitted.ensures.stepped
