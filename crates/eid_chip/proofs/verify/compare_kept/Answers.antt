-- An absent file is compared as an empty one is.
use Rattle.std.proofs.Common.{◌∙◌, Some, ap, List, ℕ}
use Rattle.eid_chip.specs.Granting.{sent_refused, sent_to}
use Rattle.eid_chip.specs.Held.{held_file}
use Rattle.eid_chip.proofs.VerifySteps.{absent_as_empty}
use Rattle.eid_chip.proofs.verify.compare_kept.Goals as goal

pub returns : goal.returns
returns g c =
    let file = held_file (g.E.Eeprom.cells c.args.cells.now) c.reference_file.result.0 in
    let sent = sent_to c.args.memory.now c.args.comparison in
    rw (← c.reference_file.ensures)
    (c.compare.ensures ∙ ap (λ (stored : List ℕ). sent_refused c.args.comparison (Some stored) sent) (c.as_slice.ensures.value ∙ c.put_file.ensures) ∙ absent_as_empty c.args.comparison file sent)
