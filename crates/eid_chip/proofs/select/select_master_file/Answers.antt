-- Carried out: the body is the master file's identifier, or empty.
use Rattle.std.proofs.Common.{◌≡◌, ◌∙◌, ap, true, refl, length, ◌==◌, ◌||◌, ◌∷◌, [], None, false}
use Rattle.std.specs.Prelude.{option_map}
use Rattle.std.specs.Str.{bytes_eq}
use Rattle.eid_model.specs.declared.kind.Kind.TheVariants.{SelectMasterFile}
use Rattle.eid_apdu.specs.Command.{plain_command}
use Rattle.eid_apdu.specs.Answer.{plain_reply}
use Rattle.eid_chip.specs.declared.session.Memory.{Memory}
use Rattle.eid_chip.specs.Endings.{reacted}
use Rattle.eid_chip.specs.Transitions.{two_messages_later}
use Rattle.eid_chip.specs.declared.session.Session.{Session}
use Rattle.eid_chip.specs.States.{state}
use Rattle.eid_chip.proofs.CarriedOut.{carried, idle_state}
use Rattle.eid_chip.proofs.Selections.{same_of, first_holds, second_holds, master_file_passes, master_file_leaves}
use Rattle.eid_chip.proofs.select.select_master_file.Goals as goal
use Rattle.eid_chip.proofs.select.select_master_file.Goals.{else-not-is_empty-via-then-not-is_empty+else-ne, else-not-is_empty-via-else-not-is_empty}

pub returns-clause-told : goal.returns-clause-told
returns-clause-told c = λ kept channel.
    let formed : (length c.args.c.now.body.now == 0 || bytes_eq c.args.c.now.body.now (0x3F ∷ 0x00 ∷ [])) ≡ true =
    elim c.else-not-is_empty.branch [ else-not-is_empty-via-then-not-is_empty+else-ne w ↦ second_holds (length c.args.c.now.body.now == 0) _ (same_of c.args.c.now.body.now _ (0x3F ∷ 0x00 ∷ []) w.if-ne.ensures w.as_slice.ensures) | else-not-is_empty-via-else-not-is_empty w ↦ first_holds _ _ w.if-not-is_empty.ensures ] in
    let passes = master_file_passes kept (state c.args.session.now channel) (plain_command c.args.c.now) formed in
    let later = option_map two_messages_later channel in
    let out = c.carried_out.ensures.did in
    let idle = c.end_run.ensures.idle in
    let chosen : Memory → Memory = λ m. record m { selected = false; current = None } in
    let left : Session = record c.end_run.new.self { memory = chosen c.end_run.new.self.memory } in
    carried SelectMasterFile kept (state c.args.session.now channel) (plain_command c.args.c.now) (reacted c.carried_out.result left) (plain_reply c.carried_out.new.reply) refl passes out.0 out.2 out.1
    (idle_state left (chosen c.args.session.now.memory) later idle.0 idle.1 (ap chosen c.end_run.ensures.memory) ∙ master_file_leaves kept.fields (state c.args.session.now channel) (plain_command c.args.c.now))
