-- Carried out: the body is the application's identifier.
use Rattle.std.proofs.Common.{◌≡◌, ◌∙◌, ap, true, arith, refl, length, None}
use Rattle.std.specs.Prelude.{nat_le, option_map}
use Rattle.std.proofs.lemmas.Bool.Decides.{nat_tests}
use Rattle.eid_model.specs.declared.kind.Kind.TheVariants.{SelectApplication}
use Rattle.eid_apdu.specs.Command.{plain_command}
use Rattle.eid_apdu.specs.Answer.{plain_reply}
use Rattle.eid_model.specs.Kinds.{application_id}
use Rattle.eid_chip.specs.declared.session.Memory.{Memory}
use Rattle.eid_chip.specs.Endings.{reacted}
use Rattle.eid_chip.specs.Transitions.{two_messages_later}
use Rattle.eid_chip.specs.declared.session.Session.{Session}
use Rattle.eid_chip.specs.States.{state}
use Rattle.eid_chip.proofs.CarriedOut.{carried, idle_state}
use Rattle.eid_chip.proofs.Selections.{same_of, filled, application_passes, application_leaves}
use Rattle.eid_chip.proofs.select.select_application.Goals as goal

pub returns-clause-told : goal.returns-clause-told
returns-clause-told c = λ kept channel.
    let few : nat_le (length c.args.c.now.body.now) 16 ≡ true = grind (arith, nat_tests) in
    let same = same_of c.args.c.now.body.now _ application_id c.if-ne.ensures c.as_slice.ensures in
    let passes = application_passes kept (state c.args.session.now channel) (plain_command c.args.c.now) (filled _ c.if-is_empty.ensures) few same in
    let later = option_map two_messages_later channel in
    let out = c.carried_out.ensures.did in
    let idle = c.end_run.ensures.idle in
    let chosen : Memory → Memory = λ m. record m { selected = true; current = None } in
    let left : Session = record c.end_run.new.self { memory = chosen c.end_run.new.self.memory } in
    carried SelectApplication kept (state c.args.session.now channel) (plain_command c.args.c.now) (reacted c.carried_out.result left) (plain_reply c.carried_out.new.reply) refl passes out.0 out.2 out.1
    (idle_state left (chosen c.args.session.now.memory) later idle.0 idle.1 (ap chosen c.end_run.ensures.memory) ∙ application_leaves kept.fields (state c.args.session.now channel) (plain_command c.args.c.now))
