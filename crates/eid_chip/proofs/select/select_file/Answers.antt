-- Carried out: the body is a file's identifier.
use Rattle.std.proofs.Common.{◌≡◌, ◌∙◌, sym, ap, true, Some, arith, refl, length, ◌==◌, ◌+◌, ◌*◌}
use Rattle.std.specs.Prelude.{option_map}
use Rattle.std.proofs.lemmas.Bool.Decides.{nat_tests}
use Rattle.eid_model.specs.declared.kind.Kind.TheVariants.{SelectFile}
use Rattle.eid_files.specs.Names.{file_of_id}
use Rattle.eid_apdu.specs.Command.{plain_command}
use Rattle.eid_apdu.specs.Answer.{plain_reply}
use Rattle.eid_model.specs.Sessions.{number_of_two}
use Rattle.eid_chip.specs.Endings.{reacted}
use Rattle.eid_chip.specs.Transitions.{two_messages_later}
use Rattle.eid_chip.specs.States.{state}
use Rattle.eid_chip.proofs.CarriedOut.{carried}
use Rattle.eid_chip.proofs.Selections.{file_passes, file_leaves}
use Rattle.eid_chip.proofs.select.select_file.Goals as goal

pub returns-clause-told : goal.returns-clause-told
returns-clause-told c = λ kept channel.
    let two : (length c.args.c.now.body.now == 2) ≡ true = grind (arith, nat_tests) in
    let number : number_of_two c.args.c.now.body.now ≡ c.from.result * 256 + c.from-2.result = omega (arith, c.from.ensures, c.from-2.ensures) in
    let named : file_of_id (number_of_two c.args.c.now.body.now) ≡ Some c.in-Some.file.0 = ap file_of_id number ∙ sym c.in-Some.ensures in
    let passes = file_passes kept (state c.args.session.now channel) (plain_command c.args.c.now) _ two named in
    let later = option_map two_messages_later channel in
    let out = c.carried_out.ensures.did in
    carried SelectFile kept (state c.args.session.now channel) (plain_command c.args.c.now) (reacted c.carried_out.result c.leave.new.self) (plain_reply c.carried_out.new.reply) refl passes out.0 out.2 out.1
    (c.leave.ensures.left later ∙ file_leaves kept.fields (state c.args.session.now channel) (plain_command c.args.c.now) _ named)
