-- The token is right, and the last reply is sent.
use Rattle.std.proofs.Common.{◌++◌, refl, ap, sym, ◌∙◌}
use Rattle.eid_apdu.specs.Answer.{plain_reply}
use Rattle.eid_record.specs.Plain.{PlainRecord}
use Rattle.eid_tlv.specs.Objects.{object}
use Rattle.eid_model.specs.Answers.{data_alone, previous_name}
use Rattle.eid_pace.specs.View.{agreed_view, done_view}
use Rattle.eid_chip.specs.Endings.{reacted}
use Rattle.eid_chip.specs.States.{state}
use Rattle.eid_chip.specs.Steps.{at_tokens}
use Rattle.eid_chip.proofs.PaceSteps.{authenticated}
use Rattle.eid_chip.proofs.pace.prove.Goals as goal

pub returns-clause-told : goal.returns-clause-told
returns-clause-told c = λ full channel command begun fields sends.
    let own = c.in-Ok.given.1 in
    let reply = c.accept.ensures.reply ∙ ap (λ (r : PlainRecord). data_alone (object 0x7C (object 0x86 own ++ object 0x87 r.current.name ++ previous_name r.previous))) (sym fields) in
    authenticated full (state (at_tokens c.args.agreed begun c.args.session.now.memory) channel) command (agreed_view c.args.agreed) c.args.token.now (done_view c.in-Ok.given.0) own (reacted c.accept.result c.accept.new.session) (plain_reply c.accept.new.reply) refl sends.is sends.formed c.in-Ok.ensures c.accept.ensures.rule reply c.requires.other (c.accept.ensures.left channel)
