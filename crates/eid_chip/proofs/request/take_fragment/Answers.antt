-- A fragment goes on with its chain, or is refused by the rules on requests.
use Rattle.std.proofs.Common.{ap, refl, []}
use Rattle.eid_base.specs.declared.codes.Rule.{Rule}
use Rattle.eid_apdu.specs.Command.{plain_command}
use Rattle.eid_apdu.specs.Answer.{plain_reply}
use Rattle.eid_chip.specs.Endings.{reacted}
use Rattle.eid_chip.proofs.Outcomes.{broken_request, fragment_taken, piece_left, long_request, request_reacts}
use Rattle.eid_chip.proofs.request.take_fragment.Goals as goal

pub returns-in-More-clause-reacts : goal.returns-in-More-clause-reacts
returns-in-More-clause-reacts c = λ copro store device cells fits.
    let did = c.carried_out.ensures.did in
    fragment_taken c.args.session.now c.args.chain.now.pending (plain_command c.args.c.now) _ (reacted c.carried_out.result c.leave_fragment.new.session) (plain_reply c.carried_out.new.reply) c.feed.new.self.pending copro store device cells
    fits refl c.in-More.ensures.says c.requires.passes did.0 did.1 c.in-More.ensures.pending
    (λ channel. piece_left c.args.session.now c.leave_fragment.new.session (plain_command c.args.c.now) (reacted c.carried_out.result c.leave_fragment.new.session) channel did.0 did.2 refl c.leave_fragment.ensures)

pub returns-in-Broken-clause-reacts : goal.returns-in-Broken-clause-reacts
returns-in-Broken-clause-reacts c = λ copro store device cells fits.
    let command = plain_command c.args.c.now in
    request_reacts c.args.session.now c.args.chain.now.pending command (record { rule = 7; status = 0x6883 }) _ (reacted c.refused.result c.refused.new.session) (plain_reply c.refused.new.reply) c.feed.new.self.pending copro store device cells
    fits refl c.in-Broken.ensures.pending c.requires.passes
    (λ kept old is. broken_request kept old command [] (rw is c.in-Broken.ensures.says))
    refl (ap (λ (r : Rule). r.0) c.refused.ensures.rule) c.refused.ensures.reply c.refused.ensures.left

pub returns-in-TooLong-clause-reacts : goal.returns-in-TooLong-clause-reacts
returns-in-TooLong-clause-reacts c = λ copro store device cells fits.
    let command = plain_command c.args.c.now in
    request_reacts c.args.session.now c.args.chain.now.pending command (record { rule = 8; status = 0x6700 }) _ (reacted c.refused-in-TooLong.result c.refused-in-TooLong.new.session) (plain_reply c.refused-in-TooLong.new.reply) c.feed.new.self.pending copro store device cells
    fits refl c.in-TooLong.ensures.pending c.requires.passes
    (λ kept old is. long_request kept old command [] (rw is c.in-TooLong.ensures.says.0) (rw is c.in-TooLong.ensures.says.1))
    refl (ap (λ (r : Rule). r.0) c.refused-in-TooLong.ensures.rule) c.refused-in-TooLong.ensures.reply c.refused-in-TooLong.ensures.left
