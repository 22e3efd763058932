-- What is incoming is what was read.
use Rattle.std.proofs.Common.{◌∙◌, ℕ, ap, sym, refl, None}
use Rattle.eid_base.specs.declared.codes.Rule.{Rule}
use Rattle.eid_apdu.specs.Command.{plain_command}
use Rattle.eid_apdu.specs.Answer.{plain_reply}
use Rattle.eid_apdu.specs.Chaining.{Collected}
use Rattle.eid_model.specs.Rules.{OfCommand}
use Rattle.eid_chip.specs.Endings.{ended, reacted}
use Rattle.eid_chip.specs.Held.{held}
use Rattle.eid_chip.specs.States.{chained, state}
use Rattle.eid_chip.specs.Steps.{message_in, refusal, rule_of}
use Rattle.eid_chip.proofs.Outcomes.{transport_refused, refused_responds, command_answered}
use Rattle.eid_chip.proofs.chip.respond.Goals as goal

pub returns-in-Err-clause-responds : goal.returns-in-Err-clause-responds
returns-in-Err-clause-responds g c =
    let kept = held (g.E.Eeprom.cells c.args.cells.now) in
    let session = c.args.running.now.session in
    let channel = c.args.running.now.channel in
    let fragments = c.args.chain.now.pending in
    let unread = c.in-Err.ensures.unread in
    let refused = c.refused-reaction in
    let r = reacted refused.result refused.new.session in
    refused_responds unread.incoming session channel fragments c.args.bytes.now _ _ r (plain_reply refused.new.reply) c.close.new.self.pending (g.C.Coprocessor.seen c.args.copro.now) c.args.running.now.store _ _ c.requires.mounted
    unread.reads unread.none refl (c.uncommitted.ensures.ended _) (ap (λ (x : Collected). x.pending) c.close.ensures)
    (transport_refused kept (chained fragments (state session channel)) unread.incoming (refusal c.in-Err.refusal) r (plain_reply refused.new.reply) (unread.fails kept (chained fragments (state session channel))) unread.by_a_rule
    (ap (λ (r : Rule). r.0) refused.ensures.rule) refused.ensures.reply (refused.ensures.left channel))

pub returns-in-Err-clause-channel : goal.returns-in-Err-clause-channel
returns-in-Err-clause-channel g c =
    c.in-Err.ensures.kept
    ∙ ap (λ (n : ℕ). message_in n c.args.running.now.channel) (sym (ap rule_of (c.uncommitted.ensures.ended c.refused-reaction.new.session) ∙ ap (λ (r : Rule). r.0) c.refused-reaction.ensures.rule))

pub returns-clause-responds : goal.returns-clause-responds
returns-clause-responds g c =
    let did = c.react.ensures.reacts in
    record {
      incoming = OfCommand (plain_command c.with_body-c.result);
      reads = rw (c.with_body-c.ensures, c.as_slice.ensures.value) c.in-Ok.ensures.read;
      is_plain = rw (c.with_body-c.ensures, c.as_slice.ensures.value) refl;
      asks = did.asks;
      were_asked = did.were_asked;
      ended = did.ended c.args.running.now.channel;
      layout = did.layout;
    }

pub returns-clause-channel : goal.returns-clause-channel
returns-clause-channel g c =
    let did = c.react.ensures.reacts in
    let incoming = plain_command c.with_body-c.result in
    let others = command_answered (chained c.args.chain.now.pending (state c.args.running.now.session None)) incoming did.asks (ended c.react.result c.react.new.running.session) (plain_reply c.react.new.reply) c.react.new.chain.pending _ _ (did.ended None) in
    rw others (c.react.ensures.channel ∙ c.in-Ok.ensures.counted)
