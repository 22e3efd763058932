-- The chip answered, and keeps the store, the session and the channel; or it was lost in a commit.
use Rattle.std.proofs.Common.{◌≡◌, refl, ◌∙◌, ap, Option, None}
use Rattle.std.specs.Prelude.{if◌then◌else◌}
use Rattle.std.specs.Option.{option_or}
use Rattle.eid_apdu.specs.Answer.{plain_reply}
use Rattle.eid_sm.specs.Keys.{ChannelState}
use Rattle.eid_model.specs.Moments.{ends_session_by}
use Rattle.eid_chip.specs.declared.reaction.Ending.{Ending}
use Rattle.eid_chip.specs.Endings.{Answered, Ended, Lost, ended, powered, reacted}
use Rattle.eid_chip.specs.Worlds.{world}
use Rattle.eid_chip.specs.Steps.{message_in, sent_next, rule_of}
use Rattle.eid_chip.proofs.Chips.{handles_answer, handles_loss, sent_so, kept_channel}
use Rattle.eid_chip.proofs.chip.handle_on.Goals as goal

pub returns-in-Answered-clause-handles : goal.returns-in-Answered-clause-handles
returns-in-Answered-clause-handles g c =
    let running = c.args.running.now in
    let later = c.respond-plain.new.running in
    let reaction = c.in-Answered.reaction in
    let r = reacted reaction later.session in
    let said = plain_reply c.respond-plain.new.exchange.reply in
    let was = world (g.C.Coprocessor.seen c.args.copro.now) running.store (g.E.Eeprom.device c.args.cells.now) (g.E.Eeprom.cells c.args.cells.now) in
    let now = world (g.C.Coprocessor.seen c.respond-plain.new.copro) later.store (g.E.Eeprom.device c.respond-plain.new.cells) (g.E.Eeprom.cells c.respond-plain.new.cells) in
    let ends : ended c.respond-plain.result.ending later.session ≡ Answered r c.in-Answered.finished = ap (λ (e : Ending). ended e later.session) c.in-Answered.is in
    let incoming : later.channel ≡ message_in r.rule running.channel =
    c.respond-plain.ensures.channel ∙ ap (λ (e : Ended). message_in (rule_of e) running.channel) ends in
    let written : c.finish.new.exchange.sent.items ≡ _ =
    c.finish.ensures.sent ∙ ap (λ (ch : Option ChannelState). sent_next ch r.rule said) incoming ∙ sent_so running.channel r.rule said in
    let kept : c.finish.new.channel ≡ _ =
    c.finish.ensures.channel
    ∙ ap (λ (ch : Option ChannelState). if ends_session_by r.rule then None else option_or r.opened (message_in r.rule ch)) incoming
    ∙ kept_channel running.channel r.opened r.rule in
    rw (c.finish.ensures.said.0, c.finish.ensures.said.1)
    (handles_answer (powered c.args.chain.now.pending c.args.running.now) c.args.chain.now.pending c.respond-plain.new.chain.pending running c.finish.new.channel c.args.bytes.now _ (ended c.respond-plain.result.ending later.session) r c.in-Answered.finished said c.finish.new.exchange.sent.items was now
    refl c.respond-plain.ensures.responds ends kept written)

pub returns-in-Lost-clause-handles : goal.returns-in-Lost-clause-handles
returns-in-Lost-clause-handles g c =
    let running = c.args.running.now in
    let later = c.respond-plain.new.running in
    let was = world (g.C.Coprocessor.seen c.args.copro.now) running.store (g.E.Eeprom.device c.args.cells.now) (g.E.Eeprom.cells c.args.cells.now) in
    let now = world (g.C.Coprocessor.seen c.respond-plain.new.copro) later.store (g.E.Eeprom.device c.respond-plain.new.cells) (g.E.Eeprom.cells c.respond-plain.new.cells) in
    let ends : ended c.respond-plain.result.ending later.session ≡ Lost c.in-Lost.finished = ap (λ (e : Ending). ended e later.session) c.in-Lost.is in
    handles_loss (powered c.args.chain.now.pending c.args.running.now) c.args.chain.now.pending c.respond-plain.new.chain.pending running None c.args.bytes.now _ (ended c.respond-plain.result.ending later.session) c.in-Lost.finished
    (plain_reply c.respond-plain.new.exchange.reply) was now refl c.respond-plain.ensures.responds ends refl
