-- How each return ends: by the commits that finished, and the comparison of the token.
use Rattle.std.proofs.Common.{◌≡◌, ℕ, ◌+◌, ◌-◌, ◌++◌, List, [], refl, ap, sym, ◌∙◌, subst, arith}
use Rattle.std.specs.Str.{bytes_eq}
use Rattle.eid_apdu.specs.Answer.{plain_reply}
use Rattle.eid_base.specs.declared.codes.Rule.{Rule}
use Rattle.eid_record.specs.Plain.{PlainRecord, Spend, Refill}
use Rattle.eid_record.specs.Effect.{committed}
use Rattle.eid_record.specs.View.{record_view}
use Rattle.eid_tlv.specs.Objects.{object}
use Rattle.eid_pace.specs.Check.{done_by, terminal_token, chip_token}
use Rattle.eid_pace.specs.Rules.{token_rule}
use Rattle.eid_pace.specs.View.{agreed_view, done_view}
use Rattle.eid_model.specs.Answers.{data_alone, previous_name, status_alone}
use Rattle.eid_model.specs.declared.kind.Kind.TheVariants.{MutualAuthentication}
use Rattle.eid_chip.specs.Held.{held}
use Rattle.eid_chip.specs.States.{state}
use Rattle.eid_chip.specs.Steps.{IsEndedByKind, PlainRefusal, at_tokens}
use Rattle.eid_chip.specs.Worlds.{world}
use Rattle.eid_chip.specs.Endings.{Ended, reacted}
use Rattle.eid_chip.proofs.Commits.{has_none, has_more, has_cut, kept_fields}
use Rattle.eid_chip.proofs.HeldFiles.{held_fields}
use Rattle.eid_chip.proofs.PaceSteps.{idle_refused, last_data, token_parts}
use Rattle.eid_chip.proofs.PinSteps.{no_number, spend_cut, pin_was_wrong, refill_cut, pin_was_right, was_wrong}
use Rattle.eid_chip.proofs.pace.prove_pin.Goals as goal

pub returns-then-kept-gt-LAST_NUMBER-clause-ended : goal.returns-then-kept-gt-LAST_NUMBER-clause-ended
returns-then-kept-gt-LAST_NUMBER-clause-ended g c = λ copro channel command begun sends.
    let device = g.E.Eeprom.device in
    let cells = g.E.Eeprom.cells in
    let full = held (cells c.args.cells.now) in
    let kept : full.fields ≡ record_view c.kept.result.now = held_fields c.args.store.now (device c.args.cells.now) (cells c.args.cells.now) c.requires.fits ∙ sym c.kept.ensures in
    let number : full.fields.number ≡ c.kept.result.now.number = ap (λ (r : PlainRecord). r.number) kept in
    let w = world copro c.args.store.now (device c.args.cells.now) (cells c.args.cells.now) in
    subst (λ (e : Ended). IsEndedByKind MutualAuthentication (state (at_tokens c.args.agreed begun c.args.session.now.memory) channel) command [] e (plain_reply c.refused.new.reply) w w) (sym (c.uncommitted.ensures.ended _))
    (no_number c.args.agreed begun c.args.session.now.memory channel command c.args.token.now (reacted c.refused.result c.refused.new.session) (plain_reply c.refused.new.reply) copro c.args.store.now (device c.args.cells.now) (cells c.args.cells.now)
    c.requires.fits sends c.requires.pin (omega (arith, number, c.if-kept-gt-LAST_NUMBER.true)) (ap (λ (r : Rule). r.0) c.refused.ensures.rule) c.refused.ensures.reply
    (c.refused.ensures.left channel ∙ idle_refused 54 54 (at_tokens c.args.agreed begun c.args.session.now.memory) c.args.session.now channel refl refl))

pub returns-in_default-clause-ended : goal.returns-in_default-clause-ended
returns-in_default-clause-ended g c = λ copro channel command begun sends.
    let device = g.E.Eeprom.device in
    let cells = g.E.Eeprom.cells in
    let full = held (cells c.args.cells.now) in
    let kept : full.fields ≡ record_view c.kept.result.now = held_fields c.args.store.now (device c.args.cells.now) (cells c.args.cells.now) c.requires.fits ∙ sym c.kept.ensures in
    let number : full.fields.number ≡ c.kept.result.now.number = ap (λ (r : PlainRecord). r.number) kept in
    let none = has_none c.args.store.now (device c.args.cells.now) (cells c.args.cells.now) c.requires.fits in
    let left = has_cut Spend 0 full (device c.args.cells.now) c.args.store.now (device c.args.cells.now) (device c.commit.new.cells) (cells c.args.cells.now) (cells c.commit.new.cells) c.commit.result c.in_default.field-0 none c.in_default.is c.in_default.ensures.cut c.commit.ensures.cost c.commit.ensures.least c.commit.ensures.most in
    subst (λ (e : Ended). IsEndedByKind MutualAuthentication (state (at_tokens c.args.agreed begun c.args.session.now.memory) channel) command [] e (plain_reply c.lost.new.reply) (world copro c.args.store.now (device c.args.cells.now) (cells c.args.cells.now)) (world copro c.commit.new.self (device c.commit.new.cells) (cells c.commit.new.cells))) (sym (c.lost.ensures.ended _))
    (spend_cut c.args.agreed begun c.args.session.now.memory channel command c.args.token.now (plain_reply c.lost.new.reply) copro c.args.store.now c.commit.new.self (device c.args.cells.now) (device c.commit.new.cells) (cells c.args.cells.now) (cells c.commit.new.cells)
    sends c.requires.pin (omega (arith, number, c.if-kept-gt-LAST_NUMBER.false)) left)

pub returns-in_default-check-clause-ended : goal.returns-in_default-check-clause-ended
returns-in_default-check-clause-ended g c = λ copro channel command begun sends.
    let device = g.E.Eeprom.device in
    let cells = g.E.Eeprom.cells in
    let full = held (cells c.args.cells.now) in
    let kept : full.fields ≡ record_view c.kept.result.now = held_fields c.args.store.now (device c.args.cells.now) (cells c.args.cells.now) c.requires.fits ∙ sym c.kept.ensures in
    let number : full.fields.number ≡ c.kept.result.now.number = ap (λ (r : PlainRecord). r.number) kept in
    let none = has_none c.args.store.now (device c.args.cells.now) (cells c.args.cells.now) c.requires.fits in
    let one = has_more Spend 0 full (device c.args.cells.now) c.args.store.now c.commit.new.self (device c.args.cells.now) (device c.commit.new.cells) (cells c.args.cells.now) (cells c.commit.new.cells) c.commit.result c.in-Ok.receipt none c.in-Ok.is c.in-Ok.ensures.committed c.in-Ok.ensures.fits c.commit.ensures.cost c.commit.ensures.least c.commit.ensures.most in
    let plain = agreed_view c.args.agreed in
    let wrong = was_wrong (bytes_eq c.args.token.now (terminal_token plain)) (done_by plain) (chip_token plain) _ token_rule c.in_default-check.ensures in
    let tries : c.kept-2.result.now.tries ≡ full.fields.tries - 1 = ap (λ (r : PlainRecord). r.tries) (c.kept-2.ensures ∙ kept_fields 1 (committed Spend full) (device c.args.cells.now) c.commit.new.self (device c.commit.new.cells) (cells c.commit.new.cells) one) in
    let status = ap (λ (r : PlainRefusal). status_alone r.status) c.wrong_pin-wrong.ensures ∙ ap (λ (n : ℕ). status_alone (0x63C0 + n)) tries in
    let rule = ap (λ (r : PlainRefusal). r.rule) c.wrong_pin-wrong.ensures in
    let r = c.refused-in_default-check in
    subst (λ (e : Ended). IsEndedByKind MutualAuthentication (state (at_tokens c.args.agreed begun c.args.session.now.memory) channel) command [] e (plain_reply r.new.reply) (world copro c.args.store.now (device c.args.cells.now) (cells c.args.cells.now)) (world copro c.commit.new.self (device c.commit.new.cells) (cells c.commit.new.cells))) (sym (c.committed.ensures.ended _))
    (pin_was_wrong c.args.agreed begun c.args.session.now.memory channel command c.args.token.now (reacted r.result r.new.session) (plain_reply r.new.reply) copro c.args.store.now c.commit.new.self (device c.args.cells.now) (device c.commit.new.cells) (cells c.args.cells.now) (cells c.commit.new.cells)
    sends c.requires.pin (omega (arith, number, c.if-kept-gt-LAST_NUMBER.false)) wrong one (ap (λ (x : Rule). x.0) r.ensures.rule ∙ rule) (r.ensures.reply ∙ status)
    (r.ensures.left channel ∙ idle_refused _ 55 (at_tokens c.args.agreed begun c.args.session.now.memory) c.args.session.now channel rule refl))

pub commit-requires-2-clause-number : goal.commit-requires-2-clause-number
commit-requires-2-clause-number g c =
    let device = g.E.Eeprom.device in
    let cells = g.E.Eeprom.cells in
    let full = held (cells c.args.cells.now) in
    let kept : full.fields ≡ record_view c.kept.result.now = held_fields c.args.store.now (device c.args.cells.now) (cells c.args.cells.now) c.requires.fits ∙ sym c.kept.ensures in
    let number : full.fields.number ≡ c.kept.result.now.number = ap (λ (r : PlainRecord). r.number) kept in
    let none = has_none c.args.store.now (device c.args.cells.now) (cells c.args.cells.now) c.requires.fits in
    let one = has_more Spend 0 full (device c.args.cells.now) c.args.store.now c.commit.new.self (device c.args.cells.now) (device c.commit.new.cells) (cells c.args.cells.now) (cells c.commit.new.cells) c.commit.result c.in-Ok.receipt none c.in-Ok.is c.in-Ok.ensures.committed c.in-Ok.ensures.fits c.commit.ensures.cost c.commit.ensures.least c.commit.ensures.most in
    let after = ap (λ (r : PlainRecord). r.number) (kept_fields 1 (committed Spend full) (device c.args.cells.now) c.commit.new.self (device c.commit.new.cells) (cells c.commit.new.cells) one) in
    omega (arith, number, after, c.if-kept-gt-LAST_NUMBER.false)

pub returns-in_default-commit-clause-ended : goal.returns-in_default-commit-clause-ended
returns-in_default-commit-clause-ended g c = λ copro channel command begun sends.
    let device = g.E.Eeprom.device in
    let cells = g.E.Eeprom.cells in
    let full = held (cells c.args.cells.now) in
    let kept : full.fields ≡ record_view c.kept.result.now = held_fields c.args.store.now (device c.args.cells.now) (cells c.args.cells.now) c.requires.fits ∙ sym c.kept.ensures in
    let number : full.fields.number ≡ c.kept.result.now.number = ap (λ (r : PlainRecord). r.number) kept in
    let none = has_none c.args.store.now (device c.args.cells.now) (cells c.args.cells.now) c.requires.fits in
    let one = has_more Spend 0 full (device c.args.cells.now) c.args.store.now c.commit.new.self (device c.args.cells.now) (device c.commit.new.cells) (cells c.args.cells.now) (cells c.commit.new.cells) c.commit.result c.in-Ok.receipt none c.in-Ok.is c.in-Ok.ensures.committed c.in-Ok.ensures.fits c.commit.ensures.cost c.commit.ensures.least c.commit.ensures.most in
    let plain = agreed_view c.args.agreed in
    let right = token_parts (bytes_eq c.args.token.now (terminal_token plain)) (done_view c.in-Ok-check.given.0) (done_by plain) c.in-Ok-check.given.1 (chip_token plain) token_rule c.in-Ok-check.ensures in
    let left = has_cut Refill 1 (committed Spend full) (device c.args.cells.now) c.commit.new.self (device c.commit.new.cells) (device c.commit-2.new.cells) (cells c.commit.new.cells) (cells c.commit-2.new.cells) c.commit-2.result c.in_default-commit.field-0 one c.in_default-commit.is c.in_default-commit.ensures.cut c.commit-2.ensures.cost c.commit-2.ensures.least c.commit-2.ensures.most in
    let r = c.lost-in_default-commit in
    subst (λ (e : Ended). IsEndedByKind MutualAuthentication (state (at_tokens c.args.agreed begun c.args.session.now.memory) channel) command [] e (plain_reply r.new.reply) (world copro c.args.store.now (device c.args.cells.now) (cells c.args.cells.now)) (world copro c.commit-2.new.self (device c.commit-2.new.cells) (cells c.commit-2.new.cells))) (sym (r.ensures.ended _))
    (refill_cut c.args.agreed begun c.args.session.now.memory channel command c.args.token.now (plain_reply r.new.reply) copro c.args.store.now c.commit-2.new.self (device c.args.cells.now) (device c.commit-2.new.cells) (cells c.args.cells.now) (cells c.commit-2.new.cells)
    sends c.requires.pin (omega (arith, number, c.if-kept-gt-LAST_NUMBER.false)) right.0 left)

pub returns-clause-ended : goal.returns-clause-ended
returns-clause-ended g c = λ copro channel command begun sends.
    let device = g.E.Eeprom.device in
    let cells = g.E.Eeprom.cells in
    let full = held (cells c.args.cells.now) in
    let kept : full.fields ≡ record_view c.kept.result.now = held_fields c.args.store.now (device c.args.cells.now) (cells c.args.cells.now) c.requires.fits ∙ sym c.kept.ensures in
    let number : full.fields.number ≡ c.kept.result.now.number = ap (λ (r : PlainRecord). r.number) kept in
    let none = has_none c.args.store.now (device c.args.cells.now) (cells c.args.cells.now) c.requires.fits in
    let one = has_more Spend 0 full (device c.args.cells.now) c.args.store.now c.commit.new.self (device c.args.cells.now) (device c.commit.new.cells) (cells c.args.cells.now) (cells c.commit.new.cells) c.commit.result c.in-Ok.receipt none c.in-Ok.is c.in-Ok.ensures.committed c.in-Ok.ensures.fits c.commit.ensures.cost c.commit.ensures.least c.commit.ensures.most in
    let plain = agreed_view c.args.agreed in
    let right = token_parts (bytes_eq c.args.token.now (terminal_token plain)) (done_view c.in-Ok-check.given.0) (done_by plain) c.in-Ok-check.given.1 (chip_token plain) token_rule c.in-Ok-check.ensures in
    let two = has_more Refill 1 (committed Spend full) (device c.args.cells.now) c.commit.new.self c.commit-2.new.self (device c.commit.new.cells) (device c.commit-2.new.cells) (cells c.commit.new.cells) (cells c.commit-2.new.cells) c.commit-2.result c.in-Ok-commit.field-0 one c.in-Ok-commit.is c.in-Ok-commit.ensures.committed c.in-Ok-commit.ensures.fits c.commit-2.ensures.cost c.commit-2.ensures.least c.commit-2.ensures.most in
    let fields = c.kept-3.ensures ∙ kept_fields 2 (committed Refill (committed Spend full)) (device c.args.cells.now) c.commit-2.new.self (device c.commit-2.new.cells) (cells c.commit-2.new.cells) two in
    let own = c.in-Ok-check.given.1 in
    let said = c.accept.ensures.reply ∙ ap (λ (r : PlainRecord). data_alone (object 0x7C (object 0x86 own ++ object 0x87 r.current.name ++ previous_name r.previous))) fields ∙ ap (λ (o : List ℕ). data_alone (last_data full o)) right.2 in
    subst (λ (e : Ended). IsEndedByKind MutualAuthentication (state (at_tokens c.args.agreed begun c.args.session.now.memory) channel) command [] e (plain_reply c.accept.new.reply) (world copro c.args.store.now (device c.args.cells.now) (cells c.args.cells.now)) (world copro c.commit-2.new.self (device c.commit-2.new.cells) (cells c.commit-2.new.cells))) (sym (c.committed-2.ensures.ended _))
    (pin_was_right c.args.agreed begun c.args.session.now.memory channel command c.args.token.now (done_view c.in-Ok-check.given.0) (reacted c.accept.result c.accept.new.session) (plain_reply c.accept.new.reply) copro c.args.store.now c.commit-2.new.self (device c.args.cells.now) (device c.commit-2.new.cells) (cells c.args.cells.now) (cells c.commit-2.new.cells)
    sends c.requires.pin (omega (arith, number, c.if-kept-gt-LAST_NUMBER.false)) right.0 two right.1 c.accept.ensures.rule said (c.accept.ensures.left channel))
