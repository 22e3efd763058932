-- How each return ends: by the commit number, and by whether the commit was cut.
use Rattle.std.proofs.Common.{◌≡◌, refl, ap, sym, ◌∙◌, subst, arith}
use Rattle.eid_apdu.specs.Answer.{plain_reply}
use Rattle.eid_base.specs.declared.codes.Rule.{Rule}
use Rattle.eid_record.specs.Plain.{PlainRecord}
use Rattle.eid_record.specs.EffectView.{effect_view}
use Rattle.eid_chip.specs.Held.{held}
use Rattle.eid_chip.specs.States.{state}
use Rattle.eid_chip.specs.Steps.{IsEndedByKind}
use Rattle.eid_chip.specs.Worlds.{World, world}
use Rattle.eid_copro.specs.Seen.{CoproSeen}
use Rattle.eid_chip.specs.Endings.{Ended, reacted}
use Rattle.eid_chip.proofs.Commits.{has_none, has_more, has_cut}
use Rattle.eid_chip.proofs.HeldFiles.{held_fields}
use Rattle.eid_chip.proofs.PinSteps.{one_over, one_cut, one_committed}
use Rattle.eid_chip.proofs.pin.commit_one.Goals as goal

pub returns-then-kept-gt-LAST_NUMBER-clause-ended : goal.returns-then-kept-gt-LAST_NUMBER-clause-ended
returns-then-kept-gt-LAST_NUMBER-clause-ended g c = λ before after channel kind command asks one.
    let device = g.E.Eeprom.device in
    let cells = g.E.Eeprom.cells in
    let full = held (cells c.args.cells.now) in
    let number : full.fields.number ≡ c.kept.result.now.number = ap (λ (r : PlainRecord). r.number) (held_fields c.args.store.now (device c.args.cells.now) (cells c.args.cells.now) c.requires.fits ∙ sym c.kept.ensures) in
    let w : CoproSeen → World = λ copro. world copro c.args.store.now (device c.args.cells.now) (cells c.args.cells.now) in
    let said = plain_reply c.refused.new.reply in
    subst (λ (e : Ended). IsEndedByKind kind (state c.args.session.now channel) command asks e said (w before) (w after)) (sym (c.uncommitted.ensures.ended _))
    (one_over kind c.args.session.now channel command asks (effect_view c.args.effect.now) c.args.change (reacted c.refused.result c.refused.new.session) said before after c.args.store.now (device c.args.cells.now) (cells c.args.cells.now)
    c.requires.fits one (omega (arith, number, c.if-kept-gt-LAST_NUMBER.true)) (ap (λ (r : Rule). r.0) c.refused.ensures.rule) c.refused.ensures.reply (c.refused.ensures.left channel))

pub returns-in_default-clause-ended : goal.returns-in_default-clause-ended
returns-in_default-clause-ended g c = λ before after channel kind command asks one.
    let device = g.E.Eeprom.device in
    let cells = g.E.Eeprom.cells in
    let full = held (cells c.args.cells.now) in
    let number : full.fields.number ≡ c.kept.result.now.number = ap (λ (r : PlainRecord). r.number) (held_fields c.args.store.now (device c.args.cells.now) (cells c.args.cells.now) c.requires.fits ∙ sym c.kept.ensures) in
    let effect = effect_view c.args.effect.now in
    let left = has_cut effect 0 full (device c.args.cells.now) c.args.store.now (device c.args.cells.now) (device c.commit.new.cells) (cells c.args.cells.now) (cells c.commit.new.cells) c.commit.result c.in_default.field-0 (has_none c.args.store.now (device c.args.cells.now) (cells c.args.cells.now) c.requires.fits) c.in_default.is c.in_default.ensures.cut c.commit.ensures.cost c.commit.ensures.least c.commit.ensures.most in
    let said = plain_reply c.lost.new.reply in
    subst (λ (e : Ended). IsEndedByKind kind (state c.args.session.now channel) command asks e said (world before c.args.store.now (device c.args.cells.now) (cells c.args.cells.now)) (world after c.commit.new.self (device c.commit.new.cells) (cells c.commit.new.cells))) (sym (c.lost.ensures.ended _))
    (one_cut kind c.args.session.now channel command asks effect c.args.change said before after c.args.store.now c.commit.new.self (device c.args.cells.now) (device c.commit.new.cells) (cells c.args.cells.now) (cells c.commit.new.cells)
    one (omega (arith, number, c.if-kept-gt-LAST_NUMBER.false)) left)

pub returns-clause-ended : goal.returns-clause-ended
returns-clause-ended g c = λ before after channel kind command asks one.
    let device = g.E.Eeprom.device in
    let cells = g.E.Eeprom.cells in
    let full = held (cells c.args.cells.now) in
    let number : full.fields.number ≡ c.kept.result.now.number = ap (λ (r : PlainRecord). r.number) (held_fields c.args.store.now (device c.args.cells.now) (cells c.args.cells.now) c.requires.fits ∙ sym c.kept.ensures) in
    let effect = effect_view c.args.effect.now in
    let has = has_more effect 0 full (device c.args.cells.now) c.args.store.now c.commit.new.self (device c.args.cells.now) (device c.commit.new.cells) (cells c.args.cells.now) (cells c.commit.new.cells) c.commit.result c.in-Ok.field-0 (has_none c.args.store.now (device c.args.cells.now) (cells c.args.cells.now) c.requires.fits) c.in-Ok.is c.in-Ok.ensures.committed c.in-Ok.ensures.fits c.commit.ensures.cost c.commit.ensures.least c.commit.ensures.most in
    let said = plain_reply c.carried_out.new.reply in
    let did = c.carried_out.ensures.did in
    subst (λ (e : Ended). IsEndedByKind kind (state c.args.session.now channel) command asks e said (world before c.args.store.now (device c.args.cells.now) (cells c.args.cells.now)) (world after c.commit.new.self (device c.commit.new.cells) (cells c.commit.new.cells))) (sym (c.committed.ensures.ended _))
    (one_committed kind c.args.session.now c.leave.new.self channel command asks effect c.args.change (reacted c.carried_out.result c.leave.new.self) said before after c.args.store.now c.commit.new.self (device c.args.cells.now) (device c.commit.new.cells) (cells c.args.cells.now) (cells c.commit.new.cells)
    one (omega (arith, number, c.if-kept-gt-LAST_NUMBER.false)) has did.0 did.1 refl did.2 c.leave.ensures.left)
