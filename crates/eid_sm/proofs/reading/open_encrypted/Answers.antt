use Rattle.std.proofs.Common.{◌≡◌, List, ℕ, ◌∷◌, length, refl, ap, ◌∙◌, sym, arith}
use Rattle.eid_tlv.specs.Objects.{object}
use Rattle.eid_tlv.proofs.Sizes.{object_size}
use Rattle.eid_sm.specs.Parts.{cryptogram}
use Rattle.eid_sm.proofs.PartFacts.{not_empty, empty, encrypted_nothing, nothing_encrypted, encrypted_some, some_encrypted, opened_object}
use Rattle.eid_sm.proofs.reading.open_encrypted.Goals as goal

pub returns-then-is_empty-clause-found : goal.returns-then-is_empty-clause-found
returns-then-is_empty-clause-found g c =
    empty c.args.bytes.now c.if-is_empty.ensures ∙ rw c.clear.ensures (sym (encrypted_nothing c.args.enc.now c.args.count.now))

pub returns-then-is_empty-clause-only : goal.returns-then-is_empty-clause-only
returns-then-is_empty-clause-only g c = λ p octets e.
    (refl, c.clear.ensures ∙ sym (nothing_encrypted c.args.enc.now c.args.count.now p (sym e ∙ empty c.args.bytes.now c.if-is_empty.ensures)))

pub returns-in_default-clause-only : goal.returns-in_default-clause-only
returns-in_default-clause-only g c = λ p octets e.
    let some = some_encrypted c.args.enc.now c.args.count.now p c.args.bytes.now e (not_empty c.args.bytes.now c.if-is_empty.ensures) in
    absurd (c.in_default.ensures.only (cryptogram c.args.enc.now c.args.count.now p) (e ∙ encrypted_some c.args.enc.now c.args.count.now p some))

pub open_cryptogram-requires : goal.open_cryptogram-requires
open_cryptogram-requires g c =
    let inner : List ℕ = c.in-Some.cryptogram.now in
    let size : length c.args.bytes.now ≡ length (object 0x87 (0x01 ∷ inner)) = ap length c.in-Some.ensures.found in
    omega (arith, object_size 0x87 (0x01 ∷ inner), c.requires)

pub returns-clause-found : goal.returns-clause-found
returns-clause-found g c =
    opened_object c.args.enc.now c.args.count.now c.args.bytes.now c.in-Some.cryptogram.now c.open_cryptogram.new.plain.items c.open_cryptogram.result c.in-Some.ensures.found c.open_cryptogram.ensures.found

pub returns-clause-only : goal.returns-clause-only
returns-clause-only g c = λ p octets e.
    let some = some_encrypted c.args.enc.now c.args.count.now p c.args.bytes.now e (not_empty c.args.bytes.now c.if-is_empty.ensures) in
    let inner = c.in-Some.ensures.only (cryptogram c.args.enc.now c.args.count.now p) (e ∙ encrypted_some c.args.enc.now c.args.count.now p some) in
    c.open_cryptogram.ensures.only p octets some inner
