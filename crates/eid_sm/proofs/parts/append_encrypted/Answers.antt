use Rattle.std.proofs.Common.{◌+◌, ◌<◌, ◌++◌, length, ap, ◌∙◌, arith, length-append}
use Rattle.eid_sm.specs.Parts.{encrypted_object}
use Rattle.eid_sm.proofs.PartFacts.{some_bytes}
use Rattle.eid_sm.proofs.Lengths.{length-encrypted_object}
use Rattle.eid_sm.proofs.EncryptedFacts.{encrypted_in_parts}
use Rattle.eid_sm.proofs.parts.append_encrypted.Goals as goal

pub returns-clause-items : goal.returns-clause-items
returns-clause-items g c =
    let first = rw c.unwrap.ensures at c.try_extend_from_slice.ensures.ok in
    let some : 0 < length c.args.plain.now = some_bytes c.args.plain.now c.if-is_empty.ensures in
    encrypted_in_parts c.args.enc.now c.args.count.now c.args.plain.now c.args.out.now.items c.head.result.items c.try_extend_from_slice.new.self.items c.push.new.self.items
    c.append_cryptogram.new.out.items _ some c.head.ensures (ap (λ p. 1 + length c.args.plain.now + length p) c.padding.ensures)
    (first ∙ ap (λ s. c.args.out.now.items ++ s) c.deref.ensures.0) c.push.ensures.items c.append_cryptogram.ensures

pub returns-clause-size : goal.returns-clause-size
returns-clause-size g c =
    let items = returns-clause-items g c in
    let long = ap length items ∙ length-append c.args.out.now.items (encrypted_object c.args.enc.now c.args.count.now c.args.plain.now) in
    omega (arith, long, length-encrypted_object c.args.enc.now c.args.count.now c.args.plain.now)
