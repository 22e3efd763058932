use Rattle.std.proofs.Common.{◌∙◌}
use Rattle.eid_sm.proofs.Opening.{no_cryptogram, decrypted, opened, opened_only}
use Rattle.eid_sm.proofs.reading.open_cryptogram.Goals as goal

pub returns-then-bytes-ne0-clause-only : goal.returns-then-bytes-ne0-clause-only
returns-then-bytes-ne0-clause-only g c = λ p octets some e.
    absurd (no_cryptogram c.args.enc.now c.args.count.now c.args.bytes.now p c.if-bytes-ne0.true e)

pub returns-in_default-clause-only : goal.returns-in_default-clause-only
returns-in_default-clause-only g c = λ p octets some e.
    let plain = decrypted c.args.enc.now c.args.count.now c.args.bytes.now c.decrypt.new.plain.items p c.decrypt.ensures.undone octets e in
    absurd (c.in_default.not-Some _ (c.unpadded.ensures.only p (c.as_slice.ensures.value ∙ plain)))

pub returns-clause-found : goal.returns-clause-found
returns-clause-found g c =
    let value = c.as_slice.ensures.value in
    opened c.args.enc.now c.args.count.now c.args.bytes.now c.decrypt.new.plain.items c.truncate.new.self.items c.in-Some.size c.decrypt.ensures.again
    (rw value at c.in-Some.ensures.found) (rw value at c.in-Some.ensures.within) c.truncate.ensures.items

pub returns-clause-only : goal.returns-clause-only
returns-clause-only g c = λ p octets some e.
    let plain = decrypted c.args.enc.now c.args.count.now c.args.bytes.now c.decrypt.new.plain.items p c.decrypt.ensures.undone octets e in
    opened_only c.decrypt.new.plain.items c.truncate.new.self.items p c.in-Some.size plain (c.in-Some.ensures.only p (c.as_slice.ensures.value ∙ plain)) c.truncate.ensures.items some
