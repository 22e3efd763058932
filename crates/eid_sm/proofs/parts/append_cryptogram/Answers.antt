use Rattle.std.proofs.Common.{◌++◌, ◌∙◌, ap}
use Rattle.eid_sm.proofs.EncryptedFacts.{cryptogram_written}
use Rattle.eid_sm.proofs.parts.append_cryptogram.Goals as goal

pub returns : goal.returns
returns g c =
    let first = rw c.unwrap.ensures at c.try_extend_from_slice.ensures.ok in
    let second = rw c.unwrap-2.ensures at c.try_extend_from_slice-2.ensures.ok in
    cryptogram_written c.args.enc.now c.args.count.now c.args.out.now.items c.args.plain.now c.padding.result.now c.try_extend_from_slice-2.new.self.items
    c.encrypt_from.new.bytes c.len-at.result (second ∙ ap (λ s. s ++ c.padding.result.now) first) c.len-at.ensures.value c.padding.ensures
    (rw (c.encrypt.ensures, c.as_mut_slice.ensures.value) at c.encrypt_from.ensures)
