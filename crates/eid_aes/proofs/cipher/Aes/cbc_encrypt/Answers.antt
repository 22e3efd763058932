use Rattle.std.proofs.Common.{◌≡◌, ◌+◌, ◌-◌, ◌*◌, length, arith, refl, ap, ◌∙◌}
use Rattle.std.proofs.Math.Nat.{sub-zero}
use Rattle.eid_aes.specs.Cipher.{cipher}
use Rattle.eid_aes.specs.Cbc.{cbc_encrypted}
use Rattle.eid_aes.proofs.Chaining.{xor_block_comm, written, encrypted_more, encrypted_all}
use Rattle.eid_aes.proofs.cipher.Aes.cbc_encrypt.Goals as goal

pub loop-i-init : goal.loop-i-init
unfolding cbc_encrypted
loop-i-init g c = record { size = refl; chain = c.told-iv; rest = refl; done = rw sub-zero refl }

pub loop-i-preserved : goal.loop-i-preserved
loop-i-preserved g c =
    let place : 16 * (c.loop-i.i + 1) ≡ 16 * c.loop-i.i + 16 = omega arith in
    let size : length c.encrypt.new.block ≡ 16 = omega arith in
    let wide : 16 * c.loop-i.i + 16 - 16 * c.loop-i.i ≡ 16 = omega arith in
    let added = rw (wide, c.loop-i.invariant.rest) at c.add_block.ensures in
    let copied : length c.copy_from_slice.new.self ≡ 16 = omega arith in
    rw place (record {
      size = omega arith;
      chain = size;
      rest = written (16 * c.loop-i.i) _ c.loop-i.bytes c.args.bytes.now c.copy_from_slice.new.self (omega arith) copied (omega arith) c.loop-i.invariant.rest;
      done = rw c.copy_from_slice.ensures.after
          (encrypted_more c.args.self.now c.loop-i.chain c.args.bytes.now c.loop-i.bytes c.encrypt.new.block _ c.loop-i.i _ (16 * c.loop-i.i) _ (omega arith) refl (omega arith) (omega arith) size c.loop-i.invariant.done
          (c.encrypt.ensures ∙ ap (cipher c.args.self.now) (added ∙ xor_block_comm c.loop-i.chain _)));
    })

pub returns : goal.returns
returns g c = encrypted_all c.args.self.now c.loop-i.chain _ c.loop-i.bytes _ _ (16 * c.loop-i.i) (omega arith) (omega arith) c.loop-i.invariant.done
