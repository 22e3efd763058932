use Rattle.std.proofs.Common.{◌≡◌, ℕ, ◌+◌, ◌*◌, List, length, take, arith, refl, ap, ◌∙◌}
use Rattle.std.proofs.Math.Nat.{sub-zero}
use Rattle.eid_aes.specs.Cipher.{IsBlock, xor_block}
use Rattle.eid_aes.specs.Cbc.{AreBlocks, cbc_encrypted, cbc_decrypted}
use Rattle.eid_aes.proofs.Chaining.{written, decrypted_more, decrypted_all, cbc_undone, cbc_redone}
use Rattle.eid_aes.proofs.RoundFacts.{pair_of}
use Rattle.eid_aes.proofs.cipher.Aes.cbc_decrypt.Goals as goal

pub loop-i-init : goal.loop-i-init
unfolding cbc_decrypted
loop-i-init g c = record { size = refl; each = λ k. (let h = c.type_inv.bytes k in omega arith); chain = c.told-iv; rest = refl; done = rw sub-zero refl }

pub loop-i-preserved : goal.loop-i-preserved
loop-i-preserved g c =
    let place : 16 * (c.loop-i.i + 1) ≡ 16 * c.loop-i.i + 16 = omega arith in
    let size : length c.copy_from_slice.new.self ≡ 16 = omega arith in
    rw place (record {
      size = omega arith;
      each = c.loop-i.invariant.each;
      chain = omega arith;
      rest = written (16 * c.loop-i.i) _ c.loop-i.bytes c.args.bytes.now c.copy_from_slice.new.self (omega arith) size (omega arith) c.loop-i.invariant.rest;
      done = decrypted_more c.args.self.now c.loop-i.chain c.args.bytes.now c.loop-i.bytes c.block_at-cryptogram.result c.copy_from_slice.new.self _ c.loop-i.i _ (16 * c.loop-i.i) _ (omega arith) refl (omega arith) (omega arith) size c.loop-i.invariant.done
          (c.block_at-cryptogram.ensures ∙ ap (λ (l : List ℕ). take 16 l) c.loop-i.invariant.rest) (c.copy_from_slice.ensures.after ∙ c.add_block.ensures ∙ ap (λ (l : List ℕ). xor_block l c.loop-i.chain) c.decrypt.ensures.value);
    })

pub returns-clause-value : goal.returns-clause-value
returns-clause-value g c = decrypted_all c.args.self.now c.loop-i.chain _ c.loop-i.bytes _ _ (16 * c.loop-i.i) (omega arith) (omega arith) c.loop-i.invariant.done

pub returns-clause-undone : goal.returns-clause-undone
returns-clause-undone g c = λ plain whole e.
    let pair = pair_of c.self.inside.schedule c.args.self.now g.row.ROUNDS c.self.invariant c.self.view_is in
    let v : IsBlock c.args.iv.now = record { size = c.told-iv; bytes = c.fits-iv } in
    returns-clause-value g c ∙ ap (cbc_decrypted c.args.self.now c.args.iv.now) e ∙ cbc_undone c.args.self.now c.args.iv.now plain pair v whole

pub returns-clause-again : goal.returns-clause-again
returns-clause-again g c =
    let pair = pair_of c.self.inside.schedule c.args.self.now g.row.ROUNDS c.self.invariant c.self.view_is in
    let v : IsBlock c.args.iv.now = record { size = c.told-iv; bytes = c.fits-iv } in
    let whole : AreBlocks c.args.bytes.now = record { size = c.requires; bytes_each = c.loop-i.invariant.each } in
    ap (cbc_encrypted c.args.self.now c.args.iv.now) (returns-clause-value g c) ∙ cbc_redone c.args.self.now c.args.iv.now c.args.bytes.now pair v whole
