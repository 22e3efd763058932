-- The rounds, one after the other.
use Rattle.std.proofs.Common.{◌≡◌, ℕ, zero, suc, ◌+◌, ◌-◌, ◌*◌, ◌<◌, ◌≤◌, List, length, take, refl, slice_index, arith}
use Rattle.std.proofs.lemmas.List.{get_or-take, length-take-le}
use Rattle.eid_aes.specs.Cipher.{IsBlock, rounds_of, key_of, IsSchedule, sub_bytes, inv_sub_bytes, shift_rows, inv_shift_rows, mix_columns, inv_mix_columns, round_key, add_round_key, after_rounds, before_rounds, cipher_rounds, inv_cipher_rounds, key_expansion, cipher, inv_cipher}
use Rattle.eid_aes.proofs.BlockFacts.{same_places}
use Rattle.eid_aes.proofs.ScheduleFacts.{key_expansion-bytes}
use Rattle.eid_aes.proofs.Undone.{inv_cipher_rounds-cipher_rounds, cipher_rounds-inv_cipher_rounds, cipher_rounds-block, inv_cipher_rounds-block}

pub after_rounds_none : (w block : List ℕ) → after_rounds w 0 block ≡ add_round_key w 0 block
unfolding after_rounds
after_rounds_none w block = refl

pub after_rounds_more : (w block : List ℕ) (n : ℕ) → 0 < n → after_rounds w (n + 1 - 1) block ≡ add_round_key w n (mix_columns (shift_rows (sub_bytes (after_rounds w (n - 1) block))))
unfolding after_rounds
after_rounds_more w block n some =
    let e : n + 1 - 1 ≡ suc (n - 1) = omega arith in
    let m : suc (n - 1) ≡ n = omega arith in
    rw e (rw m refl)

-- a round key within the part of the expanded key that is taken
pub round_key-take : (n r : ℕ) (w : List ℕ) → 16 * r + 16 ≤ n → round_key (take n w) r ≡ round_key w r
unfolding round_key
round_key-take n r w fits = same_places _ _ (λ k h. get_or-take n w (16 * r + k) 0 (omega arith))

pub after_rounds-take : (n r : ℕ) (w block : List ℕ) → 16 * r + 16 ≤ n → after_rounds (take n w) r block ≡ after_rounds w r block
unfolding after_rounds
after_rounds-take n zero w block fits = rw (round_key-take n 0 w fits) refl
after_rounds-take n (suc r) w block fits = rw (round_key-take n (suc r) w fits, after_rounds-take n r w block (omega arith)) refl

pub before_rounds-take : (n r : ℕ) (w s : List ℕ) → 16 * r + 16 ≤ n → before_rounds (take n w) r s ≡ before_rounds w r s
unfolding before_rounds
before_rounds-take n zero w s fits = rw (round_key-take n 0 w fits) refl
before_rounds-take n (suc r) w s fits = rw (round_key-take n (suc r) w fits) (before_rounds-take n r w _ (omega arith))

rounds_of_schedule : (w : List ℕ) (rounds : ℕ) → IsSchedule rounds w → rounds_of (key_of rounds w) ≡ rounds
rounds_of_schedule w rounds s =
    let l : length (take (4 * (rounds - 6)) w) ≡ 4 * (rounds - 6) = length-take-le (4 * (rounds - 6)) w (omega arith) in
    rw l (omega arith)

-- the cipher by an expanded key with bytes after it
pub cipher_is : (key w block : List ℕ) (rounds : ℕ) → IsSchedule rounds w → key_of rounds w ≡ key
    → cipher key block ≡ add_round_key w rounds (shift_rows (sub_bytes (after_rounds w (rounds - 1) block)))
unfolding cipher cipher_rounds
cipher_is key w block rounds s e =
    rw (← e, rounds_of_schedule w rounds s, ← s.made, round_key-take (16 * (rounds + 1)) rounds w (omega arith), after_rounds-take (16 * (rounds + 1)) (rounds - 1) w block (omega arith)) refl

pub inv_cipher_is : (key w block : List ℕ) (rounds : ℕ) → IsSchedule rounds w → key_of rounds w ≡ key
    → inv_cipher key block ≡ before_rounds w (rounds - 1) (inv_sub_bytes (inv_shift_rows (add_round_key w rounds block)))
unfolding inv_cipher inv_cipher_rounds
inv_cipher_is key w block rounds s e =
    rw (← e, rounds_of_schedule w rounds s, ← s.made, round_key-take (16 * (rounds + 1)) rounds w (omega arith)) (before_rounds-take (16 * (rounds + 1)) (rounds - 1) w _ (omega arith))

-- a round undone
pub before_rounds_less : (w s : List ℕ) (n : ℕ) → 0 < n → before_rounds w n s ≡ before_rounds w (n - 1) (inv_sub_bytes (inv_shift_rows (inv_mix_columns (add_round_key w n s))))
unfolding before_rounds
before_rounds_less w s zero some = absurd (omega arith)
before_rounds_less w s (suc n) some =
    let e : suc n - 1 ≡ n = omega arith in
    rw e refl

pub before_rounds_none : (w s : List ℕ) → before_rounds w 0 s ≡ add_round_key w 0 s
unfolding before_rounds
before_rounds_none w s = refl

-- a cipher and its inverse under one key
pub record IsPair (key : List ℕ) : Type 0 where
  pub undone : (block : List ℕ) → IsBlock block → inv_cipher key (cipher key block) ≡ block
  pub redone : (block : List ℕ) → IsBlock block → cipher key (inv_cipher key block) ≡ block
  pub block_of : (block : List ℕ) → IsBlock block → IsBlock (cipher key block)
  pub inv_block_of : (block : List ℕ) → IsBlock block → IsBlock (inv_cipher key block)

pub pair_of : (w key : List ℕ) (rounds : ℕ) → IsSchedule rounds w → key_of rounds w ≡ key → IsPair key
unfolding cipher inv_cipher
pair_of w key rounds s e =
    let bytes : (i : ℕ) → slice_index (key_expansion key) i < 256 = key_expansion-bytes key (rw (← e) s.bytes) in record {
      undone = λ block b. inv_cipher_rounds-cipher_rounds (key_expansion key) block (rounds_of key) bytes b;
      redone = λ block b. cipher_rounds-inv_cipher_rounds (key_expansion key) block (rounds_of key) bytes b;
      block_of = λ block b. cipher_rounds-block (key_expansion key) block (rounds_of key) bytes b;
      inv_block_of = λ block b. inv_cipher_rounds-block (key_expansion key) block (rounds_of key) bytes b;
    }
