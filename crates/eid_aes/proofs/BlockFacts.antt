-- Blocks by their places.
use Rattle.std.proofs.Common.{◌≡◌, ℕ, ◌+◌, ◌*◌, ◌<◌, List, length, map, refl, sym, ap, ◌∙◌, get_or, bit_xor, arith}
use Rattle.std.proofs.lemmas.Grind.{same_number_lists}
use Rattle.eid_aes.specs.Cipher.{places, inv_sub_bytes, xor_block, round_key}
use Rattle.eid_aes.specs.Field.{inv_sub}
use Rattle.eid_aes.proofs.TableFacts.{get_or-map_from}

-- what stands at a place of a block that is given by its places
pub at_place : (f : ℕ → ℕ) (k : ℕ) → k < 16 → get_or (map f places) k 0 ≡ f k
at_place f k h = get_or-map_from f 0 16 k h ∙ ap f (omega arith)

-- 16 numbers are given by their places
pub by_places : (f : ℕ → ℕ) (s : List ℕ) → length s ≡ 16 → ((k : ℕ) → k < 16 → get_or s k 0 ≡ f k) → s ≡ map f places
by_places f s len each = same_number_lists s (map f places) len (λ k h. each k (omega arith) ∙ sym (at_place f k (omega arith)))

pub same_places : (f g : ℕ → ℕ) → ((k : ℕ) → k < 16 → f k ≡ g k) → map f places ≡ map g places
same_places f g each = by_places g (map f places) refl (λ k h. at_place f k h ∙ each k h)

pub inv_sub_bytes_by_places : (s t : List ℕ) → length t ≡ 16 → ((k : ℕ) → k < 16 → get_or t k 0 ≡ inv_sub (get_or s k 0)) → t ≡ inv_sub_bytes s
unfolding inv_sub_bytes
inv_sub_bytes_by_places s t len each = by_places _ t len each

pub xor_block_by_places : (a b t : List ℕ) → length t ≡ 16 → ((k : ℕ) → k < 16 → get_or t k 0 ≡ bit_xor (get_or a k 0) (get_or b k 0)) → t ≡ xor_block a b
unfolding xor_block
xor_block_by_places a b t len each = by_places _ t len each

pub add_round_key_by_places : (s w t : List ℕ) (r : ℕ) → length t ≡ 16 → ((k : ℕ) → k < 16 → get_or t k 0 ≡ bit_xor (get_or s k 0) (get_or w (16 * r + k) 0)) → t ≡ xor_block s (round_key w r)
unfolding xor_block round_key
add_round_key_by_places s w t r len each = by_places _ t len (λ k h. each k h ∙ ap (λ (n : ℕ). bit_xor (get_or s k 0) n) (sym (at_place (λ i. get_or w (16 * r + i) 0) k h)))
