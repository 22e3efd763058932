use Rattle.std.proofs.Common.{◌≡◌, ℕ, ◌*◌, ◌%◌, ◌^◌, ◌<◌, List, refl, sym, ap, ◌∙◌}
use Rattle.std.proofs.lemmas.Bool.{lt-ltb}
use Rattle.std.specs.Int.{w128, from_be_bytes, to_be_bytes}
use Rattle.eid_cmac.specs.Cmac.{doubled, doubled_number}
use Rattle.eid_cmac.proofs.mac.doubled.Goals as goal

doubled_below : (n : ℕ) → n < 2 ^ 127 → doubled_number n ≡ n * 2 % 2 ^ 128
doubled_below n h = rw (lt-ltb n (2 ^ 127) h) refl

doubled_bytes : (block bytes : List ℕ) (n : ℕ) → n ≡ from_be_bytes w128 block → n < 2 ^ 127 → bytes ≡ to_be_bytes w128 (n * 2 % 2 ^ 128) → bytes ≡ doubled block
unfolding doubled
doubled_bytes block bytes n en h eb = eb ∙ ap (to_be_bytes w128) (sym (doubled_below n h) ∙ ap doubled_number en)

pub returns-then-number : goal.returns-then-number
returns-then-number c = doubled_bytes c.args.block _ c.from_be_bytes-number.result c.from_be_bytes-number.ensures c.if-number.true c.to_be_bytes.ensures
