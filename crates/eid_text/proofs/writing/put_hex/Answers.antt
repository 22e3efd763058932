use Rattle.std.proofs.Common.{ℕ, ◌%◌, ◌<◌, List, [], ◌∷◌, ◌++◌, length, get_or, slice_index, ap, ◌∙◌, arith}
use Rattle.hex.specs.Hex.{lower_digits}
use Rattle.eid_text.proofs.Encoding.{encode_more, encode_none}
use Rattle.eid_text.proofs.writing.put_hex.Goals as goal

pub loop-byte-init : goal.loop-byte-init
loop-byte-init c = record {
  room = omega (arith, c.in_ok-reserve.ensures.ok);
  written = encode_none c.reserve.new.self.items;
}

pub loop-byte-preserved : goal.loop-byte-preserved
loop-byte-preserved c =
    let within : c.loop-byte.byte-index < length c.args.bytes.now = c.loop-byte-test.true in
    let e = encode_more c.reserve.new.self.items c.loop-byte.out.items c.args.bytes.now c.loop-byte.byte-index within c.loop-byte.invariant.written in
    let byte = get_or c.args.bytes.now c.loop-byte.byte-index 0 in
    let digit : ℕ → List ℕ = λ n. slice_index lower_digits n ∷ [] in
    record {
      room = omega (arith, c.loop-byte.invariant.room, c.push_reserved.ensures.len, c.push_reserved.ensures.capacity, c.push_reserved-in-loop-byte.ensures.len, c.push_reserved-in-loop-byte.ensures.capacity);
      written =
          c.push_reserved-in-loop-byte.ensures.items ∙ ap (λ (n : ℕ). c.push_reserved.new.self.items ++ digit n) c.from-in-loop-byte.ensures
          ∙ ap (λ (t : List ℕ). t ++ digit (byte % 16)) (c.push_reserved.ensures.items ∙ ap (λ (n : ℕ). c.loop-byte.out.items ++ digit n) c.from.ensures) ∙ e;
    }
