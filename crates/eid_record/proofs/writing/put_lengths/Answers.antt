use Rattle.std.proofs.Common.{◌≡◌, ℕ, ◌+◌, ◌<◌, List, [], ◌∷◌, ◌++◌, length, take, get_or, None, refl, sym, ap, ◌∙◌, arith}
use Rattle.std.specs.List.{flat_map}
use Rattle.std.proofs.lemmas.List.{take_more, length-take, append-nil}
use Rattle.std.proofs.lemmas.List.Concat.{flat_map-append}
use Rattle.eid_record.specs.Layout.{replaced, length_bytes}
use Rattle.eid_record.proofs.Replaced.{replaced_more, replaced_nothing, length-lengths}
use Rattle.eid_record.proofs.writing.put_lengths.Goals as goal

pub loop-length-init : goal.loop-length-init
loop-length-init c = record { written = sym (replaced_nothing 384 c.args.fixed.now); at = refl }

pub loop-length-preserved : goal.loop-length-preserved
loop-length-preserved c =
    let i = c.loop-length.length-index in
    let ns = c.args.lengths.now in
    let n = get_or ns i None in
    let so_far = flat_map length_bytes (take i ns) in
    let in_range : i < length ns = omega (arith, c.told-lengths, c.loop-length-test.true) in
    let one_more : flat_map length_bytes (take (i + 1) ns) ≡ so_far ++ length_bytes n =
    ap (flat_map length_bytes) (take_more ns i None in_range) ∙ flat_map-append length_bytes (take i ns) (n ∷ []) ∙ ap (λ (t : List ℕ). so_far ++ t) (append-nil (length_bytes n)) in
    let here : c.loop-length.place ≡ 384 + length so_far = omega (arith, c.loop-length.invariant.at, length-lengths (take i ns), length-take i ns) in
    let put_here : c.put.new.fixed ≡ replaced c.loop-length.place (length_bytes n) c.loop-length.fixed = rw (← c.length_bytes.ensures) c.put.ensures in
    record {
      written = put_here ∙ ap (replaced c.loop-length.place (length_bytes n)) c.loop-length.invariant.written
          ∙ replaced_more 384 c.loop-length.place so_far (length_bytes n) c.args.fixed.now here (omega (arith, c.told-fixed, c.loop-length.invariant.at))
          ∙ ap (λ (t : List ℕ). replaced 384 t c.args.fixed.now) (sym one_more);
      at = omega (arith, c.loop-length.invariant.at);
    }
