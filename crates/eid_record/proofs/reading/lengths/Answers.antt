use Rattle.std.proofs.Common.{◌≡◌, ◌<◌, length, take, ◌∙◌, ap, arith, List, Option, Ok, ℕ}
use Rattle.std.proofs.lemmas.Result.{err_from_is_err_and}
use Rattle.std.proofs.lemmas.List.{take_more_set, take_all, length-set}
use Rattle.eid_record.specs.Reading.{lengths_from}
use Rattle.eid_record.proofs.Loop.{goes_on, ends, is_done}
use Rattle.eid_record.proofs.reading.lengths.Goals as goal

pub returns-in_err-length : goal.returns-in_err-length
returns-in_err-length c =
    let p = err_from_is_err_and c.from_residual.result c.from_residual.ensures.1 in
    rw (p.1, p.2) (ends (take c.loop-i.i c.loop-i.lengths) c.loop-i.i c.loop-i.place c.loop-i.sum c.args.fixed.now c.in_err-length.field-0.0.place (lengths_from 23 384 0 c.args.fixed.now) c.loop-i-test.true c.in_err-length.ensures.reads c.loop-i.invariant.read)

pub loop-i-preserved : goal.loop-i-preserved
loop-i-preserved c =
    let n = c.in_ok-length.length in
    let in_range : c.loop-i.i < length c.loop-i.lengths = omega (arith, c.loop-i.invariant.all, c.loop-i-test.true) in
    let step = goes_on (take c.loop-i.i c.loop-i.lengths) c.loop-i.i c.loop-i.place c.loop-i.sum c.args.fixed.now n (lengths_from 23 384 0 c.args.fixed.now) c.loop-i-test.true c.in_ok-length.ensures.reads c.loop-i.invariant.read in
    record {
      read = rw (take_more_set c.loop-i.lengths c.loop-i.i n in_range, c.size_of-sum.ensures) step;
      all = length-set c.loop-i.lengths c.loop-i.i n ∙ c.loop-i.invariant.all;
      at = omega (arith, c.loop-i.invariant.at);
      fits = rw c.size_of-sum.ensures c.in_ok-length.ensures.sum;
    }

pub returns : goal.returns
returns c =
    let all : take c.loop-i.i c.loop-i.lengths ≡ c.loop-i.lengths = take_all _ _ (omega (arith, c.loop-i.invariant.all, c.loop-i-test.false)) in
    is_done (take c.loop-i.i c.loop-i.lengths) c.loop-i.i c.loop-i.place c.loop-i.sum c.args.fixed.now (lengths_from 23 384 0 c.args.fixed.now) c.loop-i-test.false c.loop-i.invariant.read ∙ ap (λ (ns : List (Option ℕ)). Ok ns) all
