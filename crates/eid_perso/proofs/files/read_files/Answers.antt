use Rattle.std.proofs.Common.{◌≡◌, ◌+◌, take, slice_set, ◌++◌, ◌∷◌, [], ◌∙◌, sym, ap, arith, List, Option, Ok, ℕ}
use Rattle.std.proofs.lemmas.List.{take_more_set, take_all, length-set}
use Rattle.toml.specs.View.{table_view}
use Rattle.eid_perso.specs.Names.{file_names}
use Rattle.eid_perso.proofs.ReadFiles.{goes_on, stopped, ends, total-append, fits-append}
use Rattle.eid_perso.proofs.files.read_files.Goals as goal

pub returns-in-Err-clause-reads : goal.returns-in-Err-clause-reads
returns-in-Err-clause-reads c =
    stopped c.file_name.result.now c.loop-i.i file_names (take c.loop-i.i c.loop-i.lengths) c.loop-i.bytes.items c.in-Err.error (table_view c.args.table.now) _
    (omega (arith, c.loop-i-test.true)) c.file_name.ensures c.in-Err.ensures.reads c.loop-i.invariant.read

pub loop-i-preserved : goal.loop-i-preserved
loop-i-preserved c =
    let i = c.loop-i.i in
    let n = c.in-Ok.length in
    let front = take i c.loop-i.lengths in
    let more = c.next_file.new.bytes.items in
    let so_far = c.loop-i.invariant in
    let length_is = c.in-Ok.ensures.length in
    let next : take (i + 1) (slice_set c.loop-i.lengths i n) ≡ front ++ n ∷ [] = take_more_set c.loop-i.lengths i n (omega (arith, so_far.count, c.loop-i-test.true)) in
    let step = goes_on c.file_name.result.now i file_names front c.loop-i.bytes.items n more (table_view c.args.table.now) (omega (arith, c.loop-i-test.true)) c.file_name.ensures c.in-Ok.ensures.reads in
    record {
      read = rw next (sym step ∙ so_far.read);
      count = length-set c.loop-i.lengths i n ∙ so_far.count;
      fit = rw next (fits-append 0 front n so_far.fit length_is.short (omega (arith, so_far.size, length_is.more, length_is.room)));
      size = rw next (omega (arith, so_far.size, length_is.more, total-append front n));
      room = length_is.room;
    }

pub returns-clause-reads : goal.returns-clause-reads
returns-clause-reads c =
    let all : take c.loop-i.i c.loop-i.lengths ≡ c.loop-i.lengths = take_all _ _ (omega (arith, c.loop-i.invariant.count, c.loop-i-test.false)) in
    sym c.loop-i.invariant.read
    ∙ ends c.loop-i.i file_names (take c.loop-i.i c.loop-i.lengths) c.loop-i.bytes.items (table_view c.args.table.now) (omega (arith, c.loop-i-test.false))
    ∙ ap (λ (ns : List (Option ℕ)). Ok (ns, c.loop-i.bytes.items)) all
