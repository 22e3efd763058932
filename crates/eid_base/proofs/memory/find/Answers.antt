-- One more file changes what the files so far hold under the name only where it has that name.
use Rattle.std.proofs.Common.{◌≡◌, true, false, refl, sym, ◌∙◌}
use Rattle.std.specs.Str.{bytes_eq}
use Rattle.std.specs.Prelude.{string_bytes}
use Rattle.eid_base.proofs.FilesLemmas.{file_in_more}
use Rattle.eid_base.proofs.memory.find.Goals as goal
use Rattle.eid_base.proofs.memory.find.Goals.{then-eq, else-eq}

pub loop-file-preserved : goal.loop-file-preserved
loop-file-preserved c =
    let more = file_in_more c.args.files.now c.loop-file.file-index c.file-item.result c.args.name.now c.loop-file-test.true c.file-item.is in
    let text = c.as_str.ensures.value in
    let same = c.eq.ensures in
    elim c.if-eq.branch [
      | then-eq w ↦
          let named : bytes_eq (string_bytes c.file-item.result.0) c.args.name.now ≡ true = rw (← text) (sym same ∙ w.if-eq.true) in
          rw (w.held-is, more, named, w.as_slice.ensures.value) refl
      | else-eq w ↦
          let other : bytes_eq (string_bytes c.file-item.result.0) c.args.name.now ≡ false = rw (← text) (sym same ∙ w.if-eq.false) in
          rw (w.held-is, more, other) c.loop-file.invariant
    ]
