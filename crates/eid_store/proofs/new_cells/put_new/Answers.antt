-- The parts are put one behind the other, and are the record together.
use Rattle.std.proofs.Common.{◌≡◌, ℕ, ◌+◌, List, [], ◌∷◌, ◌++◌, length, ◌≤◌, ap, sym, ◌∙◌, arith}
use Rattle.eid_cells.specs.Cells.{patched}
use Rattle.eid_record.specs.Layout.{fixed_bytes}
use Rattle.eid_record.specs.Reading.{record_in}
use Rattle.eid_record.specs.View.{record_view}
use Rattle.eid_store.specs.NewCells.{with_record, new_cells}
use Rattle.eid_store.specs.Stands.{stands}
use Rattle.eid_store.proofs.NewCells.{files-fit, record_laid, length-blank, stands-new}
use Rattle.eid_store.proofs.new_cells.put_new.Goals as goal

pub put-requires-4 : goal.put-requires-4
put-requires-4 c =
    omega (
      arith,
      files-fit (record_view c.args.kept.now) c.args.files.now c.requires.valid c.requires.files,
      c.record-2.ensures,
      c.put-3.ensures.long,
      c.put-2.ensures.long,
      c.put.ensures.long,
      ap length c.requires.blank,
      length-blank,
    )

laid : (layout place record_place files_place : ℕ) (fixed written files blank first second third last : List ℕ) → place ≡ 64 → record_place ≡ 128 → files_place ≡ 128 → length written ≡ 448 → written ≡ fixed
    → length second ≡ 65536 → length files ≤ 24000 → first ≡ patched 0 (layout ∷ []) blank → second ≡ patched place (165 ∷ []) first
    → third ≡ patched record_place written second → last ≡ patched (files_place + 448) files third → last ≡ with_record layout (fixed ++ files) blank
laid layout place record_place files_place fixed written files blank first second third last gate from behind long is second_long fits put_layout put_gate put_record put_files =
    record_laid written files second third last long (omega (arith, second_long, fits)) (put_record ∙ ap (λ (n : ℕ). patched n written second) from) (put_files ∙ ap (λ (n : ℕ). patched (n + 448) files third) behind)
    ∙ ap (λ (t : List ℕ). patched 128 (t ++ files) second) is
    ∙ ap (patched 128 (fixed ++ files)) (put_gate ∙ ap (λ (n : ℕ). patched n (165 ∷ []) first) gate ∙ ap (patched 64 (165 ∷ [])) put_layout)

pub returns-clause-cells : goal.returns-clause-cells
unfolding new_cells
returns-clause-cells c =
    let fits = files-fit (record_view c.args.kept.now) c.args.files.now c.requires.valid c.requires.files in
    let second_long : length c.put-2.new.cells ≡ 65536 = c.put-2.ensures.long ∙ c.put.ensures.long ∙ ap length c.requires.blank ∙ length-blank in
    laid c.args.layout c.gate.result c.record.result c.record-2.result _ _ c.args.files.now c.args.cells.now _ _ _ _ c.gate.ensures c.record.ensures c.record-2.ensures c.write_record.array_long c.write_record.ensures.bytes
    second_long fits c.put.ensures.bytes c.put-2.ensures.bytes c.put-3.ensures.bytes c.put-4.ensures.bytes
    ∙ ap (with_record c.args.layout (fixed_bytes (record_view c.args.kept.now) ++ c.args.files.now)) c.requires.blank

pub put-requires : goal.put-requires
put-requires c = omega (arith, ap length c.requires.blank, length-blank)

pub put-requires-2 : goal.put-requires-2
put-requires-2 c = omega (arith, c.gate.ensures, c.put.ensures.long, ap length c.requires.blank, length-blank)

pub put-requires-3 : goal.put-requires-3
put-requires-3 c = omega (arith, c.record.ensures, c.write_record.array_long, c.put-2.ensures.long, c.put.ensures.long, ap length c.requires.blank, length-blank)

pub returns-clause-size : goal.returns-clause-size
returns-clause-size c = c.put-4.ensures.long ∙ c.put-3.ensures.long ∙ c.put-2.ensures.long ∙ c.put.ensures.long ∙ ap length c.requires.blank ∙ length-blank

pub returns-clause-stands : goal.returns-clause-stands
returns-clause-stands c =
    let fields = record_view c.args.kept.now in
    let files = c.args.files.now in
    let fits = files-fit fields files c.requires.valid c.requires.files in
    let layout : c.put-4.new.cells ≡ new_cells 1 (fixed_bytes fields ++ files) =
    returns-clause-cells c ∙ ap (λ (n : ℕ). new_cells n (fixed_bytes fields ++ files)) c.requires.layout in
    ap stands layout
    ∙ stands-new fields (fixed_bytes fields) files fits c.requires.files (ap length (sym c.write_record.ensures.bytes) ∙ c.write_record.array_long)
    (ap record_in (sym c.write_record.ensures.bytes) ∙ c.write_record.ensures.again)
