use Rattle.std.proofs.Common.{◌≡◌, ℕ, ◌+◌, List, [], ◌++◌, drop, get_or, None, sym, ap, ◌∙◌, arith, append_assoc}
use Rattle.std.proofs.lemmas.List.{append-nil}
use Rattle.eid_perso.specs.Names.{file_names}
use Rattle.eid_perso.specs.Show.{file_line, file_lines}
use Rattle.eid_perso.proofs.FileLines.{file_lines-drop, file_lines-end}
use Rattle.eid_perso.proofs.show.Text.put_files.Goals as goal

pub loop-file-preserved : goal.loop-file-preserved
loop-file-preserved c =
    let i = c.loop-file.file in
    let ns = c.args.lengths.now in
    let rest = file_lines (drop (i + 1) file_names) (drop (i + 1) ns) in
    let here = file_line (get_or file_names i []) (get_or ns i None) in
    ap (λ (t : List ℕ). t ++ rest) c.in_ok-put_file.ensures
    ∙ append_assoc c.loop-file.self.bytes.items here rest
    ∙ ap (λ (t : List ℕ). c.loop-file.self.bytes.items ++ t) (sym (file_lines-drop i file_names ns (omega (arith, c.loop-file-test.true)) (omega (arith, c.told-lengths, c.loop-file-test.true))))
    ∙ c.loop-file.invariant

pub returns : goal.returns
returns c =
    let none : file_lines (drop c.loop-file.file file_names) (drop c.loop-file.file c.args.lengths.now) ≡ [] =
    file_lines-end c.loop-file.file file_names c.args.lengths.now (omega (arith, c.loop-file-test.false)) in
    sym (append-nil c.loop-file.self.bytes.items) ∙ ap (λ (t : List ℕ). c.loop-file.self.bytes.items ++ t) (sym none) ∙ c.loop-file.invariant
