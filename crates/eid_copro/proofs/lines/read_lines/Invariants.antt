use Rattle.std.proofs.Common.{◌≡◌, ◌+◌, length, drop}
use Rattle.std.specs.List.{slice_split}
use Rattle.eid_text.specs.Lines.{after, all_say, is_lf, text_says}
use Rattle.eid_copro.specs.Lines.{says}
use Rattle.eid_copro.proofs.lines.read_lines.Given as goal

-- what was read, and what the lines behind it say, is what the whole text says
abbrev pub invariant-loop-line : goal.invariant-loop-line
invariant-loop-line l =
    record {
      counted : l.number ≡ length l.yielded;
      so_far : text_says says l.text ≡ after l.answers.items (all_say says (l.number + 1) (drop l.number (slice_split is_lf l.text)));
    }
