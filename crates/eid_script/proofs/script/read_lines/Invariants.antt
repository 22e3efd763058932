use Rattle.std.proofs.Common.{◌≡◌, ◌+◌, length, drop, map}
use Rattle.std.specs.List.{slice_split}
use Rattle.eid_text.specs.Lines.{after, all_say, is_lf, text_says}
use Rattle.eid_script.specs.Scripts.{plain_line, says}
use Rattle.eid_script.proofs.script.read_lines.Given as goal

-- what was read, and what the lines behind it say, is what the whole text says
abbrev pub invariant-loop-line : goal.invariant-loop-line
invariant-loop-line l =
    record {
      counted : l.number ≡ length l.yielded;
      so_far : text_says says l.text ≡ after (map plain_line l.lines.items) (all_say says (l.number + 1) (drop l.number (slice_split is_lf l.text)));
    }
