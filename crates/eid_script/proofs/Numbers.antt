-- Which number a refusal names.
use Rattle.std.proofs.Common.{◌≡◌, ℕ, ◌<◌, ◌≤◌, List, length, Err, arith}
use Rattle.std.specs.List.{slice_split}
use Rattle.eid_text.specs.Lines.{is_lf, text_limit, text_says}
use Rattle.eid_text.proofs.Turns as turns
use Rattle.eid_script.specs.Scripts.{says, script_of}

pub too_long : (text : List ℕ) → text_limit < length text → script_of text ≡ Err 0
too_long text long = turns.too_long says text long

pub short_enough : (text : List ℕ) → length text ≤ text_limit → script_of text ≡ text_says says text
short_enough text short = turns.short_enough says text short

-- no line has the number 0
pub names_a_line : (text : List ℕ) → text_says says text ≡ Err 0 → ⊥
names_a_line text h = absurd (omega (arith, turns.later_number says 1 (slice_split is_lf text) 0 h))
