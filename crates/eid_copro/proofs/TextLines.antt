-- The lines of a text of answers.
use Rattle.std.proofs.Common.{◌≡◌, ℕ, ◌<◌, ◌≤◌, List, length, Err}
use Rattle.eid_text.specs.Lines.{text_limit, text_says}
use Rattle.eid_text.proofs.Turns as turns
use Rattle.eid_copro.specs.Lines.{answers_of, says}

pub too_long : (text : List ℕ) → text_limit < length text → answers_of text ≡ Err 0
unfolding answers_of
too_long text long = turns.too_long says text long

pub short_enough : (text : List ℕ) → length text ≤ text_limit → answers_of text ≡ text_says says text
unfolding answers_of
short_enough text short = turns.short_enough says text short
