-- Answers as lines of text (this project's own): `nonce HEX` (16 bytes), `challenge HEX` (8),
-- `pair SECRET PUBLIC` (32 and 65), `map POINT` (65) or `map none`, `agree HEX` (32) or `agree none`,
-- `verify yes`, `verify no`, `sign HEX` (64), `fault`.
use Rattle.std.specs.Prelude.{ℕ, Bool, true, false, List, [], ◌∷◌, if◌then◌else◌, codes}
use Rattle.std.specs.Prelude.{Option, Some, None, option_map, option_and_then, Result}
use Rattle.std.specs.List.{before_first, after_first}
use Rattle.std.specs.Result.{result_ok}
use Rattle.std.specs.Str.{bytes_eq}
use Rattle.hex.specs.Hex.{decode_sized}
use Rattle.eid_text.specs.Lines.{is_space, said_in}
use Rattle.eid_copro.specs.declared.ask.Answer.{Answer}
use Rattle.eid_copro.specs.declared.ask.Answer.TheVariants as answers

-- so many bytes in hexadecimal
unfoldable pub bytes_of : ℕ → List ℕ → Option (List ℕ)
bytes_of size text = result_ok (decode_sized text size)

-- the secret, and the public point behind the next space
unfoldable pub pair_in : List ℕ → Option Answer
pair_in rest =
    option_and_then
    (λ secret. option_map (λ public. answers.Pair secret public) (bytes_of 65 (after_first is_space rest)))
    (bytes_of 32 (before_first is_space rest))

unfoldable pub verdict_in : List ℕ → Option Answer
verdict_in rest =
    if bytes_eq rest (codes "yes") then Some (answers.Verdict true)
    else if bytes_eq rest (codes "no") then Some (answers.Verdict false)
    else None

-- `none` or some bytes
abbrev pub or_none : (List ℕ → Answer) → ℕ → List ℕ → Option Answer
or_none make size rest =
    if bytes_eq rest (codes "none") then Some answers.NoPoint else option_map make (bytes_of size rest)

-- by the first word and what stands behind the space after it
unfoldable pub answer_in : List ℕ → List ℕ → Option Answer
answer_in word rest =
    if bytes_eq word (codes "nonce") then option_map (λ bytes. answers.Nonce bytes) (bytes_of 16 rest)
    else if bytes_eq word (codes "challenge") then option_map (λ bytes. answers.Challenge bytes) (bytes_of 8 rest)
    else if bytes_eq word (codes "pair") then pair_in rest
    else if bytes_eq word (codes "map") then or_none (λ bytes. answers.Mapped bytes) 65 rest
    else if bytes_eq word (codes "agree") then or_none (λ bytes. answers.Shared bytes) 32 rest
    else if bytes_eq word (codes "verify") then verdict_in rest
    else if bytes_eq word (codes "sign") then option_map (λ bytes. answers.Signed bytes) (bytes_of 64 rest)
    else None

unfoldable pub line_answer : List ℕ → Option Answer
line_answer line =
    if bytes_eq line (codes "fault") then Some answers.Fault
    else answer_in (before_first is_space line) (after_first is_space line)

abbrev pub is_empty : List ℕ → Bool
is_empty [] = true
is_empty (c ∷ cs) = false

-- what one line says: nothing where it is empty, one answer, or it is no line of answers
abbrev pub says : List ℕ → Option (List Answer)
says line = if is_empty line then Some [] else option_map (λ answer. answer ∷ []) (line_answer line)

-- the answers in a text, or the first line that is none, 0 where the text is too long
unfoldable pub answers_of : List ℕ → Result (List Answer) ℕ
answers_of text = said_in says text
