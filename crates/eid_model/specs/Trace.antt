-- The trace: the text of a journal, moment by moment. This project's own.
use Rattle.std.specs.Prelude.{ℕ, List, [], ◌∷◌, ◌++◌, length, ◌==◌, Bool, Option, Some, None, if◌then◌else◌, codes, decimal}
use Rattle.std.specs.List.{flat_map}
use Rattle.hex.specs.Hex.{encode_lower}
use Rattle.eid_copro.specs.declared.ask.Ask.{Ask}
use Rattle.eid_copro.specs.declared.ask.Question.{Question}
use Rattle.eid_copro.specs.declared.ask.Question.TheVariants as questions
use Rattle.eid_copro.specs.declared.ask.Answer.{Answer}
use Rattle.eid_copro.specs.declared.ask.Answer.TheVariants as answers
use Rattle.eid_apdu.specs.Command.{PlainCommand}
use Rattle.eid_apdu.specs.Answer.{PlainReply, spelled}
use Rattle.eid_model.specs.Moments.{Event, PoweredOn, PoweredOff, Received, PlainMoment}

-- a line is its words and LF
abbrev pub line : List ℕ → List ℕ → List ℕ
line label words = label ++ words ++ 10 ∷ []

-- a body in hexadecimal, or a dash
abbrev pub body_text : List ℕ → List ℕ
body_text body = if length body == 0 then codes "-" else encode_lower body

-- class, instruction and parameters
abbrev pub header_text : PlainCommand → List ℕ
header_text c = encode_lower (c.cla ∷ []) ++ codes " " ++ encode_lower (c.ins ∷ []) ++ codes " " ++ encode_lower (c.p1 ∷ c.p2 ∷ [])

-- header, body and expected length
abbrev pub command_text : PlainCommand → List ℕ
command_text c = header_text c ++ codes " " ++ body_text c.body ++ codes " " ++ decimal c.ne

abbrev pub plain_text : Option PlainCommand → List ℕ
plain_text None = codes "none"
plain_text (Some c) = command_text c

-- bytes in hexadecimal, or none
abbrev pub bytes_text : Option (List ℕ) → List ℕ
bytes_text None = codes "none"
bytes_text (Some bytes) = encode_lower bytes

abbrev pub answer_text : Option PlainReply → List ℕ
answer_text None = codes "none"
answer_text (Some reply) = encode_lower (spelled reply)

abbrev pub found_text : Option ℕ → List ℕ
found_text None = codes "lost"
found_text (Some n) = decimal n

-- bytes in hexadecimal behind a word
abbrev pub word_text : List ℕ → List ℕ → List ℕ
word_text before bytes = before ++ codes " " ++ encode_lower bytes

abbrev pub base_text : Option (List ℕ) → List ℕ
base_text None = codes "pair -"
base_text (Some base) = word_text (codes "pair") base

-- what the coprocessor was asked
unfoldable pub question_text : Question → List ℕ
question_text questions.Nonce = codes "nonce"
question_text questions.Challenge = codes "challenge"
question_text (questions.Pair base) = base_text base
question_text (questions.Map nonce secret peer) = word_text (word_text (word_text (codes "map") nonce) secret) peer
question_text (questions.Agree secret peer) = word_text (word_text (codes "agree") secret) peer
question_text (questions.Verify key digest signature) = word_text (word_text (word_text (codes "verify") key) digest) signature
question_text (questions.Sign secret digest) = word_text (word_text (codes "sign") secret) digest

abbrev pub verdict_text : Bool → List ℕ
verdict_text good = if good then codes "yes" else codes "no"

-- what it answered
unfoldable pub given_text : Answer → List ℕ
given_text (answers.Nonce nonce) = encode_lower nonce
given_text (answers.Challenge challenge) = encode_lower challenge
given_text (answers.Pair secret public) = word_text (encode_lower secret) public
given_text (answers.Mapped base) = encode_lower base
given_text (answers.Shared shared) = encode_lower shared
given_text answers.NoPoint = codes "none"
given_text (answers.Verdict good) = verdict_text good
given_text (answers.Signed signature) = encode_lower signature
given_text answers.Fault = codes "fault"

abbrev pub ask_text : Ask → List ℕ
ask_text ask = line (codes " ask ") (question_text ask.question ++ codes " = " ++ given_text ask.answer)

abbrev pub asks_text : List Ask → List ℕ
asks_text asks = flat_map ask_text asks

-- what a command's moment says behind its bytes
abbrev pub handled_text : PlainMoment → List ℕ
handled_text m =
    line (codes " plain ") (plain_text m.plain) ++ asks_text m.asks ++ line (codes " finished ") (decimal m.finished) ++ line (codes " rule ") (decimal m.rule)
    ++ line (codes " answer ") (answer_text m.answer) ++ line (codes " sent ") (bytes_text m.sent)

-- the bytes of a command, and what its moment says
abbrev pub command_lines : List ℕ → PlainMoment → List ℕ
command_lines bytes m = line (codes "apdu ") (encode_lower bytes) ++ handled_text m

-- the text of a moment, by what came
abbrev pub text_for : Event → PlainMoment → List ℕ
text_for (PoweredOn found) m = line (codes "on ") (found_text found)
text_for PoweredOff m = line (codes "off") []
text_for (Received bytes) m = command_lines bytes m

abbrev pub text : PlainMoment → List ℕ
text m = text_for m.input m

-- the text of a journal, the first moment first
abbrev pub trace : List PlainMoment → List ℕ
trace [] = []
trace (m ∷ before) = trace before ++ text m
