-- What the model coprocessor answers. This project's own.
use Rattle.std.specs.Prelude.{ℕ, ◌==◌, ◌||◌, Bool, true, false, List, ◌++◌, take, replicate, bit_or, count_by, Option, if◌then◌else◌}
use Rattle.std.specs.Int.{w64, from_be_bytes, to_be_bytes}
use Rattle.std.specs.Str.{bytes_eq}
use Rattle.sha2.specs.Sha256.{sha256}
use Rattle.eid_copro.specs.Numbers.{point_of, point_number, scalar, secret_of, generator, times, plus, x_half, public_of, base_number}
use Rattle.eid_copro.specs.declared.ask.Ask.{Ask}
use Rattle.eid_copro.specs.declared.ask.Question.{Question}
use Rattle.eid_copro.specs.declared.ask.Question.TheVariants as questions
use Rattle.eid_copro.specs.declared.ask.Answer.{Answer}
use Rattle.eid_copro.specs.declared.ask.Answer.TheVariants as answers

-- the questions that use a random block
abbrev pub draws : Question → Bool
draws questions.Nonce = true
draws questions.Challenge = true
draws (questions.Pair base) = true
draws (questions.Map nonce secret peer) = false
draws (questions.Agree secret peer) = false
draws (questions.Verify key digest signature) = false
draws (questions.Sign secret digest) = false

-- how many blocks these asks have used
abbrev pub blocks_drawn : List Ask → ℕ
blocks_drawn asks = count_by (λ (ask : Ask). draws ask.question) asks

unfoldable pub random_block : ℕ → ℕ → List ℕ
random_block start number = sha256 (to_be_bytes w64 start ++ to_be_bytes w64 number)

-- a secret from a block: its first eight bytes with the lowest bit set
abbrev pub drawn_number : List ℕ → ℕ
drawn_number block = bit_or (from_be_bytes w64 (take 8 block)) 1

-- the secret of the block, and its public point
unfoldable pub pair_from : List ℕ → Option (List ℕ) → Answer
pair_from block base =
    let number = drawn_number block in
    answers.Pair (secret_of number) (point_of (times number (base_number base)))

-- the nonce times the generator, plus the secret times the peer's point; none where the peer or the
-- result is no point
unfoldable pub mapping : List ℕ → List ℕ → List ℕ → Answer
mapping nonce secret peer =
    let point = point_number peer in
    let result = plus (times (scalar nonce) generator) (times (scalar secret) point) in
    if point == 0 || result == 0 then answers.NoPoint else answers.Mapped (point_of result)

-- the X half of the secret times the peer's point, in the same way
unfoldable pub agreement : List ℕ → List ℕ → Answer
agreement secret peer =
    let point = point_number peer in
    let result = times (scalar secret) point in
    if point == 0 || result == 0 then answers.NoPoint else answers.Shared (x_half (point_of result))

-- a digest over the signer's public point and the digest that is signed, and 32 bytes 00
unfoldable pub signature_of : List ℕ → List ℕ → List ℕ
signature_of public digest = sha256 (public ++ digest) ++ replicate 32 0

-- by the next random block
unfoldable pub answer_with : List ℕ → Question → Answer
answer_with block questions.Nonce = answers.Nonce (take 16 block)
answer_with block questions.Challenge = answers.Challenge (take 8 block)
answer_with block (questions.Pair base) = pair_from block base
answer_with block (questions.Map nonce secret peer) = mapping nonce secret peer
answer_with block (questions.Agree secret peer) = agreement secret peer
answer_with block (questions.Verify key digest signature) = answers.Verdict (bytes_eq signature (signature_of key digest))
answer_with block (questions.Sign secret digest) = answers.Signed (signature_of (public_of secret) digest)

-- the model that began with that start
abbrev pub model_answer : ℕ → List Ask → Question → Answer
model_answer start before question = answer_with (random_block start (blocks_drawn before)) question
