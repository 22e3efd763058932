-- What lines say is what spells them.
use Rattle.std.proofs.Common.{◌≡◌, ℕ, zero, suc, ◌+◌, ◌/◌, ◌%◌, ◌<◌, ◌≤◌, Bool, true, false, inl, inr, List, [], ◌∷◌, ◌++◌, length, get_or, take, drop}
use Rattle.std.proofs.Common.{Option, Some, None, Result, Ok, Err, refl, ap, ◌∙◌, subst, arith}
use Rattle.std.specs.Prelude.{if◌then◌else◌, ⊤, codes, option_map}
use Rattle.std.specs.Option.{option_and_then}
use Rattle.std.specs.Result.{result_ok}
use Rattle.std.specs.List.{position_or_len, before_first, after_first}
use Rattle.std.specs.Str.{bytes_eq}
use Rattle.std.proofs.lemmas.Bool.{eqb-true, cases_lt}
use Rattle.std.proofs.lemmas.List.{drop_all, length-append}
use Rattle.std.proofs.lemmas.Slice.Eq.{bytes_eq-Decides}
use Rattle.std.proofs.lemmas.List.Sums.{split_at_first, passes_at_first}
use Rattle.hex.specs.Hex.{decode_sized, hex_digit_value}
use Rattle.hex.specs.declared.error.FromHexError.{FromHexError}
use Rattle.eid_text.specs.Hexadecimal.{IsDigit, IsHex}
use Rattle.eid_text.specs.Lines.{is_space}
use Rattle.eid_text.proofs.Hexadecimal.{digit_reads, hex_length, decodes_sized, decoded_sized}
use Rattle.eid_text.proofs.Readings.{Told, Agrees}
use Rattle.eid_copro.specs.Lines.{bytes_of, pair_in, verdict_in, or_none, answer_in, line_answer, says}
use Rattle.eid_copro.specs.Grammar.{IsSized, SpellsAnswer, IsEmpty}
use Rattle.eid_copro.specs.declared.ask.Answer.{Answer}
use Rattle.eid_copro.specs.declared.ask.Answer.TheVariants as answers

-- ---- bytes

bytes_read : (size : ℕ) (digits bytes : List ℕ) → IsHex digits bytes → length bytes ≡ size → bytes_of size digits ≡ Some bytes
unfolding bytes_of
bytes_read size digits bytes hex sized = ap result_ok (decodes_sized digits bytes size hex sized)

bytes_told : (size : ℕ) (digits bytes : List ℕ) → bytes_of size digits ≡ Some bytes → IsHex digits bytes × (length bytes ≡ size)
unfolding bytes_of
bytes_told size digits bytes h = by (decode_sized digits size) refl h where
  by : (r : Result (List ℕ) FromHexError) → decode_sized digits size ≡ r → result_ok r ≡ Some bytes → IsHex digits bytes × (length bytes ≡ size)
  by (Ok given) is e =
      let same : given ≡ bytes = cc in
      decoded_sized digits bytes size (is ∙ ap Ok same)
  by (Err error) is e = absurd (cc)

some_digits : (size : ℕ) (digits bytes : List ℕ) → 1 ≤ size → IsHex digits bytes × (length bytes ≡ size) → 1 ≤ length digits
some_digits size digits bytes some h = omega (arith, hex_length digits bytes h.0, h.1)

-- ---- the first space

-- what stands before the first space and what stands behind it, where something does, make the line
parted : (line : List ℕ) → 1 ≤ length (after_first is_space line) → line ≡ before_first is_space line ++ (32 ∷ after_first is_space line)
parted line some =
    elim (cases_lt (position_or_len is_space line) (length line)) [
      | inl inside ↦
          let space : get_or line (position_or_len is_space line) 0 ≡ 32 =
          eqb-true (get_or line (position_or_len is_space line) 0) 32 (passes_at_first is_space line 0 inside) in
          split_at_first is_space line 0 inside ∙ ap (λ c. before_first is_space line ++ (c ∷ after_first is_space line)) space
      | inr past ↦
          let none : after_first is_space line ≡ [] = drop_all (position_or_len is_space line + 1) line (omega arith) in
          absurd (omega (arith, ap length none))
    ]

begins : (line word : List ℕ) → before_first is_space line ≡ word → 1 ≤ length (after_first is_space line) → line ≡ word ++ (32 ∷ after_first is_space line)
begins line word is some = parted line some ∙ ap (λ w. w ++ (32 ∷ after_first is_space line)) is

-- no digit is a space
no_space : (c v : ℕ) → v < 16 → IsDigit c v → is_space c ≡ false
no_space c v small digit = by (is_space c) refl where
  by : (b : Bool) → is_space c ≡ b → b ≡ false
  by false is = refl
  by true is =
      let space : c ≡ 32 = eqb-true c 32 is in
      let value : hex_digit_value 32 ≡ Some v = subst (λ (d : ℕ). hex_digit_value d ≡ Some v) space (digit_reads c v small digit) in
      absurd (cc)

space_behind : (digits bytes rest : List ℕ) → IsHex digits bytes → position_or_len is_space (digits ++ (32 ∷ rest)) ≡ length digits
space_behind [] [] rest h = refl
space_behind [] (byte ∷ bytes) rest h = absurd h
space_behind (high ∷ []) bytes rest h = absurd h
space_behind (high ∷ low ∷ digits) [] rest h = absurd h
space_behind (high ∷ low ∷ digits) (byte ∷ bytes) rest h =
    let fits : byte < 256 = h.0 in
    let first = no_space high (byte / 16) (omega arith) h.1 in
    let second = no_space low (byte % 16) (omega arith) h.2 in
    let later = space_behind digits bytes rest h.3 in
    rw (first, second) (omega (arith, later))

take_word : (word rest : List ℕ) → take (length word) (word ++ rest) ≡ word
take_word [] rest = refl
take_word (c ∷ cs) rest = ap (λ t. c ∷ t) (take_word cs rest)

drop_word : (word rest : List ℕ) (c n : ℕ) → n ≡ length word + 1 → drop n (word ++ (c ∷ rest)) ≡ rest
drop_word [] rest c n is = rw is refl
drop_word (d ∷ ds) rest c zero is = absurd (omega arith)
drop_word (d ∷ ds) rest c (suc n) is = drop_word ds rest c n (omega arith)

-- ---- what spells an answer is read

sized_reads : (make : List ℕ → Answer) (size : ℕ) (digits bytes : List ℕ) → IsHex digits bytes → length bytes ≡ size
    → option_map make (bytes_of size digits) ≡ Some (make bytes)
sized_reads make size digits bytes hex sized = ap (λ (o : Option (List ℕ)). option_map make o) (bytes_read size digits bytes hex sized)

pair_reads : (secret_digits public_digits secret public : List ℕ) → IsHex secret_digits secret → IsHex public_digits public
    → length secret ≡ 32 → length public ≡ 65 → pair_in (secret_digits ++ (32 ∷ public_digits)) ≡ Some (answers.Pair secret public)
unfolding pair_in
pair_reads secret_digits public_digits secret public secret_hex public_hex secret_sized public_sized =
    let whole = secret_digits ++ (32 ∷ public_digits) in
    let at = space_behind secret_digits secret public_digits secret_hex in
    let word : before_first is_space whole ≡ secret_digits = ap (λ n. take n whole) at ∙ take_word secret_digits (32 ∷ public_digits) in
    let rest : after_first is_space whole ≡ public_digits = drop_word secret_digits public_digits 32 _ (omega (arith, at)) in
    let first = bytes_read 32 secret_digits secret secret_hex secret_sized in
    let second = bytes_read 65 public_digits public public_hex public_sized in
    rw (word, rest, first, second) refl

-- digits are not the word `none`
other_than_none : (digits bytes : List ℕ) → IsHex digits bytes → bytes_eq digits (codes "none") ≡ false
other_than_none digits bytes hex = by (bytes_eq digits (codes "none")) refl where
  by : (b : Bool) → bytes_eq digits (codes "none") ≡ b → b ≡ false
  by false is = refl
  by true is = absurd (never bytes (subst (λ (d : List ℕ). IsHex d bytes) ((bytes_eq-Decides digits (codes "none")).0 is) hex)) where
    never : (bytes : List ℕ) → IsHex (codes "none") bytes → ⊥
    never [] h = h
    never (byte ∷ bytes) h =
        let fits : byte < 256 = h.0 in
        let value : hex_digit_value 110 ≡ Some (byte / 16) = digit_reads 110 (byte / 16) (omega arith) h.1 in
        cc

or_none_reads : (make : List ℕ → Answer) (size : ℕ) (digits bytes : List ℕ) → IsHex digits bytes → length bytes ≡ size
    → or_none make size digits ≡ Some (make bytes)
or_none_reads make size digits bytes hex sized = rw (other_than_none digits bytes hex, bytes_read size digits bytes hex sized) refl

answer_reads : (line : List ℕ) (answer : Answer) → SpellsAnswer line answer → line_answer line ≡ Some answer
unfolding line_answer answer_in verdict_in
answer_reads line (answers.Nonce bytes) h = ap line_answer h.is ∙ sized_reads (λ b. answers.Nonce b) 16 h.digits bytes h.hex h.sized
answer_reads line (answers.Challenge bytes) h = ap line_answer h.is ∙ sized_reads (λ b. answers.Challenge b) 8 h.digits bytes h.hex h.sized
answer_reads line (answers.Pair secret public) h =
    ap line_answer h.is ∙ pair_reads h.secret_digits h.public_digits secret public h.secret_hex h.public_hex h.secret_sized h.public_sized
answer_reads line (answers.Mapped base) h = ap line_answer h.is ∙ or_none_reads (λ b. answers.Mapped b) 65 h.digits base h.hex h.sized
answer_reads line (answers.Shared shared) h = ap line_answer h.is ∙ or_none_reads (λ b. answers.Shared b) 32 h.digits shared h.hex h.sized
answer_reads line answers.NoPoint (inl h) = ap line_answer h
answer_reads line answers.NoPoint (inr h) = ap line_answer h
answer_reads line (answers.Verdict true) h = ap line_answer h
answer_reads line (answers.Verdict false) h = ap line_answer h
answer_reads line (answers.Signed signature) h = ap line_answer h.is ∙ sized_reads (λ b. answers.Signed b) 64 h.digits signature h.hex h.sized
answer_reads line answers.Fault h = ap line_answer h

-- ---- what is read spells an answer

abbrev ToldAnswer : List ℕ → Option Answer → Type 0
ToldAnswer line None = ⊤
ToldAnswer line (Some answer) = SpellsAnswer line answer

is_sized : (line word digits bytes : List ℕ) (size : ℕ) → (1 ≤ length digits → line ≡ word ++ digits) → 1 ≤ size → bytes_of size digits ≡ Some bytes
    → IsSized line word size bytes
is_sized line word digits bytes size is some h =
    let parts = bytes_told size digits bytes h in
    record { digits = digits; is = is (some_digits size digits bytes some parts); hex = parts.0; sized = parts.1 }

told_nonce : (line rest : List ℕ) → (1 ≤ length rest → line ≡ codes "nonce " ++ rest) → (o : Option (List ℕ)) → bytes_of 16 rest ≡ o
    → ToldAnswer line (option_map (λ b. answers.Nonce b) o)
told_nonce line rest is None h = tt
told_nonce line rest is (Some bytes) h = is_sized line (codes "nonce ") rest bytes 16 is (omega arith) h

told_challenge : (line rest : List ℕ) → (1 ≤ length rest → line ≡ codes "challenge " ++ rest) → (o : Option (List ℕ)) → bytes_of 8 rest ≡ o
    → ToldAnswer line (option_map (λ b. answers.Challenge b) o)
told_challenge line rest is None h = tt
told_challenge line rest is (Some bytes) h = is_sized line (codes "challenge ") rest bytes 8 is (omega arith) h

told_sign : (line rest : List ℕ) → (1 ≤ length rest → line ≡ codes "sign " ++ rest) → (o : Option (List ℕ)) → bytes_of 64 rest ≡ o
    → ToldAnswer line (option_map (λ b. answers.Signed b) o)
told_sign line rest is None h = tt
told_sign line rest is (Some bytes) h = is_sized line (codes "sign ") rest bytes 64 is (omega arith) h

told_map : (line rest : List ℕ) → (1 ≤ length rest → line ≡ codes "map " ++ rest) → (b : Bool) → bytes_eq rest (codes "none") ≡ b
    → (o : Option (List ℕ)) → bytes_of 65 rest ≡ o → ToldAnswer line (if b then Some answers.NoPoint else option_map (λ b. answers.Mapped b) o)
told_map line rest is true none o h =
    let same = (bytes_eq-Decides rest (codes "none")).0 none in
    inl (is (omega (arith, ap length same)) ∙ ap (λ r. codes "map " ++ r) same)
told_map line rest is false none None h = tt
told_map line rest is false none (Some bytes) h = is_sized line (codes "map ") rest bytes 65 is (omega arith) h

told_agree : (line rest : List ℕ) → (1 ≤ length rest → line ≡ codes "agree " ++ rest) → (b : Bool) → bytes_eq rest (codes "none") ≡ b
    → (o : Option (List ℕ)) → bytes_of 32 rest ≡ o → ToldAnswer line (if b then Some answers.NoPoint else option_map (λ b. answers.Shared b) o)
told_agree line rest is true none o h =
    let same = (bytes_eq-Decides rest (codes "none")).0 none in
    inr (is (omega (arith, ap length same)) ∙ ap (λ r. codes "agree " ++ r) same)
told_agree line rest is false none None h = tt
told_agree line rest is false none (Some bytes) h = is_sized line (codes "agree ") rest bytes 32 is (omega arith) h

told_pair : (line rest : List ℕ) → (1 ≤ length rest → line ≡ codes "pair " ++ rest) → (s : Option (List ℕ)) → bytes_of 32 (before_first is_space rest) ≡ s
    → (p : Option (List ℕ)) → bytes_of 65 (after_first is_space rest) ≡ p
    → ToldAnswer line (option_and_then (λ secret. option_map (λ public. answers.Pair secret public) p) s)
told_pair line rest is None e p f = tt
told_pair line rest is (Some secret) e None f = tt
told_pair line rest is (Some secret) e (Some public) f =
    let secret_parts = bytes_told 32 (before_first is_space rest) secret e in
    let public_parts = bytes_told 65 (after_first is_space rest) public f in
    let whole = parted rest (some_digits 65 (after_first is_space rest) public (omega arith) public_parts) in
    let some : 1 ≤ length rest = omega (arith, ap length whole, length-append (before_first is_space rest) (32 ∷ after_first is_space rest)) in
    record {
      secret_digits = before_first is_space rest;
      public_digits = after_first is_space rest;
      is = is some ∙ ap (λ r. codes "pair " ++ r) whole;
      secret_hex = secret_parts.0;
      public_hex = public_parts.0;
      secret_sized = secret_parts.1;
      public_sized = public_parts.1;
    }

told_verdict : (line rest : List ℕ) → (1 ≤ length rest → line ≡ codes "verify " ++ rest) → (y : Bool) → bytes_eq rest (codes "yes") ≡ y
    → (n : Bool) → bytes_eq rest (codes "no") ≡ n
    → ToldAnswer line (if y then Some (answers.Verdict true) else if n then Some (answers.Verdict false) else None)
told_verdict line rest is true e n f =
    let same = (bytes_eq-Decides rest (codes "yes")).0 e in
    is (omega (arith, ap length same)) ∙ ap (λ r. codes "verify " ++ r) same
told_verdict line rest is false e true f =
    let same = (bytes_eq-Decides rest (codes "no")).0 f in
    is (omega (arith, ap length same)) ∙ ap (λ r. codes "verify " ++ r) same
told_verdict line rest is false e false f = tt

told_words : (line word rest : List ℕ) → ((w : List ℕ) → word ≡ w → 1 ≤ length rest → line ≡ w ++ (32 ∷ rest)) → ToldAnswer line (answer_in word rest)
unfolding answer_in pair_in verdict_in
told_words line word rest is =
    at (bytes_eq word (codes "nonce")) refl (bytes_eq word (codes "challenge")) refl (bytes_eq word (codes "pair")) refl (bytes_eq word (codes "map")) refl
    (bytes_eq word (codes "agree")) refl (bytes_eq word (codes "verify")) refl (bytes_eq word (codes "sign")) refl
  where
    named : (w : List ℕ) → bytes_eq word w ≡ true → 1 ≤ length rest → line ≡ w ++ (32 ∷ rest)
    named w e = is w ((bytes_eq-Decides word w).0 e)

    at : (a : Bool) → bytes_eq word (codes "nonce") ≡ a → (b : Bool) → bytes_eq word (codes "challenge") ≡ b → (c : Bool) → bytes_eq word (codes "pair") ≡ c
        → (d : Bool) → bytes_eq word (codes "map") ≡ d → (e : Bool) → bytes_eq word (codes "agree") ≡ e → (f : Bool) → bytes_eq word (codes "verify") ≡ f
        → (g : Bool) → bytes_eq word (codes "sign") ≡ g
        → ToldAnswer line (
        if a then option_map (λ bytes. answers.Nonce bytes) (bytes_of 16 rest)
        else if b then option_map (λ bytes. answers.Challenge bytes) (bytes_of 8 rest)
        else if c then pair_in rest
        else if d then or_none (λ bytes. answers.Mapped bytes) 65 rest
        else if e then or_none (λ bytes. answers.Shared bytes) 32 rest
        else if f then verdict_in rest
        else if g then option_map (λ bytes. answers.Signed bytes) (bytes_of 64 rest)
        else None)
    at true p b q c r d s e t f u g v = told_nonce line rest (named (codes "nonce") p) (bytes_of 16 rest) refl
    at false p true q c r d s e t f u g v = told_challenge line rest (named (codes "challenge") q) (bytes_of 8 rest) refl
    at false p false q true r d s e t f u g v =
        told_pair line rest (named (codes "pair") r) (bytes_of 32 (before_first is_space rest)) refl (bytes_of 65 (after_first is_space rest)) refl
    at false p false q false r true s e t f u g v =
        told_map line rest (named (codes "map") s) (bytes_eq rest (codes "none")) refl (bytes_of 65 rest) refl
    at false p false q false r false s true t f u g v =
        told_agree line rest (named (codes "agree") t) (bytes_eq rest (codes "none")) refl (bytes_of 32 rest) refl
    at false p false q false r false s false t true u g v =
        told_verdict line rest (named (codes "verify") u) (bytes_eq rest (codes "yes")) refl (bytes_eq rest (codes "no")) refl
    at false p false q false r false s false t false u true v = told_sign line rest (named (codes "sign") v) (bytes_of 64 rest) refl
    at false p false q false r false s false t false u false v = tt

told_answer : (line : List ℕ) → ToldAnswer line (line_answer line)
unfolding line_answer
told_answer line = at (bytes_eq line (codes "fault")) refl where
  at : (f : Bool) → bytes_eq line (codes "fault") ≡ f
      → ToldAnswer line (if f then Some answers.Fault else answer_in (before_first is_space line) (after_first is_space line))
  at true p = (bytes_eq-Decides line (codes "fault")).0 p
  at false p = told_words line (before_first is_space line) (after_first is_space line) (λ w is some. begins line w is some)

-- ---- lines

told : (line : List ℕ) → Told IsEmpty SpellsAnswer line (says line)
told [] = refl
told (c ∷ cs) = by (line_answer (c ∷ cs)) (told_answer (c ∷ cs)) where
  by : (o : Option Answer) → ToldAnswer (c ∷ cs) o → Told IsEmpty SpellsAnswer (c ∷ cs) (option_map (λ answer. answer ∷ []) o)
  by None t = tt
  by (Some answer) t = t

notes : (line : List ℕ) → IsEmpty line → says line ≡ Some []
notes line empty = ap says empty

empty_answer : (answer : Answer) → line_answer [] ≡ Some answer → ⊥
unfolding line_answer answer_in
empty_answer answer h = cc

things : (line : List ℕ) (answer : Answer) → SpellsAnswer line answer → says line ≡ Some (answer ∷ [])
things [] answer h = absurd (empty_answer answer (answer_reads [] answer h))
things (c ∷ cs) answer h = ap (λ (o : Option Answer). option_map (λ answer. answer ∷ []) o) (answer_reads (c ∷ cs) answer h)

-- lines are read as the grammar says
pub agrees : Agrees says IsEmpty SpellsAnswer
agrees = record { told = told; notes = notes; things = things }
