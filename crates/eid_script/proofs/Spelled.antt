-- What lines say is what spells them.
use Rattle.std.proofs.Common.{◌≡◌, ℕ, zero, suc, ◌+◌, ◌<◌, ◌≤◌, ◌^◌, Bool, true, false, ◌&&◌, inl, inr, List, [], ◌∷◌, ◌++◌, length, get_or, take, drop, slice_index, Option, Some, None, Result, Ok, Err, refl, sym, ap, ◌∙◌, subst, arith, take-append-drop}
use Rattle.std.specs.Prelude.{nat_le, nat_lt, if◌then◌else◌, ⊤, codes, decimal}
use Rattle.std.specs.List.{position_or_len, before_first, after_first, list_all}
use Rattle.std.specs.Str.{bytes_eq, all_ascii_digits}
use Rattle.std.specs.Char.{is_ascii_digit}
use Rattle.std.specs.Str.Parse.{digits_value}
use Rattle.std.proofs.lemmas.Bool.{and_parts, eqb-true, cases_lt}
use Rattle.std.proofs.lemmas.Bool.Decides.{nat_tests}
use Rattle.std.proofs.lemmas.List.{drop_all}
use Rattle.std.proofs.lemmas.Slice.Eq.{bytes_eq-Decides}
use Rattle.std.proofs.lemmas.List.Sums.{split_at_first, passes_at_first}
use Rattle.std.proofs.lemmas.Str.Parse.{IsNumeralModel, numerals_by_value, tells_all_ascii_digits}
use Rattle.std.proofs.lemmas.Fmt.{decimal_is_IsNumeral, decimal-digits_value, first_decimal, length-decimal-le, decimal_digit}
use Rattle.hex.specs.Hex.{decode_sized}
use Rattle.hex.specs.declared.error.FromHexError.{FromHexError}
use Rattle.eid_cells.specs.declared.tear.Tear.{Tear}
use Rattle.eid_cells.specs.declared.tear.Tear.TheVariants.{Old, New, Half, Fill}
use Rattle.eid_script.specs.Scripts.{ScriptLine, OnLine, OffLine, ApduLine, CutLine, command_line, filled, tear_of, write_of, cut_at, cut_line, is_skipped, says}
use Rattle.eid_script.specs.Grammar.{IsApdu, IsFill, IsTear, IsCut, Spells, IsNote}
use Rattle.eid_text.specs.Hexadecimal.{bytes_within}
use Rattle.eid_text.specs.Lines.{is_space}
use Rattle.eid_text.proofs.Hexadecimal.{decodes_one, decoded_one}
use Rattle.eid_text.proofs.Decoding.{within_reads, within_told}
use Rattle.eid_text.proofs.Readings.{Told, Agrees}

-- a text that begins with these bytes
front : (n : ℕ) (text word : List ℕ) → bytes_eq (take n text) word ≡ true → text ≡ word ++ drop n text
front n text word h = sym (take-append-drop n text) ∙ ap (λ t. t ++ drop n text) ((bytes_eq-Decides (take n text) word).0 h)

-- ---- commands

fits : (a b : ℕ) → a ≤ b → nat_le a b ≡ true
fits a b h = grind (arith, nat_tests)

fits_true : (a b : ℕ) → nat_le a b ≡ true → a ≤ b
fits_true a b h = grind (arith, nat_tests)

command_reads : (bytes : List ℕ) → 1 ≤ length bytes → command_line (Some bytes) ≡ Some (ApduLine bytes ∷ [])
command_reads bytes some = rw (fits 1 (length bytes) some) refl

apdu_reads : (line bytes : List ℕ) → IsApdu line bytes → says line ≡ Some (ApduLine bytes ∷ [])
apdu_reads line bytes h = ap says h.is ∙ ap command_line (within_reads 65544 h.digits bytes h.hex h.most) ∙ command_reads bytes h.some

-- ---- what a cut leaves

fill_reads : (words : List ℕ) (byte : ℕ) → IsFill words byte → tear_of words ≡ Some (Fill byte)
fill_reads words byte h = ap tear_of h.is ∙ ap filled (decodes_one h.digits byte h.hex)

tear_reads : (words : List ℕ) (tear : Tear) → IsTear words tear → tear_of words ≡ Some tear
tear_reads words Old h = ap tear_of h
tear_reads words New h = ap tear_of h
tear_reads words Half h = ap tear_of h
tear_reads words (Fill byte) h = fill_reads words byte h

abbrev ToldTear : List ℕ → Option Tear → Type 0
ToldTear words None = ⊤
ToldTear words (Some tear) = IsTear words tear

told_fill : (words : List ℕ) → words ≡ codes "fill " ++ drop 5 words → (r : Result (List ℕ) FromHexError) → decode_sized (drop 5 words) 1 ≡ r → ToldTear words (filled r)
told_fill words is (Err e) h = tt
told_fill words is (Ok bytes) h = record { digits = drop 5 words; is = is; hex = decoded_one (drop 5 words) bytes h }

told_tear : (words : List ℕ) → ToldTear words (tear_of words)
told_tear words = at (bytes_eq words (codes "old")) refl (bytes_eq words (codes "new")) refl (bytes_eq words (codes "half")) refl (bytes_eq (take 5 words) (codes "fill ")) refl
  where
    at : (a : Bool) → bytes_eq words (codes "old") ≡ a → (b : Bool) → bytes_eq words (codes "new") ≡ b → (c : Bool) → bytes_eq words (codes "half") ≡ c → (d : Bool) → bytes_eq (take 5 words) (codes "fill ") ≡ d → ToldTear words (if a then Some Old else if b then Some New else if c then Some Half else if d then filled (decode_sized (drop 5 words) 1) else None)
    at true p b q c r d s = (bytes_eq-Decides words (codes "old")).0 p
    at false p true q c r d s = (bytes_eq-Decides words (codes "new")).0 q
    at false p false q true r d s = (bytes_eq-Decides words (codes "half")).0 r
    at false p false q false r true s = told_fill words (front 5 words (codes "fill ") s) (decode_sized (drop 5 words) 1) refl
    at false p false q false r false s = tt

tear_told : (words : List ℕ) (tear : Tear) → tear_of words ≡ Some tear → IsTear words tear
tear_told words tear h = subst (λ (t : Option Tear). ToldTear words t) h (told_tear words)

-- ---- the number of a write

same_digits : (ds : List ℕ) → list_all is_ascii_digit ds ≡ all_ascii_digits ds
same_digits [] = refl
same_digits (c ∷ cs) = ap (λ b. is_ascii_digit c && b) (same_digits cs)

digits_model : IsNumeralModel (λ ds. all_ascii_digits ds ≡ true) (digits_value 10)
digits_model = numerals_by_value (λ ds. all_ascii_digits ds ≡ true) tells_all_ascii_digits

write_reads : (write : ℕ) → 1 ≤ write → write ≤ 1000000 → write_of (decimal write) ≡ Some write
write_reads write some most =
    let number = decimal_is_IsNumeral write (omega arith) in
    let digits : list_all is_ascii_digit (decimal write) ≡ true = same_digits (decimal write) ∙ digits_model.from (decimal write) number.0.1 in
    let long : nat_le 1 (length (decimal write)) ≡ true = fits 1 (length (decimal write)) (omega (arith, number.0.0)) in
    let short : nat_le (length (decimal write)) 7 ≡ true = fits (length (decimal write)) 7 (length-decimal-le 7 write (omega arith) (omega arith) (omega arith)) in
    let lead : nat_lt 48 (slice_index (decimal write) 0) ≡ true = below 48 (slice_index (decimal write) 0) (first_decimal write (omega arith) (omega arith)) in
    rw (long, short, lead, digits, number.1, fits write 1000000 most) refl
  where
    below : (a b : ℕ) → a < b → nat_lt a b ≡ true
    below a b h = grind (arith, nat_tests)

record IsWrite (word : List ℕ) (write : ℕ) : Type 0 where
  pub is : word ≡ decimal write
  pub some : 1 ≤ write
  pub most : write ≤ 1000000

first_digit : (ds : List ℕ) → 48 < slice_index ds 0 → 1 ≤ length ds → list_all is_ascii_digit ds ≡ true → digits_value 10 ds < 2 ^ 64 → decimal (digits_value 10 ds) ≡ ds
first_digit ds lead some digits small = decimal-digits_value digits_model ds (sym (same_digits ds) ∙ digits) (omega arith) (λ e. absurd (omega arith)) small

decimal_zero : decimal 0 ≡ 48 ∷ []
decimal_zero = decimal_digit 0 (omega arith)

write_told : (word : List ℕ) (write : ℕ) → write_of word ≡ Some write → IsWrite word write
write_told word write h = at (nat_le 1 (length word)) refl (nat_le (length word) 7) refl (nat_lt 48 (slice_index word 0)) refl (list_all is_ascii_digit word) refl (nat_le (digits_value 10 word) 1000000) refl h
  where
    above : (a b : ℕ) → nat_lt a b ≡ true → a < b
    above a b h = grind (arith, nat_tests)

    nonzero : (n : ℕ) → decimal n ≡ word → 48 < slice_index word 0 → 1 ≤ n
    nonzero zero is lead = let first : slice_index word 0 ≡ 48 = ap (λ w. slice_index w 0) (sym is ∙ decimal_zero) in absurd (omega arith)
    nonzero (suc n) is lead = omega arith

    at : (a : Bool) → nat_le 1 (length word) ≡ a → (b : Bool) → nat_le (length word) 7 ≡ b → (c : Bool) → nat_lt 48 (slice_index word 0) ≡ c → (d : Bool) → list_all is_ascii_digit word ≡ d → (e : Bool) → nat_le (digits_value 10 word) 1000000 ≡ e → (if a && b && c && d && e then Some (digits_value 10 word) else None) ≡ Some write → IsWrite word write
    at false p b q c r d s e t h = absurd (cc)
    at true p false q c r d s e t h = absurd (cc)
    at true p true q false r d s e t h = absurd (cc)
    at true p true q true r false s e t h = absurd (cc)
    at true p true q true r true s false t h = absurd (cc)
    at true p true q true r true s true t h =
        let same : digits_value 10 word ≡ write = cc in
        let most = fits_true (digits_value 10 word) 1000000 t in
        let lead = above 48 (slice_index word 0) r in
        let is : decimal (digits_value 10 word) ≡ word = first_digit word lead (fits_true 1 (length word) p) s (omega arith) in
        record {
          is = sym is ∙ ap decimal same;
          some = nonzero write (ap decimal (sym same) ∙ is) lead;
          most = omega arith;
        }

-- ---- the words of a cut

digit_is_no_space : (c : ℕ) → is_ascii_digit c ≡ true → is_space c ≡ false
digit_is_no_space c h = grind (arith, nat_tests)

space_behind : (word words : List ℕ) → list_all is_ascii_digit word ≡ true → position_or_len is_space (word ++ (32 ∷ words)) ≡ length word
space_behind [] words h = refl
space_behind (c ∷ cs) words h =
    let parts = and_parts (is_ascii_digit c) (list_all is_ascii_digit cs) h in
    let other = digit_is_no_space c parts.0 in
    let rest = space_behind cs words parts.1 in
    rw other (omega (arith, rest))

take_word : (word words : List ℕ) → take (length word) (word ++ words) ≡ word
take_word [] words = refl
take_word (c ∷ cs) words = ap (λ t. c ∷ t) (take_word cs words)

drop_word : (word words : List ℕ) (c n : ℕ) → n ≡ length word + 1 → drop n (word ++ (c ∷ words)) ≡ words
drop_word [] words c n is = rw is refl
drop_word (d ∷ ds) words c zero is = absurd (omega arith)
drop_word (d ∷ ds) words c (suc n) is = drop_word ds words c n (omega arith)

cut_reads : (line : List ℕ) (write : ℕ) (tear : Tear) → IsCut line write tear → says line ≡ Some (CutLine write tear ∷ [])
cut_reads line write tear h =
    let number = decimal_is_IsNumeral write (omega (arith, h.most)) in
    let digits : list_all is_ascii_digit (decimal write) ≡ true = same_digits (decimal write) ∙ digits_model.from (decimal write) number.0.1 in
    let at = space_behind (decimal write) h.words digits in
    let word : before_first is_space (decimal write ++ (32 ∷ h.words)) ≡ decimal write = ap (λ n. take n (decimal write ++ (32 ∷ h.words))) at ∙ take_word (decimal write) (32 ∷ h.words) in
    let rest : after_first is_space (decimal write ++ (32 ∷ h.words)) ≡ h.words = drop_word (decimal write) h.words 32 _ (omega (arith, at)) in
    ap says h.is
    ∙ ap (λ w. cut_at (write_of w) (tear_of (after_first is_space (decimal write ++ (32 ∷ h.words))))) word
    ∙ ap (λ w. cut_at (write_of (decimal write)) (tear_of w)) rest
    ∙ ap (λ w. cut_at w (tear_of h.words)) (write_reads write h.some h.most)
    ∙ ap (λ t. cut_at (Some write) t) (tear_reads h.words tear h.leaves)

-- ---- lines

spelled_reads : (line : List ℕ) (s : ScriptLine) → Spells line s → says line ≡ Some (s ∷ [])
spelled_reads line OnLine h = ap says h
spelled_reads line OffLine h = ap says h
spelled_reads line (ApduLine bytes) h = apdu_reads line bytes h
spelled_reads line (CutLine write tear) h = cut_reads line write tear h

note_reads : (line : List ℕ) → IsNote line → says line ≡ Some []
note_reads [] h = refl
note_reads (c ∷ cs) h = rw h refl

told_note : (line : List ℕ) → is_skipped line ≡ true → IsNote line
told_note [] h = tt
told_note (c ∷ cs) h = eqb-true c 35 h

told_command : (line : List ℕ) → line ≡ codes "apdu " ++ drop 5 line → (o : Option (List ℕ)) → bytes_within 65544 (drop 5 line) ≡ o
    → Told IsNote Spells line (command_line o)
told_command line is None h = tt
told_command line is (Some bytes) h = at (nat_le 1 (length bytes)) refl
  where
    at : (a : Bool) → nat_le 1 (length bytes) ≡ a → Told IsNote Spells line (if a then Some (ApduLine bytes ∷ []) else None)
    at false p = tt
    at true p =
        let parts = within_told 65544 (drop 5 line) bytes h in
        record {
          digits = drop 5 line;
          is = is;
          hex = parts.0;
          some = fits_true 1 (length bytes) p;
          most = parts.1;
        }

-- what follows the space holds no word where there is no space
words_behind : (words : List ℕ) (tear : Tear) → tear_of (after_first is_space words) ≡ Some tear → position_or_len is_space words < length words
words_behind words tear h =
    elim (cases_lt (position_or_len is_space words) (length words)) [
      | inl inside ↦ inside
      | inr past ↦
          let none : after_first is_space words ≡ [] = drop_all (position_or_len is_space words + 1) words (omega arith) in
          let said : None ≡ Some tear = sym (ap tear_of none) ∙ h in
          absurd (cc)
    ]

told_cut : (line words : List ℕ) → line ≡ codes "cut " ++ words → (w : Option ℕ) → write_of (before_first is_space words) ≡ w → (t : Option Tear) → tear_of (after_first is_space words) ≡ t → Told IsNote Spells line (cut_at w t)
told_cut line words is None p t q = tt
told_cut line words is (Some write) p None q = tt
told_cut line words is (Some write) p (Some tear) q =
    let number = write_told (before_first is_space words) write p in
    let inside = words_behind words tear q in
    let space : get_or words (position_or_len is_space words) 0 ≡ 32 = eqb-true (get_or words (position_or_len is_space words) 0) 32 (passes_at_first is_space words 0 inside) in
    let parts = split_at_first is_space words 0 inside in
    let whole : words ≡ decimal write ++ (32 ∷ after_first is_space words) = parts
    ∙ ap (λ w. w ++ (get_or words (position_or_len is_space words) 0 ∷ after_first is_space words)) number.is
    ∙ ap (λ c. decimal write ++ (c ∷ after_first is_space words)) space in
    record {
      words = after_first is_space words;
      is = is ∙ ap (λ w. codes "cut " ++ w) whole;
      leaves = tear_told (after_first is_space words) tear q;
      some = number.some;
      most = number.most;
    }

told : (line : List ℕ) → Told IsNote Spells line (says line)
told line = at (is_skipped line) refl (bytes_eq line (codes "on")) refl (bytes_eq line (codes "off")) refl (bytes_eq (take 5 line) (codes "apdu ")) refl (bytes_eq (take 4 line) (codes "cut ")) refl
  where
    at : (a : Bool) → is_skipped line ≡ a → (b : Bool) → bytes_eq line (codes "on") ≡ b → (c : Bool) → bytes_eq line (codes "off") ≡ c → (d : Bool) → bytes_eq (take 5 line) (codes "apdu ") ≡ d → (e : Bool) → bytes_eq (take 4 line) (codes "cut ") ≡ e
        → Told IsNote Spells line (if a then Some [] else if b then Some (OnLine ∷ []) else if c then Some (OffLine ∷ []) else if d then command_line (bytes_within 65544 (drop 5 line)) else if e then cut_line (drop 4 line) else None)
    at true p b q c r d s e t = told_note line p
    at false p true q c r d s e t = (bytes_eq-Decides line (codes "on")).0 q
    at false p false q true r d s e t = (bytes_eq-Decides line (codes "off")).0 r
    at false p false q false r true s e t = told_command line (front 5 line (codes "apdu ") s) (bytes_within 65544 (drop 5 line)) refl
    at false p false q false r false s true t = told_cut line (drop 4 line) (front 4 line (codes "cut ") t) (write_of (before_first is_space (drop 4 line))) refl (tear_of (after_first is_space (drop 4 line))) refl
    at false p false q false r false s false t = tt

-- lines are read as the grammar says
pub agrees : Agrees says IsNote Spells
agrees = record { told = told; notes = note_reads; things = spelled_reads }
