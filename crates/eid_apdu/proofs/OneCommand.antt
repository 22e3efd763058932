-- Bytes spell at most one command: body and expected length can be read back from what stands behind a header.
use Rattle.std.proofs.Common.{◌≡◌, ℕ, ◌+◌, ◌*◌, ◌/◌, ◌%◌, ◌<◌, ◌≤◌, ◌==◌, false, List, [], ◌∷◌, ◌++◌, length, take, drop, get_or, refl, sym, ap, ◌∙◌, arith, ◌-◌, length-drop, take_all}
use Rattle.std.specs.Prelude.{if◌then◌else◌}
use Rattle.std.proofs.Math.Seq.{take-append_seam, drop-append_seam}
use Rattle.std.proofs.lemmas.List.{append-nil}
use Rattle.std.proofs.lemmas.Bool.Decides.{nat_tests}
use Rattle.eid_apdu.specs.Command.{PlainCommand, Case, Bare, ShortLe, ShortBody, ShortBodyLe, ExtendedLe, ExtendedBody, ExtendedBodyLe, tail, short_le, extended_le, two_bytes, Carries, IsShortLe, IsExtendedLe, IsTail, Spells}

-- a body and an expected length
record Said : Type 0 where
  body : List ℕ
  ne : ℕ

abbrev said_as : List ℕ → ℕ → Said
said_as body ne = record { body = body; ne = ne }

abbrev short_number : ℕ → ℕ
short_number le = if le == 0 then 256 else le

abbrev extended_number : ℕ → ℕ → ℕ
extended_number high low = if 256 * high + low == 0 then 65536 else 256 * high + low

-- the expected length that a field of one byte says, or of two, or none
abbrev short_field : List ℕ → ℕ
short_field [] = 0
short_field (le ∷ rest) = short_number le

abbrev extended_field : List ℕ → ℕ
extended_field [] = 0
extended_field (high ∷ []) = 0
extended_field (high ∷ low ∷ rest) = extended_number high low

-- what the bytes behind an extended field's byte 00 say
abbrev said_extended : List ℕ → Said
said_extended [] = said_as [] 0
said_extended (high ∷ []) = said_as [] 0
said_extended (high ∷ low ∷ []) = said_as [] (extended_number high low)
said_extended (high ∷ low ∷ next ∷ rest) =
    said_as (take (256 * high + low) (next ∷ rest)) (extended_field (drop (256 * high + low) (next ∷ rest)))

-- what the bytes behind a header say
abbrev said : List ℕ → Said
said [] = said_as [] 0
said (le ∷ []) = said_as [] (short_number le)
said (first ∷ next ∷ rest) =
    if first == 0 then said_extended (next ∷ rest)
    else said_as (take first (next ∷ rest)) (short_field (drop first (next ∷ rest)))

short_again : (ne : ℕ) → IsShortLe ne → short_number (short_le ne) ≡ ne
short_again ne fits =
    let some : 0 < ne = fits.0 in
    let low : ne ≤ 256 = fits.1 in
    grind (arith, nat_tests)

extended_again : (ne : ℕ) → IsExtendedLe ne → extended_number (extended_le ne / 256) (extended_le ne % 256) ≡ ne
extended_again ne fits =
    let some : 0 < ne = fits.0 in
    let low : ne ≤ 65536 = fits.1 in
    let joined : 256 * (ne % 65536 / 256) + ne % 65536 % 256 ≡ ne % 65536 = omega arith in
    rw joined (grind (arith, nat_tests))

nonzero : (n : ℕ) → 0 < n → (n == 0) ≡ false
nonzero n some = grind (arith, nat_tests)

-- a body behind its length is read back, with the field that follows it
short_body : (size : ℕ) (body more : List ℕ) → length body ≡ size → 0 < length body → said (size ∷ (body ++ more)) ≡ said_as body (short_field more)
short_body size [] more sized some = absurd (omega arith)
short_body size (x ∷ xs) more sized some =
    let positive : 0 < size = omega arith in
    rw (nonzero size positive, ← sized, take-append_seam (x ∷ xs) more, drop-append_seam (x ∷ xs) more) refl

extended_body : (body more : List ℕ) → 0 < length body → said (0 ∷ (two_bytes (length body) ++ body ++ more)) ≡ said_as body (extended_field more)
extended_body [] more some = absurd (omega arith)
extended_body (x ∷ xs) more some =
    let size : 256 * (length (x ∷ xs) / 256) + length (x ∷ xs) % 256 ≡ length (x ∷ xs) = omega arith in
    rw (size, take-append_seam (x ∷ xs) more, drop-append_seam (x ∷ xs) more) refl

-- body and expected length are read back from what is written in any case
said_tail : (form : Case) (body : List ℕ) (ne : ℕ) → Carries form body ne → said (tail form body ne) ≡ said_as body ne
said_tail Bare body ne p = rw (p.0, p.1) refl
said_tail ShortLe body ne p = rw (p.0, short_again ne p.1) refl
said_tail ShortBody body ne p =
    ap (λ (b : List ℕ). said (length body ∷ b)) (sym (append-nil body)) ∙ short_body (length body) body [] refl p.0.0 ∙ ap (said_as body) (sym p.1)
said_tail ShortBodyLe body ne p = short_body (length body) body (short_le ne ∷ []) refl p.0.0 ∙ ap (said_as body) (short_again ne p.1)
said_tail ExtendedLe body ne p = rw (p.0, extended_again ne p.1) refl
said_tail ExtendedBody body ne p =
    ap (λ (b : List ℕ). said (0 ∷ (two_bytes (length body) ++ b))) (sym (append-nil body)) ∙ extended_body body [] p.0.0 ∙ ap (said_as body) (sym p.1)
said_tail ExtendedBodyLe body ne p = extended_body body (two_bytes (extended_le ne)) p.0.0 ∙ ap (said_as body) (extended_again ne p.1)

-- what follows a header is written for one body and one expected length
pub one_tail : (f g : Case) (a b : List ℕ) (m n : ℕ) → Carries f a m → Carries g b n → tail f a m ≡ tail g b n → (a ≡ b) × (m ≡ n)
one_tail f g a b m n p q e =
    let same : said_as a m ≡ said_as b n = sym (said_tail f a m p) ∙ ap said e ∙ said_tail g b n q in
    (ap (λ (s : Said). s.body) same, ap (λ (s : Said). s.ne) same)

abbrev command_of : ℕ → ℕ → ℕ → ℕ → List ℕ → ℕ → PlainCommand
command_of cla ins p1 p2 body ne = record { cla = cla; ins = ins; p1 = p1; p2 = p2; body = body; ne = ne }

pub spells_one : (bytes : List ℕ) (c d : PlainCommand) → Spells bytes c → Spells bytes d → c ≡ d
spells_one bytes c d p q =
    let headers : c.cla ∷ c.ins ∷ c.p1 ∷ c.p2 ∷ p.rest ≡ d.cla ∷ d.ins ∷ d.p1 ∷ d.p2 ∷ q.rest = sym p.header ∙ q.header in
    let rests : p.rest ≡ q.rest = cc in
    let tails = one_tail p.tail.form q.tail.form c.body d.body c.ne d.ne p.tail.carries q.tail.carries (sym p.tail.written ∙ rests ∙ q.tail.written) in
    let cla : c.cla ≡ d.cla = cc in
    let ins : c.ins ≡ d.ins = cc in
    let p1 : c.p1 ≡ d.p1 = cc in
    let p2 : c.p2 ≡ d.p2 = cc in
    let body : c.body ≡ d.body = tails.0 in
    let ne : c.ne ≡ d.ne = tails.1 in
    let whole : command_of c.cla c.ins c.p1 c.p2 c.body c.ne ≡ command_of d.cla d.ins d.p1 d.p2 d.body d.ne = cc in
    whole

-- what stands behind the header of a spelled command
pub rest_is_tail : (bytes : List ℕ) (c : PlainCommand) → Spells bytes c → IsTail (take (length bytes - 4) (drop 4 bytes)) c.body c.ne
rest_is_tail bytes c s =
    let whole : take (length bytes - 4) (drop 4 bytes) ≡ drop 4 bytes = take_all _ _ (omega (arith, length-drop 4 bytes)) in
    rw (whole, s.header) s.tail

-- the first four bytes and the rest
header_rest : (bytes : List ℕ) → 4 ≤ length bytes → bytes ≡ get_or bytes 0 0 ∷ get_or bytes 1 0 ∷ get_or bytes 2 0 ∷ get_or bytes 3 0 ∷ take (length bytes - 4) (drop 4 bytes)
header_rest [] some = absurd (omega arith)
header_rest (a ∷ []) some = absurd (omega arith)
header_rest (a ∷ b ∷ []) some = absurd (omega arith)
header_rest (a ∷ b ∷ c ∷ []) some = absurd (omega arith)
header_rest (a ∷ b ∷ c ∷ d ∷ rest) some = ap (λ r. a ∷ b ∷ c ∷ d ∷ r) (sym (take_all _ rest (omega arith)))

-- the command that a header and the tail behind it make is the one that the bytes spell
pub only_command : (bytes body : List ℕ) (ne : ℕ) (d : PlainCommand) → 4 ≤ length bytes → IsTail (take (length bytes - 4) (drop 4 bytes)) body ne → Spells bytes d
    → command_of (get_or bytes 0 0) (get_or bytes 1 0) (get_or bytes 2 0) (get_or bytes 3 0) body ne ≡ d
only_command bytes body ne d some tail s =
    spells_one bytes _ d (record { rest = take (length bytes - 4) (drop 4 bytes); header = header_rest bytes some; tail = tail }) s
