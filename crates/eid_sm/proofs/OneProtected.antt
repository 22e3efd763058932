-- Bytes are protected forms of at most one command, and of at most one reply.
use Rattle.std.proofs.Common.{◌≡◌, ◌≢◌, ℕ, zero, suc, ◌+◌, ◌/◌, ◌%◌, ◌<◌, List, [], ◌∷◌, ◌++◌, length, get_or, slice_index, refl, sym, ap, ◌∙◌, arith}
use Rattle.std.specs.Int.{bytes_high_first}
use Rattle.std.proofs.Math.Seq.{take-append_seam}
use Rattle.eid_aes.specs.Cipher.{IsBlock, cipher, inv_cipher, key_expansion, rounds_of}
use Rattle.eid_aes.specs.Cbc.{cbc_decrypted}
use Rattle.eid_aes.proofs.ColumnFacts.{byte_at-lt}
use Rattle.eid_aes.proofs.ScheduleFacts.{key_expansion-bytes}
use Rattle.eid_aes.proofs.Undone.{inv_cipher_rounds-cipher_rounds, cipher_rounds-inv_cipher_rounds, cipher_rounds-block, inv_cipher_rounds-block}
use Rattle.eid_aes.proofs.RoundFacts.{IsPair}
use Rattle.eid_aes.proofs.Chaining.{cbc_undone}
use Rattle.eid_cmac.specs.Padding.{padding, padded}
use Rattle.eid_cmac.proofs.PaddingFacts.{padded_at, padded_once}
use Rattle.eid_tlv.specs.Objects.{object, tag_bytes}
use Rattle.eid_tlv.proofs.Distinct.{same_object}
use Rattle.eid_apdu.specs.Answer.{PlainReply, status_bytes}
use Rattle.eid_apdu.specs.Command.{PlainCommand, IsShortLe, IsExtendedLe, short_le, extended_le}
use Rattle.eid_apdu.proofs.OneCommand.{spells_one}
use Rattle.eid_sm.specs.Keys.{Keys, counter_bytes}
use Rattle.eid_sm.specs.Parts.{AreBytes, cryptogram, encrypted_object, mac_object, with_mac}
use Rattle.eid_sm.specs.Commands.{LeForm, NoLe, OneByte, TwoBytes, le_object, CanSay, sent_command, IsProtected}
use Rattle.eid_sm.specs.Replies.{reply_objects, IsSealed}
use Rattle.eid_sm.proofs.PartFacts.{le_object_one, le_object_two, status_object_is}
use Rattle.eid_sm.proofs.Lengths.{length-mac_object}
use Rattle.eid_sm.proofs.Ends.{before_end, after_before}
use Rattle.eid_sm.proofs.Opening.{padded_blocks}

-- ---- one plain text for a cryptogram

-- encryption under a key of bytes is undone
pub pair_of_bytes : (key : List ℕ) → AreBytes key → IsPair key
unfolding cipher inv_cipher
pair_of_bytes key octets =
    let bytes : (i : ℕ) → slice_index (key_expansion key) i < 256 = key_expansion-bytes key octets in record {
      undone = λ block b. inv_cipher_rounds-cipher_rounds (key_expansion key) block (rounds_of key) bytes b;
      redone = λ block b. cipher_rounds-inv_cipher_rounds (key_expansion key) block (rounds_of key) bytes b;
      block_of = λ block b. cipher_rounds-block (key_expansion key) block (rounds_of key) bytes b;
      inv_block_of = λ block b. inv_cipher_rounds-block (key_expansion key) block (rounds_of key) bytes b;
    }

bytes_of_number : (k n i : ℕ) → slice_index (bytes_high_first k n) i < 256
bytes_of_number zero n i = omega arith
bytes_of_number (suc k) n zero = byte_at-lt k n
bytes_of_number (suc k) n (suc i) = bytes_of_number k n i

counter_block : (n : ℕ) → IsBlock (counter_bytes n)
unfolding counter_bytes
counter_block n = record { size = refl; bytes = bytes_of_number 16 n }

same_padded : (p q : List ℕ) → padded p ≡ padded q → p ≡ q
same_padded p q e =
    let one = padded_at (padded p) p refl in
    let other = padded_at (padded p) q e in
    let some : get_or (padded p) (length q) 0 ≢ 0 = λ none. let no : ◌≡◌ {A = ℕ} 0x80 0 = sym other.mark ∙ none in omega arith in
    let size : length q ≡ length p = padded_once (padded p) (length p) (length q) one some other.after in
    sym (take-append_seam p (padding (length p))) ∙ rw (e, ← size) (take-append_seam q (padding (length q)))

same_cryptogram : (key count p q : List ℕ) → AreBytes key → IsBlock count → AreBytes p → AreBytes q → cryptogram key count p ≡ cryptogram key count q → p ≡ q
unfolding cryptogram
same_cryptogram key count p q octets block first second e =
    let pair = pair_of_bytes key octets in
    let iv = pair.block_of count block in
    same_padded p q
    (sym (cbc_undone key (cipher key count) (padded p) pair iv (padded_blocks p first)) ∙ ap (λ s. cbc_decrypted key (cipher key count) s) e
    ∙ cbc_undone key (cipher key count) (padded q) pair iv (padded_blocks q second))

-- ---- one body, and what stands behind its object

-- what stands behind object 87 does not begin with its tag
abbrev IsBehind : List ℕ → Type 0
IsBehind [] = Unit {0}
IsBehind (x ∷ xs) = x ≢ 0x87

first_byte : (v after : List ℕ) → (rest : List ℕ) → IsBehind rest → object 0x87 v ++ after ≡ rest → ⊥
unfolding object tag_bytes
first_byte v after [] behind e = cc
first_byte v after (x ∷ xs) behind e = let same : 0x87 ≡ x = cc in behind (sym same)

same_encrypted : (key count p q a b : List ℕ) → AreBytes key → IsBlock count → AreBytes p → AreBytes q → IsBehind a → IsBehind b
    → encrypted_object key count p ++ a ≡ encrypted_object key count q ++ b → (p ≡ q) × (a ≡ b)
unfolding encrypted_object
same_encrypted key count [] [] a b octets block first second behind other e = (refl, e)
same_encrypted key count [] (y ∷ ys) a b octets block first second behind other e = absurd (first_byte _ b a behind (sym e))
same_encrypted key count (x ∷ xs) [] a b octets block first second behind other e = absurd (first_byte _ a b other e)
same_encrypted key count (x ∷ xs) (y ∷ ys) a b octets block first second behind other e =
    let ends = same_object 0x87 0x87 (0x01 ∷ cryptogram key count (x ∷ xs)) (0x01 ∷ cryptogram key count (y ∷ ys)) a b refl refl e in
    let inner : cryptogram key count (x ∷ xs) ≡ cryptogram key count (y ∷ ys) = let values = ends.1 in cc in
    (same_cryptogram key count (x ∷ xs) (y ∷ ys) octets block first second inner, ends.2)

-- ---- one expected length

le_behind : (form : LeForm) (ne : ℕ) → IsBehind (le_object form ne)
le_behind NoLe ne = tt
le_behind OneByte ne = rw (le_object_one (short_le ne)) (λ same. omega arith)
le_behind TwoBytes ne = rw (le_object_two (extended_le ne / 256) (extended_le ne % 256)) (λ same. omega arith)

short_le_one : (m k : ℕ) → IsShortLe m → IsShortLe k → short_le m ≡ short_le k → m ≡ k
short_le_one m k first second e = omega arith

extended_le_one : (m k : ℕ) → IsExtendedLe m → IsExtendedLe k → extended_le m / 256 ≡ extended_le k / 256 → extended_le m % 256 ≡ extended_le k % 256 → m ≡ k
extended_le_one m k first second high low = omega arith

same_le : (f g : LeForm) (m k : ℕ) → CanSay f m → CanSay g k → le_object f m ≡ le_object g k → m ≡ k
same_le NoLe NoLe m k first second e = first ∙ sym second
same_le NoLe OneByte m k first second e = let is = le_object_one (short_le k) in absurd (cc)
same_le NoLe TwoBytes m k first second e = let is = le_object_two (extended_le k / 256) (extended_le k % 256) in absurd (cc)
same_le OneByte NoLe m k first second e = let is = le_object_one (short_le m) in absurd (cc)
same_le OneByte OneByte m k first second e =
    let a = le_object_one (short_le m) in
    let b = le_object_one (short_le k) in
    short_le_one m k first second (cc)
same_le OneByte TwoBytes m k first second e =
    let a = le_object_one (short_le m) in
    let b = le_object_two (extended_le k / 256) (extended_le k % 256) in
    let size : ◌≡◌ {A = ℕ} 1 2 = cc in
    absurd (omega arith)
same_le TwoBytes NoLe m k first second e = let is = le_object_two (extended_le m / 256) (extended_le m % 256) in absurd (cc)
same_le TwoBytes OneByte m k first second e =
    let a = le_object_two (extended_le m / 256) (extended_le m % 256) in
    let b = le_object_one (short_le k) in
    let size : ◌≡◌ {A = ℕ} 2 1 = cc in
    absurd (omega arith)
same_le TwoBytes TwoBytes m k first second e =
    let a = le_object_two (extended_le m / 256) (extended_le m % 256) in
    let b = le_object_two (extended_le k / 256) (extended_le k % 256) in
    extended_le_one m k first second (cc) (cc)

-- ---- one command

abbrev command_of : ℕ → ℕ → ℕ → ℕ → List ℕ → ℕ → PlainCommand
command_of cla ins p1 p2 body ne = record { cla = cla; ins = ins; p1 = p1; p2 = p2; body = body; ne = ne }

same_objects : (key a b s t : List ℕ) → with_mac key s a ≡ with_mac key t b → a ≡ b
same_objects key a b s t e =
    sym (before_end (with_mac key s a) a (mac_object key s a) 10 refl (length-mac_object key s a))
    ∙ before_end (with_mac key s a) b (mac_object key t b) 10 e (length-mac_object key t b)

pub one_protected : (keys : Keys) (n : ℕ) (bytes : List ℕ) (c d : PlainCommand) → AreBytes keys.enc → IsProtected keys n bytes c → IsProtected keys n bytes d → c ≡ d
one_protected keys n bytes c d octets p q =
    let sent : sent_command keys n p.form c p.sent_ne ≡ sent_command keys n q.form d q.sent_ne = spells_one bytes _ _ p.spelled q.spelled in
    let objects = same_objects keys.mac _ _ _ _ (ap (λ (s : PlainCommand). s.body) sent) in
    let parts = same_encrypted keys.enc (counter_bytes n) c.body d.body (le_object p.form c.ne) (le_object q.form d.ne) octets (counter_block n) p.octets q.octets
    (le_behind p.form c.ne) (le_behind q.form d.ne) objects in
    let class : c.cla + 0x0C ≡ d.cla + 0x0C = ap (λ (s : PlainCommand). s.cla) sent in
    let cla : c.cla ≡ d.cla = omega arith in
    let ins : c.ins ≡ d.ins = ap (λ (s : PlainCommand). s.ins) sent in
    let p1 : c.p1 ≡ d.p1 = ap (λ (s : PlainCommand). s.p1) sent in
    let p2 : c.p2 ≡ d.p2 = ap (λ (s : PlainCommand). s.p2) sent in
    let body : c.body ≡ d.body = parts.0 in
    let ne : c.ne ≡ d.ne = same_le p.form q.form c.ne d.ne p.says q.says parts.1 in
    let whole : command_of c.cla c.ins c.p1 c.p2 c.body c.ne ≡ command_of d.cla d.ins d.p1 d.p2 d.body d.ne = cc in
    whole

-- ---- one reply

status_behind : (sw1 sw2 : ℕ) → IsBehind (object 0x99 (sw1 ∷ sw2 ∷ []))
status_behind sw1 sw2 = rw (status_object_is sw1 sw2) (λ same. omega arith)

abbrev reply_of : List ℕ → ℕ → PlainReply
reply_of content status = record { content = content; status = status }

pub one_sealed : (keys : Keys) (n : ℕ) (bytes : List ℕ) (r s : PlainReply) → AreBytes keys.enc → IsSealed keys n bytes r → IsSealed keys n bytes s → r ≡ s
one_sealed keys n bytes r s octets p q =
    let count : List ℕ = counter_bytes n in
    let first : List ℕ = with_mac keys.mac count (reply_objects keys.enc count r.content (status_bytes r.status)) in
    let second : List ℕ = with_mac keys.mac count (reply_objects keys.enc count s.content (status_bytes s.status)) in
    let macs : first ≡ second =
    sym (before_end bytes first (status_bytes r.status) 2 p.written refl) ∙ before_end bytes second (status_bytes s.status) 2 q.written refl in
    let ends : status_bytes r.status ≡ status_bytes s.status =
    sym (after_before bytes first (status_bytes r.status) 2 p.written refl) ∙ after_before bytes second (status_bytes s.status) 2 q.written refl in
    let parts = same_encrypted keys.enc count r.content s.content (object 0x99 (status_bytes r.status)) (object 0x99 (status_bytes s.status)) octets (counter_block n) p.octets q.octets
    (status_behind _ _) (status_behind _ _) (same_objects keys.mac _ _ _ _ macs) in
    let high : r.status / 256 ≡ s.status / 256 = cc in
    let low : r.status % 256 ≡ s.status % 256 = cc in
    let content : r.content ≡ s.content = parts.0 in
    let status : r.status ≡ s.status = omega arith in
    let whole : reply_of r.content r.status ≡ reply_of s.content s.status = cc in
    whole
