-- What is read is valid.
use Rattle.std.proofs.Common.{◌≡◌, ℕ, zero, suc, ◌+◌, ◌-◌, ◌≤◌, ◌<◌, Bool, true, false, cond, ◌&&◌, List, [], ◌∷◌, length, drop, get_or, Option, Some, None, Result, Ok, Err, IsTrue, refl, ap, subst, ◌∙◌, arith, slice_index, slice_get, nat_le, eqb, ◌⊎◌, inl, inr, add-zero}
use Rattle.std.specs.Char.{is_ascii_digit}
use Rattle.std.specs.List.{list_all}
use Rattle.std.specs.Option.{ForSome}
use Rattle.std.specs.Int.{w16, w32, from_be_bytes}
use Rattle.std.proofs.lemmas.Bool.{leb-true, and_parts, and_from, eqb-true}
use Rattle.std.proofs.lemmas.List.{length-take, length-drop, get_or-drop, get_or-take}
use Rattle.eid_bits.specs.Date.{is_between, is_date}
use Rattle.eid_record.specs.Plain.{PlainTrustPoint, PlainRecord}
use Rattle.eid_record.specs.Reading.{◌>>=◌, bytes_from, size, at_most, digits_at, date_at, is_trust_point_at, trust_point_of, trust_point_at, optional_point_at, length_at, lengths_from, counters_in, passwords_in, record_in}
use Rattle.eid_record.specs.Valid.{AreDigits, IsTrustPoint, lengths_fit, IsValid}

-- the value of a step that did not fail
bind_ok : {A B : Type 0} (r : Result A ℕ) (f : A → Result B ℕ) (y : B) → (r >>= f) ≡ Ok y → (x : A) × (r ≡ Ok x) × (f x ≡ Ok y)
bind_ok (Ok x) f y e = (x, refl, e)
bind_ok (Err place) f y e = absurd cc

-- a test that held
guard_ok : {A : Type 0} (b : Bool) (x y : A) (place : ℕ) → cond b (Ok x) (Err place) ≡ Ok y → (b ≡ true) × (x ≡ y)
guard_ok true x y place e = (refl, cc)
guard_ok false x y place e = absurd cc

abbrev good : {A : Type 0} → A → Result A ℕ
good x = Ok x

ok_is : {A : Type 0} (x y : A) → good x ≡ good y → x ≡ y
ok_is x y e = cc

length-bytes_from : (count place : ℕ) (w : List ℕ) → place + count ≤ length w → length (bytes_from count place w) ≡ count
length-bytes_from count place w within = omega (arith, length-take ((place + count) - place) (drop place w), length-drop place w, within)

at_most-fits : (most place n : ℕ) (w : List ℕ) → at_most most place w ≡ Ok n → n ≤ most
unfolding at_most
at_most-fits most place n w e =
    let g = guard_ok (nat_le (slice_index w place) most) (slice_index w place) n place e in
    subst (λ (k : ℕ). k ≤ most) g.1 (leb-true (slice_index w place) most g.0)

digits_at-valid : (count place : ℕ) (bytes w : List ℕ) → place + count ≤ length w → digits_at count place w ≡ Ok bytes → AreDigits count bytes
unfolding digits_at
digits_at-valid count place bytes w within e =
    let g = guard_ok (list_all is_ascii_digit (bytes_from count place w)) (bytes_from count place w) bytes place e in
    subst (λ (b : List ℕ). AreDigits count b) g.1 (record { count = length-bytes_from count place w within; digits = g.0 })

date_at-valid : (place : ℕ) (bytes w : List ℕ) → date_at place w ≡ Ok bytes → IsTrue (is_date bytes)
unfolding date_at
date_at-valid place bytes w e =
    let g = guard_ok (is_date (bytes_from 6 place w)) (bytes_from 6 place w) bytes place e in
    subst (λ (b : List ℕ). IsTrue (is_date b)) g.1 g.0

first_get : (bytes : List ℕ) (b : ℕ) → 0 < length bytes → get_or bytes 0 0 ≡ b → slice_get bytes 0 ≡ Some b
first_get [] b some e = absurd (omega (arith, some))
first_get (x ∷ later) b some e = ap (λ (n : ℕ). Some n) e

trust_point_at-valid : (place : ℕ) (t : PlainTrustPoint) (w : List ℕ) → place + 128 ≤ length w → trust_point_at place w ≡ Ok t → IsTrustPoint t
unfolding trust_point_at
trust_point_at-valid place t w within e =
    let g = guard_ok (is_trust_point_at place w) (trust_point_of place w) t place e in
    let n = slice_index w place in
    let outer = and_parts (eqb (slice_index w (place + 87)) 1 && is_between 1 16 n) (eqb (slice_index w (place + 22)) 4) g.0 in
    let inner = and_parts (eqb (slice_index w (place + 87)) 1) (is_between 1 16 n) outer.0 in
    let limits = and_parts (nat_le 1 n) (nat_le n 16) inner.1 in
    let most = leb-true n 16 limits.1 in
    let long : length (bytes_from n (place + 1) w) ≡ n = length-bytes_from n (place + 1) w (omega (arith, most, within)) in
    let key : length (bytes_from 65 (place + 22) w) ≡ 65 = length-bytes_from 65 (place + 22) w (omega (arith, within)) in
    let first : get_or (bytes_from 65 (place + 22) w) 0 0 ≡ 4 =
    get_or-take (((place + 22) + 65) - (place + 22)) (drop (place + 22) w) 0 0 (omega arith) ∙ get_or-drop (place + 22) w 0 0
    ∙ ap (λ (k : ℕ). get_or w k 0) (omega arith) ∙ eqb-true (slice_index w (place + 22)) 4 outer.1 in
    let made : IsTrustPoint (trust_point_of place w) = record {
      named = rw long inner.1;
      template = length-bytes_from 5 (place + 17) w (omega (arith, within));
      key = key;
      uncompressed = first_get (bytes_from 65 (place + 22) w) 4 (omega (arith, key)) first;
    } in
    subst (λ (p : PlainTrustPoint). IsTrustPoint p) g.1 made

optional_cases : (b : Bool) (read : Result PlainTrustPoint ℕ) (t : Option PlainTrustPoint) → cond b (Ok None) (read >>= λ x. Ok (Some x)) ≡ Ok t
    → ((x : PlainTrustPoint) → read ≡ Ok x → IsTrustPoint x) → ForSome t IsTrustPoint
optional_cases true read t e valid x is = absurd cc
optional_cases false (Ok y) t e valid x is = valid x cc
optional_cases false (Err place) t e valid x is = absurd cc

optional_point_at-valid : (place : ℕ) (t : Option PlainTrustPoint) (w : List ℕ) → place + 128 ≤ length w → optional_point_at place w ≡ Ok t → ForSome t IsTrustPoint
unfolding optional_point_at
optional_point_at-valid place t w within e =
    optional_cases (eqb (slice_index w (place + 87)) 0) (trust_point_at place w) t e (λ x h. trust_point_at-valid place x w within h)

length_cases : (b c : Bool) (v : ℕ) (n : Option ℕ) (place : ℕ) → cond b (Ok None) (cond c (Ok (Some v)) (Err place)) ≡ Ok n → (n ≡ None) ⊎ ((c ≡ true) × (n ≡ Some v))
length_cases true c v n place e = inl cc
length_cases false true v n place e = inr (refl, cc)
length_cases false false v n place e = absurd cc

length_at-valid : (place sum v : ℕ) (n : Option ℕ) (later : List (Option ℕ)) → length_at place sum v ≡ Ok n → IsTrue (lengths_fit (sum + size n) later) → IsTrue (lengths_fit sum (n ∷ later))
unfolding length_at
length_at-valid place sum v None later e fits = rw (← add-zero sum) fits
length_at-valid place sum v (Some n) later e fits =
    elim (length_cases (eqb v 65535) (nat_le v 2048 && nat_le (sum + v) 24000) v (Some n) place e) [
      | inl none ↦ absurd cc
      | inr some ↦
          let same : v ≡ n = cc in
          let tests : (nat_le n 2048 && nat_le (sum + n) 24000) ≡ true = subst (λ (k : ℕ). (nat_le k 2048 && nat_le (sum + k) 24000) ≡ true) same some.0 in
          and_from (nat_le n 2048 && nat_le (sum + n) 24000) (lengths_fit (sum + n) later) tests fits
    ]

lengths_from-valid : (count place sum : ℕ) (w : List ℕ) (ns : List (Option ℕ)) → lengths_from count place sum w ≡ Ok ns → (length ns ≡ count) × IsTrue (lengths_fit sum ns)
unfolding lengths_from
lengths_from-valid zero place sum w ns e =
    subst (λ (x : List (Option ℕ)). (length x ≡ 0) × IsTrue (lengths_fit sum x)) (ok_is [] ns e) (refl, refl)
lengths_from-valid (suc count) place sum w ns e =
    let v = from_be_bytes w16 (bytes_from 2 place w) in
    let a = bind_ok (length_at place sum v) (λ n. lengths_from count (place + 2) (sum + size n) w >>= λ later. Ok (n ∷ later)) ns e in
    let b = bind_ok (lengths_from count (place + 2) (sum + size a.0) w) (λ later. Ok (a.0 ∷ later)) ns a.2 in
    let later = lengths_from-valid count (place + 2) (sum + size a.0) w b.0 b.1 in
    subst (λ (x : List (Option ℕ)). (length x ≡ suc count) × IsTrue (lengths_fit sum x)) (ok_is (a.0 ∷ b.0) ns b.2)
    (ap suc later.0, length_at-valid place sum v a.0 b.0 a.1 later.1)

counters-valid : (w : List ℕ) (x : ℕ × ℕ × Bool) → counters_in w ≡ Ok x → (x.0 ≤ 3) × (x.1 ≤ 10)
unfolding counters_in
counters-valid w x e =
    let a = bind_ok (at_most 3 4 w) _ x e in
    let b = bind_ok (at_most 10 5 w) _ x a.2 in
    let c = bind_ok (at_most 1 6 w) _ x b.2 in
    let made : ℕ × ℕ × Bool = (a.0, b.0, eqb c.0 1) in
    subst (λ (y : ℕ × ℕ × Bool). (y.0 ≤ 3) × (y.1 ≤ 10)) (ok_is made x c.2) (at_most-fits 3 4 a.0 w a.1, at_most-fits 10 5 b.0 w b.1)

passwords-valid : (w : List ℕ) (x : List ℕ × List ℕ × List ℕ) → length w ≡ 448 → passwords_in w ≡ Ok x → AreDigits 6 x.0 × AreDigits 6 x.1 × AreDigits 10 x.2
unfolding passwords_in
passwords-valid w x long e =
    let a = bind_ok (digits_at 6 7 w) _ x e in
    let b = bind_ok (digits_at 6 13 w) _ x a.2 in
    let c = bind_ok (digits_at 10 19 w) _ x b.2 in
    let made : List ℕ × List ℕ × List ℕ = (a.0, b.0, c.0) in
    subst (λ (y : List ℕ × List ℕ × List ℕ). AreDigits 6 y.0 × AreDigits 6 y.1 × AreDigits 10 y.2) (ok_is made x c.2)
    (digits_at-valid 6 7 a.0 w (omega (arith, long)) a.1, digits_at-valid 6 13 b.0 w (omega (arith, long)) b.1, digits_at-valid 10 19 c.0 w (omega (arith, long)) c.1)

pub record_in-valid : (w : List ℕ) (r : PlainRecord) → length w ≡ 448 → record_in w ≡ Ok r → IsValid r
unfolding record_in
record_in-valid w r long e =
    let a = bind_ok (counters_in w) _ r e in
    let b = bind_ok (passwords_in w) _ r a.2 in
    let c = bind_ok (date_at 29 w) _ r b.2 in
    let d = bind_ok (trust_point_at 64 w) _ r c.2 in
    let f = bind_ok (optional_point_at 192 w) _ r d.2 in
    let g = bind_ok (lengths_from 23 384 0 w) _ r f.2 in
    let counters = counters-valid w a.0 a.1 in
    let passwords = passwords-valid w b.0 long b.1 in
    let lengths = lengths_from-valid 23 384 0 w g.0 g.1 in
    let made : PlainRecord = record {
      number = from_be_bytes w32 (bytes_from 4 0 w);
      tries = a.0.0;
      unblocks = a.0.1;
      active = a.0.2;
      pin = b.0.0;
      can = b.0.1;
      puk = b.0.2;
      date = c.0;
      current = d.0;
      previous = f.0;
      ca_secret = bytes_from 32 320 w;
      ri_secret = bytes_from 32 352 w;
      lengths = g.0;
    } in
    subst (λ (x : PlainRecord). IsValid x) (ok_is made r g.2) (record {
      tries = counters.0;
      unblocks = counters.1;
      pin = passwords.0;
      can = passwords.1;
      puk = passwords.2;
      date = date_at-valid 29 c.0 w c.1;
      current = trust_point_at-valid 64 d.0 w (omega (arith, long)) d.1;
      previous = optional_point_at-valid 192 f.0 w (omega (arith, long)) f.1;
      ca_secret = length-bytes_from 32 320 w (omega (arith, long));
      ri_secret = length-bytes_from 32 352 w (omega (arith, long));
      files = lengths.0;
      lengths = lengths.1;
    })
