-- What is written is read again.
use Rattle.std.proofs.Common.{◌≡◌, ℕ, ◌+◌, ◌^◌, ◌≤◌, ◌<◌, Bool, true, false, ◌&&◌, List, [], ◌∷◌, length, drop, replicate, Option, Some, None, Ok, IsTrue, refl, sym, ap, ◌∙◌, arith, add-zero, slice_index, nat_le, eqb}
use Rattle.std.specs.List.{flat_map}
use Rattle.std.specs.Prelude.{IfNone, IfSome}
use Rattle.std.specs.Option.{ForSome}
use Rattle.std.specs.Int.{w16, w32, to_be_bytes, from_be_bytes}
use Rattle.std.proofs.lemmas.List.{length-replicate}
use Rattle.std.proofs.lemmas.Bool.{leb-true, le-leb, and_parts, ne_eqb}
use Rattle.std.proofs.lemmas.Nat.{from_be_bytes-to_be_bytes_2, from_be_bytes-to_be_bytes_4}
use Rattle.eid_bits.specs.Date.{is_date}
use Rattle.eid_record.specs.Plain.{PlainTrustPoint, PlainRecord}
use Rattle.eid_record.specs.Layout.{Piece, laid, flag, length_bytes, trust_point_pieces, value_pieces, later_pieces, fixed_bytes}
use Rattle.eid_record.specs.Reading.{bytes_from, size, at_most, digits_at, date_at, trust_point_at, optional_point_at, length_at, lengths_from, counters_in, passwords_in, record_in}
use Rattle.eid_record.specs.Valid.{AreDigits, IsTrustPoint, lengths_fit, IsValid}
use Rattle.eid_record.proofs.Replaced.{length-lengths, length-length_bytes}
use Rattle.eid_record.proofs.Stands.{Stands, AreBehind, AreBefore, stands_laid_after, behind_by_test, stands_laid, stands_nth, length-laid, bytes_from-stands, slice_index-stands, stands_first, stands_second}

-- ---- one field

pub at_most-again : (most place n : ℕ) (w : List ℕ) → n ≤ most → Stands place (n ∷ []) w → at_most most place w ≡ Ok n
unfolding at_most
at_most-again most place n w fits stands = rw (slice_index-stands place (n ∷ []) w n refl stands, le-leb n most fits) refl

pub digits_at-again : (count place : ℕ) (bytes w : List ℕ) → AreDigits count bytes → Stands place bytes w → digits_at count place w ≡ Ok bytes
unfolding digits_at
digits_at-again count place bytes w digits stands = rw (bytes_from-stands count place bytes w digits.count stands, digits.digits) refl

pub date_at-again : (place : ℕ) (bytes w : List ℕ) → length bytes ≡ 6 → IsTrue (is_date bytes) → Stands place bytes w → date_at place w ≡ Ok bytes
unfolding date_at
date_at-again place bytes w long date stands = rw (bytes_from-stands 6 place bytes w long stands, date) refl

date-long : (bytes : List ℕ) → IsTrue (is_date bytes) → length bytes ≡ 6
date-long [] h = absurd cc
date-long (a ∷ []) h = absurd cc
date-long (a ∷ b ∷ []) h = absurd cc
date-long (a ∷ b ∷ c ∷ []) h = absurd cc
date-long (a ∷ b ∷ c ∷ d ∷ []) h = absurd cc
date-long (a ∷ b ∷ c ∷ d ∷ e ∷ []) h = absurd cc
date-long (a ∷ b ∷ c ∷ d ∷ e ∷ f ∷ []) h = refl
date-long (a ∷ b ∷ c ∷ d ∷ e ∷ f ∷ g ∷ later) h = absurd cc

-- ---- the lengths

length_at-fits : (place sum n : ℕ) → nat_le n 2048 ≡ true → nat_le (sum + n) 24000 ≡ true → length_at place sum n ≡ Ok (Some n)
unfolding length_at
length_at-fits place sum n small all =
    let other : eqb n 65535 ≡ false = ne_eqb n 65535 (λ e. omega (arith, e, leb-true n 2048 small)) in
    rw (other, small, all) refl

length_at-again : (place sum : ℕ) (n : Option ℕ) (later : List (Option ℕ)) → IsTrue (lengths_fit sum (n ∷ later))
    → (length_at place sum (from_be_bytes w16 (length_bytes n)) ≡ Ok n) × IsTrue (lengths_fit (sum + size n) later)
unfolding length_at
length_at-again place sum None later fits = (refl, rw add-zero fits)
length_at-again place sum (Some n) later fits =
    let both = and_parts (nat_le n 2048 && nat_le (sum + n) 24000) (lengths_fit (sum + n) later) fits in
    let each = and_parts (nat_le n 2048) (nat_le (sum + n) 24000) both.0 in
    (ap (length_at place sum) (from_be_bytes-to_be_bytes_2 n (omega (arith, leb-true n 2048 each.0))) ∙ length_at-fits place sum n each.0 each.1, both.1)

pub lengths_from-again : (ns : List (Option ℕ)) (place sum : ℕ) (w : List ℕ) → IsTrue (lengths_fit sum ns) → Stands place (flat_map length_bytes ns) w → lengths_from (length ns) place sum w ≡ Ok ns
unfolding lengths_from
lengths_from-again [] place sum w fits stands = refl
lengths_from-again (n ∷ ns) place sum w fits stands =
    let here = stands_first place (length_bytes n) (flat_map length_bytes ns) w stands in
    let next = stands_second place (place + 2) (length_bytes n) (flat_map length_bytes ns) w (omega (arith, length-length_bytes n)) stands in
    let one = length_at-again place sum n ns fits in
    let there = lengths_from-again ns (place + 2) (sum + size n) w one.1 next in
    let bytes : bytes_from 2 place w ≡ length_bytes n = bytes_from-stands 2 place (length_bytes n) w (length-length_bytes n) here in
    rw (bytes, one.0, there) refl

-- ---- a trust point

-- what stands of a trust point
pub record PointStands (place : ℕ) (t : PlainTrustPoint) (w : List ℕ) : Type 0 where
  pub count : Stands place (length t.name ∷ []) w
  pub name : Stands (place + 1) t.name w
  pub template : Stands (place + 17) t.template w
  pub key : Stands (place + 22) t.key w
  pub present : Stands (place + 87) (1 ∷ []) w

pub trust_point_at-again : (place : ℕ) (t : PlainTrustPoint) (w : List ℕ) → IsTrustPoint t → PointStands place t w → trust_point_at place w ≡ Ok t
unfolding trust_point_at
trust_point_at-again place t w valid stands =
    let count : slice_index w place ≡ length t.name = slice_index-stands place (length t.name ∷ []) w (length t.name) refl stands.count in
    let present : slice_index w (place + 87) ≡ 1 = slice_index-stands (place + 87) (1 ∷ []) w 1 refl stands.present in
    let first : slice_index w (place + 22) ≡ 4 = slice_index-stands (place + 22) t.key w 4 valid.uncompressed stands.key in
    let name : bytes_from (length t.name) (place + 1) w ≡ t.name = bytes_from-stands (length t.name) (place + 1) t.name w refl stands.name in
    let template : bytes_from 5 (place + 17) w ≡ t.template = bytes_from-stands 5 (place + 17) t.template w valid.template stands.template in
    let key : bytes_from 65 (place + 22) w ≡ t.key = bytes_from-stands 65 (place + 22) t.key w valid.key stands.key in
    rw (present, count, first, valid.named, name, template, key) refl

-- a trust point that was put stands
pub point_laid : (place : ℕ) (t : PlainTrustPoint) (all : List ℕ) → IsTrustPoint t → place + 128 ≤ length all → PointStands place t (laid (trust_point_pieces place (Some t)) all)
point_laid place t all valid within =
    let pieces = trust_point_pieces place (Some t) in
    let named = leb-true (length t.name) 16 (and_parts (nat_le 1 (length t.name)) (nat_le (length t.name) 16) valid.named).1 in
    record {
      count = stands_nth 0 pieces (place + 1) all (omega arith) (omega arith, (omega arith, (omega arith, (omega arith, tt)))) (omega arith) (omega (arith, within));
      name = stands_nth 1 pieces (place + 17) all (omega arith) (omega arith, (omega arith, (omega arith, tt))) (omega (arith, named)) (omega (arith, within));
      template = stands_nth 2 pieces (place + 22) all (omega arith) (omega arith, (omega arith, tt)) (omega (arith, valid.template)) (omega (arith, within));
      key = stands_nth 3 pieces (place + 87) all (omega arith) (omega arith, tt) (omega (arith, valid.key)) (omega (arith, within));
      present = stands_nth 4 pieces (place + 88) all (omega arith) tt (omega arith) (omega (arith, within));
    }

-- pieces behind a trust point leave it
pub point_kept : (place : ℕ) (t : PlainTrustPoint) (pieces : List Piece) (all : List ℕ) → IsTrustPoint t → AreBehind (place + 128) pieces → PointStands place t all → PointStands place t (laid pieces all)
point_kept place t pieces all valid behind stands =
    let named = leb-true (length t.name) 16 (and_parts (nat_le 1 (length t.name)) (nat_le (length t.name) 16) valid.named).1 in
    record {
      count = stands_laid place (length t.name ∷ []) (place + 128) pieces all (omega arith) behind stands.count;
      name = stands_laid (place + 1) t.name (place + 128) pieces all (omega (arith, named)) behind stands.name;
      template = stands_laid (place + 17) t.template (place + 128) pieces all (omega (arith, valid.template)) behind stands.template;
      key = stands_laid (place + 22) t.key (place + 128) pieces all (omega (arith, valid.key)) behind stands.key;
      present = stands_laid (place + 87) (1 ∷ []) (place + 128) pieces all (omega arith) behind stands.present;
    }

pub optional_point_at-again : (place : ℕ) (t : Option PlainTrustPoint) (w : List ℕ) → ForSome t IsTrustPoint
    → IfNone t (Stands (place + 87) (0 ∷ []) w) → IfSome t (λ x. PointStands place x w) → optional_point_at place w ≡ Ok t
unfolding optional_point_at
optional_point_at-again place None w valid absent present =
    rw (slice_index-stands (place + 87) (0 ∷ []) w 0 refl absent) refl
optional_point_at-again place (Some t) w valid absent present =
    let there : slice_index w (place + 87) ≡ 1 = slice_index-stands (place + 87) (1 ∷ []) w 1 refl present.present in
    rw (there, trust_point_at-again place t w (valid t refl) present) refl

-- ---- the whole record

flag-again : (b : Bool) → (flag b ≤ 1) × (eqb (flag b) 1 ≡ b)
flag-again true = (omega arith, refl)
flag-again false = (omega arith, refl)

previous_behind : (place : ℕ) (t : Option PlainTrustPoint) → place ≤ 192 → AreBehind place (trust_point_pieces 192 t)
previous_behind place None le = tt
previous_behind place (Some t) le = (omega (arith, le), (omega (arith, le), (omega (arith, le), (omega (arith, le), (omega (arith, le), tt)))))

-- all that stands in the fixed bytes
pub record AllStands (r : PlainRecord) (w : List ℕ) : Type 0 where
  pub number : Stands 0 (to_be_bytes w32 r.number) w
  pub tries : Stands 4 (r.tries ∷ []) w
  pub unblocks : Stands 5 (r.unblocks ∷ []) w
  pub active : Stands 6 (flag r.active ∷ []) w
  pub pin : Stands 7 r.pin w
  pub can : Stands 13 r.can w
  pub puk : Stands 19 r.puk w
  pub date : Stands 29 r.date w
  pub current : PointStands 64 r.current w
  pub absent : IfNone r.previous (Stands 279 (0 ∷ []) w)
  pub present : IfSome r.previous (λ t. PointStands 192 t w)
  pub ca_secret : Stands 320 r.ca_secret w
  pub ri_secret : Stands 352 r.ri_secret w
  pub lengths : Stands 384 (flat_map length_bytes r.lengths) w

counters-again : (r : PlainRecord) (w : List ℕ) → IsValid r → AllStands r w → counters_in w ≡ Ok (r.tries, r.unblocks, r.active)
unfolding counters_in
counters-again r w valid stands =
    let flags = flag-again r.active in
    rw (at_most-again 3 4 r.tries w valid.tries stands.tries, at_most-again 10 5 r.unblocks w valid.unblocks stands.unblocks, at_most-again 1 6 (flag r.active) w flags.0 stands.active, flags.1) refl

passwords-again : (r : PlainRecord) (w : List ℕ) → IsValid r → AllStands r w → passwords_in w ≡ Ok (r.pin, r.can, r.puk)
unfolding passwords_in
passwords-again r w valid stands =
    rw (digits_at-again 6 7 r.pin w valid.pin stands.pin, digits_at-again 6 13 r.can w valid.can stands.can, digits_at-again 10 19 r.puk w valid.puk stands.puk) refl

pub record_in-again : (r : PlainRecord) (w : List ℕ) → r.number < 2 ^ 32 → IsValid r → AllStands r w → record_in w ≡ Ok r
unfolding record_in
record_in-again r w number valid stands =
    let counters = counters-again r w valid stands in
    let passwords = passwords-again r w valid stands in
    let date = date_at-again 29 r.date w (date-long r.date valid.date) valid.date stands.date in
    let current = trust_point_at-again 64 r.current w valid.current stands.current in
    let previous = optional_point_at-again 192 r.previous w valid.previous stands.absent stands.present in
    let count : lengths_from 23 384 0 w ≡ lengths_from (length r.lengths) 384 0 w = ap (λ (n : ℕ). lengths_from n 384 0 w) (sym valid.files) in
    let lengths = count ∙ lengths_from-again r.lengths 384 0 w valid.lengths stands.lengths in
    let number_bytes = bytes_from-stands 4 0 (to_be_bytes w32 r.number) w refl stands.number in
    let number_is = from_be_bytes-to_be_bytes_4 r.number number in
    let ca = bytes_from-stands 32 320 r.ca_secret w valid.ca_secret stands.ca_secret in
    let ri = bytes_from-stands 32 352 r.ri_secret w valid.ri_secret stands.ri_secret in
    let number_read : from_be_bytes w32 (bytes_from 4 0 w) ≡ r.number = ap (from_be_bytes w32) number_bytes ∙ number_is in
    rw (counters, passwords, date, current, previous, lengths, number_read, ca, ri) refl

-- the pieces that are put before the previous trust point end before it
values_before : (r : PlainRecord) (place : ℕ) → IsValid r → 64 ≤ place → AreBefore place (value_pieces r)
values_before r place valid le =
    (omega (arith, le), (omega (arith, le), (omega (arith, le), (omega (arith, le), (omega (arith, le, valid.pin.count), (omega (arith, le, valid.can.count), (omega (arith, le, valid.puk.count), (omega (arith, le, date-long r.date valid.date), tt))))))))

current_before : (t : PlainTrustPoint) (place : ℕ) → IsTrustPoint t → 192 ≤ place → AreBefore place (trust_point_pieces 64 (Some t))
current_before t place valid le =
    let named = leb-true (length t.name) 16 (and_parts (nat_le 1 (length t.name)) (nat_le (length t.name) 16) valid.named).1 in
    (omega (arith, le), (omega (arith, le, named), (omega (arith, le, valid.template), (omega (arith, le, valid.key), (omega (arith, le), tt)))))

later_behind : (r : PlainRecord) (place : ℕ) → place ≤ 320 → AreBehind place (later_pieces r)
later_behind r place le = (omega (arith, le), (omega (arith, le), (omega (arith, le), tt)))

-- the values that were put, under the trust points and what stands behind them
value_stands : (r : PlainRecord) (place : ℕ) (bytes : List ℕ) (all : List ℕ) → place + length bytes ≤ 64 → Stands place bytes all
    → Stands place bytes (laid (later_pieces r) (laid (trust_point_pieces 192 r.previous) (laid (trust_point_pieces 64 (Some r.current)) all)))
value_stands r place bytes all before stands =
    stands_laid place bytes 64 (later_pieces r) _ before (later_behind r 64 (omega arith)) (
    stands_laid place bytes 64 (trust_point_pieces 192 r.previous) _ before (previous_behind 64 r.previous (omega arith)) (
    stands_laid place bytes 64 (trust_point_pieces 64 (Some r.current)) all before (behind_by_test 64 (trust_point_pieces 64 (Some r.current)) refl) stands))

previous_absent : (r : PlainRecord) (t : Option PlainTrustPoint) (x : List ℕ) → IsValid r → Stands 279 (0 ∷ []) x
    → IfNone t (Stands 279 (0 ∷ []) (laid (later_pieces r) (laid (trust_point_pieces 192 t) (laid (trust_point_pieces 64 (Some r.current)) (laid (value_pieces r) x)))))
previous_absent r None x valid zeros =
    stands_laid 279 (0 ∷ []) 320 (later_pieces r) _ (omega arith) (later_behind r 320 (omega arith)) (
    stands_laid_after 279 (0 ∷ []) (trust_point_pieces 64 (Some r.current)) _ (current_before r.current 279 valid.current (omega arith)) (
    stands_laid_after 279 (0 ∷ []) (value_pieces r) x (values_before r 279 valid (omega arith)) zeros))
previous_absent r (Some t) x valid zeros = tt

previous_present : (r : PlainRecord) (t : Option PlainTrustPoint) (x : List ℕ) → ForSome t IsTrustPoint → 320 ≤ length x
    → IfSome t (λ p. PointStands 192 p (laid (later_pieces r) (laid (trust_point_pieces 192 t) x)))
previous_present r None x valid long = tt
previous_present r (Some t) x valid long =
    point_kept 192 t (later_pieces r) (laid (trust_point_pieces 192 (Some t)) x) (valid t refl) (later_behind r 320 (omega arith)) (point_laid 192 t x (valid t refl) (omega (arith, long)))

all_stand : (r : PlainRecord) (x : List ℕ) → IsValid r → length x ≡ 448 → Stands 279 (0 ∷ []) x
    → AllStands r (laid (later_pieces r) (laid (trust_point_pieces 192 r.previous) (laid (trust_point_pieces 64 (Some r.current)) (laid (value_pieces r) x))))
all_stand r x valid long zeros =
    let values = value_pieces r in
    let v = laid values x in
    let c = laid (trust_point_pieces 64 (Some r.current)) v in
    let p = laid (trust_point_pieces 192 r.previous) c in
    let long_v = length-laid values x in
    let long_c = length-laid (trust_point_pieces 64 (Some r.current)) v in
    let long_p = length-laid (trust_point_pieces 192 r.previous) c in
    let long_date = date-long r.date valid.date in
    let files : length (flat_map length_bytes r.lengths) ≡ 46 = omega (arith, length-lengths r.lengths, valid.files) in
    record {
      number = value_stands r 0 (to_be_bytes w32 r.number) v (omega arith) (stands_nth 0 values 4 x (omega arith) (behind_by_test 4 (drop 1 values) refl) (omega arith) (omega (arith, long)));
      tries = value_stands r 4 (r.tries ∷ []) v (omega arith) (stands_nth 1 values 5 x (omega arith) (behind_by_test 5 (drop 2 values) refl) (omega arith) (omega (arith, long)));
      unblocks = value_stands r 5 (r.unblocks ∷ []) v (omega arith) (stands_nth 2 values 6 x (omega arith) (behind_by_test 6 (drop 3 values) refl) (omega arith) (omega (arith, long)));
      active = value_stands r 6 (flag r.active ∷ []) v (omega arith) (stands_nth 3 values 7 x (omega arith) (behind_by_test 7 (drop 4 values) refl) (omega arith) (omega (arith, long)));
      pin = value_stands r 7 r.pin v (omega (arith, valid.pin.count)) (stands_nth 4 values 13 x (omega arith) (behind_by_test 13 (drop 5 values) refl) (omega (arith, valid.pin.count)) (omega (arith, long)));
      can = value_stands r 13 r.can v (omega (arith, valid.can.count)) (stands_nth 5 values 19 x (omega arith) (behind_by_test 19 (drop 6 values) refl) (omega (arith, valid.can.count)) (omega (arith, long)));
      puk = value_stands r 19 r.puk v (omega (arith, valid.puk.count)) (stands_nth 6 values 29 x (omega arith) (behind_by_test 29 (drop 7 values) refl) (omega (arith, valid.puk.count)) (omega (arith, long)));
      date = value_stands r 29 r.date v (omega (arith, long_date)) (stands_nth 7 values 35 x (omega arith) tt (omega (arith, long_date)) (omega (arith, long)));
      current = point_kept 64 r.current (later_pieces r) p valid.current (later_behind r 192 (omega arith))
          (point_kept 64 r.current (trust_point_pieces 192 r.previous) c valid.current (previous_behind 192 r.previous (omega arith))
          (point_laid 64 r.current v valid.current (omega (arith, long, long_v))));
      absent = previous_absent r r.previous x valid zeros;
      present = previous_present r r.previous c valid.previous (omega (arith, long, long_v, long_c));
      ca_secret = stands_nth 0 (later_pieces r) 352 p (omega arith) (behind_by_test 352 (drop 1 (later_pieces r)) refl) (omega (arith, valid.ca_secret)) (omega (arith, long, long_v, long_c, long_p));
      ri_secret = stands_nth 1 (later_pieces r) 384 p (omega arith) (behind_by_test 384 (drop 2 (later_pieces r)) refl) (omega (arith, valid.ri_secret)) (omega (arith, long, long_v, long_c, long_p));
      lengths = stands_nth 2 (later_pieces r) 430 p (omega arith) tt (omega (arith, files)) (omega (arith, long, long_v, long_c, long_p));
    }

pub fixed_bytes_again : (r : PlainRecord) → r.number < 2 ^ 32 → IsValid r → record_in (fixed_bytes r) ≡ Ok r
unfolding fixed_bytes
fixed_bytes_again r number valid =
    record_in-again r _ number valid (all_stand r (replicate 448 0) valid (length-replicate {A = ℕ} 448 0) (record { here = refl; within = omega arith }))
