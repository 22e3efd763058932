-- Reading the files one after the other.
use Rattle.std.proofs.Common.{◌≡◌, ℕ, ◌+◌, ◌≤◌, ◌<◌, ◌&&◌, nat_le, List, [], ◌∷◌, ◌++◌, length, drop, get_or, Option, Some, None, Result, Ok, Err, IsTrue, refl, sym, ap, ◌∙◌, arith}
use Rattle.std.proofs.lemmas.Bool.{and_parts, le-leb}
use Rattle.std.proofs.lemmas.List.{drop_more, drop_all}
use Rattle.toml.specs.Data.{Members, get_member}
use Rattle.eid_record.specs.Files.{total}
use Rattle.eid_record.specs.Reading.{size}
use Rattle.eid_record.specs.Valid.{lengths_fit}
use Rattle.eid_perso.specs.declared.config.ConfigError.{ConfigError}
use Rattle.eid_perso.specs.declared.config.ConfigError.TheVariants.{Bad, NoMemory}
use Rattle.eid_perso.specs.Keys.{next_file, files_from}
use Rattle.eid_perso.specs.Reading.{IsRefusedBy}

-- one more file
pub goes_on : (name : List ℕ) (i : ℕ) (names : List (List ℕ)) (front : List (Option ℕ)) (bytes : List ℕ) (n : Option ℕ) (more : List ℕ) (m : Members) → i < length names → name ≡ get_or names i []
    → next_file (18 + i) bytes (get_member name m) ≡ Ok (n, more)
    → files_from (18 + i) front bytes (drop i names) m ≡ files_from (18 + (i + 1)) (front ++ n ∷ []) more (drop (i + 1) names) m
unfolding files_from
goes_on name i names front bytes n more m lt is read =
    let next : (18 + i) + 1 ≡ 18 + (i + 1) = omega arith in
    rw (drop_more names i [] lt, ← is, read) (ap (λ (k : ℕ). files_from k (front ++ n ∷ []) more (drop (i + 1) names) m) next)

-- a file that is refused
pub stops : (name : List ℕ) (i : ℕ) (names : List (List ℕ)) (front : List (Option ℕ)) (bytes : List ℕ) (key : ℕ) (m : Members) → i < length names → name ≡ get_or names i []
    → next_file (18 + i) bytes (get_member name m) ≡ Err key → files_from (18 + i) front bytes (drop i names) m ≡ Err key
unfolding files_from
stops name i names front bytes key m lt is read = rw (drop_more names i [] lt, ← is, read) refl

-- the same, whatever the refusal, of files that were read so far
pub stopped : (name : List ℕ) (i : ℕ) (names : List (List ℕ)) (front : List (Option ℕ)) (bytes : List ℕ) (e : ConfigError) (m : Members) (all : Result (List (Option ℕ) × List ℕ) ℕ) → i < length names → name ≡ get_or names i []
    → IsRefusedBy (next_file (18 + i) bytes (get_member name m)) e → files_from (18 + i) front bytes (drop i names) m ≡ all → IsRefusedBy all e
stopped name i names front bytes (Bad key) m all lt is read so_far = sym so_far ∙ stops name i names front bytes key m lt is read
stopped name i names front bytes NoMemory m all lt is read so_far = tt

-- behind the last file
pub ends : (i : ℕ) (names : List (List ℕ)) (front : List (Option ℕ)) (bytes : List ℕ) (m : Members) → length names ≤ i → files_from (18 + i) front bytes (drop i names) m ≡ Ok (front, bytes)
unfolding files_from
ends i names front bytes m le = rw (drop_all i names le) refl

pub total-append : (lengths : List (Option ℕ)) (n : Option ℕ) → total (lengths ++ n ∷ []) ≡ total lengths + size n
total-append [] n = omega arith
total-append (l ∷ lengths) n = omega (arith, total-append lengths n)

one_fits : (sum : ℕ) (n : Option ℕ) → size n ≤ 2048 → sum + size n ≤ 24000 → IsTrue (lengths_fit sum (n ∷ []))
one_fits sum None short room = refl
one_fits sum (Some n) short room = rw (le-leb n 2048 short, le-leb (sum + n) 24000 room) refl

pub fits-append : (sum : ℕ) (lengths : List (Option ℕ)) (n : Option ℕ) → IsTrue (lengths_fit sum lengths) → size n ≤ 2048 → (sum + total lengths) + size n ≤ 24000
    → IsTrue (lengths_fit sum (lengths ++ n ∷ []))
fits-append sum [] n fit short room = one_fits sum n short (omega (arith, room))
fits-append sum (None ∷ lengths) n fit short room = fits-append sum lengths n fit short (omega (arith, room))
fits-append sum (Some l ∷ lengths) n fit short room =
    let both = and_parts (nat_le l 2048 && nat_le (sum + l) 24000) (lengths_fit (sum + l) lengths) fit in
    rw (both.0) (fits-append (sum + l) lengths n both.1 short (omega (arith, room)))
