-- The hashes that are read in extensions are those that were written.
use Rattle.std.proofs.Common.{◌≡◌, ℕ, zero, suc, ◌==◌, ◌≤◌, ◌<◌, Bool, true, false, cond, find, List, [], ◌∷◌, ◌++◌, length, Option, Some, None, refl, sym, ◌∙◌, ap, subst, arith}
use Rattle.std.specs.Prelude.{option_map, option_and_then}
use Rattle.std.specs.Str.{bytes_eq}
use Rattle.std.proofs.lemmas.List.{append-nil}
use Rattle.std.proofs.lemmas.Option.{cond_some, none-some, same_Some}
use Rattle.eid_bits.specs.Identifiers.{known_bytes}
use Rattle.eid_bits.specs.declared.identifier.Known.TheVariants.{Sector}
use Rattle.eid_tlv.specs.Objects.{object}
use Rattle.eid_tlv.proofs.Walks.{shorter_after}
use Rattle.eid_cvc.specs.Fronts.{PlainFront, front_in}
use Rattle.eid_cvc.specs.PublicKeys.{optional}
use Rattle.eid_cvc.specs.Extensions.{Extension, AreHashes, AreHashesIn, extension_bytes, extensions, is_sector, sector_data, sector_hashes}
use Rattle.eid_cvc.specs.CertificateIn.{PlainHash, extension_in, extensions_within, extensions_in, hash_in, hashes_in, hashes_if_any, sectors_in}
use Rattle.eid_cvc.specs.Parts.{first_sector}
use Rattle.eid_cvc.proofs.FrontFacts.{bound, mapped, value_fits, no_rest, front_found, front_of_object, front_of_last, front_empty, hash_found, hash_complete, not_there, writable}

-- ---- the walk over the extensions

abbrev or_later : Option (List ℕ) → Option (List ℕ) → Option (List ℕ)
or_later (Some data_objects) later = Some data_objects
or_later None later = later

-- the value has what was found, and else what the rest has
pub record IsWalked (value rest : List ℕ) (found : Option (List ℕ)) : Type 0 where
  pub left : ℕ
  pub enough : length rest ≤ left
  pub same : option_map sector_data (extensions_in value) ≡ option_map (λ later. or_later found (sector_data later)) (extensions_within left rest)

pub walked_none : (value : List ℕ) → IsWalked value value None
walked_none value = record { left = length value; enough = omega arith; same = refl }

or_nothing : (found : Option (List ℕ)) → or_later found None ≡ found
or_nothing None = refl
or_nothing (Some data_objects) = refl

pub walked_all : (value rest : List ℕ) (found : Option (List ℕ)) → IsWalked value rest found → (length rest == 0) ≡ true
    → Some found ≡ option_map sector_data (extensions_in value)
unfolding extensions_within
walked_all value rest found walked none =
    let within : option_map (λ later. or_later found (sector_data later)) (extensions_within walked.left rest) ≡ Some (or_later found None) =
    ap (λ (r : List ℕ). option_map (λ later. or_later found (sector_data later)) (extensions_within walked.left r)) (no_rest rest none) in
    sym (walked.same ∙ within ∙ ap (λ (o : Option (List ℕ)). Some o) (or_nothing found))

-- the next extension
within_none : (left : ℕ) (rest : List ℕ) → (length rest == 0) ≡ false → front_in 0x73 rest ≡ None → extensions_within left rest ≡ None
unfolding extensions_within
within_none left [] some none = absurd (never some) where
  never : true ≡ false → ⊥
  never same = cc
within_none zero (first ∷ rest) some none = refl
within_none (suc left) (first ∷ rest) some none = rw none refl

within_bad : (left : ℕ) (rest : List ℕ) (f : PlainFront) → (length rest == 0) ≡ false → front_in 0x73 rest ≡ Some f → front_in 0x06 f.value ≡ None
    → extensions_within left rest ≡ None
unfolding extensions_within extension_in
within_bad left [] f some front none = absurd (never some) where
  never : true ≡ false → ⊥
  never same = cc
within_bad zero (first ∷ rest) f some front none = refl
within_bad (suc left) (first ∷ rest) f some front none = rw (front, none) refl

within_step : (left : ℕ) (rest : List ℕ) (f i : PlainFront) → front_in 0x73 rest ≡ Some f → front_in 0x06 f.value ≡ Some i
    → extensions_within (suc left) rest
    ≡ option_map (λ later. record { identifier = i.value; data_objects = i.rest } ∷ later) (extensions_within left f.rest)
unfolding extensions_within extension_in
within_step left [] f i front identifier = absurd (none-some f (sym (front_empty 0x73) ∙ front))
within_step left (first ∷ rest) f i front identifier = rw (front, identifier) refl

pub no_more : (value rest : List ℕ) (found : Option (List ℕ)) → IsWalked value rest found → (length rest == 0) ≡ false → front_in 0x73 rest ≡ None
    → None ≡ option_map sector_data (extensions_in value)
no_more value rest found walked some none =
    sym (walked.same ∙ ap (option_map (λ later. or_later found (sector_data later))) (within_none walked.left rest some none))

pub no_identifier : (value rest : List ℕ) (found : Option (List ℕ)) (f : PlainFront) → IsWalked value rest found → (length rest == 0) ≡ false
    → Some f ≡ front_in 0x73 rest → None ≡ front_in 0x06 f.value → None ≡ option_map sector_data (extensions_in value)
no_identifier value rest found f walked some front none =
    sym (walked.same ∙ ap (option_map (λ later. or_later found (sector_data later))) (within_bad walked.left rest f some (sym front) (sym none)))

first_or_later : (found : Option (List ℕ)) (i : PlainFront) (later : List Extension)
    → or_later found (sector_data (record { identifier = i.value; data_objects = i.rest } ∷ later)) ≡ or_later (first_sector found i) (sector_data later)
first_or_later (Some data_objects) i later = refl
first_or_later None i later = by (bytes_eq i.value (known_bytes Sector)) refl where
  by : (b : Bool) → bytes_eq i.value (known_bytes Sector) ≡ b
      → option_map (λ (e : Extension). e.data_objects) (cond b (Some (record { identifier = i.value; data_objects = i.rest })) (find is_sector later))
      ≡ or_later (cond b (Some i.rest) None) (sector_data later)
  by true is = refl
  by false is = refl

pub walked_more : (value rest : List ℕ) (found : Option (List ℕ)) (f i : PlainFront) → IsWalked value rest found
    → Some f ≡ front_in 0x73 rest → Some i ≡ front_in 0x06 f.value → IsWalked value f.rest (first_sector found i)
walked_more value rest found f i walked front identifier = from walked.left walked.enough walked.same where
  shorter : length f.rest < length rest
  shorter = shorter_after rest 0x73 f.value f.rest (front_found 0x73 rest f (sym front))

  data_in : Option (List Extension) → Option (Option (List ℕ))
  data_in o = option_map (λ later. or_later found (sector_data later)) o

  one_more : (o : Option (List Extension))
      → data_in (option_map (λ later. record { identifier = i.value; data_objects = i.rest } ∷ later) o)
      ≡ option_map (λ later. or_later (first_sector found i) (sector_data later)) o
  one_more None = refl
  one_more (Some later) = ap (λ (d : Option (List ℕ)). Some d) (first_or_later found i later)

  from : (left : ℕ) → length rest ≤ left → option_map sector_data (extensions_in value) ≡ data_in (extensions_within left rest)
      → IsWalked value f.rest (first_sector found i)
  from zero enough same = absurd (omega (arith, shorter))
  from (suc left) enough same = record {
    left = left;
    enough = omega (arith, shorter);
    same = same ∙ ap data_in (within_step left rest f i (sym front) (sym identifier)) ∙ one_more (extensions_within left f.rest);
  }

pub shorter_front : (rest : List ℕ) (f : PlainFront) → Some f ≡ front_in 0x73 rest → length f.rest < length rest
shorter_front rest f front = shorter_after rest 0x73 f.value f.rest (front_found 0x73 rest f (sym front))

-- ---- the list of extensions

extension_found : (value : List ℕ) (e : Extension) → extension_in value ≡ Some e → value ≡ object 0x06 e.identifier ++ e.data_objects
unfolding extension_in
extension_found value e is =
    let identifier = bound (front_in 0x06 value) _ e is in
    let same = same_Some (record { identifier = identifier.0.value; data_objects = identifier.0.rest }) e identifier.2 in
    (front_found 0x06 value identifier.0 identifier.1).spelled ∙ ap (λ (e : Extension). object 0x06 e.identifier ++ e.data_objects) same

within_found : (n : ℕ) (bytes : List ℕ) (list : List Extension) → extensions_within n bytes ≡ Some list → bytes ≡ extensions list
unfolding extensions_within
within_found n [] list is = ap extensions (same_Some [] list is)
within_found zero (first ∷ rest) list is = absurd (none-some list is)
within_found (suc n) (first ∷ rest) list is =
    let front = bound (front_in 0x73 (first ∷ rest)) _ list is in
    let f : PlainFront = front.0 in
    let extension = bound (extension_in f.value) _ list front.2 in
    let e : Extension = extension.0 in
    let later = mapped (extensions_within n f.rest) (λ (later : List Extension). e ∷ later) list extension.2 in
    (front_found 0x73 (first ∷ rest) f front.1).spelled
    ∙ ap (λ (v : List ℕ). object 0x73 v ++ f.rest) (extension_found f.value e extension.1)
    ∙ ap (λ (r : List ℕ). extension_bytes e ++ r) (within_found n f.rest later.0 later.1)
    ∙ ap extensions later.2

within_complete : (list : List Extension) (n : ℕ) → length (extensions list) ≤ 65535 → length (extensions list) ≤ n
    → extensions_within n (extensions list) ≡ Some list
unfolding extensions_within
within_complete [] n sized enough = refl
within_complete (e ∷ list) zero sized enough =
    absurd (omega (arith, value_fits 0x73 (object 0x06 e.identifier ++ e.data_objects) (extensions list)))
within_complete (e ∷ list) (suc n) sized enough =
    let value : List ℕ = object 0x06 e.identifier ++ e.data_objects in
    let outer = value_fits 0x73 value (extensions list) in
    let inner = value_fits 0x06 e.identifier e.data_objects in
    let f : PlainFront = record { value = value; rest = extensions list } in
    let i : PlainFront = record { value = e.identifier; rest = e.data_objects } in
    within_step n (extensions (e ∷ list)) f i (front_of_object 0x73 value (extensions list) refl (omega (arith, outer)))
    (front_of_object 0x06 e.identifier e.data_objects refl (omega (arith, outer, inner)))
    ∙ ap (option_map (λ (later : List Extension). e ∷ later)) (within_complete list n (omega (arith, outer)) (omega (arith, outer)))

pub extensions_found : (value : List ℕ) (list : List Extension) → extensions_in value ≡ Some list → value ≡ extensions list
extensions_found value list is = within_found (length value) value list is

pub extensions_complete : (list : List Extension) → length (extensions list) ≤ 65535 → extensions_in (extensions list) ≡ Some list
extensions_complete list sized = within_complete list (length (extensions list)) sized (omega arith)

-- ---- the hashes

hashes_found : (data_objects : List ℕ) (hashes : List (Option (List ℕ))) → hashes_in data_objects ≡ Some hashes
    → AreHashes hashes × (data_objects ≡ sector_hashes hashes)
unfolding hashes_in
hashes_found data_objects hashes is =
    let a = bound (hash_in 0x80 data_objects) _ hashes is in
    let first : PlainHash = a.0 in
    let b = bound (hash_in 0x81 first.rest) _ hashes a.2 in
    let second : PlainHash = b.0 in
    let kept = cond_some (length second.rest == 0) (first.hash ∷ second.hash ∷ []) hashes b.2 in
    let front = hash_found 0x80 data_objects first a.1 in
    let behind = hash_found 0x81 first.rest second b.1 in
    let those : List (Option (List ℕ)) = first.hash ∷ second.hash ∷ [] in
    let whole : data_objects ≡ sector_hashes those =
    front.spelled
    ∙ ap (λ (r : List ℕ). optional 0x80 first.hash ++ r)
    (behind.spelled ∙ ap (λ (r : List ℕ). optional 0x81 second.hash ++ r) (no_rest second.rest kept.0) ∙ append-nil (optional 0x81 second.hash)) in
    let are : AreHashes those = record { two = refl; first = front.sized; second = behind.sized } in (
      subst (λ (h : List (Option (List ℕ))). AreHashes h) kept.1 are,
      whole ∙ ap sector_hashes kept.1,
    )

hashes_complete : (data_objects : List ℕ) (hashes : List (Option (List ℕ))) → AreHashes hashes → data_objects ≡ sector_hashes hashes
    → hashes_in data_objects ≡ Some hashes
unfolding hashes_in
hashes_complete data_objects [] are is = absurd (omega (arith, are.two))
hashes_complete data_objects (first ∷ []) are is = absurd (omega (arith, are.two))
hashes_complete data_objects (first ∷ second ∷ []) are is =
    let last : List ℕ = optional 0x81 second in
    let none : front_in 0x80 last ≡ None =
    ap (front_in 0x80) (sym (append-nil last)) ∙ not_there 0x80 0x81 second [] refl (omega arith) (writable second are.second) (front_empty 0x80) in
    let a : hash_in 0x80 data_objects ≡ Some (record { hash = first; rest = last }) =
    ap (hash_in 0x80) is ∙ hash_complete 0x80 first last refl are.first none in
    let b : hash_in 0x81 last ≡ Some (record { hash = second; rest = [] }) =
    ap (hash_in 0x81) (sym (append-nil last)) ∙ hash_complete 0x81 second [] refl are.second (front_empty 0x81) in
    rw (a, b) refl
hashes_complete data_objects (first ∷ second ∷ third ∷ later) are is = absurd (omega (arith, are.two))

no_hashes : AreHashes (None ∷ None ∷ [])
no_hashes = record { two = refl; first = _; second = _ }

if_any_found : (data_objects : Option (List ℕ)) (hashes : List (Option (List ℕ))) → hashes_if_any data_objects ≡ Some hashes
    → AreHashes hashes × AreHashesIn data_objects hashes
if_any_found None hashes is =
    let same = same_Some (None ∷ None ∷ []) hashes is in
    (subst (λ (h : List (Option (List ℕ))). AreHashes h) same no_hashes, sym same)
if_any_found (Some data_objects) hashes is = let found = hashes_found data_objects hashes is in (found.0, found)

if_any_complete : (data_objects : Option (List ℕ)) (hashes : List (Option (List ℕ))) → AreHashesIn data_objects hashes
    → hashes_if_any data_objects ≡ Some hashes
if_any_complete None hashes are = ap (λ (h : List (Option (List ℕ))). Some h) (sym are)
if_any_complete (Some data_objects) hashes are = hashes_complete data_objects hashes are.0 are.1

-- ---- what stands behind the dates

-- nothing, or extensions with these hashes
pub record HasSectors (bytes : List ℕ) (hashes : List (Option (List ℕ))) : Type 0 where
  pub extra : Option (List Extension)
  pub spelled : bytes ≡ optional 0x65 (option_map extensions extra)
  pub valid : AreHashes hashes
  pub sectors : AreHashesIn (option_and_then sector_data extra) hashes

pub sectors_found : (bytes : List ℕ) (hashes : List (Option (List ℕ))) → sectors_in bytes ≡ Some hashes → HasSectors bytes hashes
unfolding sectors_in
sectors_found [] hashes is =
    let none = if_any_found None hashes is in
    record { extra = None; spelled = refl; valid = none.0; sectors = none.1 }
sectors_found (first ∷ rest) hashes is =
    let front = bound (front_in 0x65 (first ∷ rest)) _ hashes is in
    let f : PlainFront = front.0 in
    let listed = bound (extensions_in f.value) _ hashes front.2 in
    let list : List Extension = listed.0 in
    let read = bound (hashes_if_any (sector_data list)) _ hashes listed.2 in
    let kept = cond_some (length f.rest == 0) read.0 hashes read.2 in
    let found = if_any_found (sector_data list) hashes (read.1 ∙ ap (λ (h : List (Option (List ℕ))). Some h) kept.1) in
    record {
      extra = Some list;
      spelled =
          (front_found 0x65 (first ∷ rest) f front.1).spelled
          ∙ ap (λ (r : List ℕ). object 0x65 f.value ++ r) (no_rest f.rest kept.0) ∙ append-nil (object 0x65 f.value)
          ∙ ap (object 0x65) (extensions_found f.value list listed.1);
      valid = found.0;
      sectors = found.1;
    }

sectors_step : (bytes : List ℕ) (list : List Extension) (hashes : List (Option (List ℕ)))
    → front_in 0x65 bytes ≡ Some (record { value = extensions list; rest = [] }) → extensions_in (extensions list) ≡ Some list
    → hashes_if_any (sector_data list) ≡ Some hashes → sectors_in bytes ≡ Some hashes
unfolding sectors_in
sectors_step [] list hashes front listed read = absurd (none-some (record { value = extensions list; rest = [] }) (sym (front_empty 0x65) ∙ front))
sectors_step (first ∷ rest) list hashes front listed read = rw (front, listed, read) refl

pub sectors_complete : (bytes : List ℕ) (hashes : List (Option (List ℕ))) → length bytes ≤ 65535 → HasSectors bytes hashes
    → sectors_in bytes ≡ Some hashes
unfolding sectors_in
sectors_complete bytes hashes sized has = by has.extra has.spelled has.sectors where
  by : (extra : Option (List Extension)) → bytes ≡ optional 0x65 (option_map extensions extra) → AreHashesIn (option_and_then sector_data extra) hashes
      → sectors_in bytes ≡ Some hashes
  by None is are = ap sectors_in is ∙ if_any_complete None hashes are
  by (Some list) is are =
      let fits = value_fits 0x65 (extensions list) [] in
      let same : length bytes ≡ length (object 0x65 (extensions list) ++ []) = ap length (is ∙ sym (append-nil (object 0x65 (extensions list)))) in
      let small : length (extensions list) ≤ 65535 = omega (arith, fits, same) in
      sectors_step bytes list hashes (ap (front_in 0x65) is ∙ front_of_last 0x65 (extensions list) refl small) (extensions_complete list small)
      (if_any_complete (sector_data list) hashes are)
