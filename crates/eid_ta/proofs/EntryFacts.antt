-- The auxiliary data that are read are those that were written.
use Rattle.std.proofs.Common.{◌≡◌, ℕ, zero, suc, ◌==◌, ◌≤◌, Bool, true, false, cond, List, [], ◌∷◌, ◌++◌, length, Option, Some, None, refl, sym, ◌∙◌, ap, subst, arith}
use Rattle.std.specs.Prelude.{IfSome, IsTrue}
use Rattle.std.specs.Option.{option_to_list}
use Rattle.std.specs.Str.{bytes_eq}
use Rattle.std.proofs.lemmas.List.{append-nil}
use Rattle.std.proofs.lemmas.Option.{cond_some, none-some, same_Some}
use Rattle.std.proofs.lemmas.Slice.Eq.{bytes_eq-Decides}
use Rattle.eid_bits.specs.Date.{is_long_date}
use Rattle.eid_bits.specs.Identifiers.{known_bytes}
use Rattle.eid_bits.specs.declared.identifier.Known.{Known}
use Rattle.eid_bits.specs.declared.identifier.Known.TheVariants.{Birth, Expiry, Community}
use Rattle.eid_tlv.specs.Objects.{object}
use Rattle.eid_cvc.specs.Chains.{PlainAux, no_aux}
use Rattle.eid_cvc.specs.Fronts.{PlainFront, ◌>>=◌, front_in}
use Rattle.eid_cvc.proofs.FrontFacts.{bound, value_fits, no_rest, front_found, front_of_object, front_of_last}
use Rattle.eid_ta.specs.AuxiliaryIn.{PlainEntry, entry_in, is_community, new_value, with_birth, with_expiry, with_community, with_entry, with_entries, auxiliary_in}
use Rattle.eid_ta.specs.Auxiliary.{entry_bytes, entries, values_of, AreValid, IsAuxiliary}

-- ---- an entry

entry_found : (bytes : List ℕ) (e : PlainEntry) → entry_in bytes ≡ Some e → bytes ≡ object 0x06 e.identifier ++ object 0x53 e.value
unfolding entry_in
entry_found bytes e is =
    let identifier = bound (front_in 0x06 bytes) _ e is in
    let i : PlainFront = identifier.0 in
    let compared = bound (front_in 0x53 i.rest) _ e identifier.2 in
    let v : PlainFront = compared.0 in
    let kept = cond_some (length v.rest == 0) (record { identifier = i.value; value = v.value }) e compared.2 in
    (front_found 0x06 bytes i identifier.1).spelled
    ∙ ap (λ (r : List ℕ). object 0x06 i.value ++ r) ((front_found 0x53 i.rest v compared.1).spelled
    ∙ ap (λ (r : List ℕ). object 0x53 v.value ++ r) (no_rest v.rest kept.0) ∙ append-nil (object 0x53 v.value))
    ∙ ap (λ (e : PlainEntry). object 0x06 e.identifier ++ object 0x53 e.value) kept.1

entry_complete : (e : PlainEntry) → length e.identifier ≤ 65535 → length e.value ≤ 65535
    → entry_in (object 0x06 e.identifier ++ object 0x53 e.value) ≡ Some e
unfolding entry_in
entry_complete e named sized =
    let identifier = front_of_object 0x06 e.identifier (object 0x53 e.value) refl named in
    let compared = front_of_last 0x53 e.value refl sized in
    rw (identifier, compared) refl

-- ---- the entries one behind the other

-- the data with these entries more
walk : PlainAux → List PlainEntry → Option PlainAux
walk aux [] = Some aux
walk aux (e ∷ list) = with_entry aux e >>= λ (more : PlainAux). walk more list

record IsRead (n : ℕ) (aux : PlainAux) (bytes : List ℕ) (result : PlainAux) : Type 0 where
  list : List PlainEntry
  spelled : bytes ≡ entries list
  few : length list ≤ n
  walked : walk aux list ≡ Some result

entries_found : (n : ℕ) (aux : PlainAux) (bytes : List ℕ) (result : PlainAux) → with_entries n aux bytes ≡ Some result → IsRead n aux bytes result
unfolding with_entries walk
entries_found n aux [] result is = record { list = []; spelled = refl; few = omega arith; walked = is }
entries_found zero aux (first ∷ rest) result is = absurd (none-some result is)
entries_found (suc n) aux (first ∷ rest) result is =
    let front = bound (front_in 0x73 (first ∷ rest)) _ result is in
    let f : PlainFront = front.0 in
    let entry = bound (entry_in f.value) _ result front.2 in
    let e : PlainEntry = entry.0 in
    let with = bound (with_entry aux e) _ result entry.2 in
    let more : PlainAux = with.0 in
    let later : IsRead n more f.rest result = entries_found n more f.rest result with.2 in
    record {
      list = e ∷ later.list;
      spelled =
          (front_found 0x73 (first ∷ rest) f front.1).spelled
          ∙ ap (λ (v : List ℕ). object 0x73 v ++ f.rest) (entry_found f.value e entry.1)
          ∙ ap (λ (r : List ℕ). entry_bytes e ++ r) later.spelled;
      few = omega (arith, later.few);
      walked = ap (λ (o : Option PlainAux). o >>= λ (m : PlainAux). walk m later.list) with.1 ∙ later.walked;
    }

-- an entry at the front
entries_step : (n : ℕ) (aux : PlainAux) (bytes : List ℕ) (f : PlainFront) (e : PlainEntry) → 1 ≤ length bytes → front_in 0x73 bytes ≡ Some f
    → entry_in f.value ≡ Some e → with_entries (suc n) aux bytes ≡ (with_entry aux e >>= λ (more : PlainAux). with_entries n more f.rest)
unfolding with_entries
entries_step n aux [] f e some front entry = absurd (omega (arith, some))
entries_step n aux (first ∷ rest) f e some front entry = rw (front, entry) refl

entries_complete : (list : List PlainEntry) (n : ℕ) (aux result : PlainAux) → length (entries list) ≤ 65535 → length list ≤ n
    → walk aux list ≡ Some result → with_entries n aux (entries list) ≡ Some result
unfolding with_entries walk
entries_complete [] n aux result sized few walked = walked
entries_complete (e ∷ list) zero aux result sized few walked = absurd (omega (arith, few))
entries_complete (e ∷ list) (suc n) aux result sized few walked =
    let value : List ℕ = object 0x06 e.identifier ++ object 0x53 e.value in
    let outer = value_fits 0x73 value (entries list) in
    let inner = value_fits 0x06 e.identifier (object 0x53 e.value) in
    let last = value_fits 0x53 e.value [] in
    let last_size : length (object 0x53 e.value ++ []) ≡ length (object 0x53 e.value) = ap length (append-nil (object 0x53 e.value)) in
    let with = bound (with_entry aux e) _ result walked in
    let more : PlainAux = with.0 in
    let f : PlainFront = record { value = value; rest = entries list } in
    entries_step n aux (entries (e ∷ list)) f e (omega (arith, outer)) (front_of_object 0x73 value (entries list) refl (omega (arith, outer, sized)))
    (entry_complete e (omega (arith, outer, inner, sized)) (omega (arith, outer, inner, last, last_size, sized)))
    ∙ ap (λ (o : Option PlainAux). o >>= λ (m : PlainAux). with_entries n m (entries list)) with.1
    ∙ entries_complete list n more result (omega (arith, outer, sized)) (omega (arith, few)) with.2

-- ---- what the entries say

-- which of the identifiers an entry has
data Kind (i : List ℕ) : Type 0 where
  OfBirth : bytes_eq i (known_bytes Birth) ≡ true → bytes_eq i (known_bytes Expiry) ≡ false → bytes_eq i (known_bytes Community) ≡ false → Kind i
  OfExpiry : bytes_eq i (known_bytes Birth) ≡ false → bytes_eq i (known_bytes Expiry) ≡ true → bytes_eq i (known_bytes Community) ≡ false → Kind i
  OfCommunity : bytes_eq i (known_bytes Birth) ≡ false → bytes_eq i (known_bytes Expiry) ≡ false → bytes_eq i (known_bytes Community) ≡ true → Kind i
  OfOther : bytes_eq i (known_bytes Birth) ≡ false → bytes_eq i (known_bytes Expiry) ≡ false → bytes_eq i (known_bytes Community) ≡ false → Kind i

-- bytes that are those of one identifier are those of another where these are the same
same_as : (i those : List ℕ) (other : List ℕ) → bytes_eq i those ≡ true → bytes_eq i other ≡ bytes_eq those other
same_as i those other is = ap (λ (x : List ℕ). bytes_eq x other) ((bytes_eq-Decides i those).0 is)

kind_of : (i : List ℕ) → Kind i
kind_of i = by (bytes_eq i (known_bytes Birth)) (bytes_eq i (known_bytes Expiry)) (bytes_eq i (known_bytes Community)) refl refl refl where
  by : (b e c : Bool) → bytes_eq i (known_bytes Birth) ≡ b → bytes_eq i (known_bytes Expiry) ≡ e → bytes_eq i (known_bytes Community) ≡ c → Kind i
  by true e c birth expiry community = OfBirth birth (same_as i _ (known_bytes Expiry) birth) (same_as i _ (known_bytes Community) birth)
  by false true c birth expiry community = OfExpiry birth expiry (same_as i _ (known_bytes Community) expiry)
  by false false true birth expiry community = OfCommunity birth expiry community
  by false false false birth expiry community = OfOther birth expiry community

values_more : (identifier : Known) (e : PlainEntry) (list : List PlainEntry) (b : Bool) → bytes_eq e.identifier (known_bytes identifier) ≡ b
    → values_of identifier (e ∷ list) ≡ cond b (e.value ∷ values_of identifier list) (values_of identifier list)
values_more identifier e list true is = rw is refl
values_more identifier e list false is = rw is refl

-- the data are those before and those of the entries
record Says (aux : PlainAux) (list : List PlainEntry) (result : PlainAux) : Type 0 where
  birth : option_to_list aux.birth ++ values_of Birth list ≡ option_to_list result.birth
  expiry : option_to_list aux.expiry ++ values_of Expiry list ≡ option_to_list result.expiry
  community : option_to_list aux.community ++ values_of Community list ≡ option_to_list result.community

-- a value that was new
new_found : (test : List ℕ → Bool) (earlier : Option (List ℕ)) (value new : List ℕ) → new_value test earlier value ≡ Some new
    → (earlier ≡ None) × (test new ≡ true) × (value ≡ new)
new_found test (Some e) value new is = absurd (none-some new is)
new_found test None value new is =
    let kept = cond_some (test value) value new is in
    (refl, ap test (sym kept.1) ∙ kept.0, kept.1)

-- the one value of a list that begins with those before
new_complete : (test : List ℕ → Bool) (earlier result : Option (List ℕ)) (value : List ℕ) (later : List (List ℕ))
    → IfSome result (λ v. IsTrue (test v)) → option_to_list earlier ++ value ∷ later ≡ option_to_list result
    → (earlier ≡ None) × (new_value test earlier value ≡ Some value)
new_complete test None None value later valid is = cc
new_complete test (Some e) None value later valid is = cc
new_complete test (Some e) (Some r) value later valid is = cc
new_complete test None (Some r) value later valid is =
    let same : value ≡ r = first value r later is in
    let passes : test value ≡ true = ap test same ∙ valid in
    (refl, rw passes refl)
  where
    first : (x y : List ℕ) (later : List (List ℕ)) → x ∷ later ≡ y ∷ [] → x ≡ y
    first x y later is = cc

taken : (identifier : Known) (test : List ℕ → Bool) (earlier : Option (List ℕ)) (e : PlainEntry) (new : List ℕ)
    → bytes_eq e.identifier (known_bytes identifier) ≡ true → new_value test earlier e.value ≡ Some new
    → (list : List PlainEntry) → option_to_list earlier ++ values_of identifier (e ∷ list) ≡ new ∷ values_of identifier list
taken identifier test earlier e new is found list =
    let parts = new_found test earlier e.value new found in
    ap (λ (o : Option (List ℕ)). option_to_list o ++ values_of identifier (e ∷ list)) parts.0
    ∙ values_more identifier e list true is ∙ ap (λ (v : List ℕ). v ∷ values_of identifier list) parts.2

passed : (identifier : Known) (earlier : Option (List ℕ)) (e : PlainEntry) → bytes_eq e.identifier (known_bytes identifier) ≡ false
    → (list : List PlainEntry) → option_to_list earlier ++ values_of identifier (e ∷ list) ≡ option_to_list earlier ++ values_of identifier list
passed identifier earlier e is list = ap (λ (vs : List (List ℕ)). option_to_list earlier ++ vs) (values_more identifier e list false is)

-- one entry more in the data is one fewer in the list
record Steps (aux more : PlainAux) (e : PlainEntry) : Type 0 where
  birth : (list : List PlainEntry) → option_to_list aux.birth ++ values_of Birth (e ∷ list) ≡ option_to_list more.birth ++ values_of Birth list
  expiry : (list : List PlainEntry) → option_to_list aux.expiry ++ values_of Expiry (e ∷ list) ≡ option_to_list more.expiry ++ values_of Expiry list
  community : (list : List PlainEntry) → option_to_list aux.community ++ values_of Community (e ∷ list) ≡ option_to_list more.community ++ values_of Community list
  valid : AreValid aux → AreValid more

same_steps : (aux a b : PlainAux) (e : PlainEntry) → a ≡ b → Steps aux a e → Steps aux b e
same_steps aux a b e same steps = subst (λ (m : PlainAux). Steps aux m e) same steps

birth_entry : (aux : PlainAux) (e : PlainEntry) → bytes_eq e.identifier (known_bytes Birth) ≡ true → with_entry aux e ≡ with_birth aux e.value
birth_entry aux e b = rw b refl

expiry_entry : (aux : PlainAux) (e : PlainEntry) → bytes_eq e.identifier (known_bytes Birth) ≡ false → bytes_eq e.identifier (known_bytes Expiry) ≡ true
    → with_entry aux e ≡ with_expiry aux e.value
expiry_entry aux e b x = rw (b, x) refl

community_entry : (aux : PlainAux) (e : PlainEntry) → bytes_eq e.identifier (known_bytes Birth) ≡ false → bytes_eq e.identifier (known_bytes Expiry) ≡ false
    → bytes_eq e.identifier (known_bytes Community) ≡ true → with_entry aux e ≡ with_community aux e.value
community_entry aux e b x c = rw (b, x, c) refl

other_entry : (aux : PlainAux) (e : PlainEntry) → bytes_eq e.identifier (known_bytes Birth) ≡ false → bytes_eq e.identifier (known_bytes Expiry) ≡ false
    → bytes_eq e.identifier (known_bytes Community) ≡ false → with_entry aux e ≡ Some aux
other_entry aux e b x c = rw (b, x, c) refl

steps : (aux more : PlainAux) (e : PlainEntry) → with_entry aux e ≡ Some more → Steps aux more e
unfolding with_birth with_expiry with_community
steps aux more e is = by (kind_of e.identifier) where
  by : Kind e.identifier → Steps aux more e
  by (OfBirth b x c) =
      let new = bound (new_value is_long_date aux.birth e.value) _ more (sym (birth_entry aux e b) ∙ is) in
      let next : PlainAux = record { birth = Some new.0; expiry = aux.expiry; community = aux.community } in
      let parts = new_found is_long_date aux.birth e.value new.0 new.1 in
      same_steps aux next more e (same_Some next more new.2) (record {
        birth = taken Birth is_long_date aux.birth e new.0 b new.1;
        expiry = passed Expiry aux.expiry e x;
        community = passed Community aux.community e c;
        valid = λ are. record { birth = parts.1; expiry = are.expiry; community = are.community };
      })
  by (OfExpiry b x c) =
      let new = bound (new_value is_long_date aux.expiry e.value) _ more (sym (expiry_entry aux e b x) ∙ is) in
      let next : PlainAux = record { birth = aux.birth; expiry = Some new.0; community = aux.community } in
      let parts = new_found is_long_date aux.expiry e.value new.0 new.1 in
      same_steps aux next more e (same_Some next more new.2) (record {
        birth = passed Birth aux.birth e b;
        expiry = taken Expiry is_long_date aux.expiry e new.0 x new.1;
        community = passed Community aux.community e c;
        valid = λ are. record { birth = are.birth; expiry = parts.1; community = are.community };
      })
  by (OfCommunity b x c) =
      let new = bound (new_value is_community aux.community e.value) _ more (sym (community_entry aux e b x c) ∙ is) in
      let next : PlainAux = record { birth = aux.birth; expiry = aux.expiry; community = Some new.0 } in
      let parts = new_found is_community aux.community e.value new.0 new.1 in
      same_steps aux next more e (same_Some next more new.2) (record {
        birth = passed Birth aux.birth e b;
        expiry = passed Expiry aux.expiry e x;
        community = taken Community is_community aux.community e new.0 c new.1;
        valid = λ are. record { birth = are.birth; expiry = are.expiry; community = parts.1 };
      })
  by (OfOther b x c) =
      same_steps aux aux more e (same_Some aux more (sym (other_entry aux e b x c) ∙ is)) (record {
        birth = passed Birth aux.birth e b;
        expiry = passed Expiry aux.expiry e x;
        community = passed Community aux.community e c;
        valid = λ are. are;
      })

-- an entry of what the list says is taken
takes : (aux : PlainAux) (e : PlainEntry) (list : List PlainEntry) (result : PlainAux) → AreValid result → Says aux (e ∷ list) result
    → (more : PlainAux) × (with_entry aux e ≡ Some more)
unfolding with_birth with_expiry with_community
takes aux e list result valid says = by (kind_of e.identifier) where
  before : (identifier : Known) (earlier after : Option (List ℕ)) → bytes_eq e.identifier (known_bytes identifier) ≡ true
      → option_to_list earlier ++ values_of identifier (e ∷ list) ≡ option_to_list after
      → option_to_list earlier ++ e.value ∷ values_of identifier list ≡ option_to_list after
  before identifier earlier after is has = sym (ap (λ (vs : List (List ℕ)). option_to_list earlier ++ vs) (values_more identifier e list true is)) ∙ has

  by : Kind e.identifier → (more : PlainAux) × (with_entry aux e ≡ Some more)
  by (OfBirth b x c) =
      let new = new_complete is_long_date aux.birth result.birth e.value (values_of Birth list) valid.birth (before Birth aux.birth result.birth b says.birth) in
      let next : PlainAux = record { birth = Some e.value; expiry = aux.expiry; community = aux.community } in
      (next, birth_entry aux e b ∙ ap (λ (o : Option (List ℕ)). o >>= λ (d : List ℕ). Some (record { birth = Some d; expiry = aux.expiry; community = aux.community })) new.1)
  by (OfExpiry b x c) =
      let new = new_complete is_long_date aux.expiry result.expiry e.value (values_of Expiry list) valid.expiry (before Expiry aux.expiry result.expiry x says.expiry) in
      let next : PlainAux = record { birth = aux.birth; expiry = Some e.value; community = aux.community } in
      (next, expiry_entry aux e b x ∙ ap (λ (o : Option (List ℕ)). o >>= λ (d : List ℕ). Some (record { birth = aux.birth; expiry = Some d; community = aux.community })) new.1)
  by (OfCommunity b x c) =
      let new = new_complete is_community aux.community result.community e.value (values_of Community list) valid.community
      (before Community aux.community result.community c says.community) in
      let next : PlainAux = record { birth = aux.birth; expiry = aux.expiry; community = Some e.value } in
      (next, community_entry aux e b x c ∙ ap (λ (o : Option (List ℕ)). o >>= λ (d : List ℕ). Some (record { birth = aux.birth; expiry = aux.expiry; community = Some d })) new.1)
  by (OfOther b x c) = (aux, other_entry aux e b x c)

-- ---- all entries

no_entries : (aux result : PlainAux) → aux ≡ result → Says aux [] result
no_entries aux result same = record {
  birth = append-nil (option_to_list aux.birth) ∙ ap (λ (a : PlainAux). option_to_list a.birth) same;
  expiry = append-nil (option_to_list aux.expiry) ∙ ap (λ (a : PlainAux). option_to_list a.expiry) same;
  community = append-nil (option_to_list aux.community) ∙ ap (λ (a : PlainAux). option_to_list a.community) same;
}

walk_found : (list : List PlainEntry) (aux result : PlainAux) → walk aux list ≡ Some result → AreValid aux → Says aux list result × AreValid result
unfolding walk
walk_found [] aux result is valid =
    let same = same_Some aux result is in
    (no_entries aux result same, subst (λ (a : PlainAux). AreValid a) same valid)
walk_found (e ∷ list) aux result is valid =
    let with = bound (with_entry aux e) _ result is in
    let more : PlainAux = with.0 in
    let one : Steps aux more e = steps aux more e with.1 in
    let later = walk_found list more result with.2 (one.valid valid) in (
      record {
        birth = one.birth list ∙ later.0.birth;
        expiry = one.expiry list ∙ later.0.expiry;
        community = one.community list ∙ later.0.community;
      },
      later.1,
    )

same_option : (a b : Option (List ℕ)) → option_to_list a ++ [] ≡ option_to_list b → a ≡ b
same_option None None is = refl
same_option None (Some y) is = cc
same_option (Some x) None is = cc
same_option (Some x) (Some y) is = first x y is where
  first : (x y : List ℕ) → x ∷ [] ≡ y ∷ [] → Some x ≡ Some y
  first x y is = cc

walk_complete : (list : List PlainEntry) (aux result : PlainAux) → AreValid result → Says aux list result → walk aux list ≡ Some result
unfolding walk
walk_complete [] aux result valid says =
    let birth = same_option aux.birth result.birth says.birth in
    let expiry = same_option aux.expiry result.expiry says.expiry in
    let community = same_option aux.community result.community says.community in
    ap (λ (o : Option (List ℕ)). Some (record { birth = o; expiry = aux.expiry; community = aux.community })) birth
    ∙ ap (λ (o : Option (List ℕ)). Some (record { birth = result.birth; expiry = o; community = aux.community })) expiry
    ∙ ap (λ (o : Option (List ℕ)). Some (record { birth = result.birth; expiry = result.expiry; community = o })) community
walk_complete (e ∷ list) aux result valid says =
    let with = takes aux e list result valid says in
    let more : PlainAux = with.0 in
    let one : Steps aux more e = steps aux more e with.1 in
    let later : Says more list result = record {
      birth = sym (one.birth list) ∙ says.birth;
      expiry = sym (one.expiry list) ∙ says.expiry;
      community = sym (one.community list) ∙ says.community;
    } in
    ap (λ (o : Option PlainAux). o >>= λ (m : PlainAux). walk m list) with.1 ∙ walk_complete list more result valid later

pub auxiliary_found : (value : List ℕ) (aux : PlainAux) → auxiliary_in value ≡ Some aux → IsAuxiliary value aux
unfolding auxiliary_in
auxiliary_found [] aux is = absurd (none-some aux is)
auxiliary_found (first ∷ rest) aux is =
    let read : IsRead 3 no_aux (first ∷ rest) aux = entries_found 3 no_aux (first ∷ rest) aux is in
    let found = walk_found read.list no_aux aux read.walked (record { birth = _; expiry = _; community = _ }) in
    record {
      list = read.list;
      spelled = read.spelled;
      some = not_empty read.list read.spelled;
      few = read.few;
      valid = found.1;
      birth = found.0.birth;
      expiry = found.0.expiry;
      community = found.0.community;
    }
  where
    not_empty : (list : List PlainEntry) → first ∷ rest ≡ entries list → 1 ≤ length list
    not_empty [] is = absurd (never is) where
      never : first ∷ rest ≡ [] → ⊥
      never is = cc
    not_empty (e ∷ list) is = omega arith

filled : (value : List ℕ) → 1 ≤ length value → auxiliary_in value ≡ with_entries 3 no_aux value
unfolding auxiliary_in
filled [] some = absurd (omega (arith, some))
filled (first ∷ rest) some = refl

pub auxiliary_complete : (value : List ℕ) (aux : PlainAux) → length value ≤ 65535 → IsAuxiliary value aux → auxiliary_in value ≡ Some aux
auxiliary_complete value aux sized is =
    filled value (longer is.list is.some is.spelled)
    ∙ ap (λ (v : List ℕ). with_entries 3 no_aux v) is.spelled
    ∙ entries_complete is.list 3 no_aux aux (omega (arith, sized, ap length is.spelled)) is.few
    (walk_complete is.list no_aux aux is.valid (record { birth = is.birth; expiry = is.expiry; community = is.community }))
  where
    longer : (list : List PlainEntry) → 1 ≤ length list → value ≡ entries list → 1 ≤ length value
    longer [] some spelled = absurd (omega (arith, some))
    longer (e ∷ list) some spelled =
        omega (arith, value_fits 0x73 (object 0x06 e.identifier ++ object 0x53 e.value) (entries list), ap length spelled)
