-- The walk over the entries of auxiliary data.
use Rattle.std.proofs.Common.{◌≡◌, ◌≢◌, ℕ, suc, ◌-◌, ◌==◌, true, false, List, [], ◌∷◌, length, Option, Some, None, refl, sym, ◌∙◌, ap, arith}
use Rattle.eid_cvc.specs.Chains.{PlainAux, no_aux}
use Rattle.eid_cvc.specs.Fronts.{PlainFront, ◌>>=◌, front_in}
use Rattle.eid_cvc.proofs.FrontFacts.{no_rest}
use Rattle.eid_ta.specs.AuxiliaryIn.{PlainEntry, entry_in, with_entry, with_entries, auxiliary_in}

-- the value has what the data so far and the rest have
abbrev pub IsWalked : List ℕ → ℕ → PlainAux → List ℕ → Type 0
IsWalked value left aux rest = auxiliary_in value ≡ with_entries left aux rest

pub walked_none : (value : List ℕ) → (length value == 0) ≡ false → IsWalked value 3 no_aux value
unfolding auxiliary_in
walked_none [] some = absurd (never some) where
  never : true ≡ false → ⊥
  never same = cc
walked_none (first ∷ rest) some = refl

pub empty_value : (value : List ℕ) → (length value == 0) ≡ true → None ≡ auxiliary_in value
unfolding auxiliary_in
empty_value value none = sym (ap auxiliary_in (no_rest value none))

pub walked_all : (value rest : List ℕ) (left : ℕ) (aux : PlainAux) → IsWalked value left aux rest → (length rest == 0) ≡ true
    → Some aux ≡ auxiliary_in value
unfolding with_entries
walked_all value rest left aux walked none = sym (walked ∙ ap (with_entries left aux) (no_rest rest none))

no_more : (aux : PlainAux) (rest : List ℕ) → (length rest == 0) ≡ false → with_entries 0 aux rest ≡ None
unfolding with_entries
no_more aux [] some = absurd (never some) where
  never : true ≡ false → ⊥
  never same = cc
no_more aux (first ∷ rest) some = refl

pub no_room : (value rest : List ℕ) (left : ℕ) (aux : PlainAux) → IsWalked value left aux rest → (length rest == 0) ≡ false → left ≡ 0
    → None ≡ auxiliary_in value
no_room value rest left aux walked some is = sym (walked ∙ ap (λ (n : ℕ). with_entries n aux rest) is ∙ no_more aux rest some)

-- one entry, and then the others
abbrev one_more : ℕ → PlainAux → List ℕ → Option PlainAux
one_more n aux rest = do
  front ← front_in 0x73 rest
  entry ← entry_in front.value
  more ← with_entry aux entry
  with_entries n more front.rest

step : (n : ℕ) (aux : PlainAux) (rest : List ℕ) → (length rest == 0) ≡ false → with_entries (suc n) aux rest ≡ one_more n aux rest
unfolding with_entries
step n aux [] some = absurd (never some) where
  never : true ≡ false → ⊥
  never same = cc
step n aux (first ∷ rest) some = refl

pub walked_step : (value rest : List ℕ) (left : ℕ) (aux : PlainAux) → IsWalked value left aux rest → (length rest == 0) ≡ false → left ≢ 0
    → auxiliary_in value ≡ one_more (left - 1) aux rest
walked_step value rest left aux walked some room =
    let is : left ≡ suc (left - 1) = omega (arith, room) in
    walked ∙ ap (λ (n : ℕ). with_entries n aux rest) is ∙ step (left - 1) aux rest some

pub no_front : (value rest : List ℕ) (left : ℕ) (aux : PlainAux) → IsWalked value left aux rest → (length rest == 0) ≡ false → left ≢ 0
    → None ≡ front_in 0x73 rest → None ≡ auxiliary_in value
no_front value rest left aux walked some room none =
    let is = sym none in
    sym (walked_step value rest left aux walked some room ∙ rw is refl)

pub no_entry : (value rest : List ℕ) (left : ℕ) (aux : PlainAux) (f : PlainFront) → IsWalked value left aux rest → (length rest == 0) ≡ false → left ≢ 0
    → Some f ≡ front_in 0x73 rest → None ≡ entry_in f.value → None ≡ auxiliary_in value
no_entry value rest left aux f walked some room front none =
    let heads : front_in 0x73 rest ≡ Some f = sym front in
    let is : entry_in f.value ≡ None = sym none in
    sym (walked_step value rest left aux walked some room ∙ rw (heads, is) refl)

pub bad_entry : (value rest : List ℕ) (left : ℕ) (aux : PlainAux) (f : PlainFront) (e : PlainEntry) → IsWalked value left aux rest
    → (length rest == 0) ≡ false → left ≢ 0 → Some f ≡ front_in 0x73 rest → Some e ≡ entry_in f.value → None ≡ with_entry aux e
    → None ≡ auxiliary_in value
bad_entry value rest left aux f e walked some room front entry none =
    let heads : front_in 0x73 rest ≡ Some f = sym front in
    let is : entry_in f.value ≡ Some e = sym entry in
    sym (walked_step value rest left aux walked some room ∙ rw (heads, is) (ap (λ (o : Option PlainAux). o >>= λ (more : PlainAux). with_entries (left - 1) more f.rest) (sym none)))

pub walked_more : (value rest : List ℕ) (left : ℕ) (aux more : PlainAux) (f : PlainFront) (e : PlainEntry) → IsWalked value left aux rest
    → (length rest == 0) ≡ false → left ≢ 0 → Some f ≡ front_in 0x73 rest → Some e ≡ entry_in f.value → Some more ≡ with_entry aux e
    → IsWalked value (left - 1) more f.rest
walked_more value rest left aux more f e walked some room front entry with =
    let heads : front_in 0x73 rest ≡ Some f = sym front in
    let is : entry_in f.value ≡ Some e = sym entry in
    walked_step value rest left aux walked some room
    ∙ rw (heads, is) (ap (λ (o : Option PlainAux). o >>= λ (more : PlainAux). with_entries (left - 1) more f.rest) (sym with))
