-- How many items a list has, and what is true of them.
use Rattle.std.proofs.Common.{◌≡◌, ℕ, suc, ◌<◌, ◌≤◌, List, [], ◌∷◌, length, Option, Some, None, option_map, refl, ap, arith}
use Rattle.std.specs.Prelude.{IfSome, option_and_then}
use Rattle.std.proofs.lemmas.Bool.Decides.{nat_tests}
use Rattle.toml.specs.Data.{Data, Items, no_items, item}
use Rattle.toml.specs.View.{items_view, view}
use Rattle.toml.specs.declared.value.Value.{Value}
use Rattle.eid_text.specs.Hexadecimal.{at_most}
use Rattle.eid_perso.specs.Forms.{each_item}

-- of a first item and the others
first_and_others : {A : Type 0} (P : A → Type 0) (Q R : List A → Type 0) → ((x : A) (xs : List A) → P x → Q xs → R (x ∷ xs)) → (first : Option A) (later : Option (List A))
    → IfSome first P → IfSome later Q → IfSome (option_and_then (λ x. option_map (λ xs. x ∷ xs) later) first) R
first_and_others P Q R joined None later one others = tt
first_and_others P Q R joined (Some x) None one others = tt
first_and_others P Q R joined (Some x) (Some xs) one others = joined x xs one others

-- what is true of each item, by a recursion on lists
pub each_item-all : {A : Type 0} (P : A → Type 0) (Q : List A → Type 0) (form : Data → Option A) → Q [] → ((x : A) (xs : List A) → P x → Q xs → Q (x ∷ xs))
    → ((d : Data) → IfSome (form d) P) → (items : Items) → IfSome (each_item form items) Q
each_item-all P Q form none joined one no_items = none
each_item-all P Q form none joined one (item d items) = first_and_others P Q Q joined (form d) (each_item form items) (one d) (each_item-all P Q form none joined one items)

whatever : {A : Type 0} (o : Option A) → IfSome o (λ x. Unit {0})
whatever None = tt
whatever (Some x) = tt

each_item-length : {A : Type 0} (form : Data → Option A) (vs : List Value) → IfSome (each_item form (items_view vs)) (λ xs. length xs ≡ length vs)
each_item-length form [] = refl
each_item-length form (v ∷ vs) =
    first_and_others (λ x. Unit {0}) (λ xs. length xs ≡ length vs) (λ xs. length xs ≡ suc (length vs)) (λ x xs one others. ap suc others) (form (view v)) (each_item form (items_view vs)) (whatever (form (view v))) (each_item-length form vs)

at_most-none : {A : Type 0} (most : ℕ) (list : List A) → most < length list → at_most most list ≡ None
at_most-none most list long = grind (arith, nat_tests)

at_most-some : {A : Type 0} (most : ℕ) (list : List A) → length list ≤ most → at_most most list ≡ Some list
at_most-some most list short = grind (arith, nat_tests)

none_left : {A : Type 0} (most n : ℕ) (list : Option (List A)) → most < n → IfSome list (λ xs. length xs ≡ n) → option_and_then (at_most most) list ≡ None
none_left most n None more long = refl
none_left most n (Some xs) more long = at_most-none most xs (omega (arith, more, long))

all_left : {A : Type 0} (most n : ℕ) (list : Option (List A)) → n ≤ most → IfSome list (λ xs. length xs ≡ n) → option_and_then (at_most most) list ≡ list
all_left most n None few long = refl
all_left most n (Some xs) few long = at_most-some most xs (omega (arith, few, long))

-- more items than there may be
pub too_many : {A : Type 0} (most : ℕ) (form : Data → Option A) (vs : List Value) → most < length vs → option_and_then (at_most most) (each_item form (items_view vs)) ≡ None
too_many most form vs more = none_left most (length vs) (each_item form (items_view vs)) more (each_item-length form vs)

pub few_enough : {A : Type 0} (most : ℕ) (form : Data → Option A) (vs : List Value) → length vs ≤ most → option_and_then (at_most most) (each_item form (items_view vs)) ≡ each_item form (items_view vs)
few_enough most form vs few = all_left most (length vs) (each_item form (items_view vs)) few (each_item-length form vs)
