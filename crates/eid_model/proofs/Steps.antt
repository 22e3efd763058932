-- Steps of a run that come in one command, whatever their kind.
use Rattle.std.proofs.Common.{◌≡◌, Bool, true, false, not, ◌==◌, ◌&&◌, List, [], ◌∷◌, Option, Some, None, refl, ap, ◌∙◌, eq-eqb}
use Rattle.std.specs.Prelude.{find, option_and_then, option_map, if◌then◌else◌}
use Rattle.std.specs.List.{list_all}
use Rattle.std.proofs.lemmas.Bool.{and_parts, eqb-true}
use Rattle.eid_apdu.specs.Command.{PlainCommand}
use Rattle.eid_apdu.specs.Chaining.{is_fragment}
use Rattle.eid_model.specs.declared.kind.Kind.{Kind}
use Rattle.eid_model.specs.Chains.{as_fragment, fragment}
use Rattle.eid_model.specs.Kinds.{KindRow, has_form_of, has_parameters, kind_in_table, kind_named, number_of, same_kind}
use Rattle.eid_model.specs.Moments.{PlainMoment, succeeded}
use Rattle.eid_model.specs.Runs.{is_piece_of_next}

-- ---- a step comes behind its selection alone

never_more : (kind : Kind) (row : KindRow) (found : Bool) (rows : List KindRow) (next : Option Kind) (c : PlainCommand) → (has_parameters c row && row.comes next c.body) ≡ found
    → not (same_kind row.kind kind && row.comes next c.body) ≡ true
    → (option_map (λ row. row.kind) (find (λ row. has_parameters c row && row.comes next c.body) rows) ≡ Some kind → ⊥)
    → option_map (λ row. row.kind) (if found then Some row else find (λ row. has_parameters c row && row.comes next c.body) rows) ≡ Some kind → ⊥
never_more kind row true rows next c is other later e =
    let is_kind : row.kind ≡ kind = cc in
    let same : same_kind row.kind kind ≡ true = ap (λ (k : Kind). same_kind k kind) is_kind ∙ eq-eqb (number_of kind) (number_of kind) refl in
    let comes : row.comes next c.body ≡ true = (and_parts (has_parameters c row) (row.comes next c.body) is).1 in
    absurd (let no : not (same_kind row.kind kind && row.comes next c.body) ≡ false = rw (same, comes) refl in cc)
never_more kind row false rows next c is other later e = later e

pub never_found : (kind : Kind) (rows : List KindRow) (next : Option Kind) (c : PlainCommand) → list_all (λ row. not (same_kind row.kind kind && row.comes next c.body)) rows ≡ true
    → option_map (λ row. row.kind) (find (λ row. has_parameters c row && row.comes next c.body) rows) ≡ Some kind → ⊥
never_found kind [] next c others e = cc
never_found kind (row ∷ rows) next c others e =
    let both = and_parts (not (same_kind row.kind kind && row.comes next c.body)) (list_all (λ row. not (same_kind row.kind kind && row.comes next c.body)) rows) others in
    never_more kind row (has_parameters c row && row.comes next c.body) rows next c refl both.0 (never_found kind rows next c both.1) e

-- a command that is no fragment has its kind by the table
pub in_table_of : (kind : Kind) (next : Option Kind) (c : PlainCommand) → (kind_in_table next c ≡ Some kind → next ≡ Some kind) → kind_named next c ≡ Some kind → next ≡ Some kind
in_table_of kind next c tabled e = by (is_fragment c) refl e where
  by : (b : Bool) → is_fragment c ≡ b → (if b then None else kind_in_table next c) ≡ Some kind → next ≡ Some kind
  by true is so = absurd (cc)
  by false is so = tabled so

-- ---- it has no fragments

of_fragment : (kind : Kind) (c : PlainCommand) (b : Bool) → (is_fragment c ≡ true → has_form_of kind c ≡ false) → is_fragment c ≡ b → is_piece_of_next (Some kind) (if b then Some c else None) ≡ false
of_fragment kind c true none is = none is
of_fragment kind c false none is = refl

pub no_piece : (kind : Kind) (m : PlainMoment) → ((c : PlainCommand) → is_fragment c ≡ true → has_form_of kind c ≡ false) → is_piece_of_next (Some kind) (fragment m) ≡ false
no_piece kind m none = by (succeeded m) m.plain where
  by : (b : Bool) (o : Option PlainCommand) → is_piece_of_next (Some kind) (if b then option_and_then as_fragment o else None) ≡ false
  by false o = refl
  by true None = refl
  by true (Some c) = of_fragment kind c (is_fragment c) (none c) refl

none_both : (b : Bool) → (b && false) ≡ false
none_both true = refl
none_both false = refl

-- GENERAL AUTHENTICATE of class 00
pub no_fragment : (kind : Kind) (c : PlainCommand) → ((0x86 == c.ins) ≡ false → has_form_of kind c ≡ false) → is_fragment c ≡ true → has_form_of kind c ≡ false
no_fragment kind c other piece = by (0x86 == c.ins) refl where
  by : (b : Bool) → (0x86 == c.ins) ≡ b → has_form_of kind c ≡ false
  by true is =
      let ins : 0x86 ≡ c.ins = eqb-true 0x86 c.ins is in
      absurd (let none : is_fragment c ≡ false = rw (← ins) (none_both (c.cla == 0x10)) in cc)
  by false is = other is
