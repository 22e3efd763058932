-- What one commit more does to a device.
use Rattle.std.proofs.Common.{◌≡◌, ℕ, ◌+◌, ◌-◌, ◌≤◌, ◌<◌, Bool, true, false, List, Option, Some, Result, Ok, Err, IsTrue, refl, sym, ap, ◌∙◌, subst, arith, inl, inr}
use Rattle.std.specs.Prelude.{◌⊎◌, nat_le}
use Rattle.std.proofs.lemmas.Bool.Decides.{nat_tests}
use Rattle.std.specs.Option.{option_map}
use Rattle.eid_cells.specs.Device.{Device}
use Rattle.eid_record.specs.Plain.{FullRecord, PlainEffect}
use Rattle.eid_record.specs.Effect.{committed}
use Rattle.eid_store.specs.Cost.{Costs, written_times}
use Rattle.eid_store.specs.Durable.{IsAllOrNothing}
use Rattle.eid_store.specs.Stands.{stands}
use Rattle.eid_store.specs.Store as stored
use Rattle.eid_store.specs.declared.store.Store.{Store}
use Rattle.eid_chip.specs.Commits.{Wrote, WasCutBehind}
use Rattle.eid_chip.specs.Held.{held}
use Rattle.eid_chip.proofs.HeldFiles.{held_is, held_stands, held_fields}

-- a device that is not written to
pub unwritten : (device : Device) → Wrote 0 device device
unwritten device =
    let planned : device.planned ≡ device.planned - 0 = omega arith in
    record { writes = 0; least = omega arith; most = omega arith; device = ap (λ (n : ℕ). record device { planned = n }) planned; spared = λ told struck. omega (arith, struck.0, struck.1) }

-- writes behind others
written_more : (first : Device) (before writes : ℕ) → written_times writes (written_times before first) ≡ written_times (before + writes) first
written_more first before writes =
    let planned : (first.planned - before) - writes ≡ first.planned - (before + writes) = omega arith in
    ap (λ (n : ℕ). record first { planned = n }) planned

-- no write of either was struck
spared_by : (finished writes : ℕ) (first old : Device) (wrote : Wrote finished first old) → (IsTrue old.told → (1 ≤ old.planned) × (old.planned ≤ writes) → ⊥) → (b : Bool) → nat_le first.planned wrote.writes ≡ b → IsTrue first.told → 1 ≤ first.planned → first.planned ≤ wrote.writes + writes → ⊥
spared_by finished writes first old wrote later true is told some within =
    let le : first.planned ≤ wrote.writes = grind (arith, nat_tests) in
    wrote.spared told (some, le)
spared_by finished writes first old wrote later false is told some within =
    let behind : wrote.writes < first.planned = grind (arith, nat_tests) in
    let planned : old.planned ≡ first.planned - wrote.writes = ap (λ (d : Device). d.planned) wrote.device in
    let told_now : old.told ≡ true = ap (λ (d : Device). d.told) wrote.device ∙ told in
    later told_now (omega (arith, planned, behind), omega (arith, planned, behind, within))

-- a commit that finished behind others
pub wrote_more : {T E : Type 0} (finished writes : ℕ) (first old new : Device) (r : Result T E) (x : T) → r ≡ Ok x → 5 ≤ writes → writes ≤ 384 → Wrote finished first old → Costs writes old new r → Wrote (finished + 1) first new
wrote_more {T = T} {E = E} finished writes first old new r x is least most wrote costs =
    let done : Costs {T = T} {E = E} writes old new (Ok x) = subst (λ (r : Result T E). Costs writes old new r) is costs in
    record {
      writes = wrote.writes + writes;
      least = omega (arith, wrote.least, least);
      most = omega (arith, wrote.most, most);
      device = done.steady ∙ ap (written_times writes) wrote.device ∙ written_more first wrote.writes writes;
      spared = λ told struck. spared_by finished writes first old wrote (λ told_now within. let err = (done.as_planned told_now).1 within in absurd (cc)) (nat_le first.planned wrote.writes) refl told struck.0 struck.1;
    }

-- a commit that was cut behind others
pub cut_behind : {T E : Type 0} (finished writes : ℕ) (first old new : Device) (r : Result T E) (e : E) → r ≡ Err e → 5 ≤ writes → writes ≤ 384 → Wrote finished first old → Costs writes old new r → WasCutBehind finished first new
cut_behind {T = T} {E = E} finished writes first old new r e is least most wrote costs =
    let done : Costs {T = T} {E = E} writes old new (Err e) = subst (λ (r : Result T E). Costs writes old new r) is costs in
    record {
      between = old;
      wrote = wrote;
      cut = done.cut;
      struck = λ told. let struck = (done.as_planned told).0 refl in (struck.0, omega (arith, struck.1, most));
    }

-- ---- what the cells hold

-- after a commit that finished
pub holds_committed : (effect : PlainEffect) (old new : Option FullRecord) (kept : FullRecord) → new ≡ option_map (committed effect) old → old ≡ Some kept → new ≡ Some (committed effect kept)
holds_committed effect old new kept is held = is ∙ ap (option_map (committed effect)) held

-- after one that was cut
pub holds_either : (effect : PlainEffect) (old new : Option FullRecord) (kept : FullRecord) → IsAllOrNothing effect old new → old ≡ Some kept → (new ≡ Some kept) ⊎ (new ≡ Some (committed effect kept))
holds_either effect old new kept (inl same) held = inl (same ∙ held)
holds_either effect old new kept (inr done) held = inr (holds_committed effect old new kept done held)

-- ---- a store behind commits

-- so many commits finished, and the cells stand for this record
pub record Has (finished : ℕ) (kept : FullRecord) (first : Device) (store : Store) (device : Device) (cells : List ℕ) : Type 0 where
  pub fits : stored.Fits store device cells
  pub holds : stands cells ≡ Some kept
  pub wrote : Wrote finished first device

pub has_none : (store : Store) (device : Device) (cells : List ℕ) → stored.Fits store device cells → Has 0 (held cells) device store device cells
has_none store device cells fits = record { fits = fits; holds = held_stands store device cells fits; wrote = unwritten device }

-- one more
pub has_more : {T E : Type 0} (effect : PlainEffect) (finished : ℕ) (kept : FullRecord) (first : Device) (store next : Store) (old new : Device) (cells cells_now : List ℕ) (r : Result T E) (x : T) → Has finished kept first store old cells → r ≡ Ok x
    → stands cells_now ≡ option_map (committed effect) (stands cells) → stored.Fits next new cells_now → Costs (stored.commit_cost store cells effect) old new r
    → 5 ≤ stored.commit_cost store cells effect → stored.commit_cost store cells effect ≤ 384 → Has (finished + 1) (committed effect kept) first next new cells_now
has_more effect finished kept first store next old new cells cells_now r x has is done fits costs least most =
    record {
      fits = fits;
      holds = holds_committed effect (stands cells) (stands cells_now) kept done has.holds;
      wrote = wrote_more finished (stored.commit_cost store cells effect) first old new r x is least most has.wrote costs;
    }

-- one that was cut
pub has_cut : {T E : Type 0} (effect : PlainEffect) (finished : ℕ) (kept : FullRecord) (first : Device) (store : Store) (old new : Device) (cells cells_now : List ℕ) (r : Result T E) (e : E) → Has finished kept first store old cells → r ≡ Err e
    → IsAllOrNothing effect (stands cells) (stands cells_now) → Costs (stored.commit_cost store cells effect) old new r
    → 5 ≤ stored.commit_cost store cells effect → stored.commit_cost store cells effect ≤ 384
    → ((stands cells_now ≡ Some kept) ⊎ (stands cells_now ≡ Some (committed effect kept))) × WasCutBehind finished first new
has_cut effect finished kept first store old new cells cells_now r e has is either costs least most = (
  holds_either effect (stands cells) (stands cells_now) kept either has.holds,
  cut_behind finished (stored.commit_cost store cells effect) first old new r e is least most has.wrote costs,
)

-- the fields that the store keeps are those of the record
pub kept_fields : (finished : ℕ) (kept : FullRecord) (first : Device) (store : Store) (device : Device) (cells : List ℕ) → Has finished kept first store device cells → stored.fields_of store ≡ kept.fields
kept_fields finished kept first store device cells has =
    sym (held_fields store device cells has.fits) ∙ ap (λ (f : FullRecord). f.fields) (held_is cells kept has.holds)
