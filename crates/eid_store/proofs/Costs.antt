-- Writes, one after the other.
use Rattle.std.proofs.Common.{◌≡◌, ℕ, ◌+◌, ◌-◌, ◌<◌, true, false, IsTrue, ap, ◌∙◌, arith, inl, inr}
use Rattle.std.proofs.lemmas.Bool.{cases_lt, false≢true}
use Rattle.eid_cells.specs.Device.{Device, written_once}
use Rattle.eid_store.specs.Cost.{written_times}

-- the device with another plan
abbrev pub with_plan : Device → ℕ → Device
with_plan device n = record device { planned = n }

pub written_none : (device : Device) → written_times 0 device ≡ device
written_none device = ap (with_plan device) (omega arith)

pub steady_more : (count : ℕ) (old mid new : Device) → mid ≡ written_times count old → new ≡ written_once mid → new ≡ written_times (count + 1) old
steady_more count old mid new before once = once ∙ ap written_once before ∙ ap (with_plan old) (omega arith)

pub spared_more : (count : ℕ) (old mid : Device) → mid ≡ written_times count old → (IsTrue old.told → 0 < old.planned → count < old.planned)
    → (IsTrue mid.told → mid.planned ≡ 1 → false ≡ true) → IsTrue old.told → 0 < old.planned → count + 1 < old.planned
spared_more count old mid before spared not_now told some =
    let told_mid : IsTrue mid.told = ap (λ (d : Device). d.told) before ∙ told in
    let plan : mid.planned ≡ old.planned - count = ap (λ (d : Device). d.planned) before in
    let lt = spared told some in
    elim (cases_lt (count + 1) old.planned) [
      | inl more ↦ more
      | inr last ↦ absurd (false≢true (not_now told_mid (omega (arith, plan, lt, last))))
    ]
