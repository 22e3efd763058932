-- The plain copy of an effect.
use Rattle.std.specs.Option.{option_map}
use Rattle.eid_bits.specs.Dates.{date_digits}
use Rattle.eid_record.specs.declared.effect.Effect.{Effect}
use Rattle.eid_record.specs.declared.effect.Effect.TheVariants as code
use Rattle.eid_record.specs.Plain.{PlainEffect, Spend, Refill, Unblock, SetPin, SetCan, Active, Advance, Write}
use Rattle.eid_record.specs.View.{trust_point_view}

abbrev pub effect_view : Effect → PlainEffect
effect_view code.Spend = Spend
effect_view code.Refill = Refill
effect_view (code.Unblock by_puk) = Unblock by_puk
effect_view (code.SetPin pin) = SetPin pin
effect_view (code.SetCan can) = SetCan can
effect_view (code.Active active) = Active active
effect_view (code.Advance date current previous) =
    Advance (date_digits date) (trust_point_view current) (option_map trust_point_view previous)
effect_view (code.Write file offset bytes) = Write file.0 offset bytes.now
