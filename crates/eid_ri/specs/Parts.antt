-- Inside: what contracts see of parts of a body. Only private functions cite these.
use Rattle.std.specs.Prelude.{option_map}
use Rattle.eid_ri.specs.SectorKeysIn.{PlainMaybeKey}
use Rattle.eid_ri.specs.View.{key_view}
use Rattle.eid_ri.specs.declared.sector_keys.MaybeKey.{MaybeKey}

abbrev pub maybe_view : MaybeKey → PlainMaybeKey
maybe_view k = record { key = option_map key_view k.key; rest = k.rest.now }
