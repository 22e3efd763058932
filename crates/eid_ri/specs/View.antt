-- What contracts see of sector keys.
use Rattle.std.specs.Prelude.{option_map}
use Rattle.eid_ri.specs.SectorKeys.{PlainSectorKey, PlainSectorKeys}
use Rattle.eid_ri.specs.declared.sector_keys.SectorKey.{SectorKey}
use Rattle.eid_ri.specs.declared.sector_keys.SectorKeys.{SectorKeys}

abbrev pub key_view : SectorKey → PlainSectorKey
key_view k = record { object = k.object.now; point = k.point }

abbrev pub keys_view : SectorKeys → PlainSectorKeys
keys_view k = record { first = option_map key_view k.first; second = option_map key_view k.second }
