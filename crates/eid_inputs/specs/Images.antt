-- Images: the cells of an EEPROM, 65,536 bytes that stand for a record. This project's own.
use Rattle.std.specs.Prelude.{ℕ, ◌==◌, List, length, Option, None, if◌then◌else◌}
use Rattle.eid_record.specs.Plain.{FullRecord}
use Rattle.eid_store.specs.Stands.{stands}

-- the record that an image stands for
abbrev pub record_of : List ℕ → Option FullRecord
record_of image = if length image == 65536 then stands image else None
