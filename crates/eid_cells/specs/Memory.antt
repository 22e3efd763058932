-- A device in memory: what it shows, and the tear of its plan.
use Rattle.std.specs.Prelude.{ℕ, List, true}
use Rattle.eid_cells.specs.Device.{Device}
use Rattle.eid_cells.specs.declared.memory.MemoryEeprom.{MemoryEeprom}
use Rattle.eid_cells.specs.declared.tear.Tear.{Tear}

abbrev pub memory_cells : MemoryEeprom → List ℕ
memory_cells memory = memory.cells.items

-- it tells which write it will cut
abbrev pub memory_device : MemoryEeprom → Device
memory_device memory = record { has_power = memory.powered; told = true; planned = memory.planned; cuts = memory.cuts }

-- what the planned cut will leave; where none is planned, what the last plan said
abbrev pub planned_tear : MemoryEeprom → Tear
planned_tear memory = memory.tear
