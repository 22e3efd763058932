-- What the model coprocessor shows. It never fails.
use Rattle.eid_copro.specs.Seen.{CoproSeen}
use Rattle.eid_copro.specs.Told.{Start}
use Rattle.eid_copro.specs.declared.model.ModelCoprocessor.{ModelCoprocessor}

abbrev pub model_seen : ModelCoprocessor → CoproSeen
model_seen model = record { log = model.log.asks.items; spare = model.log.spare; faults = 0; told = Start model.start }
