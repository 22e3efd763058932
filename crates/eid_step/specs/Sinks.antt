-- What a sink shows after a run, or a part of one.
use Rattle.std.specs.Prelude.{◌≡◌, ◌≤◌, false, [], Result, IsErrOf}
use Rattle.eid_base.specs.declared.codes.RunError.{RunError}
use Rattle.eid_base.specs.declared.codes.RunError.TheVariants.{SinkFault}
use Rattle.eid_base.specs.Faults.{Rose}
use Rattle.eid_base.specs.Seen.{SinkSeen}

-- it tells what it told before; its count of faults rose where the run names a fault of it, and stays else
pub record TellsFault {T : Type 0} (before now : SinkSeen) (result : Result T RunError) : Type 0 where
  pub tells : now.tells ≡ before.tells
  pub later : before.faults ≤ now.faults
  pub fault : IsErrOf result SinkFault → Rose before.faults now.faults
  pub still : (IsErrOf result SinkFault → ⊥) → now.faults ≡ before.faults

-- a sink that tells nothing
abbrev pub untold : SinkSeen
untold = record { tells = false; written = []; faults = 0 }
