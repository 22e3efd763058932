-- What the run of generated sessions ended in, and what it did.
use Rattle.std.proofs.Common.{◌≡◌, ℕ, refl, inl, inr}
use Rattle.eid_base.specs.declared.codes.RunError.{RunError}
use Rattle.eid_base.specs.declared.codes.RunError.TheVariants as run
use Rattle.eid_base.specs.Faults.{Rose}
use Rattle.eid_base.specs.Seen.{FolderSeen, SinkSeen, SameFiles}
use Rattle.eid_run.specs.Big.{BrokeOffBig, DidBig, PartOfBig}
use Rattle.eid_inputs.specs.declared.exit.Exit.TheVariants.{Done}
use Rattle.eid.specs.Big.{BigBrokeOff}
use Rattle.eid.specs.Commands.{Big}
use Rattle.eid_inputs.specs.Exits.{exit_broken}
use Rattle.eid.specs.Expected.{expected}
use Rattle.eid.specs.Works.{DidNothing, Meets}
use Rattle.eid.proofs.Refusals.{nothing_done}

same_files : (folder : FolderSeen) → SameFiles folder folder
same_files folder = record { tells = refl; files = λ told name. refl }

pub big_done : (sessions : ℕ) (folder : FolderSeen) (before now : SinkSeen) → DidBig sessions before now → now.tells ≡ before.tells → Meets (Big sessions) folder folder before now Done
unfolding expected
big_done sessions folder before now did tells = record {
  reason = λ told. refl;
  end = record { did = did; files = same_files folder; tells = tells };
}

-- nothing was written
idle : (folder : FolderSeen) (before now : SinkSeen) → now ≡ before → DidNothing folder folder before now
idle folder before now same = rw same (nothing_done folder folder before (same_files folder))

pub big_broke_off : (sessions : ℕ) (folder : FolderSeen) (before now : SinkSeen) (error : RunError) → BrokeOffBig sessions before now error → now.tells ≡ before.tells → (error ≡ run.SinkFault → Rose before.faults now.faults)
    → Meets (Big sessions) folder folder before now (exit_broken error)
big_broke_off sessions folder before now error broke tells rose = at error broke rose
  where
    end : PartOfBig sessions before now → BigBrokeOff sessions folder folder before now
    end part = record { did = part; files = same_files folder; tells = tells }

    at : (e : RunError) → BrokeOffBig sessions before now e → (e ≡ run.SinkFault → Rose before.faults now.faults) → Meets (Big sessions) folder folder before now (exit_broken e)
    at run.SinkFault part rose = record { reason = rose refl; end = end part }
    at run.NoMemory (inl same) rose = record { reason = tt; end = inl (idle folder before now same) }
    at run.NoMemory (inr part) rose = record { reason = tt; end = inr (inl (end part)) }
