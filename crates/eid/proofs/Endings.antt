-- How a command that had its inputs ends: by what it did, and by what came of printing and of storing its file.
use Rattle.std.proofs.Common.{◌≡◌, ℕ, ◌≤◌, IsTrue, List, Some, refl, inl, inr}
use Rattle.eid_base.specs.declared.codes.RunError.{RunError}
use Rattle.eid_base.specs.declared.codes.RunError.TheVariants as run
use Rattle.eid_base.specs.Faults.{Rose}
use Rattle.eid_base.specs.Seen.{FolderSeen, SinkSeen, SameFiles, SameOthers}
use Rattle.eid_inputs.specs.declared.exit.Exit.{Exit}
use Rattle.eid_inputs.specs.declared.exit.Exit.TheVariants.{Done, Usage, FileFault, NoMemory, BadImage, BadScript, BadConfig, SinkFault, BadAnswers}
use Rattle.eid.specs.Commands.{Command}
use Rattle.eid.specs.Ends.{IsEndOf}
use Rattle.eid_inputs.specs.Storing.{IsLeftIn, IsStored}
use Rattle.eid_inputs.specs.Exits.{exit_broken}
use Rattle.eid.specs.Expected.{expected}
use Rattle.eid.specs.Works.{BrokeOff, Finished, Meets, NotStored}
use Rattle.eid.proofs.Refusals.{rose_later, others_after}

-- it broke off
pub after_breaking : (finished broke_off not_stored folder_rose sink_rose : Type 0) (error : RunError) → broke_off → (error ≡ run.SinkFault → sink_rose) → IsEndOf finished broke_off not_stored folder_rose sink_rose (exit_broken error)
after_breaking finished broke_off not_stored folder_rose sink_rose run.SinkFault end rose = (end, rose refl)
after_breaking finished broke_off not_stored folder_rose sink_rose run.NoMemory end rose = inl end

-- a folder has the files of another before it
left_after : (name bytes : List ℕ) (old middle new : FolderSeen) → SameFiles old middle → IsLeftIn name bytes middle new → IsLeftIn name bytes old new
left_after name bytes old middle new same left = (λ told. rw (same.files told name) at (left.0 (rw same.tells told)), others_after name old middle new same left.1)

-- all was done but for the storing of a file
pub after_storing : (finished broke_off not_stored sink_rose : Type 0) (name bytes : List ℕ) (old middle new : FolderSeen) (e : Exit) → SameFiles old middle → ((IsTrue old.tells → new.file name ≡ Some bytes) → SameOthers name old new → finished) → (IsLeftIn name bytes old new → not_stored) → IsStored name bytes middle new e → IsEndOf finished broke_off not_stored (Rose middle.faults new.faults) sink_rose e
after_storing finished broke_off not_stored sink_rose name bytes old middle new Done same finish leave stored = finish (λ told. stored.0 (rw same.tells told)) (others_after name old middle new same stored.1)
after_storing finished broke_off not_stored sink_rose name bytes old middle new FileFault same finish leave stored = (leave (left_after name bytes old middle new same stored.0), stored.1)
after_storing finished broke_off not_stored sink_rose name bytes old middle new NoMemory same finish leave stored = inr (leave (left_after name bytes old middle new same stored))
after_storing finished broke_off not_stored sink_rose name bytes old middle new SinkFault same finish leave stored = absurd stored
after_storing finished broke_off not_stored sink_rose name bytes old middle new Usage same finish leave stored = absurd stored
after_storing finished broke_off not_stored sink_rose name bytes old middle new BadImage same finish leave stored = absurd stored
after_storing finished broke_off not_stored sink_rose name bytes old middle new (BadScript line) same finish leave stored = absurd stored
after_storing finished broke_off not_stored sink_rose name bytes old middle new (BadConfig key) same finish leave stored = absurd stored
after_storing finished broke_off not_stored sink_rose name bytes old middle new (BadAnswers line) same finish leave stored = absurd stored

-- what a command does by each of its ends
pub record Concludes (c : Command) (finished broke_off not_stored : Type 0) (old new : FolderSeen) (before now : SinkSeen) : Type 0 where
  pub due : IsTrue old.tells → expected c old.file ≡ Done
  pub all : finished → Finished c old new before now
  pub part : broke_off → BrokeOff c old new before now
  pub unstored : not_stored → NotStored c old new before now

pub meets_by_end : (c : Command) (finished broke_off not_stored : Type 0) (old new : FolderSeen) (middle : ℕ) (before now : SinkSeen) (e : Exit) → Concludes c finished broke_off not_stored old new before now → old.faults ≤ middle → IsEndOf finished broke_off not_stored (Rose middle new.faults) (Rose before.faults now.faults) e → Meets c old new before now e
meets_by_end c finished broke_off not_stored old new middle before now Done does later end = record { reason = does.due; end = does.all end }
meets_by_end c finished broke_off not_stored old new middle before now SinkFault does later end = record { reason = end.1; end = does.part end.0 }
meets_by_end c finished broke_off not_stored old new middle before now FileFault does later end = record {
  reason = inl (rose_later old.faults middle new.faults later end.1);
  end = inr (does.unstored end.0);
}
meets_by_end c finished broke_off not_stored old new middle before now NoMemory does later (inl part) = record { reason = tt; end = inr (inl (does.part part)) }
meets_by_end c finished broke_off not_stored old new middle before now NoMemory does later (inr left) = record { reason = tt; end = inr (inr (does.unstored left)) }
meets_by_end c finished broke_off not_stored old new middle before now Usage does later end = absurd end
meets_by_end c finished broke_off not_stored old new middle before now BadImage does later end = absurd end
meets_by_end c finished broke_off not_stored old new middle before now (BadScript line) does later end = absurd end
meets_by_end c finished broke_off not_stored old new middle before now (BadConfig key) does later end = absurd end
meets_by_end c finished broke_off not_stored old new middle before now (BadAnswers line) does later end = absurd end
