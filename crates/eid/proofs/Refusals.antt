-- What a command ends in where an input is refused, and nothing was done.
use Rattle.std.proofs.Common.{◌≡◌, ℕ, ◌≤◌, Bool, IsTrue, List, Result, Err, refl, ◌∙◌, subst, arith, inl, inr}
use Rattle.eid_base.specs.Faults.{Rose}
use Rattle.eid_base.specs.Seen.{FolderSeen, SinkSeen, SameFiles, SameOthers}
use Rattle.eid_inputs.specs.declared.exit.Exit.{Exit}
use Rattle.eid_inputs.specs.declared.exit.Exit.TheVariants.{Done, Usage, FileFault, NoMemory, BadImage, BadScript, BadConfig, SinkFault, BadAnswers}
use Rattle.eid.specs.Commands.{Command}
use Rattle.eid.specs.Expected.{expected, unless_refused}
use Rattle.std.specs.Prelude.{IsOk, Ok}
use Rattle.eid_inputs.specs.Loads.{IsFirstRefused, IsRefused}
use Rattle.eid.specs.Sinks.{WroteNothing}
use Rattle.eid.specs.Works.{HasReason, DidNothing, IsEnd, Meets}

-- a count that rose in the last part of a call rose in the call
pub rose_later : (before middle now : ℕ) → before ≤ middle → Rose middle now → Rose before now
rose_later before middle now h r = omega (arith, h, r)

-- the same files, step by step
pub same_twice : (old middle new : FolderSeen) → SameFiles old middle → SameFiles middle new → SameFiles old new
same_twice old middle new p q = record {
  tells = q.tells ∙ p.tells;
  files = λ told name. q.files (rw p.tells told) name ∙ p.files told name;
}

-- other names, where first nothing changed
pub others_after : (name : List ℕ) (old middle new : FolderSeen) → SameFiles old middle → SameOthers name middle new → SameOthers name old new
others_after name old middle new same others = record {
  tells = others.tells ∙ same.tells;
  others = λ told other differs. others.others (rw same.tells told) other differs ∙ same.files told other;
}

pub wrote_nothing : (sink : SinkSeen) → WroteNothing sink sink
wrote_nothing sink = record { tells = refl; written = λ told. refl }

pub nothing_done : (old new : FolderSeen) (sink : SinkSeen) → SameFiles old new → DidNothing old new sink sink
nothing_done old new sink same = record { files = same; sink = wrote_nothing sink }

-- a refusal of an input is what the command ends in
reason_of : {A : Type 0} (e : Exit) (tells told_of : Bool) (input : Result A Exit) (expect : Exit) (rose folder_rose sink_rose : Type 0) → (IsTrue tells → IsTrue told_of) → (IsTrue told_of → IsTrue tells) → (rose → folder_rose) → ((x : Exit) → IsTrue tells → input ≡ Err x → expect ≡ x) → IsRefused told_of input rose e → HasReason tells expect folder_rose sink_rose e
reason_of Done tells told_of input expect rose folder_rose sink_rose to from rises is r = absurd r
reason_of Usage tells told_of input expect rose folder_rose sink_rose to from rises is r = absurd r
reason_of FileFault tells told_of input expect rose folder_rose sink_rose to from rises is (inl up) = inl (rises up)
reason_of FileFault tells told_of input expect rose folder_rose sink_rose to from rises is (inr absent) = inr (from absent.0, is FileFault (from absent.0) absent.1)
reason_of NoMemory tells told_of input expect rose folder_rose sink_rose to from rises is r = tt
reason_of BadImage tells told_of input expect rose folder_rose sink_rose to from rises is r = λ told. is BadImage told (r (to told))
reason_of (BadScript line) tells told_of input expect rose folder_rose sink_rose to from rises is r = λ told. is (BadScript line) told (r (to told))
reason_of (BadConfig key) tells told_of input expect rose folder_rose sink_rose to from rises is r = λ told. is (BadConfig key) told (r (to told))
reason_of SinkFault tells told_of input expect rose folder_rose sink_rose to from rises is r = absurd r
reason_of (BadAnswers line) tells told_of input expect rose folder_rose sink_rose to from rises is r = λ told. is (BadAnswers line) told (r (to told))

-- and nothing was done
end_of : {A : Type 0} (e : Exit) (told_of : Bool) (input : Result A Exit) (rose : Type 0) (c : Command) (old new : FolderSeen) (before now : SinkSeen) → IsRefused told_of input rose e → DidNothing old new before now → IsEnd c old new before now e
end_of Done told_of input rose c old new before now r nothing = absurd r
end_of Usage told_of input rose c old new before now r nothing = absurd r
end_of FileFault told_of input rose c old new before now r nothing = inl nothing
end_of NoMemory told_of input rose c old new before now r nothing = inl nothing
end_of BadImage told_of input rose c old new before now r nothing = nothing
end_of (BadScript line) told_of input rose c old new before now r nothing = nothing
end_of (BadConfig key) told_of input rose c old new before now r nothing = nothing
end_of SinkFault told_of input rose c old new before now r nothing = absurd r
end_of (BadAnswers line) told_of input rose c old new before now r nothing = nothing

-- the first input was refused
pub refused : {A : Type 0} (c : Command) (old new : FolderSeen) (sink : SinkSeen) (input : Result A Exit) (e : Exit) → SameFiles old new → IsRefused old.tells input (Rose old.faults new.faults) e → ((x : Exit) → input ≡ Err x → expected c old.file ≡ x) → Meets c old new sink sink e
refused c old new sink input e same refusal is = record {
  reason = reason_of e old.tells old.tells input _ _ _ _ (λ t. t) (λ t. t) (λ r. r) (λ x told said. is x said) refusal;
  end = end_of e old.tells input _ c old new sink sink refusal (nothing_done old new sink same);
}

-- an input was refused after others were read
pub refused_later : {A : Type 0} (c : Command) (old middle new : FolderSeen) (sink : SinkSeen) (input : Result A Exit) (e : Exit) → SameFiles old middle → old.faults ≤ middle.faults → SameFiles middle new → IsRefused middle.tells input (Rose middle.faults new.faults) e → ((x : Exit) → IsTrue old.tells → input ≡ Err x → expected c old.file ≡ x) → Meets c old new sink sink e
refused_later c old middle new sink input e first later second refusal is = record {
  reason = reason_of e old.tells middle.tells input _ _ _ _ (λ t. rw first.tells t) (λ t. rw (← first.tells) t) (λ r. rose_later old.faults middle.faults new.faults later r) is refusal;
  end = end_of e middle.tells input _ c old new sink sink refusal (nothing_done old new sink (same_twice old middle new first second));
}

-- what is good passes on to what comes later
passed : {A : Type 0} (first : Result A Exit) (later : Exit) → IsOk first → unless_refused first later ≡ later
passed (Ok value) later good = refl
passed (Err exit) later good = absurd cc

-- the first of two inputs was refused, or the second one
pub either_refused : {A B : Type 0} (c : Command) (old new : FolderSeen) (sink : SinkSeen) (first : Result A Exit) (second : Result B Exit) (rest e : Exit) → SameFiles old new → IsFirstRefused old.tells first second (Rose old.faults new.faults) e → expected c old.file ≡ unless_refused first (unless_refused second rest) → Meets c old new sink sink e
either_refused c old new sink first second rest e same (inl refusal) is = refused c old new sink first e same refusal (λ x said. is ∙ rw said refl)
either_refused c old new sink first second rest e same (inr behind) is = record {
  reason = reason_of e old.tells old.tells second _ _ _ _ (λ t. t) (λ t. t) (λ r. r) (λ x told said. is ∙ passed first _ (behind.0 told) ∙ rw said refl) behind.1;
  end = end_of e old.tells second _ c old new sink sink behind.1 (nothing_done old new sink same);
}

-- the call of a command does not end in Usage
pub never_usage : (c : Command) (old new : FolderSeen) (before now : SinkSeen) (e : Exit) → e ≡ Usage → Meets c old new before now e → ⊥
never_usage c old new before now e usage meets =
    let reason = subst (λ (x : Exit). HasReason old.tells (expected c old.file) (Rose old.faults new.faults) (Rose before.faults now.faults) x) usage meets.reason in
    reason

-- what the call of a command meets, it meets for that command by another name
pub meets_for : (c d : Command) (old new : FolderSeen) (before now : SinkSeen) (e : Exit) → c ≡ d → Meets c old new before now e → Meets d old new before now e
meets_for c d old new before now e same meets = subst (λ (x : Command). Meets x old new before now e) same meets
