-- What the generated sessions do, and the numbers that tell of them. This project's own.
use Rattle.std.specs.Prelude.{◌≡◌, ◌⊎◌, ℕ, zero, suc, ◌+◌, IsTrue, List, [], ◌∷◌, ◌++◌, length, Some, codes, decimal}
use Rattle.std.specs.List.{count_by}
use Rattle.eid_base.specs.declared.codes.RunError.{RunError}
use Rattle.eid_base.specs.declared.codes.RunError.TheVariants.{SinkFault, NoMemory}
use Rattle.eid_base.specs.Seen.{SinkSeen, Grew, GrewByPart}
use Rattle.eid_model.specs.Ledger.{ledger}
use Rattle.eid_perso.specs.Image.{image}
use Rattle.eid_record.specs.Plain.{FullRecord}
use Rattle.eid_store.specs.Stands.{stands}
use Rattle.eid_terminal.specs.Plans.{PlainPlan}
use Rattle.eid_workload.specs.Generated.{big_config, big_plans, big_record}
use Rattle.eid_run.specs.Meetings.{MetWhole, meeting}
use Rattle.eid_run.specs.Report.{line}
use Rattle.eid_run.specs.Runs.{journal}
use Rattle.eid_step.specs.Sinks.{untold}
use Rattle.eid_run.specs.Tallies.{is_answered, is_refused}

-- How many requests were answered with 9000, how many with another status, and how many commits were made.
pub record PlainCounts : Type 0 where
  pub answered : ℕ
  pub refused : ℕ
  pub commits : ℕ

abbrev pub nothing : PlainCounts
nothing = record { answered = 0; refused = 0; commits = 0 }

abbrev pub together : PlainCounts → PlainCounts → PlainCounts
together a b = record { answered = a.answered + b.answered; refused = a.refused + b.refused; commits = a.commits + b.commits }

-- A terminal of this plan met the chip of these cells, which stand for a record, and left those: it was carried out to its end,
-- the power was not cut, and both coprocessors are models, the chip's from the number on, the terminal's from it inverted.
pub record Talk (number : ℕ) (plan : PlainPlan) (cells left : List ℕ) : Type 0 where
  pub opening : FullRecord
  pub stood : stands cells ≡ Some opening
  pub met : MetWhole number (meeting opening cells plan) left untold untold

-- the results that were told, and the effects in the ledger of its journal
abbrev pub counts_of : (number : ℕ) (plan : PlainPlan) (cells left : List ℕ) → Talk number plan cells left → PlainCounts
counts_of number plan cells left talk = record {
  answered = count_by is_answered talk.met.did.told;
  refused = count_by is_refused talk.met.did.told;
  commits = length (ledger talk.opening (journal talk.met.did.conversed.happened));
}

-- terminals of these plans, one after the other, each meeting the chip of the cells that the one before it left
abbrev pub AreTalks : (number : ℕ) → List PlainPlan → (cells left : List ℕ) → PlainCounts → Type 0
AreTalks number [] cells left counts = (left ≡ cells) × (counts ≡ nothing)
AreTalks number (plan ∷ later) cells left counts =
    (middle : List ℕ) × ((talk : Talk number plan cells middle) × ((rest : PlainCounts) × (AreTalks number later middle left rest
    × (counts ≡ together (counts_of number plan cells middle talk) rest))))

-- the session of this number: the image of its chip, which stands for its record, met the terminals of its plans
pub record IsSession (number : ℕ) (counts : PlainCounts) : Type 0 where
  pub stood : stands (image (big_config number)) ≡ Some (big_record number)
  pub left : List ℕ
  pub talks : AreTalks number (big_plans number) (image (big_config number)) left counts

-- the sessions from 1 up to this number
abbrev pub AreSessions : ℕ → PlainCounts → Type 0
AreSessions zero counts = counts ≡ nothing
AreSessions (suc before) counts =
    (earlier : PlainCounts) × ((last : PlainCounts) × (AreSessions before earlier × IsSession (suc before) last
    × (counts ≡ together earlier last)))

-- the four lines
unfoldable pub big_text : ℕ → PlainCounts → List ℕ
big_text sessions counts =
    line (codes "sessions " ++ decimal sessions) ++ line (codes "answered " ++ decimal counts.answered)
    ++ line (codes "refused " ++ decimal counts.refused) ++ line (codes "commits " ++ decimal counts.commits)

-- all sessions were run, and their numbers were written
pub record DidBig (sessions : ℕ) (before now : SinkSeen) : Type 0 where
  pub counts : PlainCounts
  pub ran : AreSessions sessions counts
  pub written : IsTrue before.tells → Grew before.written now.written (big_text sessions counts)

-- a front of the lines was written
pub record PartOfBig (sessions : ℕ) (before now : SinkSeen) : Type 0 where
  pub counts : PlainCounts
  pub ran : AreSessions sessions counts
  pub written : IsTrue before.tells → GrewByPart before.written now.written (big_text sessions counts)

-- it broke off: where memory was wanting, perhaps before anything was written
abbrev pub BrokeOffBig : ℕ → SinkSeen → SinkSeen → RunError → Type 0
BrokeOffBig sessions before now SinkFault = PartOfBig sessions before now
BrokeOffBig sessions before now NoMemory = (now ≡ before) ⊎ PartOfBig sessions before now
