-- Inside: cited by private contracts alone.
-- What is counted of a generated session so far.
use Rattle.std.specs.Prelude.{ℕ, List}
use Rattle.eid_base.specs.Seen.{SinkSeen}
use Rattle.eid_terminal.specs.Plans.{PlainPlan}
use Rattle.eid_run.specs.Big.{AreTalks, PlainCounts, Talk}
use Rattle.eid_step.specs.Sinks.{untold}
use Rattle.eid_run.specs.Tallies.{IsTallyOf}
use Rattle.eid_run.specs.declared.big.Counts.{Counts}
use Rattle.eid_run.specs.declared.quiet.Quiet.{Quiet}
use Rattle.eid_run.specs.declared.tally.Tally.{Tally}

-- a quiet sink tells nothing
abbrev pub quiet_seen : Quiet → SinkSeen
quiet_seen sink = untold

abbrev pub counts_view : Counts → PlainCounts
counts_view c = record { answered = c.answered; refused = c.refused; commits = c.commits }

-- one terminal met the chip, and its results were counted
pub record Met (number : ℕ) (plan : PlainPlan) (cells left : List ℕ) (tally : Tally) : Type 0 where
  pub talk : Talk number plan cells left
  pub counted : IsTallyOf talk.met.did.told tally

-- the terminals of these plans did, with as many commits
pub record Tried (number : ℕ) (plans : List PlainPlan) (cells left : List ℕ) (tally : Tally) : Type 0 where
  pub commits : ℕ
  pub talks : AreTalks number plans cells left (record { answered = tally.answered; refused = tally.refused; commits = commits })
