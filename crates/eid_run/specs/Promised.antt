-- What the report of a session says that goes as planned, by the plan and the record alone: no chip, no channel and no
-- coprocessor stands in it, but for the agreement with the sector key. This project's own.
use Rattle.std.specs.Prelude.{◌≡◌, ℕ, ◌+◌, ◌==◌, ◌&&◌, ◌||◌, nat_le, List, [], ◌∷◌, ◌++◌, Option, Some, None, true, false, if◌then◌else◌}
use Rattle.std.specs.List.{All, filter}
use Rattle.eid_apdu.specs.Answer.{PlainReply}
use Rattle.eid_apdu.specs.Command.{PlainCommand}
use Rattle.eid_copro.specs.Model.{agreement}
use Rattle.eid_copro.specs.declared.ask.Answer.{Answer}
use Rattle.eid_copro.specs.declared.ask.Ask.{Ask}
use Rattle.eid_cvc.specs.Chains.{PlainAux, PlainChain, PlainTerminalKnown}
use Rattle.eid_model.specs.Answers.{Outcome, outcome_by}
use Rattle.eid_model.specs.Bodies.{data_in}
use Rattle.eid_model.specs.Moments.{PlainMoment, asked}
use Rattle.eid_model.specs.Rules.{OfCommand, RuleRow, Situation, first_failed, is_no_point, is_own_point, kind_rules}
use Rattle.eid_model.specs.Runs.{answers_of}
use Rattle.eid_model.specs.Sessions.{PaceMemory, State, fresh}
use Rattle.eid_model.specs.declared.kind.Kind.{Kind}
use Rattle.eid_model.specs.declared.kind.Kind.TheVariants.{PerformRestrictedIdentification, ReadBinary, SelectRestrictedIdentification, VerifyAuxiliary}
use Rattle.eid_record.specs.Plain.{FullRecord}
use Rattle.eid_terminal.specs.Commands.{identify}
use Rattle.eid_terminal.specs.Courses.{Ends}
use Rattle.eid_terminal.specs.Plans.{PlainPlan}
use Rattle.eid_terminal.specs.Requests.{command_for, sector_of}
use Rattle.eid_terminal.specs.declared.action.Step.TheVariants as steps
use Rattle.eid_terminal.specs.declared.plan.Request.{Request}
use Rattle.eid_terminal.specs.declared.plan.Request.TheVariants.{File, Age, Validity, Community, Ri}
use Rattle.eid_run.specs.Conversations.{Passed, Result, Told}
use Rattle.eid_run.specs.Report.{report}

-- ---- who asks

-- what the terminal announces to be compared
abbrev pub aux_of : PlainPlan → PlainAux
aux_of plan = record { birth = plan.age; expiry = plan.validity; community = plan.community }

-- the last PACE, by its password and the holder's template
abbrev pub pace_of : PlainPlan → PaceMemory
pace_of plan = record { password = plan.password; template = plan.template; identity = [] }

abbrev pub terminal_of : PlainPlan → PlainTerminalKnown
terminal_of plan = record { templates = []; key_x = []; aux = aux_of plan; sectors = [] }

-- What the rules on requests look at in a session: behind PACE alone; or where the certificates left this chain, behind the
-- authentications of terminal and chip, with the application selected. No rule on requests looks at the rest, which is as where
-- a session begins, nor at the identity of the last PACE; rights and sectors are those of the chain, and of the terminal it
-- looks at the auxiliary data alone.
abbrev pub asking : PlainPlan → Option PlainChain → State
asking plan None = record fresh { pace = Some (pace_of plan) }
asking plan (Some chain) = record fresh {
  pace = Some (pace_of plan);
  certificates = chain;
  terminal = Some (terminal_of plan);
  chip_proven = true;
  selected = true;
}

-- ---- how a request is answered

-- the rules on terminals that read, compare and identify: 26, and 31 to 40
abbrev pub asked_rules : List RuleRow
asked_rules = filter (λ (row : RuleRow). row.number == 26 || (nat_le 31 row.number && nat_le row.number 40)) kind_rules

-- a command of this kind, with these answers of the coprocessor
abbrev pub asked_with : Kind → FullRecord → State → PlainCommand → List Answer → Situation
asked_with kind kept s c answers =
    record { incoming = OfCommand c; unbroken = true; command = c; kind = Some kind; kept = kept; state = s; answers = answers }

-- it is answered by the first of these rules that fails, and else as it is where it succeeds
abbrev pub asked_outcome : Kind → FullRecord → State → PlainCommand → List Answer → Outcome
asked_outcome kind kept s c answers =
    outcome_by (first_failed asked_rules (asked_with kind kept s c answers)) (asked_with kind kept s c answers)

-- restricted identification has two commands: the sector key is sent where the protocol could be chosen
abbrev pub identified : FullRecord → State → (sector : List ℕ) → Outcome → PlainReply
identified kept s sector chosen =
    if chosen.rule == 0
    then (asked_outcome PerformRestrictedIdentification kept s (identify sector) (agreement kept.fields.ri_secret sector ∷ [])).reply
    else chosen.reply

abbrev pub promised_reply : FullRecord → State → (sector : List ℕ) → Request → PlainReply
promised_reply kept s sector (File number) = (asked_outcome ReadBinary kept s (command_for (File number)) []).reply
promised_reply kept s sector Age = (asked_outcome VerifyAuxiliary kept s (command_for Age) []).reply
promised_reply kept s sector Validity = (asked_outcome VerifyAuxiliary kept s (command_for Validity) []).reply
promised_reply kept s sector Community = (asked_outcome VerifyAuxiliary kept s (command_for Community) []).reply
promised_reply kept s sector Ri = identified kept s sector (asked_outcome SelectRestrictedIdentification kept s (command_for Ri) [])

-- those from a place on
abbrev pub promised_results : FullRecord → State → (sector : List ℕ) → ℕ → List Request → List Told
promised_results kept s sector place [] = []
promised_results kept s sector place (request ∷ later) =
    Result place (promised_reply kept s sector request) ∷ promised_results kept s sector (place + 1) later

-- ---- the whole report

-- a PACE with the card access number, where there is one
abbrev pub first_pace : Option (List ℕ) → List Told
first_pace None = []
first_pace (Some digits) = Passed steps.Pace ∷ []

-- where there are certificates, the authentications and the selection of the application
abbrev pub authentications : Option PlainChain → List Told
authentications None = []
authentications (Some chain) = Passed steps.Ta ∷ Passed steps.Ca ∷ Passed steps.Select ∷ []

abbrev pub promised : PlainPlan → FullRecord → Option PlainChain → List Told
promised plan kept chain =
    first_pace plan.can_first
    ++ (Passed steps.Pace ∷ (authentications chain ++ promised_results kept (asking plan chain) (sector_of plan) 0 plan.requests))

-- the report that a session with this plan is promised over this record, where the certificates leave this chain
unfoldable pub promised_report : PlainPlan → FullRecord → Option PlainChain → List ℕ
promised_report plan kept chain = report plan (promised plan kept chain) Ends

-- ---- what is asked of the coprocessors

-- the answer is not that there is no point
abbrev pub HasPoint : Ask → Type 0
HasPoint ask = is_no_point ask.answer ≡ false

-- the data of the step in a command
abbrev pub sent_data : Option PlainCommand → List ℕ
sent_data None = []
sent_data (Some c) = data_in c.body

-- the point that the chip drew for a step is not the one that the terminal sent in it
abbrev pub PointsDiffer : PlainMoment → Type 0
PointsDiffer m = is_own_point (sent_data m.plain) (answers_of m.asks) ≡ false

-- No question of either side was answered with no point, and in each step of PACE the chip's point differs from the
-- terminal's.
pub record FoundPoints (moments : List PlainMoment) (asks : List Ask) : Type 0 where
  pub chip : All HasPoint (asked moments)
  pub terminal : All HasPoint asks
  pub differ : All PointsDiffer moments
