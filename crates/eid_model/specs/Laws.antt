-- The words of the laws: what the newest moment was, by looking back over a journal (BSI TR-03110-2, TR-03110-3), and when
-- a data group, a comparison and an identifier are answered (BSI TR-03110-4).
use Rattle.std.specs.Prelude.{◌≡◌, ℕ, ◌+◌, Bool, true, false, not, ◌==◌, ◌&&◌, ◌||◌, List, [], ◌∷◌, ◌++◌, drop, Option, Some, None, is_some, option_and_then, if◌then◌else◌}
use Rattle.std.specs.List.{list_all, list_any}
use Rattle.eid_apdu.specs.Command.{PlainCommand}
use Rattle.eid_files.specs.Names.{data_group_of}
use Rattle.eid_record.specs.Plain.{FullRecord, PlainEffect, Spend, Refill, Unblock, SetPin, SetCan, Active, Advance, Write}
use Rattle.eid_password.specs.Passwords.{is_pin}
use Rattle.eid_model.specs.declared.kind.Kind.{Kind}
use Rattle.eid_model.specs.declared.kind.Kind.TheVariants.{AuthenticateChip, ExternalAuthenticate, MutualAuthentication, PerformRestrictedIdentification, ReadBinary, VerifyAuxiliary}
use Rattle.eid_model.specs.Kinds.{same_kind, kind_named}
use Rattle.eid_model.specs.Ledger.{due_at, first_of, kept, state_of}
use Rattle.eid_model.specs.Moments.{Event, PoweredOn, PoweredOff, Received, PlainMoment, is_received, live, lost}
use Rattle.eid_model.specs.Chains.{request_of}
use Rattle.eid_model.specs.Sessions.{State, kind_of_moment, pace_completed}
use Rattle.eid_model.specs.Answers.{rules_before}
use Rattle.eid_model.specs.Legal.{situation_after}
use Rattle.eid_model.specs.Runs.{answers_of, run, next, Phase, Idle, Chose, SentNonce, HasBase, HasSecret, ChoseKey, phase}
use Rattle.eid_model.specs.declared.comparison.Comparison.{Comparison}
use Rattle.eid_model.specs.declared.comparison.Comparison.TheVariants.{Age, Validity, Community}
use Rattle.eid_model.specs.Auxiliary.{comparison_in}
use Rattle.eid_ri.specs.SectorKeys.{PlainSectorKeys}
use Rattle.eid_ri.specs.SectorKeysIn.{sector_keys_in}
use Rattle.eid_model.specs.Rules.{AGE_VERIFICATION, COMMUNITY_VERIFICATION, OfCommand, RuleRow, Situation, answer_rules, chain_gave, commit_rules, concerns, file_meant, holder_gave, is_by_holder, is_of, proof_rules, proves_pin}

-- the kind of the request that ended with the newest moment, whether it was carried out or not
abbrev pub kind_sent : PlainMoment → List PlainMoment → Option Kind
kind_sent m before = option_and_then (kind_named (next (run (live before)))) (request_of m (live before))

-- the last step of PACE, at which the tokens are exchanged
abbrev pub is_last_step : Option Kind → Bool
is_last_step None = false
is_last_step (Some kind) = same_kind kind MutualAuthentication

-- the newest moment compared a token of the PIN: it answered the last step of a PACE with the PIN, and no rule failed but
-- that the token is right
abbrev pub compares_pin : PlainMoment → List PlainMoment → Bool
compares_pin m before =
    is_some m.answer && (m.rule == 0 || m.rule == 55) && is_last_step (kind_sent m before) && proves_pin (phase (run (live before)))

-- and the token was wrong
abbrev pub refuses_pin : PlainMoment → List PlainMoment → Bool
refuses_pin m before = compares_pin m before && m.rule == 55

-- how many of the recent moments refused a token of the PIN
abbrev pub refused_pins : (recent before : List PlainMoment) → ℕ
refused_pins [] before = 0
refused_pins (m ∷ recent) before = (if refuses_pin m (recent ++ before) then 1 else 0) + refused_pins recent before

-- the effect gives the tries of the PIN back
abbrev pub is_refill : PlainEffect → Bool
is_refill Spend = false
is_refill Refill = true
is_refill (Unblock by_puk) = true
is_refill (SetPin pin) = false
is_refill (SetCan can) = false
is_refill (Active active) = false
is_refill (Advance date current previous) = false
is_refill (Write file offset bytes) = false

-- and so does one of these
abbrev pub gives_back : List PlainEffect → Bool
gives_back effects = list_any is_refill effects

-- a PACE with the PIN is under way behind its first step
abbrev pub goes_on_with_pin : Phase → Bool
goes_on_with_pin Idle = false
goes_on_with_pin (Chose choice) = false
goes_on_with_pin (SentNonce sent) = is_pin sent.choice.password
goes_on_with_pin (HasBase mapped) = is_pin mapped.choice.password
goes_on_with_pin (HasSecret agreed) = is_pin agreed.choice.password
goes_on_with_pin (ChoseKey name) = false

-- ---- data groups

-- where the command is answered that was sent in the newest moment
abbrev pub sent_at : FullRecord → List PlainMoment → PlainCommand → PlainMoment → Situation
sent_at opening before c m = situation_after opening before (OfCommand c) (answers_of m.asks)

-- the data group that a READ BINARY reads
abbrev pub group_read : Situation → Option ℕ
group_read s = if is_of ReadBinary s.kind then option_and_then data_group_of (file_meant s) else None

-- The session has completed PACE, terminal authentication and chip authentication.
pub record HasCompleted (s : State) : Type 0 where
  pub pace : is_some s.pace ≡ true
  pub terminal : is_some s.terminal ≡ true
  pub chip : s.chip_proven ≡ true

-- the right stands in the template that the holder gave in that PACE, and in those of the trust point, the document verifier
-- and the terminal
abbrev pub HasRight : State → ℕ → Type 0
HasRight s bit = (holder_gave s.pace bit ≡ true) × (chain_gave s.certificates bit ≡ true)

-- all rules, in their order
abbrev pub all_rules : List RuleRow
all_rules = rules_before ++ answer_rules ++ commit_rules ++ proof_rules

-- the rule says that: a PACE, terminal authentication, chip authentication, the right
abbrev pub is_on_access : ℕ → Bool
is_on_access number = number == 20 || number == 26 || number == 28 || number == 33

-- the rule holds, or does not concern the kind
abbrev pub is_kept : Situation → RuleRow → Bool
is_kept s row = not (concerns row.kinds s.kind) || row.holds s

-- all other rules that concern the kind hold
abbrev pub others_hold : Situation → Bool
others_hold s = list_all (λ row. is_on_access row.number || is_kept s row) all_rules

-- ---- comparisons of auxiliary data

-- the comparison that a VERIFY asks for
abbrev pub comparison_asked : Situation → Option Comparison
comparison_asked s = if is_of VerifyAuxiliary s.kind then comparison_in s.command.body else None

-- a comparison is answered by yes, or by no: that is rule 36
abbrev pub tells_comparison : ℕ → Bool
tells_comparison rule = rule == 0 || rule == 36

-- the right that a comparison takes; that of the validity takes none
abbrev pub HasItsRight : State → Comparison → Type 0
HasItsRight s Age = HasRight s AGE_VERIFICATION
HasItsRight s Validity = Unit {0}
HasItsRight s Community = HasRight s COMMUNITY_VERIFICATION

-- all other rules that concern the kind hold, but that the comparison is a yes
abbrev pub others_hold_but_36 : Situation → Bool
others_hold_but_36 s = list_all (λ row. is_on_access row.number || row.number == 36 || is_kept s row) all_rules

-- ---- identifiers in sectors

-- the sector keys for which restricted identification asks
abbrev pub sectors_asked : Situation → Option PlainSectorKeys
sectors_asked s = if is_of PerformRestrictedIdentification s.kind then sector_keys_in s.command.body else None

-- The conditions of the selection with which its run began, beside those on access: PACE was with the PIN, or with the CAN
-- where that is allowed, and the application is selected. The run is the selection and this step, and nothing between them.
pub record SelectionHolds (s : State) : Type 0 where
  pub holder : is_by_holder s ≡ true
  pub selected : s.selected ≡ true

-- ---- what is found by looking back alone

-- a power-on found a number
abbrev pub finds_number : Event → Bool
finds_number (PoweredOn found) = is_some found
finds_number PoweredOff = false
finds_number (Received bytes) = false

-- Looking back, this effect is pending: the power was cut in a command, this is the first of its effects that did not
-- finish, and no power-on behind it found a number.
pub record IsPending (opening : FullRecord) (moments : List PlainMoment) (effect : PlainEffect) : Type 0 where
  pub later : List PlainMoment
  pub cut : PlainMoment
  pub before : List PlainMoment
  pub are : moments ≡ later ++ cut ∷ before
  pub command : is_received cut.input ≡ true
  pub lost : lost cut before ≡ true
  pub unfound : list_any (λ m. finds_number m.input) later ≡ false
  pub unfinished : first_of (drop cut.finished (due_at (kept opening before) (state_of opening before) cut.plain cut)) ≡ Some effect

-- a kind behind which an earlier chip authentication does not count: the last steps of PACE and of terminal authentication
abbrev pub ends_proof : Option Kind → Bool
ends_proof None = false
ends_proof (Some kind) = same_kind kind MutualAuthentication || same_kind kind ExternalAuthenticate

-- one of the recent moments carried out such a step
abbrev pub any_ends_proof : (recent before : List PlainMoment) → Bool
any_ends_proof [] before = false
any_ends_proof (m ∷ recent) before = ends_proof (kind_of_moment m (recent ++ before)) || any_ends_proof recent before

-- Looking back over a session, the chip is authenticated: a chip authentication was carried out, and behind it neither a PACE
-- nor a terminal authentication.
pub record IsChipProven (session : List PlainMoment) : Type 0 where
  pub later : List PlainMoment
  pub proof : PlainMoment
  pub before : List PlainMoment
  pub are : session ≡ later ++ proof ∷ before
  pub proves : kind_of_moment proof before ≡ Some AuthenticateChip
  pub counts : any_ends_proof later (proof ∷ before) ≡ false

-- one of the recent moments completed a PACE
abbrev pub any_pace : (recent before : List PlainMoment) → Bool
any_pace [] before = false
any_pace (m ∷ recent) before = is_some (pace_completed m (recent ++ before)) || any_pace recent before

-- Looking back over a session, a terminal is known: a terminal authentication was carried out, and behind it no PACE.
pub record IsTerminalKnown (session : List PlainMoment) : Type 0 where
  pub later : List PlainMoment
  pub proof : PlainMoment
  pub before : List PlainMoment
  pub are : session ≡ later ++ proof ∷ before
  pub knows : kind_of_moment proof before ≡ Some ExternalAuthenticate
  pub counts : any_pace later (proof ∷ before) ≡ false
