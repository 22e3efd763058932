-- Inside: cited by private contracts alone.
-- What naming a command gives.
use Rattle.std.specs.Prelude.{◌≡◌, ◌==◌, ℕ, true, false, List, Some, None, is_some, if◌then◌else◌, Result, IfOk, IfErr, OnOk}
use Rattle.eid_apdu.specs.Command.{PlainCommand}
use Rattle.eid_apdu.specs.Chaining.{is_fragment}
use Rattle.eid_copro.specs.declared.ask.Answer.{Answer}
use Rattle.eid_record.specs.Plain.{FullRecord}
use Rattle.eid_bits.specs.declared.identifier.Known.TheVariants.{RiSha256}
use Rattle.eid_ca.specs.Selections.{chosen_in, names}
use Rattle.eid_model.specs.declared.kind.Kind.{Kind}
use Rattle.eid_model.specs.declared.kind.Kind.TheVariants.{SelectChipAuthentication, SelectRestrictedIdentification, NoProtocol}
use Rattle.eid_model.specs.Kinds.{goes_on_in_run, kind_named}
use Rattle.eid_model.specs.Moments.{ends_session_by}
use Rattle.eid_model.specs.Rules.{naming_rules}
use Rattle.eid_model.specs.Sessions.{State}
use Rattle.eid_chip.specs.declared.naming.Named.{Named}
use Rattle.eid_chip.specs.declared.naming.Named.TheVariants.{Fragment, Ends}
use Rattle.eid_chip.specs.declared.naming.Last.{Last}
use Rattle.eid_chip.specs.declared.naming.Last.TheVariants.{Of, ByProtocol}
use Rattle.eid_chip.specs.declared.refusal.Refusal.{Refusal}
use Rattle.eid_chip.specs.declared.session.Session.{Session}
use Rattle.eid_chip.specs.States.{next_of}
use Rattle.eid_chip.specs.Steps.{refusal, refusal_by, with_command}

-- the kind of a request with this body
abbrev pub kind_by : Last → List ℕ → Kind
kind_by (Of kind) body = kind
kind_by ByProtocol body =
    if is_some (chosen_in body) then SelectChipAuthentication else if names RiSha256 body then SelectRestrictedIdentification else NoProtocol

-- the command with this body
abbrev pub with_body : PlainCommand → List ℕ → PlainCommand
with_body c body = record c { body = body }

-- the command ends a request, whose kind where the run stands is so determined, and it is the run's turn for it
pub record IsLast (session : Session) (c : PlainCommand) (last : Last) : Type 0 where
  pub whole : is_fragment c ≡ false
  pub kind_is : (body : List ℕ) → kind_named (next_of session) (with_body c body) ≡ Some (kind_by last body)
  pub turn : (body : List ℕ) → goes_on_in_run (kind_by last body) ≡ true → next_of session ≡ Some (kind_by last body)

abbrev pub IsNamedAs : Session → PlainCommand → Named → Type 0
IsNamedAs session c Fragment = is_fragment c ≡ true
IsNamedAs session c (Ends last) = IsLast session c last

-- class, instruction and parameters are those of some kind
abbrev pub Passes : PlainCommand → Type 0
Passes c = (kept : FullRecord) (old : State) (answers : List Answer) → refusal_by naming_rules (with_command kept old c answers) ≡ None

-- What the command is where the run stands; or the refusal of its class, its instruction or its parameters, which ends no
-- session.
pub record IsNamed (session : Session) (c : PlainCommand) (result : Result Named Refusal) : Type 0 where
  pub named : IfOk result (IsNamedAs session c)
  pub passed : OnOk result (Passes c)
  pub refused : IfErr result (λ r. (kept : FullRecord) (old : State) (answers : List Answer)
      → refusal_by naming_rules (with_command kept old c answers) ≡ Some (refusal r))
  pub lasting : IfErr result (λ r. ((r.rule.0 == 0) ≡ false) × (ends_session_by r.rule.0 ≡ false))
