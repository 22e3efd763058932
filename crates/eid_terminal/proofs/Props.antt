-- What a terminal keeps to is a fact: it has at most one proof.
use Rattle.std.proofs.Common.{ℕ, List, [], ◌∷◌, Option}
use Rattle.std.proofs.Props.{props}
use Rattle.eid_record.specs.Valid.{AreDigits}
use Rattle.eid_terminal.specs.declared.plan.Request.{Request}
use Rattle.eid_terminal.specs.declared.plan.Request.TheVariants.{File, Age, Validity, Community, Ri}
use Rattle.eid_terminal.specs.declared.state.Awaited.TheVariants as awaited
use Rattle.eid_terminal.specs.declared.state.RequestCommand.{RequestCommand}
use Rattle.eid_terminal.specs.declared.state.RequestCommand.TheVariants as request_commands
use Rattle.eid_terminal.specs.declared.state.State.{State}
use Rattle.eid_terminal.specs.declared.state.State.TheVariants as states
use Rattle.eid_terminal.specs.declared.state.TerminalCommand.{TerminalCommand}
use Rattle.eid_terminal.specs.declared.state.TerminalCommand.TheVariants as terminal_commands
use Rattle.eid_terminal.specs.declared.state.Awaited.{Awaited}
use Rattle.eid_terminal.specs.Plans.{PlainPlan, AreSendable, CanAllBeAsked, CanBeAsked, IsFit, IsSendable}
use Rattle.eid_terminal.specs.View.{HasCertificate, HasPlace, HasRequest, IsSound}

AreDigits-prop : (n : ℕ) (bytes : List ℕ) → IsProp (AreDigits n bytes)
AreDigits-prop n bytes = hlevel props

IsSendable-prop : (certificate : List ℕ) → IsProp (IsSendable certificate)
IsSendable-prop certificate = hlevel props

AreSendable-prop : (list : List (List ℕ)) → IsProp (AreSendable list)
AreSendable-prop [] = hlevel props
AreSendable-prop (certificate ∷ later) = hlevel (props, IsSendable-prop certificate, AreSendable-prop later)

CanBeAsked-prop : (sector : Option (List ℕ)) (request : Request) → IsProp (CanBeAsked sector request)
CanBeAsked-prop sector (File number) = hlevel props
CanBeAsked-prop sector Age = hlevel props
CanBeAsked-prop sector Validity = hlevel props
CanBeAsked-prop sector Community = hlevel props
CanBeAsked-prop sector Ri = hlevel props

CanAllBeAsked-prop : (sector : Option (List ℕ)) (list : List Request) → IsProp (CanAllBeAsked sector list)
CanAllBeAsked-prop sector [] = hlevel props
CanAllBeAsked-prop sector (request ∷ later) = hlevel (props, CanBeAsked-prop sector request, CanAllBeAsked-prop sector later)

pub IsFit-prop : (p : PlainPlan) → IsProp (IsFit p)
IsFit-prop p = hlevel (props, AreDigits-prop, AreSendable-prop, CanAllBeAsked-prop)

HasCertificate-prop : (plan : PlainPlan) (command : TerminalCommand) → IsProp (HasCertificate plan command)
HasCertificate-prop plan (terminal_commands.KeySelection identity place) = hlevel props
HasCertificate-prop plan (terminal_commands.Certificate identity place) = hlevel props
HasCertificate-prop plan (terminal_commands.Announcement identity pair) = hlevel props
HasCertificate-prop plan (terminal_commands.Challenge identity pair) = hlevel props
HasCertificate-prop plan (terminal_commands.Signature pair signature) = hlevel props

HasRequest-prop : (plan : PlainPlan) (command : RequestCommand) → IsProp (HasRequest plan command)
HasRequest-prop plan (request_commands.First request place) = hlevel (props, CanBeAsked-prop plan.sector request)
HasRequest-prop plan (request_commands.Sector place) = hlevel props

HasPlace-prop : (plan : PlainPlan) (a : Awaited) → IsProp (HasPlace plan a)
HasPlace-prop plan (awaited.Pace command) = hlevel props
HasPlace-prop plan (awaited.Terminal command) = HasCertificate-prop plan command
HasPlace-prop plan (awaited.Chip command) = hlevel props
HasPlace-prop plan (awaited.Request command) = HasRequest-prop plan command

pub IsSound-prop : (plan : PlainPlan) (state : State) → IsProp (IsSound plan state)
IsSound-prop plan (states.Waiting a) = HasPlace-prop plan a
IsSound-prop plan (states.Ready standing) = hlevel props
IsSound-prop plan (states.Ended ending) = hlevel props
