-- Inside: cited by private contracts alone.
-- What bytes are read as before they are answered, and what request a command ends.
use Rattle.std.specs.Prelude.{◌≡◌, ℕ, ◌≤◌, ◌==◌, Bool, true, false, List, [], length, Option, Some, None, if◌then◌else◌}
use Rattle.eid_apdu.specs.Command.{PlainCommand}
use Rattle.eid_apdu.specs.Chaining.{MAX_REQUEST, OpenChain, body_so_far, continues}
use Rattle.eid_record.specs.Plain.{FullRecord}
use Rattle.eid_sm.specs.Keys.{ChannelState}
use Rattle.eid_model.specs.Answers.{situation}
use Rattle.eid_model.specs.Legal.{IsReadAs}
use Rattle.eid_model.specs.Rules.{Incoming, plain_of, request_rules, transport_rules}
use Rattle.eid_model.specs.Sessions.{State}
use Rattle.eid_chip.specs.Steps.{PlainRefusal, refusal_by, with_command}

-- no command is read in these bytes, and this refuses them
pub record IsUnread (channel : Option ChannelState) (bytes : List ℕ) (refused : PlainRefusal) : Type 0 where
  pub incoming : Incoming
  pub reads : IsReadAs channel bytes incoming
  pub none : plain_of incoming ≡ None
  pub fails : (kept : FullRecord) (old : State) → refusal_by transport_rules (situation kept old incoming []) ≡ Some refused
  pub by_a_rule : (refused.rule == 0) ≡ false

-- the command ends a request behind these fragments: its body was joined to theirs, or is all of the request's
pub record EndsRequest (fragments : Option OpenChain) (c : PlainCommand) (is_joined : Bool) (joined : List ℕ) : Type 0 where
  pub goes_on : continues fragments c ≡ true
  pub short : length (body_so_far fragments c.body) ≤ MAX_REQUEST
  pub body : (if is_joined then joined else c.body) ≡ body_so_far fragments c.body

-- it ends none, and this refuses it
pub record EndsNoRequest (fragments : Option OpenChain) (c : PlainCommand) (refused : PlainRefusal) : Type 0 where
  pub fails : (kept : FullRecord) (old : State) → old.chaining ≡ fragments → refusal_by request_rules (with_command kept old c []) ≡ Some refused
  pub by_a_rule : (refused.rule == 0) ≡ false
