-- What is incoming in a channel is what unwrap says.
use Rattle.std.proofs.Common.{refl}
use Rattle.eid_model.specs.Rules.{MissingObjects, WrongObjects}
use Rattle.eid_chip.proofs.incoming.read_protected.Goals as goal

pub returns-in-Err-Missing-clause-unread : goal.returns-in-Err-Missing-clause-unread
returns-in-Err-Missing-clause-unread c = record {
  incoming = MissingObjects;
  reads = c.unwrap.ensures.missing.0 (cc);
  none = refl;
  fails = λ kept old. refl;
  by_a_rule = refl;
}

pub returns-in-Err-Wrong-clause-unread : goal.returns-in-Err-Wrong-clause-unread
returns-in-Err-Wrong-clause-unread c = record {
  incoming = WrongObjects;
  reads = (λ lacks. let missing = c.unwrap.ensures.missing.1 lacks in absurd (cc), λ d protected. absurd (c.in-Err-Wrong.ensures.only d protected));
  none = refl;
  fails = λ kept old. refl;
  by_a_rule = refl;
}
