use Rattle.std.proofs.Common.{◌∙◌}
use Rattle.eid_pace.specs.Protocols.{protocol_bytes}
use Rattle.eid_pace.proofs.SelectionFacts.{named_protocol}
use Rattle.eid_pace.proofs.selection.read_protocol.Goals as goal

pub returns-in_default-clause-only : goal.returns-in_default-clause-only
returns-in_default-clause-only c protocol has =
    absurd (rw c.in_default.is at (c.only_value.ensures.only (protocol_bytes protocol) has))

pub returns-clause-only : goal.returns-clause-only
returns-clause-only c protocol has =
    c.with_bytes.ensures ∙ named_protocol c.in-Some.value.now protocol (c.in-Some.ensures.only (protocol_bytes protocol) has)
