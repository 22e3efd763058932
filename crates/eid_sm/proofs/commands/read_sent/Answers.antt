use Rattle.std.proofs.Common.{subst}
use Rattle.eid_apdu.specs.Command.{PlainCommand}
use Rattle.eid_sm.specs.Replies.{HasNoMac}
use Rattle.eid_sm.proofs.commands.read_sent.Goals as goal

pub returns-in_default-clause-lacking : goal.returns-in_default-clause-lacking
returns-in_default-clause-lacking c = λ sent spelled size class. absurd (c.in_default.ensures.only sent spelled)

pub returns-in_default-clause-only : goal.returns-in_default-clause-only
returns-in_default-clause-only c = λ sent has. c.in_default.ensures.only sent has.spelled

pub returns-then-has_no_mac-clause-lacking : goal.returns-then-has_no_mac-clause-lacking
returns-then-has_no_mac-clause-lacking c = λ sent spelled size class.
    let same = c.in-Ok.ensures.only sent spelled in
    subst (λ (p : PlainCommand). HasNoMac p.body) same (c.has_no_mac.ensures.0 c.if-has_no_mac.true)

pub returns-then-has_no_mac-clause-only : goal.returns-then-has_no_mac-clause-only
returns-then-has_no_mac-clause-only c = λ sent has.
    let same = c.in-Ok.ensures.only sent has.spelled in
    has.mac (subst (λ (p : PlainCommand). HasNoMac p.body) same (c.has_no_mac.ensures.0 c.if-has_no_mac.true))

pub returns-clause-only : goal.returns-clause-only
returns-clause-only c = λ sent has. c.in-Ok.ensures.only sent has.spelled
