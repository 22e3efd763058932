-- What each state promises.
use Rattle.eid_apdu.specs.Answer.{plain_reply}
use Rattle.eid_terminal.specs.Plans.{plan_view}
use Rattle.eid_terminal.proofs.Reaching.{ready_goes, waiting_goes}
use Rattle.eid_terminal.proofs.going.take_turn.Goals as goal

pub returns-in-Ready-clause-goes : goal.returns-in-Ready-clause-goes
returns-in-Ready-clause-goes g c =
    ready_goes _ _ (plan_view c.args.plan.now) c.args.channel.now c.args.state c.in-Ready.standing c.args.reply _ c.in-Ready.is c.requires.due (c.go_on.ensures _)

pub returns-in-Waiting-clause-goes : goal.returns-in-Waiting-clause-goes
returns-in-Waiting-clause-goes g c =
    waiting_goes _ _ (plan_view c.args.plan.now) c.args.channel.now c.args.state c.in-Waiting.awaited c.args.reply c.unwrap.result _ c.in-Waiting.is c.unwrap.ensures c.receive_and_hear.ensures

pub returns-in-Ready-clause-there : goal.returns-in-Ready-clause-there
returns-in-Ready-clause-there g c = (c.go_on.ensures (plain_reply c.args.heard.now)).did.sound
