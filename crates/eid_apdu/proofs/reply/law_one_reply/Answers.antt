use Rattle.eid_apdu.proofs.OneReply.{one_reply}
use Rattle.eid_apdu.proofs.reply.law_one_reply.Goals as goal

pub returns : goal.returns
returns c = one_reply
