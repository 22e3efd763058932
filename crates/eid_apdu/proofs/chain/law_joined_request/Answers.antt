use Rattle.eid_apdu.proofs.JoinedRequest.{joined_request}
use Rattle.eid_apdu.proofs.chain.law_joined_request.Goals as goal

pub returns : goal.returns
returns c = joined_request
