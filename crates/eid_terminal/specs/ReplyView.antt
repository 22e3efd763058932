-- Inside: what contracts see of what a reply holds. Only private functions cite this.
use Rattle.eid_terminal.specs.Replies.{PlainProof}
use Rattle.eid_terminal.specs.declared.replies.Proof.{Proof}

abbrev pub proof_view : Proof → PlainProof
proof_view p = record { nonce = p.nonce; token = p.token }
