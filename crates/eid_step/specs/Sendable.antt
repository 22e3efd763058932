-- What a chip can send.
use Rattle.std.specs.Prelude.{IfSome}
use Rattle.eid_apdu.specs.Answer.{PlainReply, IsReply}
use Rattle.eid_model.specs.Moments.{PlainMoment}
use Rattle.eid_sm.specs.Parts.{AreBytes}

-- a reply that can be sent, protected too
pub record CanBeSent (r : PlainReply) : Type 0 where
  pub reply : IsReply r
  pub octets : AreBytes r.content

-- the answer of a moment, where there is one, can be sent
abbrev pub AnswersWell : PlainMoment → Type 0
AnswersWell m = IfSome m.answer CanBeSent
