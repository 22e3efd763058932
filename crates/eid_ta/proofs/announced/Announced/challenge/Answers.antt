-- The end that each return is.
use Rattle.std.proofs.Common.{refl}
use Rattle.eid_copro.proofs.Asking.{asked_once}
use Rattle.eid_ta.specs.ChallengeEnds.{NoChallenge, Drawn}
use Rattle.eid_ta.proofs.announced.Announced.challenge.Goals as goal

pub returns-in_default : goal.returns-in_default
returns-in_default g c = record {
  end = NoChallenge;
  asked = asked_once c.in_default.ensures;
  gives = refl;
}

pub returns : goal.returns
returns g c = record {
  end = Drawn c.in-Ok.challenge;
  asked = asked_once c.in-Ok.ensures;
  gives = refl;
}
