-- The end that each return is.
use Rattle.std.proofs.Common.{refl, sym}
use Rattle.eid_copro.proofs.Asking.{asked_once, asked_twice}
use Rattle.eid_ca.specs.ProveEnds.{NoNonce, NoAgreement, NoSecret, Shared}
use Rattle.eid_ca.proofs.chosen.CaChosen.prove.Goals as goal

pub returns-in_default : goal.returns-in_default
returns-in_default g c = record {
  end = NoNonce (sym c.if-not-expects.ensures);
  asked = asked_once c.in_default.ensures;
  gives = refl;
}

pub returns-in_default-agree : goal.returns-in_default-agree
returns-in_default-agree g c = record {
  end = NoAgreement c.in-Ok.nonce (sym c.if-not-expects.ensures);
  asked = asked_twice c.in-Ok.ensures refl c.in_default-agree.ensures;
  gives = refl;
}

pub returns-in_default-agreement : goal.returns-in_default-agreement
returns-in_default-agreement g c = record {
  end = NoSecret c.in-Ok.nonce (sym c.if-not-expects.ensures);
  asked = asked_twice c.in-Ok.ensures refl (rw c.in_default-agreement.is at c.in-Ok-agree.ensures);
  gives = refl;
}

pub returns : goal.returns
returns g c = record {
  end = Shared c.in-Ok.nonce c.in-Some.shared (sym c.if-not-expects.ensures);
  asked = asked_twice c.in-Ok.ensures refl (rw c.in-Some.is at c.in-Ok-agree.ensures);
  gives = cc;
}
