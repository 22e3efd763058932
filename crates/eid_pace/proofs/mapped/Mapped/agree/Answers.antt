-- The end that each return is.
use Rattle.std.proofs.Common.{refl, sym}
use Rattle.eid_pace.specs.AgreeEnds.{SamePoint, NoAgreement, NoSecret, Shared}
use Rattle.eid_copro.proofs.Asking.{asked_once, asked_twice}
use Rattle.eid_pace.proofs.mapped.Mapped.agree.Goals as goal

pub returns-then-eq : goal.returns-then-eq
returns-then-eq g c = record {
  end = SamePoint c.in-Ok.pair.0 c.in-Ok.pair.1 (sym c.if-eq.ensures);
  asked = asked_once c.in-Ok.ensures;
  gives = refl;
}

pub returns-in_default-agree : goal.returns-in_default-agree
returns-in_default-agree g c = record {
  end = NoAgreement c.in-Ok.pair.0 c.in-Ok.pair.1 (sym c.if-eq.ensures);
  asked = asked_twice c.in-Ok.ensures refl c.in_default-agree.ensures;
  gives = refl;
}

pub returns-in_default-agreement : goal.returns-in_default-agreement
returns-in_default-agreement g c = record {
  end = NoSecret c.in-Ok.pair.0 c.in-Ok.pair.1 (sym c.if-eq.ensures);
  asked = asked_twice c.in-Ok.ensures refl (rw c.in_default-agreement.is at c.in-Ok-agree.ensures);
  gives = refl;
}

pub returns : goal.returns
returns g c = record {
  end = Shared c.in-Ok.pair.0 c.in-Ok.pair.1 c.in-Some.shared (sym c.if-eq.ensures);
  asked = asked_twice c.in-Ok.ensures refl (rw c.in-Some.is at c.in-Ok-agree.ensures);
  gives = cc;
}
