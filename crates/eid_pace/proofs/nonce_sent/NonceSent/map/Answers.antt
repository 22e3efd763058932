-- The end that each return is.
use Rattle.std.proofs.Common.{refl}
use Rattle.eid_pace.specs.MapEnds.{NoMapping, NoBase, Based}
use Rattle.eid_copro.proofs.Asking.{asked_twice}
use Rattle.eid_pace.proofs.nonce_sent.NonceSent.map.Goals as goal

pub returns-in_default-map : goal.returns-in_default-map
returns-in_default-map g c = record {
  end = NoMapping c.in-Ok.pair.0 c.in-Ok.pair.1;
  asked = asked_twice c.in-Ok.ensures refl c.in_default-map.ensures;
  gives = refl;
}

pub returns-in_default-mapping : goal.returns-in_default-mapping
returns-in_default-mapping g c = record {
  end = NoBase c.in-Ok.pair.0 c.in-Ok.pair.1;
  asked = asked_twice c.in-Ok.ensures refl (rw c.in_default-mapping.is at c.in-Ok-map.ensures);
  gives = refl;
}

pub returns : goal.returns
returns g c = record {
  end = Based c.in-Ok.pair.0 c.in-Ok.pair.1 c.in-Some.base;
  asked = asked_twice c.in-Ok.ensures refl (rw c.in-Some.is at c.in-Ok-map.ensures);
  gives = cc;
}
