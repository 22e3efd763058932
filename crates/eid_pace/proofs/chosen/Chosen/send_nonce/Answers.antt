-- The end that each return is.
use Rattle.std.proofs.Common.{refl, sym}
use Rattle.eid_copro.proofs.Asking.{not_asked, asked_once}
use Rattle.eid_pace.specs.NonceEnds.{NotStarted, NoNonce, Drawn}
use Rattle.eid_pace.proofs.chosen.Chosen.send_nonce.Goals as goal

pub returns-in-Err : goal.returns-in-Err
returns-in-Err g c = record {
  end = NotStarted c.in-Err.rule.0 (sym c.in-Err.ensures);
  asked = not_asked _;
  gives = refl;
}

pub returns-in_default-nonce : goal.returns-in_default-nonce
returns-in_default-nonce g c = record {
  end = NoNonce (sym c.in_default.ensures);
  asked = asked_once c.in_default-nonce.ensures;
  gives = refl;
}

pub returns : goal.returns
returns g c = record {
  end = Drawn c.in-Ok.nonce (sym c.in_default.ensures);
  asked = asked_once c.in-Ok.ensures;
  gives = cc;
}
