use Rattle.eid_perso.proofs.reading.config_of.Goals as goal

pub returns-clause-whole : goal.returns-clause-whole
returns-clause-whole c = record {
  layout = c.in_ok-layout.ensures.layout;
  valid = record {
    tries = c.in_ok-tries.ensures.valid.0;
    unblocks = c.in_ok-tries.ensures.valid.1;
    pin = c.in_ok-pin.ensures.valid.0;
    can = c.in_ok-pin.ensures.valid.1;
    puk = c.in_ok-pin.ensures.valid.2;
    date = c.in_ok-date.ensures.valid;
    current = c.in_ok-current.ensures.valid;
    previous = c.in_ok-previous.ensures.valid;
    ca_secret = c.in_ok-ca_secret.ensures.valid.0;
    ri_secret = c.in_ok-ca_secret.ensures.valid.1;
    files = c.in_ok-files.ensures.valid.count;
    lengths = c.in_ok-files.ensures.valid.fit;
  };
  files = c.in_ok-files.ensures.valid.total;
}
