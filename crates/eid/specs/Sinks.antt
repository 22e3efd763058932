-- What a sink shows where nothing was written. This project's own.
use Rattle.std.specs.Prelude.{◌≡◌, IsTrue}
use Rattle.eid_base.specs.Seen.{SinkSeen}

pub record WroteNothing (before now : SinkSeen) : Type 0 where
  pub tells : now.tells ≡ before.tells
  pub written : IsTrue before.tells → now.written ≡ before.written
