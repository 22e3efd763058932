-- What a coprocessor shows to contracts. This project's own.
use Rattle.std.specs.Prelude.{ℕ, List}
use Rattle.eid_copro.specs.Told.{Told}
use Rattle.eid_copro.specs.declared.ask.Ask.{Ask}

pub record CoproSeen : Type 0 where
  -- the questions so far with their answers, oldest first
  pub log : List Ask
  -- for how many more questions there is room
  pub spare : ℕ
  -- how often it has failed
  pub faults : ℕ
  -- what it tells of its answers, which never changes
  pub told : Told
