use Rattle.std.specs.Prelude.{◌≡◌, false, is_some}
use Rattle.eid_terminal.specs.Seen.{terminal_view}
use Rattle.eid_vectors.proofs.terminals.talk.Given as goal

-- the terminal has not ended, and a reply is there where it waits for one
abbrev pub invariant-loop : goal.invariant-loop
invariant-loop l = record {
  going : (terminal_view l.terminal).ended ≡ false;
  due : is_some l.due ≡ (terminal_view l.terminal).waits;
}
