use Rattle.std.proofs.Common.{◌≡◌, ◌++◌, take}
use Rattle.eid_model.specs.Trace.{asks_text}
use Rattle.eid_model.proofs.text.Text.put_asks.Given as goal

abbrev pub invariant-loop-ask : goal.invariant-loop-ask
invariant-loop-ask l = l.self ≡ l.initial.self ++ asks_text (take l.ask-index l.asks)
