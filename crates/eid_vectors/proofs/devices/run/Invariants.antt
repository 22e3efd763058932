use Rattle.std.specs.Prelude.{IfSome}
use Rattle.eid_cells.specs.Memory.{memory_cells, memory_device}
use Rattle.eid_store.specs.Store.{Fits}
use Rattle.eid_vectors.proofs.devices.run.Given as goal

-- a store that is mounted fits
abbrev pub invariant-loop-step : goal.invariant-loop-step
invariant-loop-step l = IfSome l.store (λ s. Fits s (memory_device l.cells) (memory_cells l.cells))
