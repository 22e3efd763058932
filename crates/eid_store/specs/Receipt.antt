-- What contracts see of a receipt.
use Rattle.std.specs.Prelude.{ℕ, Bool}
use Rattle.eid_store.specs.declared.receipt.Receipt.{Receipt}

-- the commit number after the commit
abbrev pub receipt_number : Receipt → ℕ
receipt_number receipt = receipt.number

-- whether the commit took a try of the PIN
abbrev pub receipt_spends : Receipt → Bool
receipt_spends receipt = receipt.spend
