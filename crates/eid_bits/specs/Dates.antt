-- What contracts see of a date.
use Rattle.std.specs.Prelude.{ℕ, List}
use Rattle.eid_bits.specs.declared.date.Date6.{Date6}
use Rattle.eid_bits.specs.declared.date.Date8.{Date8}

-- its six digits
abbrev pub date_digits : Date6 → List ℕ
date_digits d = d.digits

-- its eight ASCII digits
abbrev pub date_text : Date8 → List ℕ
date_text d = d.text
