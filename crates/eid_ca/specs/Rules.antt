-- The rules that a step can fail, by their numbers. This project's own.
use Rattle.std.specs.Prelude.{ℕ}

-- the body has not the form of the step
abbrev pub form_rule : ℕ
form_rule = 10

-- the terminal's point is not the one that it announced
abbrev pub other_key_rule : ℕ
other_key_rule = 41

-- a question met a fault
abbrev pub fault_rule : ℕ
fault_rule = 50

-- a question was answered with no point
abbrev pub no_point_rule : ℕ
no_point_rule = 52
