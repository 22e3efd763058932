-- The rules that a step can fail, by their numbers. This project's own.
use Rattle.std.specs.Prelude.{ℕ}

-- the body has not the form of the step
abbrev pub form_rule : ℕ
form_rule = 10

-- the reference is not that of a password that can be chosen
abbrev pub password_rule : ℕ
password_rule = 11

-- a question met a fault
abbrev pub fault_rule : ℕ
fault_rule = 50

-- the terminal's ephemeral point is the chip's
abbrev pub same_point_rule : ℕ
same_point_rule = 51

-- a question was answered with no point
abbrev pub no_point_rule : ℕ
no_point_rule = 52

-- the terminal's token is wrong
abbrev pub token_rule : ℕ
token_rule = 55
