-- The rules that a step can fail, by their numbers. This project's own.
use Rattle.std.specs.Prelude.{ℕ}

-- the body has not the form of the step
abbrev pub form_rule : ℕ
form_rule = 10

-- no chain of certificates up to a terminal's was accepted
abbrev pub chain_rule : ℕ
chain_rule = 24

-- the reference is not the terminal's name
abbrev pub name_rule : ℕ
name_rule = 25

-- a question met a fault
abbrev pub fault_rule : ℕ
fault_rule = 50

-- the signature is not the terminal's
abbrev pub signature_rule : ℕ
signature_rule = 53
