-- The role and the rights that a template gives (BSI TR-03110-4).
use Rattle.std.specs.Prelude.{ℕ, ◌==◌, Bool, true, false, ◌||◌, List, nat_le}
use Rattle.std.specs.Int.{bit_at}
use Rattle.eid_bits.specs.Date.{is_between}
use Rattle.eid_bits.specs.Template.{template_bit}
use Rattle.eid_bits.specs.declared.rights.Bits.{Bits}
use Rattle.eid_bits.specs.declared.template.Role.{Role}
use Rattle.eid_bits.specs.declared.template.Role.TheVariants.{Cvca, Domestic, Foreign, Terminal}

-- by bit 39 and bit 38
abbrev pub role_by : Bool → Bool → Role
role_by true true = Cvca
role_by true false = Domestic
role_by false true = Foreign
role_by false false = Terminal

abbrev pub role_of : List ℕ → Role
role_of template = role_by (template_bit template 39) (template_bit template 38)

-- bits 38 and 39 are the role, and bits 29 to 32 mean nothing
abbrev pub is_right : ℕ → Bool
is_right bit = nat_le bit 28 || is_between 33 37 bit

-- whether the right with this number is among these
abbrev pub has_right : Bits → ℕ → Bool
has_right rights bit = bit_at rights.0 bit == 1
