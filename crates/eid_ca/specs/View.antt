-- The plain copies of the state, and of what the step gives.
use Rattle.std.specs.Prelude.{ℕ, Result, Ok, Err}
use Rattle.eid_base.specs.declared.codes.Rule.{Rule}
use Rattle.eid_cmac.specs.SessionKeys.{enc_of, mac_of}
use Rattle.eid_ca.specs.States.{PlainCaChosen, PlainProven}
use Rattle.eid_ca.specs.declared.chosen.CaChosen.{CaChosen}
use Rattle.eid_ca.specs.declared.chosen.Proven.{Proven}

abbrev pub chosen_view : CaChosen → PlainCaChosen
chosen_view s = record { protocol = s.protocol; key_x = s.key_x }

abbrev pub proven_view : Proven → PlainProven
proven_view p = record { nonce = p.nonce; token = p.token; enc = enc_of p.keys; mac = mac_of p.keys }

-- what a step gave, or the number of the rule
abbrev pub given : {S P : Type 0} → (S → P) → Result S Rule → Result P ℕ
given view (Ok value) = Ok (view value)
given view (Err rule) = Err rule.0
