-- The selection of PACE: the body of MSE:Set AT (BSI TR-03110-3), and how it is answered.
use Rattle.std.specs.Prelude.{◌≡◌, ℕ, ◌==◌, List, [], ◌∷◌, length, Option, Some, None, Result, Ok, Err, if◌then◌else◌}
use Rattle.eid_record.specs.declared.fields.Password.{Password}
use Rattle.eid_record.specs.declared.fields.Password.TheVariants.{Can, Pin, Puk}
use Rattle.eid_cvc.specs.Templates.{template_value}
use Rattle.eid_tlv.specs.Lists.{HasValues}
use Rattle.eid_pace.specs.Protocols.{protocol_bytes}
use Rattle.eid_pace.specs.Rules.{form_rule, password_rule}
use Rattle.eid_pace.specs.States.{PlainChoice}
use Rattle.eid_pace.specs.declared.protocol.Protocol.{Protocol}

-- what it names: the protocol, a password by its reference, and the holder's template where there is one
pub record PlainSelection : Type 0 where
  pub protocol : Protocol
  pub reference : ℕ
  pub template : Option (List ℕ)

-- 7F4C, where there is one, holds a template
abbrev pub HasTemplate : List ℕ → Option (List ℕ) → Type 0
HasTemplate body None = HasValues 0x7F4C [] body
HasTemplate body (Some template) = (length template ≡ 5) × HasValues 0x7F4C (template_value template ∷ []) body

-- the body is a list of data objects with one 80, a protocol, one 83 of one byte, the reference, and at most
-- one 7F4C; they stand in any order, and others may stand between them
pub record IsPaceSelection (body : List ℕ) (selection : PlainSelection) : Type 0 where
  pub protocol : HasValues 0x80 (protocol_bytes selection.protocol ∷ []) body
  pub reference : HasValues 0x83 ((selection.reference ∷ []) ∷ []) body
  pub template : HasTemplate body selection.template

-- the password that a reference names: 2 the CAN, 3 the PIN, 4 the PUK
abbrev pub password_named : ℕ → Option Password
password_named reference =
    if reference == 2 then Some Can
    else if reference == 3 then Some Pin
    else if reference == 4 then Some Puk
    else None

abbrev pub chosen_with : PlainSelection → Option Password → Result PlainChoice ℕ
chosen_with selection None = Err password_rule
chosen_with selection (Some password) =
    Ok (record { protocol = selection.protocol; password = password; template = selection.template })

-- the state after it, or the rule that failed
abbrev pub chosen_by : Option PlainSelection → Result PlainChoice ℕ
chosen_by None = Err form_rule
chosen_by (Some selection) = chosen_with selection (password_named selection.reference)
