-- How the last step of PACE ends: the terminal's token is compared, and the chip's is sent.
use Rattle.std.specs.Prelude.{◌≡◌, ℕ, true, ⊤, List, Option, IsSomeAnd, Result, Ok, Err, if◌then◌else◌}
use Rattle.std.specs.Str.{bytes_eq}
use Rattle.eid_record.specs.declared.fields.Password.{Password}
use Rattle.eid_record.specs.declared.fields.Password.TheVariants.{Can, Pin, Puk}
use Rattle.eid_store.specs.Receipt.{receipt_spends}
use Rattle.eid_store.specs.declared.receipt.Receipt.{Receipt}
use Rattle.eid_pace.specs.Keys.{enc_key, mac_key, token, identity_of}
use Rattle.eid_pace.specs.Protocols.{protocol_bytes}
use Rattle.eid_pace.specs.Rules.{token_rule}
use Rattle.eid_pace.specs.States.{PlainAgreed, PlainDone}

-- for the PIN, a commit took a try before
abbrev pub IsPaid : Password → Option Receipt → Type 0
IsPaid Can paid = ⊤
IsPaid Pin paid = IsSomeAnd paid (λ receipt. receipt_spends receipt ≡ true)
IsPaid Puk paid = ⊤

-- what a PACE that succeeded leaves
abbrev pub done_by : PlainAgreed → PlainDone
done_by agreed = record {
  password = agreed.choice.password;
  template = agreed.choice.template;
  identity = identity_of agreed.chip_point;
  enc = enc_key agreed.shared;
  mac = mac_key agreed.shared;
}

-- the token over a point
abbrev pub token_over : PlainAgreed → List ℕ → List ℕ
token_over agreed point = token (mac_key agreed.shared) (protocol_bytes agreed.choice.protocol) point

-- the terminal's is over the chip's point, and the chip's over the terminal's
abbrev pub terminal_token : PlainAgreed → List ℕ
terminal_token agreed = token_over agreed agreed.chip_point

abbrev pub chip_token : PlainAgreed → List ℕ
chip_token agreed = token_over agreed agreed.terminal_point

abbrev pub check_given : PlainAgreed → List ℕ → Result (PlainDone × List ℕ) ℕ
check_given agreed sent =
    if bytes_eq sent (terminal_token agreed) then Ok (done_by agreed, chip_token agreed) else Err token_rule
