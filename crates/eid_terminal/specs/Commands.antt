-- The commands of a terminal (BSI TR-03110-3; ISO/IEC 7816-4).
use Rattle.std.specs.Prelude.{ℕ, ◌+◌, List, [], ◌∷◌, ◌++◌, Option, Some, None, option_map}
use Rattle.eid_apdu.specs.Command.{PlainCommand}
use Rattle.eid_bits.specs.Identifiers.{known_bytes}
use Rattle.eid_bits.specs.declared.identifier.Known.{Known}
use Rattle.eid_bits.specs.declared.identifier.Known.TheVariants as known
use Rattle.eid_cvc.specs.PublicKeys.{optional, token_object}
use Rattle.eid_cvc.specs.Templates.{template_value}
use Rattle.eid_record.specs.declared.fields.Password.{Password}
use Rattle.eid_record.specs.declared.fields.Password.TheVariants.{Can, Pin, Puk}
use Rattle.eid_ta.specs.Auxiliary.{entry_bytes}
use Rattle.eid_tlv.specs.Objects.{object}
use Rattle.eid_terminal.specs.Plans.{PlainPlan}

abbrev pub command : (cla ins p1 p2 : ℕ) → (body : List ℕ) → (ne : ℕ) → PlainCommand
command cla ins p1 p2 body ne = record { cla = cla; ins = ins; p1 = p1; p2 = p2; body = body; ne = ne }

-- ---- PACE

-- what a PACE is made with: a password, its digits, and the holder's template where one is sent
pub record PlainTerms : Type 0 where
  pub password : Password
  pub digits : List ℕ
  pub template : Option (List ℕ)

-- the reference of a password
abbrev pub reference_of : Password → ℕ
reference_of Can = 2
reference_of Pin = 3
reference_of Puk = 4

-- MSE:Set AT for PACE: the protocol, the password, and the template where there is one
unfoldable pub pace_selection : PlainTerms → List ℕ
pace_selection terms =
    object 0x80 (known_bytes known.PaceAes128) ++ object 0x83 (reference_of terms.password ∷ [])
    ++ optional 0x7F4C (option_map template_value terms.template)

abbrev pub select_pace : PlainTerms → PlainCommand
select_pace terms = command 0x00 0x22 0xC1 0xA4 (pace_selection terms) 0

-- GENERAL AUTHENTICATE: dynamic authentication data, one object 7C, which is empty or holds one object
unfoldable pub no_data : List ℕ
no_data = object 0x7C []

unfoldable pub authentication_data : ℕ → List ℕ → List ℕ
authentication_data tag value = object 0x7C (object tag value)

-- the first three steps of PACE are chained to the last one
abbrev pub get_nonce : PlainCommand
get_nonce = command 0x10 0x86 0x00 0x00 no_data 256

abbrev pub map_nonce : (point : List ℕ) → PlainCommand
map_nonce point = command 0x10 0x86 0x00 0x00 (authentication_data 0x81 point) 256

abbrev pub agree : (point : List ℕ) → PlainCommand
agree point = command 0x10 0x86 0x00 0x00 (authentication_data 0x83 point) 256

abbrev pub authenticate : (token : List ℕ) → PlainCommand
authenticate token = command 0x00 0x86 0x00 0x00 (authentication_data 0x85 token) 256

-- ---- terminal authentication

-- MSE:Set DST: the key by which a certificate is verified, by its holder's name
unfoldable pub key_selection : (name : List ℕ) → List ℕ
key_selection name = object 0x83 name

abbrev pub select_key : (name : List ℕ) → PlainCommand
select_key name = command 0x00 0x22 0x81 0xB6 (key_selection name) 0

-- PSO:Verify Certificate
abbrev pub import_certificate : (certificate : List ℕ) → PlainCommand
import_certificate certificate = command 0x00 0x2A 0x00 0xBE certificate 0

-- an object 73 with what is compared under this identifier, where there is something
abbrev pub compared : Known → Option (List ℕ) → List ℕ
compared identifier None = []
compared identifier (Some value) = entry_bytes (record { identifier = known_bytes identifier; value = value })

-- an object 67 with these objects 73, or nothing where there are none
abbrev pub whole_auxiliary : List ℕ → List ℕ
whole_auxiliary [] = []
whole_auxiliary (first ∷ rest) = object 0x67 (first ∷ rest)

-- what is to be compared: date of birth, expiry and community, as far as the plan has them
unfoldable pub auxiliary : PlainPlan → List ℕ
auxiliary plan = whole_auxiliary (compared known.Birth plan.age ++ compared known.Expiry plan.validity ++ compared known.Community plan.community)

-- MSE:Set AT for terminal authentication: the protocol, the terminal's name, the X half of its ephemeral key, and the
-- auxiliary data where there are some
unfoldable pub announcement : (name key_x auxiliary : List ℕ) → List ℕ
announcement name key_x auxiliary = object 0x80 (known_bytes known.TaSha256) ++ object 0x83 name ++ object 0x91 key_x ++ auxiliary

abbrev pub announce : (name key_x auxiliary : List ℕ) → PlainCommand
announce name key_x auxiliary = command 0x00 0x22 0x81 0xA4 (announcement name key_x auxiliary) 0

abbrev pub get_challenge : PlainCommand
get_challenge = command 0x00 0x84 0x00 0x00 [] 256

abbrev pub external_authenticate : (signature : List ℕ) → PlainCommand
external_authenticate signature = command 0x00 0x82 0x00 0x00 signature 0

-- ---- chip authentication, and the application

-- MSE:Set AT for a protocol alone
unfoldable pub protocol_selection : Known → List ℕ
protocol_selection protocol = object 0x80 (known_bytes protocol)

abbrev pub select_protocol : Known → PlainCommand
select_protocol protocol = command 0x00 0x22 0x41 0xA4 (protocol_selection protocol) 0

abbrev pub select_chip_authentication : PlainCommand
select_chip_authentication = select_protocol known.CaAes128

abbrev pub prove : (point : List ℕ) → PlainCommand
prove point = command 0x00 0x86 0x00 0x00 (authentication_data 0x80 point) 256

abbrev pub select_application : PlainCommand
select_application = command 0x00 0xA4 0x04 0x0C (known_bytes known.Application) 0

-- ---- requests

-- READ BINARY of a data group by its short identifier
abbrev pub read : (number : ℕ) → PlainCommand
read number = command 0x00 0xB0 (0x80 + number) 0x00 [] 65536

-- VERIFY of auxiliary data
unfoldable pub verification : Known → List ℕ
verification identifier = object 0x06 (known_bytes identifier)

abbrev pub verify : Known → PlainCommand
verify identifier = command 0x80 0x20 0x80 0x00 (verification identifier) 0

abbrev pub select_restricted_identification : PlainCommand
select_restricted_identification = select_protocol known.RiSha256

-- GENERAL AUTHENTICATE for restricted identification: the first sector's public key, whole and without domain parameters
abbrev pub identify : (sector : List ℕ) → PlainCommand
identify sector = command 0x00 0x86 0x00 0x00 (authentication_data 0xA0 (token_object (known_bytes known.RiSha256) sector)) 256
