-- What a terminal is to do, and which plans there are. This project's own.
use Rattle.std.specs.Prelude.{◌≡◌, ℕ, ◌≤◌, List, [], ◌∷◌, length, map, Option, IfSome, IsSome, IsTrue, option_map, slice_index, Vec}
use Rattle.std.specs.declared.alloc.Global.{Global}
use Rattle.eid_bits.specs.Date.{is_long_date}
use Rattle.eid_bits.specs.Dates.{date_text}
use Rattle.eid_bits.specs.Template.{template_bytes}
use Rattle.eid_record.specs.declared.fields.Password.{Password}
use Rattle.eid_record.specs.declared.fields.Password.TheVariants.{Can, Pin, Puk}
use Rattle.eid_record.specs.Valid.{AreDigits}
use Rattle.eid_cvc.specs.CertificateIn.{certificate_in}
use Rattle.eid_terminal.specs.declared.plan.Plan.{Plan}
use Rattle.eid_terminal.specs.declared.plan.Request.{Request}
use Rattle.eid_terminal.specs.declared.plan.Request.TheVariants.{File, Age, Validity, Community, Ri}

-- a plan, field by field
pub record PlainPlan : Type 0 where
  pub can_first : Option (List ℕ)
  pub password : Password
  pub value : List ℕ
  pub template : Option (List ℕ)
  pub certificates : List (List ℕ)
  pub terminal_secret : List ℕ
  pub chip_key : List ℕ
  pub age : Option (List ℕ)
  pub validity : Option (List ℕ)
  pub community : Option (List ℕ)
  pub sector : Option (List ℕ)
  pub requests : List Request

-- the bytes of a certificate
abbrev pub certificate_bytes : Vec ℕ Global → List ℕ
certificate_bytes certificate = certificate.items

abbrev pub plan_view : Plan → PlainPlan
plan_view p = record {
  can_first = p.can_first;
  password = p.password;
  value = p.value.items;
  template = option_map template_bytes p.template;
  certificates = map certificate_bytes p.certificates.items;
  terminal_secret = p.terminal_secret;
  chip_key = p.chip_key;
  age = option_map date_text p.age;
  validity = option_map date_text p.validity;
  community = option_map (λ c. c.items) p.community;
  sector = p.sector;
  requests = p.requests.items;
}

-- how many digits a password has
abbrev pub digits_of : Password → ℕ
digits_of Can = 6
digits_of Pin = 6
digits_of Puk = 10

-- a point that begins with 04
abbrev pub IsUncompressed : List ℕ → Type 0
IsUncompressed point = slice_index point 0 ≡ 4

-- 1 to 16 bytes
pub record IsCommunity (community : List ℕ) : Type 0 where
  pub some : 1 ≤ length community
  pub short : length community ≤ 16

-- a certificate of at most 2,048 bytes
pub record IsSendable (certificate : List ℕ) : Type 0 where
  pub short : length certificate ≤ 2048
  pub reads : IsSome (certificate_in certificate)

abbrev pub AreSendable : List (List ℕ) → Type 0
AreSendable [] = Unit {0}
AreSendable (certificate ∷ later) = IsSendable certificate × AreSendable later

-- a data group that there can be; restricted identification needs a sector key
abbrev pub CanBeAsked : (sector : Option (List ℕ)) → Request → Type 0
CanBeAsked sector (File number) = (1 ≤ number) × (number ≤ 21)
CanBeAsked sector Age = Unit {0}
CanBeAsked sector Validity = Unit {0}
CanBeAsked sector Community = Unit {0}
CanBeAsked sector Ri = IsSome sector

abbrev pub CanAllBeAsked : (sector : Option (List ℕ)) → List Request → Type 0
CanAllBeAsked sector [] = Unit {0}
CanAllBeAsked sector (request ∷ later) = CanBeAsked sector request × CanAllBeAsked sector later

-- what the fields of a plan have by their types: sizes, and that dates are dates
pub record HasSizes (plan : PlainPlan) : Type 0 where
  pub template : IfSome plan.template (λ t. length t ≡ 5)
  pub age : IfSome plan.age (λ date. IsTrue (is_long_date date))
  pub validity : IfSome plan.validity (λ date. IsTrue (is_long_date date))
  pub sector : IfSome plan.sector (λ key. length key ≡ 65)

-- a plan that a terminal can carry out
pub record IsFit (p : PlainPlan) : Type 0 where
  pub can_first : IfSome p.can_first (AreDigits 6)
  pub value : AreDigits (digits_of p.password) p.value
  pub few : length p.certificates ≤ 8
  pub certificates : AreSendable p.certificates
  pub chip_key : IsUncompressed p.chip_key
  pub community : IfSome p.community IsCommunity
  pub sector : IfSome p.sector IsUncompressed
  pub short : length p.requests ≤ 32
  pub requests : CanAllBeAsked p.sector p.requests
