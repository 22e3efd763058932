-- The chip, the terminal and the certificates of each generated session. This project's own.
use Rattle.std.specs.Prelude.{ℕ, ◌+◌, ◌*◌, ◌/◌, ◌%◌, ◌==◌, true, List, [], ◌∷◌, ◌++◌, length, Option, Some, None, codes, decimal, if◌then◌else◌}
use Rattle.sha2.specs.Sha256.{sha256}
use Rattle.eid_copro.specs.Model.{signature_of}
use Rattle.eid_copro.specs.Numbers.{generator, point_of, public_of, secret_of}
use Rattle.eid_cvc.specs.Certificates.{PlainBody}
use Rattle.eid_cvc.specs.Writing.{written_body, written_certificate}
use Rattle.eid_perso.specs.Config.{PlainConfig}
use Rattle.eid_perso.specs.Kit.{PlainKit}
use Rattle.eid_record.specs.Files.{files_bytes}
use Rattle.eid_record.specs.Plain.{FullRecord, PlainRecord, PlainTrustPoint}
use Rattle.eid_record.specs.declared.fields.Password.TheVariants.{Pin}
use Rattle.eid_store.specs.Layouts.{two_slot_layout}
use Rattle.eid_terminal.specs.declared.plan.Request.{Request}
use Rattle.eid_terminal.specs.declared.plan.Request.TheVariants.{File, Age}
use Rattle.eid_terminal.specs.Plans.{PlainPlan}

-- the last digit of a number, and a number as six digits
abbrev pub last_digit : ℕ → ℕ
last_digit number = 48 + number % 10

abbrev pub six_digits : ℕ → List ℕ
six_digits number =
    last_digit (number / 100000) ∷ last_digit (number / 10000) ∷ last_digit (number / 1000) ∷ last_digit (number / 100)
    ∷ last_digit (number / 10) ∷ last_digit number ∷ []

-- the public key of a secret's number
abbrev pub key_of : ℕ → List ℕ
key_of secret = point_of (secret * generator)

-- the secrets of the trust point, the document verifier, the terminal, and the chip, here and in restricted identification
abbrev pub TRUST : ℕ
TRUST = 7

abbrev pub VERIFIER : ℕ
VERIFIER = 17

abbrev pub TERMINAL : ℕ
TERMINAL = 13

abbrev pub CHIP : ℕ
CHIP = 9

abbrev pub SECTOR : ℕ
SECTOR = 11

abbrev pub trust_name : List ℕ
trust_name = codes "DECVCAAT00001"

abbrev pub verifier_name : List ℕ
verifier_name = codes "DETESTDV00001"

abbrev pub terminal_name : List ℕ
terminal_name = codes "DETERMAT00001"

-- ---- the certificates

-- from 26-01-01 to 26-12-31, without sectors
abbrev pub body_of : (issuer holder template : List ℕ) → (secret : ℕ) → PlainBody
body_of issuer holder template secret = record {
  issuer = issuer;
  key = key_of secret;
  holder = holder;
  template = template;
  effective = 2 ∷ 6 ∷ 0 ∷ 1 ∷ 0 ∷ 1 ∷ [];
  expiry = 2 ∷ 6 ∷ 1 ∷ 2 ∷ 3 ∷ 1 ∷ [];
  sectors = None ∷ None ∷ [];
}

-- of a domestic document verifier with the rights of the trust point, and of a terminal that may read data groups 4, 5 and 8,
-- use restricted identification, and verify age and community
abbrev pub verifier_kit : PlainKit
verifier_kit = record { body = body_of trust_name verifier_name (0xBE ∷ 0x1F ∷ 0xFF ∷ 0xFF ∷ 0x37 ∷ []) VERIFIER; signer = secret_of TRUST }

abbrev pub terminal_kit : PlainKit
terminal_kit = record { body = body_of verifier_name terminal_name (0x00 ∷ 0x00 ∷ 0x00 ∷ 0x98 ∷ 0x07 ∷ []) TERMINAL; signer = secret_of VERIFIER }

-- signed as the model coprocessor signs
unfoldable pub certificate_of : PlainKit → List ℕ
certificate_of kit = written_certificate kit.body (signature_of (public_of kit.signer) (sha256 (written_body kit.body)))

abbrev pub both_certificates : List (List ℕ)
both_certificates = certificate_of verifier_kit ∷ certificate_of terminal_kit ∷ []

-- ---- the chip

-- the files by their numbers: EF.CardAccess, EF.CardSecurity, and the data groups from 1 on; data group 4 has the digits of
-- the session's number
abbrev pub big_files : ℕ → List (Option (List ℕ))
big_files number =
    Some (0x31 ∷ 0x00 ∷ []) ∷ Some (0x30 ∷ 0x00 ∷ [])
    ∷ None ∷ None ∷ Some (codes "20301231") ∷ Some (decimal number) ∷ Some (codes "MUSTERMANN") ∷ None ∷ None ∷ Some (codes "20000101")
    ∷ None ∷ None ∷ None ∷ None ∷ None ∷ None ∷ None ∷ None
    ∷ Some (0 ∷ 0 ∷ 0 ∷ 0 ∷ 0 ∷ 0 ∷ 0 ∷ 0 ∷ []) ∷ Some (0x02 ∷ 0x76 ∷ 0x11 ∷ 0 ∷ 0 ∷ 0 ∷ 0 ∷ []) ∷ None ∷ None ∷ None ∷ []

-- how long they are
abbrev pub lengths_of : List (Option (List ℕ)) → List (Option ℕ)
lengths_of [] = []
lengths_of (None ∷ files) = None ∷ lengths_of files
lengths_of (Some file ∷ files) = Some (length file) ∷ lengths_of files

abbrev pub trust_point : PlainTrustPoint
trust_point = record { name = trust_name; template = 0xFE ∷ 0x1F ∷ 0xFF ∷ 0xFF ∷ 0x37 ∷ []; key = key_of TRUST }

-- the PIN is the number
abbrev pub big_fields : ℕ → PlainRecord
big_fields number = record {
  number = 0;
  tries = 3;
  unblocks = 10;
  active = true;
  pin = six_digits number;
  can = codes "654321";
  puk = codes "0123456789";
  date = 2 ∷ 6 ∷ 0 ∷ 1 ∷ 0 ∷ 1 ∷ [];
  current = trust_point;
  previous = None;
  ca_secret = secret_of CHIP;
  ri_secret = secret_of SECTOR;
  lengths = lengths_of (big_files number);
}

abbrev pub big_record : ℕ → FullRecord
big_record number = record { fields = big_fields number; files = big_files number }

abbrev pub big_config : ℕ → PlainConfig
big_config number = record { layout = two_slot_layout; fields = big_fields number; files = files_bytes (big_files number) }

-- ---- the terminal

-- the holder lets it read data groups 4 and 5 and verify the age in every other session, and in the sessions between them not
-- data group 5
abbrev pub big_template : ℕ → List ℕ
big_template number = if number % 2 == 0 then 0x00 ∷ 0x00 ∷ 0x00 ∷ 0x18 ∷ 0x01 ∷ [] else 0x00 ∷ 0x00 ∷ 0x00 ∷ 0x08 ∷ 0x01 ∷ []

abbrev pub big_requests : List Request
big_requests = File 4 ∷ File 5 ∷ Age ∷ []

-- PACE with this PIN, both certificates, and then data groups 4 and 5 and the age
abbrev pub plan_with : ℕ → (pin : List ℕ) → PlainPlan
plan_with number pin = record {
  can_first = None;
  password = Pin;
  value = pin;
  template = Some (big_template number);
  certificates = both_certificates;
  terminal_secret = secret_of TERMINAL;
  chip_key = key_of CHIP;
  age = Some (codes "20000101");
  validity = None;
  community = None;
  sector = None;
  requests = big_requests;
}

-- where the number is divisible by 3, a first attempt has the PIN 000000
abbrev pub first_plans : ℕ → List PlainPlan
first_plans number = if number % 3 == 0 then plan_with number (codes "000000") ∷ [] else []

-- the plans of a session, one after the other
abbrev pub big_plans : ℕ → List PlainPlan
big_plans number = first_plans number ++ plan_with number (six_digits number) ∷ []
