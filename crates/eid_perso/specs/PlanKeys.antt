-- The keys of the plan of a terminal, as those of a configuration of an image. This project's own.
use Rattle.std.specs.Prelude.{ℕ, Bool, List, [], Option, None, is_some, Result, Ok, codes}
use Rattle.toml.specs.Data.{Members}
use Rattle.eid_record.specs.Reading.{◌>>=◌}
use Rattle.eid_record.specs.declared.fields.Password.{Password}
use Rattle.eid_terminal.specs.Plans.{PlainPlan, digits_of}
use Rattle.eid_terminal.specs.declared.plan.Request.{Request}
use Rattle.eid_perso.specs.Forms.{certificate, community, digits, list_of, long_date, maybe, password_word, point, request_word, sized}
use Rattle.eid_perso.specs.Keys.{Key, optional, required, row}

abbrev pub can_first_key : Key (Option (List ℕ))
can_first_key = row 1 (codes "can_first") (maybe (digits 6))

abbrev pub password_key : Key Password
password_key = row 2 (codes "password") password_word

-- the digits of this password
abbrev pub value_key : Password → Key (List ℕ)
value_key password = row 3 (codes "value") (digits (digits_of password))

abbrev pub template_key : Key (Option (List ℕ))
template_key = row 4 (codes "template") (maybe (sized 5))

abbrev pub certificates_key : Key (List (List ℕ))
certificates_key = row 5 (codes "certificates") (list_of 8 certificate)

abbrev pub terminal_secret_key : Key (List ℕ)
terminal_secret_key = row 6 (codes "terminal_secret") (sized 32)

abbrev pub chip_key_key : Key (List ℕ)
chip_key_key = row 7 (codes "chip_key") point

abbrev pub age_key : Key (Option (List ℕ))
age_key = row 8 (codes "age") (maybe long_date)

abbrev pub validity_key : Key (Option (List ℕ))
validity_key = row 9 (codes "validity") (maybe long_date)

abbrev pub community_key : Key (Option (List ℕ))
community_key = row 10 (codes "community") (maybe community)

abbrev pub sector_key : Key (Option (List ℕ))
sector_key = row 11 (codes "sector") (maybe point)

-- the requests of a plan that has a sector key, or has none
abbrev pub requests_key : Bool → Key (List Request)
requests_key has_sector = row 12 (codes "requests") (list_of 32 (request_word has_sector))

-- the card access number for a PACE of its own, the password with its digits, and the template
unfoldable pub pace_in : Members → Result (Option (List ℕ) × Password × List ℕ × Option (List ℕ)) ℕ
pace_in m = do
  can_first ← optional can_first_key None m
  password ← required password_key m
  value ← required (value_key password) m
  template ← optional template_key None m
  Ok (can_first, password, value, template)

-- the certificates, the secret of the terminal, and the public key of the chip
unfoldable pub authentication_in : Members → Result (List (List ℕ) × List ℕ × List ℕ) ℕ
authentication_in m = do
  certificates ← optional certificates_key [] m
  terminal_secret ← required terminal_secret_key m
  chip_key ← required chip_key_key m
  Ok (certificates, terminal_secret, chip_key)

-- age, validity and community
unfoldable pub auxiliary_in : Members → Result (Option (List ℕ) × Option (List ℕ) × Option (List ℕ)) ℕ
auxiliary_in m = do
  age ← optional age_key None m
  validity ← optional validity_key None m
  community ← optional community_key None m
  Ok (age, validity, community)

-- the sector key, and the requests
unfoldable pub requests_in : Members → Result (Option (List ℕ) × List Request) ℕ
requests_in m = do
  sector ← optional sector_key None m
  requests ← required (requests_key (is_some sector)) m
  Ok (sector, requests)

-- the plan, or the number of the first key that is refused
unfoldable pub plan_in : Members → Result PlainPlan ℕ
plan_in m = do
  pace ← pace_in m
  authentication ← authentication_in m
  auxiliary ← auxiliary_in m
  requests ← requests_in m
  Ok (record {
    can_first = pace.0;
    password = pace.1;
    value = pace.2;
    template = pace.3;
    certificates = authentication.0;
    terminal_secret = authentication.1;
    chip_key = authentication.2;
    age = auxiliary.0;
    validity = auxiliary.1;
    community = auxiliary.2;
    sector = requests.0;
    requests = requests.1;
  })
