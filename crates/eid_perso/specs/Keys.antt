-- The keys of a configuration: each with its number, its name and the form of its value. They are read in the order of
-- their numbers, and the first that is absent though required, or refused, is named. This project's own.
use Rattle.std.specs.Prelude.{ℕ, ◌+◌, Bool, true, List, [], ◌∷◌, ◌++◌, length, Option, Some, None, Result, Ok, Err, nat_le, nat_lt, if◌then◌else◌, codes}
use Rattle.toml.specs.Data.{Data, Members, get_member, as_bool}
use Rattle.eid_record.specs.Plain.{PlainTrustPoint}
use Rattle.eid_record.specs.Reading.{◌>>=◌}
use Rattle.eid_store.specs.Layouts.{two_slot_layout}
use Rattle.eid_perso.specs.Config.{PlainConfig}
use Rattle.eid_perso.specs.Forms.{whole, digits, date, name, sized, point, file}
use Rattle.eid_perso.specs.Names.{file_names}

-- a value that was not refused, or the number of the key
abbrev pub or_refused : {A : Type 0} → ℕ → Option A → Result A ℕ
or_refused number (Some value) = Ok value
or_refused number None = Err number

abbrev pub given : {A : Type 0} → ℕ → (Data → Option A) → Option Data → Result A ℕ
given number form None = Err number
given number form (Some value) = or_refused number (form value)

abbrev pub given_or : {A : Type 0} → ℕ → (Data → Option A) → A → Option Data → Result A ℕ
given_or number form absent None = Ok absent
given_or number form absent (Some value) = or_refused number (form value)

-- a row of the table of keys: the number, the name, and the form of the value
pub record Key (A : Type 0) : Type 0 where
  pub number : ℕ
  pub name : List ℕ
  pub form : Data → Option A

abbrev pub row : {A : Type 0} → ℕ → List ℕ → (Data → Option A) → Key A
row number name form = record { number = number; name = name; form = form }

-- a key that has to be there
abbrev pub required : {A : Type 0} → Key A → Members → Result A ℕ
required key m = given key.number key.form (get_member key.name m)

-- a key that may be absent and then has this value
abbrev pub optional : {A : Type 0} → Key A → A → Members → Result A ℕ
optional key absent m = given_or key.number key.form absent (get_member key.name m)

-- the table; behind these rows stand the files, from number 18 on

abbrev pub layout_key : Key ℕ
layout_key = row 1 (codes "layout") (whole two_slot_layout two_slot_layout)

abbrev pub number_key : Key ℕ
number_key = row 2 (codes "number") (whole 0 4294967295)

abbrev pub pin_key : Key (List ℕ)
pin_key = row 3 (codes "pin") (digits 6)

abbrev pub can_key : Key (List ℕ)
can_key = row 4 (codes "can") (digits 6)

abbrev pub puk_key : Key (List ℕ)
puk_key = row 5 (codes "puk") (digits 10)

abbrev pub tries_key : Key ℕ
tries_key = row 6 (codes "tries") (whole 0 3)

abbrev pub unblocks_key : Key ℕ
unblocks_key = row 7 (codes "unblocks") (whole 0 10)

abbrev pub active_key : Key Bool
active_key = row 8 (codes "active") as_bool

abbrev pub date_key : Key (List ℕ)
date_key = row 9 (codes "date") date

abbrev pub trust_name_key : Key (List ℕ)
trust_name_key = row 10 (codes "trust_name") name

abbrev pub trust_template_key : Key (List ℕ)
trust_template_key = row 11 (codes "trust_template") (sized 5)

abbrev pub trust_key_key : Key (List ℕ)
trust_key_key = row 12 (codes "trust_key") point

abbrev pub previous_name_key : Key (List ℕ)
previous_name_key = row 13 (codes "previous_name") name

abbrev pub previous_template_key : Key (List ℕ)
previous_template_key = row 14 (codes "previous_template") (sized 5)

abbrev pub previous_key_key : Key (List ℕ)
previous_key_key = row 15 (codes "previous_key") point

abbrev pub ca_secret_key : Key (List ℕ)
ca_secret_key = row 16 (codes "ca_secret") (sized 32)

abbrev pub ri_secret_key : Key (List ℕ)
ri_secret_key = row 17 (codes "ri_secret") (sized 32)

-- layout and commit number
unfoldable pub start_in : Members → Result (ℕ × ℕ) ℕ
start_in m = do
  layout ← optional layout_key two_slot_layout m
  number ← optional number_key 0 m
  Ok (layout, number)

-- PIN, CAN and PUK
unfoldable pub passwords_in : Members → Result (List ℕ × List ℕ × List ℕ) ℕ
passwords_in m = do
  pin ← required pin_key m
  can ← required can_key m
  puk ← required puk_key m
  Ok (pin, can, puk)

-- tries, unblockings, and whether the PIN is active
unfoldable pub counters_in : Members → Result (ℕ × ℕ × Bool) ℕ
counters_in m = do
  tries ← optional tries_key 3 m
  unblocks ← optional unblocks_key 10 m
  active ← optional active_key true m
  Ok (tries, unblocks, active)

-- the current trust point
unfoldable pub current_in : Members → Result PlainTrustPoint ℕ
current_in m = do
  holder ← required trust_name_key m
  template ← required trust_template_key m
  key ← required trust_key_key m
  Ok (record { name = holder; template = template; key = key })

unfoldable pub named_previous_in : Members → Result PlainTrustPoint ℕ
named_previous_in m = do
  holder ← required previous_name_key m
  template ← required previous_template_key m
  key ← required previous_key_key m
  Ok (record { name = holder; template = template; key = key })

abbrev pub previous_by : Option Data → Members → Result (Option PlainTrustPoint) ℕ
previous_by None m = Ok None
previous_by (Some value) m = do
  t ← named_previous_in m
  Ok (Some t)

-- the previous trust point, whose other keys count only where its name is there
unfoldable pub previous_in : Members → Result (Option PlainTrustPoint) ℕ
previous_in m = previous_by (get_member previous_name_key.name m) m

-- the secrets of chip authentication and of restricted identification
unfoldable pub secrets_in : Members → Result (List ℕ × List ℕ) ℕ
secrets_in m = do
  ca_secret ← required ca_secret_key m
  ri_secret ← required ri_secret_key m
  Ok (ca_secret, ri_secret)

-- a file's length, and the bytes of the files so far with its own
abbrev pub with_file : ℕ → List ℕ → Option (List ℕ) → Result (Option ℕ × List ℕ) ℕ
with_file number bytes None = Err number
with_file number bytes (Some f) =
    if nat_le (length bytes + length f) 24000 then Ok (Some (length f), bytes ++ f) else Err number

-- card_access and card_security have to be there, a data group may be absent
abbrev pub next_file : ℕ → List ℕ → Option Data → Result (Option ℕ × List ℕ) ℕ
next_file number bytes None = if nat_lt number 20 then Err number else Ok (None, bytes)
next_file number bytes (Some value) = with_file number bytes (file value)

-- the lengths and the bytes of files: those of these keys, the first of which has this number, behind those so far
unfoldable pub files_from : ℕ → List (Option ℕ) → List ℕ → List (List ℕ) → Members → Result (List (Option ℕ) × List ℕ) ℕ
files_from number lengths bytes [] m = Ok (lengths, bytes)
files_from number lengths bytes (key ∷ keys) m = do
  next ← next_file number bytes (get_member key m)
  files_from (number + 1) (lengths ++ next.0 ∷ []) next.1 keys m

-- the configuration, or the number of the first key that is refused
unfoldable pub config_in : Members → Result PlainConfig ℕ
config_in m = do
  start ← start_in m
  passwords ← passwords_in m
  counters ← counters_in m
  day ← required date_key m
  current ← current_in m
  previous ← previous_in m
  secrets ← secrets_in m
  files ← files_from 18 [] [] file_names m
  Ok (record {
    layout = start.0;
    fields = record {
      number = start.1;
      tries = counters.0;
      unblocks = counters.1;
      active = counters.2;
      pin = passwords.0;
      can = passwords.1;
      puk = passwords.2;
      date = day;
      current = current;
      previous = previous;
      ca_secret = secrets.0;
      ri_secret = secrets.1;
      lengths = files.0;
    };
    files = files.1;
  })
