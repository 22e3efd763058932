-- The forms of values: what TOML data gives in a form, and nothing where the form refuses it. This project's own.
use Rattle.std.specs.Prelude.{ℕ, ◌-◌, Bool, ◌&&◌, List, [], ◌∷◌, length, ℤ, pos, int_le, nat_abs, nat_le, map, codes}
use Rattle.std.specs.Prelude.{Option, Some, None, option_map, is_some, ◌==◌, if◌then◌else◌, slice_index}
use Rattle.std.specs.Char.{is_ascii_digit}
use Rattle.std.specs.List.{list_all}
use Rattle.std.specs.Option.{option_and_then}
use Rattle.std.specs.Result.{result_ok}
use Rattle.std.specs.Str.{bytes_eq}
use Rattle.hex.specs.Hex.{decode_sized}
use Rattle.toml.specs.Data.{Data, Items, no_items, item, as_array, as_integer, as_str}
use Rattle.eid_bits.specs.Date.{is_between, is_date, is_long_date}
use Rattle.eid_text.specs.Hexadecimal.{at_most, bytes_within}
use Rattle.eid_record.specs.declared.fields.Password.{Password}
use Rattle.eid_record.specs.declared.fields.Password.TheVariants.{Can, Pin, Puk}
use Rattle.eid_cvc.specs.CertificateIn.{certificate_in}
use Rattle.eid_terminal.specs.declared.plan.Request.{Request}
use Rattle.eid_terminal.specs.declared.plan.Request.TheVariants.{File, Age, Validity, Community, Ri}
use Rattle.eid_perso.specs.Names.{group_named}

abbrev pub number_between : ℕ → ℕ → ℤ → Option ℕ
number_between least most n = if int_le (pos least) n && int_le n (pos most) then Some (nat_abs n) else None

-- a whole number from least to most
abbrev pub whole : ℕ → ℕ → Data → Option ℕ
whole least most value = option_and_then (number_between least most) (as_integer value)

abbrev pub digits_in : ℕ → List ℕ → Option (List ℕ)
digits_in count text = if length text == count && list_all is_ascii_digit text then Some text else None

-- a text of so many decimal digits
abbrev pub digits : ℕ → Data → Option (List ℕ)
digits count value = option_and_then (digits_in count) (as_str value)

abbrev pub date_in : List ℕ → Option (List ℕ)
date_in text = if is_date (map (λ d. d - 48) text) then Some (map (λ d. d - 48) text) else None

-- a text of six decimal digits that are a date, as the values of its digits
abbrev pub date : Data → Option (List ℕ)
date value = option_and_then date_in (digits 6 value)

abbrev pub long_date_in : List ℕ → Option (List ℕ)
long_date_in text = if is_long_date text then Some text else None

-- a text of eight decimal digits that are a date
abbrev pub long_date : Data → Option (List ℕ)
long_date value = option_and_then long_date_in (as_str value)

-- ASCII text of 1 to 16 characters
abbrev pub is_name : List ℕ → Bool
is_name text = is_between 1 16 (length text) && list_all (λ b. nat_le b 127) text

abbrev pub name_in : List ℕ → Option (List ℕ)
name_in text = if is_name text then Some text else None

abbrev pub name : Data → Option (List ℕ)
name value = option_and_then name_in (as_str value)

-- so many bytes in hexadecimal
abbrev pub sized : ℕ → Data → Option (List ℕ)
sized count value = option_and_then (λ text. result_ok (decode_sized text count)) (as_str value)

-- a form where the key may be left out
abbrev pub maybe : {A : Type 0} → (Data → Option A) → Data → Option (Option A)
maybe form value = option_map (λ x. Some x) (form value)

abbrev pub uncompressed : List ℕ → Option (List ℕ)
uncompressed bytes = if slice_index bytes 0 == 4 then Some bytes else None

-- 65 bytes in hexadecimal that begin with 04
abbrev pub point : Data → Option (List ℕ)
point value = option_and_then uncompressed (sized 65 value)

-- at most 2,048 bytes in hexadecimal
abbrev pub file : Data → Option (List ℕ)
file value = option_and_then (bytes_within 2048) (as_str value)

abbrev pub at_least_one : List ℕ → Option (List ℕ)
at_least_one bytes = if length bytes == 0 then None else Some bytes

abbrev pub community_in : List ℕ → Option (List ℕ)
community_in text = option_and_then at_least_one (bytes_within 16 text)

-- 1 to 16 bytes in hexadecimal
abbrev pub community : Data → Option (List ℕ)
community value = option_and_then community_in (as_str value)

abbrev pub password_of_word : List ℕ → Option Password
password_of_word word =
    if bytes_eq word (codes "can") then Some Can
    else if bytes_eq word (codes "pin") then Some Pin
    else if bytes_eq word (codes "puk") then Some Puk
    else None

-- a password by its word
abbrev pub password_word : Data → Option Password
password_word value = option_and_then password_of_word (as_str value)

abbrev pub if_certificate : List ℕ → Option (List ℕ)
if_certificate bytes = if is_some (certificate_in bytes) then Some bytes else None

-- a certificate of at most 2,048 bytes in hexadecimal
abbrev pub certificate : Data → Option (List ℕ)
certificate value = option_and_then if_certificate (file value)

abbrev pub request_of_word : Bool → List ℕ → Option Request
request_of_word has_sector word =
    if bytes_eq word (codes "age") then Some Age
    else if bytes_eq word (codes "validity") then Some Validity
    else if bytes_eq word (codes "community") then Some Community
    else if bytes_eq word (codes "ri") then (if has_sector then Some Ri else None)
    else option_map (λ number. File number) (group_named word)

-- a request by its word; restricted identification needs a sector key
abbrev pub request_word : Bool → Data → Option Request
request_word has_sector value = option_and_then (request_of_word has_sector) (as_str value)

-- what a form gives of each item, where it refuses none
abbrev pub each_item : {A : Type 0} → (Data → Option A) → Items → Option (List A)
each_item form no_items = Some []
each_item form (item value later) = option_and_then (λ x. option_map (λ xs. x ∷ xs) (each_item form later)) (form value)

-- a list of at most so many values of a form
abbrev pub list_of : {A : Type 0} → ℕ → (Data → Option A) → Data → Option (List A)
list_of most form value = option_and_then (at_most most) (option_and_then (each_item form) (as_array value))
