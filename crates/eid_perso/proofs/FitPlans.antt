-- What is true of the lists of a plan.
use Rattle.std.proofs.Common.{◌≡◌, ℕ, ◌+◌, ◌<◌, ◌≤◌, Bool, true, false, nat_le, List, [], ◌∷◌, length, drop, Option, Some, None, option_map, Ok, subst, refl, arith}
use Rattle.std.specs.Prelude.{IfSome, option_and_then, is_some, codes, if◌then◌else◌}
use Rattle.std.specs.List.{position}
use Rattle.std.specs.Result.{result_ok}
use Rattle.std.specs.Str.{bytes_eq}
use Rattle.std.proofs.lemmas.Bool.Decides.{nat_tests}
use Rattle.std.proofs.lemmas.List.Quantifiers.{position-Some}
use Rattle.hex.specs.Hex.{decode_of}
use Rattle.toml.specs.Data.{Data, Members, get_member, as_array, as_str}
use Rattle.eid_text.specs.Hexadecimal.{at_most, bytes_within}
use Rattle.eid_cvc.specs.CertificateIn.{certificate_in}
use Rattle.eid_terminal.specs.Plans.{IsSendable, AreSendable, CanBeAsked, CanAllBeAsked}
use Rattle.eid_terminal.specs.declared.plan.Request.{Request}
use Rattle.eid_terminal.specs.declared.plan.Request.TheVariants.{File, Age, Validity, Community, Ri}
use Rattle.eid_perso.specs.Forms.{certificate, if_certificate, each_item, file, list_of, request_word, request_of_word}
use Rattle.eid_perso.specs.Keys.{given, given_or, optional, or_refused, required}
use Rattle.eid_perso.specs.Names.{file_names, group_named}
use Rattle.eid_perso.specs.PlanKeys.{certificates_key, requests_key}
use Rattle.eid_perso.proofs.ReadItems.{each_item-all}

-- what a second step gives
and_then-all : {A B : Type 0} (Q : B → Type 0) (f : A → Option B) (o : Option A) → ((x : A) → IfSome (f x) Q) → IfSome (option_and_then f o) Q
and_then-all Q f None next = tt
and_then-all Q f (Some x) next = next x

and_then-such : {A B : Type 0} (P : A → Type 0) (Q : B → Type 0) (f : A → Option B) (o : Option A) → IfSome o P → ((x : A) → P x → IfSome (f x) Q) → IfSome (option_and_then f o) Q
and_then-such P Q f None such next = tt
and_then-such P Q f (Some x) such next = next x such

-- what passed a test
if-all : {A : Type 0} (P : A → Type 0) (test : Bool) (x : A) → (test ≡ true → P x) → IfSome (if test then Some x else None) P
if-all P true x true_of = true_of refl
if-all P false x true_of = tt

list_of-all : {A : Type 0} (P : A → Type 0) (Q : List A → Type 0) (most : ℕ) (form : Data → Option A) → Q [] → ((x : A) (xs : List A) → P x → Q xs → Q (x ∷ xs))
    → ((d : Data) → IfSome (form d) P) → (d : Data) → IfSome (list_of most form d) Q
list_of-all P Q most form none joined one d =
    and_then-such Q Q (at_most most) (option_and_then (each_item form) (as_array d)) (and_then-all Q (each_item form) (as_array d) (each_item-all P Q form none joined one))
    (λ xs all. if-all Q (nat_le (length xs) most) xs (λ short. all))

-- what was not refused
or_refused-all : {A : Type 0} (Q : A → Type 0) (number : ℕ) (o : Option A) (x : A) → IfSome o Q → or_refused number o ≡ Ok x → Q x
or_refused-all Q number None x all is = absurd (cc)
or_refused-all Q number (Some y) x all is = let same : y ≡ x = cc in subst Q same all

given-all : {A : Type 0} (Q : A → Type 0) (number : ℕ) (form : Data → Option A) (value : Option Data) (x : A) → ((d : Data) → IfSome (form d) Q) → given number form value ≡ Ok x → Q x
given-all Q number form None x all is = absurd (cc)
given-all Q number form (Some d) x all is = or_refused-all Q number (form d) x (all d) is

given_or-all : {A : Type 0} (Q : A → Type 0) (number : ℕ) (form : Data → Option A) (absent : A) (value : Option Data) (x : A) → Q absent → ((d : Data) → IfSome (form d) Q)
    → given_or number form absent value ≡ Ok x → Q x
given_or-all Q number form absent None x none all is = let same : absent ≡ x = cc in subst Q same none
given_or-all Q number form absent (Some d) x none all is = or_refused-all Q number (form d) x (all d) is

-- certificates

within : (most : ℕ) (bytes : List ℕ) → nat_le (length bytes) most ≡ true → length bytes ≤ most
within most bytes test = grind (arith, nat_tests)

file-short : (d : Data) → IfSome (file d) (λ bytes. length bytes ≤ 2048)
file-short d =
    and_then-all (λ bytes. length bytes ≤ 2048) (bytes_within 2048) (as_str d)
    (λ text. and_then-all (λ bytes. length bytes ≤ 2048) (at_most 2048) (result_ok (decode_of text))
    (λ bytes. if-all (λ b. length b ≤ 2048) (nat_le (length bytes) 2048) bytes (within 2048 bytes)))

certificate-sendable : (d : Data) → IfSome (certificate d) IsSendable
certificate-sendable d =
    and_then-such (λ bytes. length bytes ≤ 2048) IsSendable if_certificate (file d) (file-short d)
    (λ bytes short. if-all IsSendable (is_some (certificate_in bytes)) bytes (λ reads. record { short = short; reads = reads }))

pub certificates-sendable : (m : Members) (list : List (List ℕ)) → optional certificates_key [] m ≡ Ok list → AreSendable list
certificates-sendable m list =
    given_or-all AreSendable 5 (list_of 8 certificate) [] (get_member certificates_key.name m) list tt
    (list_of-all IsSendable AreSendable 8 certificate tt (λ x xs one others. (one, others)) certificate-sendable)

-- requests

group-there : (place : Option ℕ) → IfSome place (λ i. i < 21) → IfSome (option_map (λ i. i + 1) place) (λ n. (1 ≤ n) × (n ≤ 21))
group-there None there = tt
group-there (Some i) there = (omega arith, omega (arith, there))

place-there : (p : List ℕ → Bool) (names : List (List ℕ)) (place : Option ℕ) → position p names ≡ place → IfSome place (λ i. i < length names)
place-there p names None is = tt
place-there p names (Some i) is = (position-Some p names i [] is).0

group_named-there : (word : List ℕ) → IfSome (group_named word) (λ n. (1 ≤ n) × (n ≤ 21))
group_named-there word =
    let p = λ (name : List ℕ). bytes_eq name word in
    group-there (position p (drop 2 file_names)) (place-there p (drop 2 file_names) (position p (drop 2 file_names)) refl)

group-asked : (sector : Option (List ℕ)) (n : Option ℕ) → IfSome n (λ k. (1 ≤ k) × (k ≤ 21)) → IfSome (option_map (λ k. File k) n) (CanBeAsked sector)
group-asked sector None there = tt
group-asked sector (Some n) there = there

word-asked : (sector : Option (List ℕ)) (age validity community ri : Bool) (group : Option Request) → IfSome group (CanBeAsked sector)
    → IfSome (if age then Some Age else if validity then Some Validity else if community then Some Community else if ri then (if is_some sector then Some Ri else None) else group) (CanBeAsked sector)
word-asked sector true validity community ri group asked = tt
word-asked sector false true community ri group asked = tt
word-asked sector false false true ri group asked = tt
word-asked (Some key) false false false true group asked = refl
word-asked None false false false true group asked = tt
word-asked sector false false false false group asked = asked

request-asked : (sector : Option (List ℕ)) (d : Data) → IfSome (request_word (is_some sector) d) (CanBeAsked sector)
request-asked sector d =
    and_then-all (CanBeAsked sector) (request_of_word (is_some sector)) (as_str d)
    (λ word. word-asked sector (bytes_eq word (codes "age")) (bytes_eq word (codes "validity")) (bytes_eq word (codes "community")) (bytes_eq word (codes "ri"))
    (option_map (λ n. File n) (group_named word)) (group-asked sector (group_named word) (group_named-there word)))

pub requests-asked : (sector : Option (List ℕ)) (m : Members) (list : List Request) → required (requests_key (is_some sector)) m ≡ Ok list → CanAllBeAsked sector list
requests-asked sector m list =
    given-all (CanAllBeAsked sector) 12 (list_of 32 (request_word (is_some sector))) (get_member (requests_key (is_some sector)).name m) list
    (list_of-all (CanBeAsked sector) (CanAllBeAsked sector) 32 (request_word (is_some sector)) tt (λ x xs one others. (one, others)) (request-asked sector))
