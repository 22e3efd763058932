-- Protected commands found, and refused.
use Rattle.std.proofs.Common.{◌≡◌, ℕ, ◌+◌, ◌-◌, ◌/◌, ◌%◌, ◌≤◌, List, [], ◌∷◌, length, refl, ap, ◌∙◌, subst, arith, length-append}
use Rattle.std.specs.Prelude.{◌==◌, nat_le, Bool, true, false, if◌then◌else◌}
use Rattle.std.proofs.lemmas.Bool.Decides.{nat_tests}
use Rattle.eid_apdu.specs.Writing.{written}
use Rattle.eid_apdu.proofs.Written.{spells_written}
use Rattle.eid_apdu.specs.Command.{PlainCommand, Spells, short_le, extended_le, two_bytes}
use Rattle.eid_sm.specs.Keys.{Keys, counter_bytes}
use Rattle.eid_sm.specs.Parts.{AreBytes, encrypted_object, mac_object, with_mac}
use Rattle.eid_sm.specs.Replies.{HasNoMac}
use Rattle.eid_sm.specs.Commands.{LeForm, NoLe, OneByte, TwoBytes, le_object, CanSay, IsPlainClass, command_start, command_objects, sent_header, protected_body, sent_command, written_form, greatest_ne, written_command, AreCommandObjects, IsProtected, HasObjects, LacksObjects}
use Rattle.eid_sm.proofs.PartFacts.{object_fits}
use Rattle.eid_sm.proofs.Lengths.{length-encrypted_object, length-mac_object}
use Rattle.eid_sm.proofs.Lists.{AreListed, listed_none, listed_both, listed_one, listed_encrypted, mac_is_there}

-- bytes that have the objects do not lack them
pub not_lacking : (bytes : List ℕ) (sent : PlainCommand) → HasObjects bytes sent → LacksObjects bytes → ⊥
not_lacking bytes sent has lacks = has.mac (lacks sent has.spelled has.size has.class)

listed_le : (form : LeForm) (ne : ℕ) → AreListed (le_object form ne)
listed_le NoLe ne = listed_none
listed_le OneByte ne = listed_one 0x97 (short_le ne ∷ []) (record { tagged = refl; sized = omega arith })
listed_le TwoBytes ne = listed_one 0x97 (two_bytes (extended_le ne)) (record { tagged = refl; sized = omega arith })

-- the data objects of a protected command have a MAC
pub command_has_mac : (enc mac count start body : List ℕ) (form : LeForm) (ne : ℕ) → length (with_mac mac start (command_objects enc count form body ne)) ≤ 2200
    → HasNoMac (with_mac mac start (command_objects enc count form body ne)) → ⊥
command_has_mac enc mac count start body form ne size none =
    let encrypted : List ℕ = encrypted_object enc count body in
    let all : List ℕ = command_objects enc count form body ne in
    let whole = length-append all (mac_object mac start all) in
    let sum = length-append encrypted (le_object form ne) in
    mac_is_there mac start all
    (listed_both encrypted (le_object form ne) (listed_encrypted enc count body (omega (arith, size))) (listed_le form ne)) none

pub protected_has_objects : (keys : Keys) (n : ℕ) (bytes : List ℕ) (c : PlainCommand) → (is : IsProtected keys n bytes c)
    → HasObjects bytes (sent_command keys n is.form c is.sent_ne)
protected_has_objects keys n bytes c is = record {
  spelled = is.spelled;
  size = is.size;
  class = let plain : c.cla / 4 % 4 ≡ 0 = is.class in omega arith;
  mac = command_has_mac keys.enc keys.mac (counter_bytes n) (command_start (counter_bytes n) (sent_header c)) c.body is.form c.ne is.size;
}

abbrev command_of : ℕ → ℕ → ℕ → ℕ → List ℕ → ℕ → PlainCommand
command_of cla ins p1 p2 body ne = record { cla = cla; ins = ins; p1 = p1; p2 = p2; body = body; ne = ne }

pub is_protected : (keys : Keys) (n : ℕ) (bytes body : List ℕ) (sent : PlainCommand) (ne : ℕ) → HasObjects bytes sent → AreBytes body
    → AreCommandObjects keys.enc keys.mac (counter_bytes n) (sent.cla ∷ sent.ins ∷ sent.p1 ∷ sent.p2 ∷ []) sent.body body ne
    → IsProtected keys n bytes (command_of (sent.cla - 0x0C) sent.ins sent.p1 sent.p2 body ne)
is_protected keys n bytes body sent ne has octets are =
    let class : sent.cla / 4 % 4 ≡ 3 = has.class in
    let cla : sent.cla ≡ sent.cla - 0x0C + 0x0C = omega arith in
    let P : ℕ → Type 0 = λ cla. sent.body ≡ with_mac keys.mac (command_start (counter_bytes n) (cla ∷ sent.ins ∷ sent.p1 ∷ sent.p2 ∷ [])) (command_objects keys.enc (counter_bytes n) are.form body ne) in
    let written : P (sent.cla - 0x0C + 0x0C) = subst P cla are.written in
    let same : sent ≡ command_of (sent.cla - 0x0C + 0x0C) sent.ins sent.p1 sent.p2 (protected_body keys n are.form (command_of (sent.cla - 0x0C) sent.ins sent.p1 sent.p2 body ne)) sent.ne =
    ap (λ (k : ℕ). command_of k sent.ins sent.p1 sent.p2 sent.body sent.ne) cla ∙ ap (λ (b : List ℕ). command_of (sent.cla - 0x0C + 0x0C) sent.ins sent.p1 sent.p2 b sent.ne) written in
    record {
      form = are.form;
      sent_ne = sent.ne;
      says = are.says;
      class = omega arith;
      octets = octets;
      size = subst (λ (b : List ℕ). length b ≤ 2200) written has.size;
      spelled = subst (λ (c : PlainCommand). Spells bytes c) same has.spelled;
    }

-- what the objects of a protected command are, seen from the command as sent
pub sent_objects : (keys : Keys) (n : ℕ) (bytes : List ℕ) (c sent : PlainCommand) (is : IsProtected keys n bytes c) → sent ≡ sent_command keys n is.form c is.sent_ne
    → AreCommandObjects keys.enc keys.mac (counter_bytes n) (sent.cla ∷ sent.ins ∷ sent.p1 ∷ sent.p2 ∷ []) sent.body c.body c.ne
sent_objects keys n bytes c sent is same = rw same (record { form = is.form; says = is.says; written = refl })

-- the plain command, from the command as sent
pub plain_again : (keys : Keys) (n : ℕ) (bytes body : List ℕ) (c sent : PlainCommand) (ne : ℕ) (is : IsProtected keys n bytes c) → sent ≡ sent_command keys n is.form c is.sent_ne
    → body ≡ c.body → ne ≡ c.ne → command_of (sent.cla - 0x0C) sent.ins sent.p1 sent.p2 body ne ≡ c
plain_again keys n bytes body c sent ne is same bodies lengths =
    let class : sent.cla ≡ c.cla + 0x0C = ap (λ (p : PlainCommand). p.cla) same in
    let cla : sent.cla - 0x0C ≡ c.cla = omega arith in
    let ins : sent.ins ≡ c.ins = ap (λ (p : PlainCommand). p.ins) same in
    let p1 : sent.p1 ≡ c.p1 = ap (λ (p : PlainCommand). p.p1) same in
    let p2 : sent.p2 ≡ c.p2 = ap (λ (p : PlainCommand). p.p2) same in
    let whole : command_of (sent.cla - 0x0C) sent.ins sent.p1 sent.p2 body ne ≡ command_of c.cla c.ins c.p1 c.p2 c.body c.ne = cc in
    whole

-- ---- what the writer sends

form_says : (ne : ℕ) → ne ≤ 65536 → CanSay (written_form ne) ne
form_says ne most = cases (ne == 0) (nat_le ne 256) refl refl where
  cases : (none one : Bool) → (ne == 0) ≡ none → nat_le ne 256 ≡ one → CanSay (if none then NoLe else if one then OneByte else TwoBytes) ne
  cases true one is small = grind (arith, nat_tests)
  cases false true is small = (grind (arith, nat_tests), grind (arith, nat_tests))
  cases false false is small = (grind (arith, nat_tests), most)

greatest_fits : (size : ℕ) → greatest_ne size ≤ 65536
greatest_fits size = cases (nat_le size 255) where
  cases : (short : Bool) → (if short then 256 else 65536) ≤ 65536
  cases true = omega arith
  cases false = omega arith

le_size : (form : LeForm) (ne : ℕ) → length (le_object form ne) ≤ 7
le_size NoLe ne = omega arith
le_size OneByte ne = omega (arith, object_fits 0x97 (short_le ne ∷ []))
le_size TwoBytes ne = omega (arith, object_fits 0x97 (two_bytes (extended_le ne)))

protected_size : (enc mac count start body : List ℕ) (form : LeForm) (ne : ℕ) → length (with_mac mac start (command_objects enc count form body ne)) ≤ length body + 39
protected_size enc mac count start body form ne =
    let all : List ℕ = command_objects enc count form body ne in
    let whole = length-append all (mac_object mac start all) in
    let sum = length-append (encrypted_object enc count body) (le_object form ne) in
    omega (arith, length-encrypted_object enc count body, le_size form ne, length-mac_object mac start all)

pub written_is_protected : (keys : Keys) (n : ℕ) (bytes : List ℕ) (c : PlainCommand) → bytes ≡ written (written_command keys n c) → length c.body ≤ 2048 → c.ne ≤ 65536
    → IsPlainClass c.cla → AreBytes c.body → IsProtected keys n bytes c
written_is_protected keys n bytes c e short most class octets =
    let body : List ℕ = protected_body keys n (written_form c.ne) c in
    let size : length body ≤ length c.body + 39 =
    protected_size keys.enc keys.mac (counter_bytes n) (command_start (counter_bytes n) (sent_header c)) c.body (written_form c.ne) c.ne in
    record {
      form = written_form c.ne;
      sent_ne = greatest_ne (length body);
      says = form_says c.ne most;
      class = class;
      octets = octets;
      size = omega arith;
      spelled = rw e (spells_written (written_command keys n c) (omega arith) (greatest_fits (length body)));
    }
