-- Protected commands, by writing them (BSI TR-03110-3; ISO/IEC 7816-4).
use Rattle.std.specs.Prelude.{◌≡◌, ℕ, ◌+◌, ◌/◌, ◌%◌, ◌≤◌, ◌==◌, nat_le, List, [], ◌∷◌, ◌++◌, length, if◌then◌else◌}
use Rattle.eid_cmac.specs.Padding.{padded}
use Rattle.eid_tlv.specs.Objects.{object}
use Rattle.eid_apdu.specs.Command.{PlainCommand, Spells, IsShortLe, IsExtendedLe, short_le, extended_le, two_bytes}
use Rattle.eid_sm.specs.Keys.{Keys, counter_bytes}
use Rattle.eid_sm.specs.Parts.{AreBytes, encrypted_object, with_mac}
use Rattle.eid_sm.specs.Replies.{HasNoMac}

-- how DO 97 says the expected length: not at all, in one byte, or in two
pub data LeForm : Type 0 where
  NoLe : LeForm
  OneByte : LeForm
  TwoBytes : LeForm

-- DO 97 where there is one
abbrev pub le_object : LeForm → ℕ → List ℕ
le_object NoLe ne = []
le_object OneByte ne = object 0x97 (short_le ne ∷ [])
le_object TwoBytes ne = object 0x97 (two_bytes (extended_le ne))

-- what each form can say
abbrev pub CanSay : LeForm → ℕ → Type 0
CanSay NoLe ne = ne ≡ 0
CanSay OneByte ne = IsShortLe ne
CanSay TwoBytes ne = IsExtendedLe ne

-- the bytes say an expected length, in one of the forms
pub record IsLe (bytes : List ℕ) (ne : ℕ) : Type 0 where
  pub form : LeForm
  pub says : CanSay form ne
  pub written : bytes ≡ le_object form ne

-- the class with the bits 0C, which say that the header is covered by the MAC
abbrev pub protected_class : ℕ → ℕ
protected_class cla = cla + 0x0C

-- a class has no bit of 0C, or both
abbrev pub IsPlainClass : ℕ → Type 0
IsPlainClass cla = cla / 4 % 4 ≡ 0

abbrev pub IsProtectedClass : ℕ → Type 0
IsProtectedClass cla = cla / 4 % 4 ≡ 3

-- what stands before the data objects in the MAC: the send sequence counter, and the header as sent, padded
abbrev pub command_start : List ℕ → List ℕ → List ℕ
command_start count header = count ++ padded header

-- the body, where there is one, and then the expected length, where there is one
abbrev pub command_objects : List ℕ → List ℕ → LeForm → List ℕ → ℕ → List ℕ
command_objects key count form body ne = encrypted_object key count body ++ le_object form ne

-- the bytes are these data objects with their MAC, in one of the forms
pub record AreCommandObjects (enc mac count header bytes body : List ℕ) (ne : ℕ) : Type 0 where
  pub form : LeForm
  pub says : CanSay form ne
  pub written : bytes ≡ with_mac mac (command_start count header) (command_objects enc count form body ne)

-- the header as sent
abbrev pub sent_header : PlainCommand → List ℕ
sent_header c = protected_class c.cla ∷ c.ins ∷ c.p1 ∷ c.p2 ∷ []

-- the data objects of a command at send sequence counter n, with their MAC
abbrev pub protected_body : Keys → ℕ → LeForm → PlainCommand → List ℕ
protected_body keys n form c =
    with_mac keys.mac (command_start (counter_bytes n) (sent_header c)) (command_objects keys.enc (counter_bytes n) form c.body c.ne)

-- the command as sent, which has an expected length of its own
abbrev pub sent_command : Keys → ℕ → LeForm → PlainCommand → ℕ → PlainCommand
sent_command keys n form c ne = record {
  cla = protected_class c.cla;
  ins = c.ins;
  p1 = c.p1;
  p2 = c.p2;
  body = protected_body keys n form c;
  ne = ne;
}

-- the bytes are a protected form of that command at counter n; the expected length outside of it is free
pub record IsProtected (keys : Keys) (n : ℕ) (bytes : List ℕ) (c : PlainCommand) : Type 0 where
  pub form : LeForm
  pub sent_ne : ℕ
  pub says : CanSay form c.ne
  pub class : IsPlainClass c.cla
  pub octets : AreBytes c.body
  pub size : length (protected_body keys n form c) ≤ 2200
  pub spelled : Spells bytes (sent_command keys n form c sent_ne)

-- how the writer says an expected length: in one byte up to 256
abbrev pub written_form : ℕ → LeForm
written_form ne = if ne == 0 then NoLe else if nat_le ne 256 then OneByte else TwoBytes

-- the greatest expected length that fields of the same size as the one before a body of this size say
abbrev pub greatest_ne : ℕ → ℕ
greatest_ne size = if nat_le size 255 then 256 else 65536

-- the command as the writer sends it
abbrev pub written_command : Keys → ℕ → PlainCommand → PlainCommand
written_command keys n c = sent_command keys n (written_form c.ne) c (greatest_ne (length (protected_body keys n (written_form c.ne) c)))

-- the bytes spell that command, with a body of at most 2,200 bytes and both bits 0C in its class, and its body is not
-- a list of data objects without a DO 8E
pub record HasObjects (bytes : List ℕ) (sent : PlainCommand) : Type 0 where
  pub spelled : Spells bytes sent
  pub size : length sent.body ≤ 2200
  pub class : IsProtectedClass sent.cla
  pub mac : HasNoMac sent.body → ⊥

-- the bytes spell no such command: of each of that size and class that they spell, the body is such a list
abbrev pub LacksObjects : List ℕ → Type 0
LacksObjects bytes =
    (sent : PlainCommand) → Spells bytes sent → length sent.body ≤ 2200 → IsProtectedClass sent.cla → HasNoMac sent.body
