-- Protected replies, by writing them (BSI TR-03110-3; ISO/IEC 7816-4).
use Rattle.std.specs.Prelude.{◌≡◌, ℕ, List, [], ◌++◌}
use Rattle.eid_tlv.specs.Objects.{object}
use Rattle.eid_tlv.specs.Lists.{HasValues}
use Rattle.eid_apdu.specs.Answer.{PlainReply, IsReply, spelled, status_bytes}
use Rattle.eid_sm.specs.Keys.{Keys, counter_bytes}
use Rattle.eid_sm.specs.Parts.{AreBytes, encrypted_object, with_mac}

-- the data, where there is any, and then DO 99 with the status bytes
abbrev pub reply_objects : List ℕ → List ℕ → List ℕ → List ℕ → List ℕ
reply_objects key count content status = encrypted_object key count content ++ object 0x99 status

-- the protected reply at send sequence counter n: these data objects with their MAC, and the status once more
abbrev pub sealed : Keys → ℕ → PlainReply → List ℕ
sealed keys n r =
    with_mac keys.mac (counter_bytes n) (reply_objects keys.enc (counter_bytes n) r.content (status_bytes r.status)) ++ status_bytes r.status

-- the bytes are the protected form of that reply at counter n
pub record IsSealed (keys : Keys) (n : ℕ) (bytes : List ℕ) (r : PlainReply) : Type 0 where
  pub reply : IsReply r
  pub octets : AreBytes r.content
  pub written : bytes ≡ sealed keys n r

-- a list of data objects without a DO 8E; no bytes at all are one
abbrev pub HasNoMac : List ℕ → Type 0
HasNoMac bytes = HasValues 0x8E [] bytes

-- the bytes are a reply whose content is such a list
pub record IsBareReply (bytes : List ℕ) : Type 0 where
  pub r : PlainReply
  pub reply : IsReply r
  pub written : bytes ≡ spelled r
  pub bare : HasNoMac r.content
