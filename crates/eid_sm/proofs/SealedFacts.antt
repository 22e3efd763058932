-- Protected replies found, and refused.
use Rattle.std.proofs.Common.{◌≡◌, ℕ, ◌<◌, ◌≤◌, List, ◌++◌, length, refl, ap, ◌∙◌, arith}
use Rattle.eid_tlv.specs.Objects.{object, IsObject}
use Rattle.eid_apdu.specs.Answer.{status_bytes}
use Rattle.eid_sm.specs.Keys.{Keys, counter_bytes}
use Rattle.eid_sm.specs.Parts.{AreBytes, encrypted_object, with_mac}
use Rattle.eid_sm.specs.Replies.{reply_objects, IsSealed, HasNoMac, IsBareReply}
use Rattle.eid_sm.proofs.Lengths.{length-encrypted_object}
use Rattle.eid_sm.proofs.Lists.{listed_both, listed_one, listed_encrypted, mac_is_there}

pub is_sealed : (keys : Keys) (n : ℕ) (bytes objects content : List ℕ) (status : ℕ) → bytes ≡ objects ++ status_bytes status → status < 65536
    → length content ≤ 2100 → AreBytes content
    → objects ≡ with_mac keys.mac (counter_bytes n) (reply_objects keys.enc (counter_bytes n) content (status_bytes status))
    → IsSealed keys n bytes (record { content = content; status = status })
is_sealed keys n bytes objects content status split range short octets e = record {
  reply = record { content = short; status = range };
  octets = octets;
  written = split ∙ ap (λ s. s ++ status_bytes status) e;
}

pub is_bare : (bytes objects : List ℕ) (status : ℕ) → bytes ≡ objects ++ status_bytes status → status < 65536 → length objects ≤ 2100 → HasNoMac objects → IsBareReply bytes
is_bare bytes objects status split range short none = record {
  r = record { content = objects; status = status };
  reply = record { content = short; status = range };
  written = split;
  bare = none;
}

-- the data objects of a protected reply have a MAC
pub sealed_has_mac : (enc mac count content : List ℕ) (status : ℕ) → length content ≤ 2100
    → HasNoMac (with_mac mac count (reply_objects enc count content (status_bytes status))) → ⊥
sealed_has_mac enc mac count content status short none =
    let two : IsObject 0x99 (status_bytes status) = record { tagged = refl; sized = omega arith } in
    mac_is_there mac count (reply_objects enc count content (status_bytes status))
    (listed_both (encrypted_object enc count content) (object 0x99 (status_bytes status))
    (listed_encrypted enc count content (omega (arith, length-encrypted_object enc count content)))
    (listed_one 0x99 (status_bytes status) two))
    none
