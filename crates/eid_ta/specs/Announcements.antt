-- The announcement of terminal authentication, by what stands in the body of MSE:Set AT (BSI TR-03110-3).
use Rattle.std.specs.Prelude.{◌≡◌, ℕ, ◌≤◌, List, [], ◌∷◌, length, Option, Some, None}
use Rattle.std.specs.Option.{option_to_list}
use Rattle.eid_bits.specs.Identifiers.{known_bytes}
use Rattle.eid_bits.specs.declared.identifier.Known.TheVariants.{TaSha256}
use Rattle.eid_tlv.specs.Lists.{HasValues}
use Rattle.eid_cvc.specs.Chains.{PlainAux, no_aux}
use Rattle.eid_ta.specs.AnnouncementIn.{whole}
use Rattle.eid_ta.specs.Auxiliary.{IsAuxiliary}
use Rattle.eid_ta.specs.States.{PlainAnnouncement}

-- the auxiliary data in the value of a 67, and none where there is no 67
abbrev pub AreDataIn : Option (List ℕ) → PlainAux → Type 0
AreDataIn None aux = aux ≡ no_aux
AreDataIn (Some value) aux = IsAuxiliary value aux

-- at most one 67, with these auxiliary data
pub record HasAuxiliary (body sent : List ℕ) (aux : PlainAux) : Type 0 where
  pub value : Option (List ℕ)
  pub those : HasValues 0x67 (option_to_list value) body
  pub is_whole : sent ≡ whole value
  pub says : AreDataIn value aux

-- the body is a list of data objects with one 80, id-TA-ECDSA-SHA-256, one 83 of 1 to 16 bytes, one 91 of 32 bytes, and
-- at most one 67; they stand in any order, and others may stand between them
pub record IsAnnouncement (body : List ℕ) (announcement : PlainAnnouncement) : Type 0 where
  pub protocol : HasValues 0x80 (known_bytes TaSha256 ∷ []) body
  pub reference : HasValues 0x83 (announcement.reference ∷ []) body
  pub some : 1 ≤ length announcement.reference
  pub short : length announcement.reference ≤ 16
  pub key_x : HasValues 0x91 (announcement.key_x ∷ []) body
  pub size : length announcement.key_x ≡ 32
  pub auxiliary : HasAuxiliary body announcement.sent announcement.aux
