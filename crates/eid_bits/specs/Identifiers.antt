-- The identifiers of the eID application, as the bytes of their encoding: the application's own
-- (ISO/IEC 7816-4, an AID from BSI TR-03110-4), and object identifiers below those of the BSI
-- (BSI TR-03110-3).
use Rattle.std.specs.Prelude.{ℕ, List, [], ◌∷◌}
use Rattle.eid_bits.specs.declared.identifier.Known.{Known}
use Rattle.eid_bits.specs.declared.identifier.Known.TheVariants.{Application, PaceAes128, PaceAes256, CaAes128, CaAes256, TaSha256, RiSha256, AtTemplate, Birth, Expiry, Community, Sector}

-- bsi-de, 0.4.0.127.0.7
abbrev pub of_bsi : List ℕ → List ℕ
of_bsi rest = 0x04 ∷ 0x00 ∷ 0x7F ∷ 0x00 ∷ 0x07 ∷ rest

abbrev pub known_bytes : Known → List ℕ
known_bytes Application = 0xE8 ∷ 0x07 ∷ 0x04 ∷ 0x00 ∷ 0x7F ∷ 0x00 ∷ 0x07 ∷ 0x03 ∷ 0x02 ∷ []
known_bytes PaceAes128 = of_bsi (2 ∷ 2 ∷ 4 ∷ 2 ∷ 2 ∷ [])
known_bytes PaceAes256 = of_bsi (2 ∷ 2 ∷ 4 ∷ 2 ∷ 4 ∷ [])
known_bytes CaAes128 = of_bsi (2 ∷ 2 ∷ 3 ∷ 2 ∷ 2 ∷ [])
known_bytes CaAes256 = of_bsi (2 ∷ 2 ∷ 3 ∷ 2 ∷ 4 ∷ [])
known_bytes TaSha256 = of_bsi (2 ∷ 2 ∷ 2 ∷ 2 ∷ 3 ∷ [])
known_bytes RiSha256 = of_bsi (2 ∷ 2 ∷ 5 ∷ 2 ∷ 3 ∷ [])
known_bytes AtTemplate = of_bsi (3 ∷ 1 ∷ 2 ∷ 2 ∷ [])
known_bytes Birth = of_bsi (3 ∷ 1 ∷ 4 ∷ 1 ∷ [])
known_bytes Expiry = of_bsi (3 ∷ 1 ∷ 4 ∷ 2 ∷ [])
known_bytes Community = of_bsi (3 ∷ 1 ∷ 4 ∷ 3 ∷ [])
known_bytes Sector = of_bsi (3 ∷ 1 ∷ 3 ∷ 2 ∷ [])
