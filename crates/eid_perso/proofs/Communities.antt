-- Which texts write no community.
use Rattle.std.proofs.Common.{◌≡◌, ℕ, ◌/◌, ◌<◌, List, [], ◌∷◌, length, None, Result, Ok, Err, refl, ap, arith}
use Rattle.std.specs.Prelude.{option_and_then}
use Rattle.hex.specs.Hex.{decode_of}
use Rattle.hex.specs.declared.error.FromHexError.{FromHexError}
use Rattle.hex.proofs.HexLemmas.{decode_of-ok}
use Rattle.eid_text.proofs.Decoding.{too_many}
use Rattle.eid_perso.specs.Forms.{at_least_one, community_in}

pub too_short : (text : List ℕ) → length text / 2 < 1 → community_in text ≡ None
too_short text short = by (decode_of text) refl where
  by : (r : Result (List ℕ) FromHexError) → decode_of text ≡ r → community_in text ≡ None
  by (Err e) is = rw is refl
  by (Ok []) is = rw is refl
  by (Ok (b ∷ bytes)) is = absurd (omega (arith, short, (decode_of-ok text (b ∷ bytes) is).2))

pub too_long : (text : List ℕ) → 16 < length text / 2 → community_in text ≡ None
too_long text long = ap (option_and_then at_least_one) (too_many 16 text long)
