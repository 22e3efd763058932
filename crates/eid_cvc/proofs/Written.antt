-- What is written is a certificate.
use Rattle.std.proofs.Common.{◌≡◌, ℕ, List, [], ◌∷◌, length, Option, Some, None, refl, arith}
use Rattle.std.specs.Prelude.{option_and_then}
use Rattle.eid_cvc.specs.Certificates.{PlainBody, IsBody, IsCertificate}
use Rattle.eid_cvc.specs.Extensions.{AreHashes, AreHashesIn, sector_data}
use Rattle.eid_cvc.specs.PublicKeys.{no_domain}
use Rattle.eid_cvc.specs.Writing.{certificate_with, extra_written, written_body, written_certificate}
use Rattle.eid_cvc.proofs.Sizes.{value_size}

-- the hashes that the extension gives are those that it was written with
hashes_again : (hashes : List (Option (List ℕ))) → AreHashes hashes → AreHashesIn (option_and_then sector_data (extra_written hashes)) hashes
hashes_again [] are = absurd (omega (arith, are.two))
hashes_again (one ∷ []) are = absurd (omega (arith, are.two))
hashes_again (None ∷ None ∷ []) are = refl
hashes_again (None ∷ Some second ∷ []) are = (are, refl)
hashes_again (Some first ∷ second ∷ []) are = (are, refl)
hashes_again (one ∷ two ∷ three ∷ more) are = absurd (omega (arith, are.two))

pub certificate_again : (b : PlainBody) (signature : List ℕ) → IsBody b → length signature ≡ 64
    → IsCertificate (written_certificate b signature) (certificate_with b signature)
unfolding written_body written_certificate
certificate_again b signature is signed = record {
  domain = no_domain;
  extra = extra_written b.sectors;
  valid = is;
  size = omega (arith, value_size b is);
  sectors = hashes_again b.sectors is.sectors;
  signature = signed;
  whole = refl;
  spelled = refl;
}
