-- Inside: what contracts see of parts of certificates. Only private functions cite these.
use Rattle.std.specs.Prelude.{ℕ, List, Option, Some, None, if◌then◌else◌}
use Rattle.std.specs.Str.{bytes_eq}
use Rattle.eid_bits.specs.Dates.{date_digits}
use Rattle.eid_bits.specs.Identifiers.{known_bytes}
use Rattle.eid_bits.specs.Template.{template_bytes}
use Rattle.eid_bits.specs.declared.identifier.Known.TheVariants.{Sector}
use Rattle.eid_cvc.specs.Certificates.{PlainBody}
use Rattle.eid_cvc.specs.CertificateIn.{PlainHash, PlainHolder}
use Rattle.eid_cvc.specs.Fronts.{PlainFront}
use Rattle.eid_cvc.specs.declared.extensions.MaybeHash.{MaybeHash}
use Rattle.eid_cvc.specs.declared.reading.DateAtFront.{DateAtFront}
use Rattle.eid_cvc.specs.declared.reading.Holder.{Holder}
use Rattle.eid_cvc.specs.declared.reading.BodyRead.{BodyRead}

-- the data found before, or those of an extension, its identifier and what stands behind, where it is for terminal sectors
abbrev pub first_sector : Option (List ℕ) → PlainFront → Option (List ℕ)
first_sector (Some data_objects) extension = Some data_objects
first_sector None extension = if bytes_eq extension.value (known_bytes Sector) then Some extension.rest else None

abbrev pub hash_view : MaybeHash → PlainHash
hash_view h = record { hash = h.hash; rest = h.rest.now }

abbrev pub date_view : DateAtFront → PlainFront
date_view d = record { value = date_digits d.date; rest = d.rest.now }

abbrev pub holder_view : Holder → PlainHolder
holder_view h = record {
  name = h.name.now;
  template = template_bytes h.template;
  effective = date_digits h.effective;
  expiry = date_digits h.expiry;
  sectors = h.sectors;
}

abbrev pub body_read_view : BodyRead → PlainBody
body_read_view b = record {
  issuer = b.issuer.now;
  key = b.key;
  holder = b.holder.name.now;
  template = template_bytes b.holder.template;
  effective = date_digits b.holder.effective;
  expiry = date_digits b.holder.expiry;
  sectors = b.holder.sectors;
}
