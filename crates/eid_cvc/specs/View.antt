-- What contracts see of certificates.
use Rattle.eid_bits.specs.Dates.{date_digits}
use Rattle.eid_bits.specs.Template.{template_bytes}
use Rattle.eid_cvc.specs.Certificates.{PlainBody, PlainCertificate}
use Rattle.eid_cvc.specs.declared.certificate.Certificate.{Certificate}
use Rattle.eid_cvc.specs.declared.certificate.CertificateBody.{CertificateBody}

abbrev pub body_view : CertificateBody → PlainBody
body_view b = record {
  issuer = b.issuer.items;
  key = b.key;
  holder = b.holder.items;
  template = template_bytes b.template;
  effective = date_digits b.effective;
  expiry = date_digits b.expiry;
  sectors = b.sectors;
}

abbrev pub certificate_view : Certificate → PlainCertificate
certificate_view c = record {
  whole = c.whole.now;
  body = record {
    issuer = c.issuer.now;
    key = c.key;
    holder = c.holder.now;
    template = template_bytes c.template;
    effective = date_digits c.effective;
    expiry = date_digits c.expiry;
    sectors = c.sectors;
  };
  signature = c.signature;
}
