-- The plain copies of the code's values.
use Rattle.std.specs.Option.{option_map}
use Rattle.eid_bits.specs.Template.{template_bytes}
use Rattle.eid_bits.specs.Dates.{date_digits}
use Rattle.eid_record.specs.declared.fields.TrustPoint.{TrustPoint}
use Rattle.eid_record.specs.declared.fields.Record.{Record}
use Rattle.eid_record.specs.Plain.{PlainTrustPoint, PlainRecord}

abbrev pub trust_point_view : TrustPoint → PlainTrustPoint
trust_point_view t = record { name = t.name.items; template = template_bytes t.template; key = t.key }

abbrev pub record_view : Record → PlainRecord
record_view r = record {
  number = r.number;
  tries = r.tries;
  unblocks = r.unblocks;
  active = r.active;
  pin = r.pin;
  can = r.can;
  puk = r.puk;
  date = date_digits r.date;
  current = trust_point_view r.current;
  previous = option_map trust_point_view r.previous;
  ca_secret = r.ca_secret;
  ri_secret = r.ri_secret;
  lengths = r.lengths;
}
