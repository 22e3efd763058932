use Rattle.std.proofs.Common.{◌≡◌, Some, ap, ◌∙◌}
use Rattle.std.specs.List.{flat_map}
use Rattle.eid_record.specs.Layout.{replaced, laid, length_bytes, trust_point_pieces, fixed_bytes}
use Rattle.eid_record.specs.View.{record_view}
use Rattle.eid_record.proofs.Again.{fixed_bytes_again}
use Rattle.eid_record.proofs.writing.write_record.Goals as goal

written : (c : goal.After-put_lengths) → c.put_lengths.new.fixed ≡ fixed_bytes (record_view c.args.kept.now)
unfolding fixed_bytes
written c =
    let r = record_view c.args.kept.now in
    c.put_lengths.ensures ∙ ap (replaced 384 (flat_map length_bytes r.lengths)) (
    c.put-2.ensures ∙ ap (replaced 352 r.ri_secret) (
    c.put.ensures ∙ ap (replaced 320 r.ca_secret) (
    c.put_optional_point.ensures ∙ ap (laid (trust_point_pieces 192 r.previous)) (
    c.put_trust_point.ensures ∙ ap (laid (trust_point_pieces 64 (Some r.current))) c.put_values.ensures.pieces))))

pub returns-clause-bytes : goal.returns-clause-bytes
returns-clause-bytes c = written c

pub returns-clause-again : goal.returns-clause-again
returns-clause-again c = rw (written c) (fixed_bytes_again (record_view c.args.kept.now) c.put_values.ensures.number c.requires)
