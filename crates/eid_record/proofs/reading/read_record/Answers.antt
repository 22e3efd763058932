use Rattle.std.proofs.Common.{◌≡◌, ℕ, List, Result, Ok, Err, length}
use Rattle.std.specs.Prelude.{IfOk}
use Rattle.eid_record.specs.declared.fields.Record.{Record}
use Rattle.eid_record.specs.declared.reading.BadRecord.{BadRecord}
use Rattle.eid_record.specs.Reading.{Reads, record_in}
use Rattle.eid_record.specs.Valid.{IsValid}
use Rattle.eid_record.specs.View.{record_view}
use Rattle.eid_record.proofs.ReadValid.{record_in-valid}
use Rattle.eid_record.proofs.reading.read_record.Goals as goal

valid : (w : List ℕ) (r : Result Record BadRecord) → length w ≡ 448 → Reads record_view r (record_in w) → IfOk r (λ x. IsValid (record_view x))
valid w (Ok x) long reads = record_in-valid w (record_view x) long reads
valid w (Err e) long reads = tt

pub returns-clause-valid : goal.returns-clause-valid
returns-clause-valid c = valid c.args.fixed.now c.fields.result c.told-fixed c.fields.ensures
