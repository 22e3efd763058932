use Rattle.eid_aes.proofs.ColumnFacts.{added_state}
use Rattle.eid_aes.proofs.columns.add_round_key.Goals as goal

pub returns : goal.returns
returns c = added_state c.args.s c.args.schedule.now c.args.round _ _ _ _ c.column_at.ensures c.column_at-2.ensures c.column_at-3.ensures c.column_at-4.ensures
