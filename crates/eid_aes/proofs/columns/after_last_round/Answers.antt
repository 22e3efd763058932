use Rattle.eid_aes.proofs.ColumnFacts.{last_state}
use Rattle.eid_aes.proofs.columns.after_last_round.Goals as goal

pub returns : goal.returns
returns c = last_state c.args.s c.args.schedule.now c.args.round _ _ _ _ _ _ _ _ c.column_at.ensures c.column_at-2.ensures c.column_at-3.ensures c.column_at-4.ensures
    c.last_column.ensures c.last_column-2.ensures c.last_column-3.ensures c.last_column-4.ensures
