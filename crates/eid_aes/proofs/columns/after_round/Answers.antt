use Rattle.eid_aes.proofs.ColumnFacts.{round_state}
use Rattle.eid_aes.proofs.columns.after_round.Goals as goal

pub returns : goal.returns
returns c = round_state c.args.s c.args.schedule.now c.args.round _ _ _ _ _ _ _ _ c.column_at.ensures c.column_at-2.ensures c.column_at-3.ensures c.column_at-4.ensures
    c.round_column.ensures c.round_column-2.ensures c.round_column-3.ensures c.round_column-4.ensures
