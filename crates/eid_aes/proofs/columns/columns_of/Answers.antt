use Rattle.eid_aes.proofs.ColumnFacts.{columns_of_block}
use Rattle.eid_aes.proofs.columns.columns_of.Goals as goal

pub returns : goal.returns
returns c = columns_of_block c.args.block.now _ _ _ _ c.told-block c.column_at.ensures c.column_at-2.ensures c.column_at-3.ensures c.column_at-4.ensures
