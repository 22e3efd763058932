use Rattle.std.proofs.Common.{List, ℕ, get_or, ap, ◌∙◌}
use Rattle.eid_aes.specs.Field.{sub}
use Rattle.eid_aes.proofs.ColumnFacts.{last_sum}
use Rattle.eid_aes.proofs.columns.last_column.Goals as goal

pub returns : goal.returns
returns c =
    last_sum c.args.a c.args.b c.args.c c.args.d c.args.key c.from_le_bytes.result c.sub.result c.sub-2.result c.sub-3.result c.sub-4.result c.from_le_bytes.ensures
    (c.sub.ensures ∙ ap (λ (l : List ℕ). sub (get_or l 0 0)) c.to_le_bytes.ensures) (c.sub-2.ensures ∙ ap (λ (l : List ℕ). sub (get_or l 1 0)) c.to_le_bytes-2.ensures)
    (c.sub-3.ensures ∙ ap (λ (l : List ℕ). sub (get_or l 2 0)) c.to_le_bytes-3.ensures) (c.sub-4.ensures ∙ ap (λ (l : List ℕ). sub (get_or l 3 0)) c.to_le_bytes-4.ensures)
