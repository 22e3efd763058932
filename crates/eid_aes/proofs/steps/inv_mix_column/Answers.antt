use Rattle.std.proofs.Common.{refl, arith, ◌∙◌}
use Rattle.eid_aes.proofs.InverseFacts.{inverse_column}
use Rattle.eid_aes.proofs.steps.inv_mix_column.Goals as goal

pub returns : goal.returns
returns c =
    c.to_le_bytes.ensures ∙ inverse_column c.args.a c.args.b c.args.c c.args.d _ (omega arith) (omega arith) (omega arith) (omega arith) refl
