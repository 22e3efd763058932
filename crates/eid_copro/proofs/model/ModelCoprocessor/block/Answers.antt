use Rattle.std.proofs.Common.{◌≡◌, ℕ, List, ◌++◌, ap, ◌∙◌}
use Rattle.std.specs.Int.{w64, to_be_bytes}
use Rattle.sha2.specs.Sha256.{sha256}
use Rattle.eid_copro.specs.Model.{random_block, blocks_drawn}
use Rattle.eid_copro.specs.ModelSeen.{model_seen}
use Rattle.eid_copro.proofs.model.ModelCoprocessor.block.Goals as goal

is_block : (start drawn number : ℕ) (first second result : List ℕ) → result ≡ sha256 (first ++ second) → first ≡ to_be_bytes w64 start
    → second ≡ to_be_bytes w64 drawn → drawn ≡ number → result ≡ random_block start number
unfolding random_block
is_block start drawn number first second result is first_is second_is same =
    is ∙ ap (λ s. sha256 (s ++ second)) first_is ∙ ap (λ s. sha256 (to_be_bytes w64 start ++ s)) (second_is ∙ ap (to_be_bytes w64) same)

pub returns : goal.returns
returns c =
    let model = c.args.self.now in
    is_block model.start model.drawn (blocks_drawn (model_seen model).log) c.to_be_bytes.result c.to_be_bytes-2.result c.digest.result
    c.digest.ensures c.to_be_bytes.ensures c.to_be_bytes-2.ensures model.counted
