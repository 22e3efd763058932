-- A number up to 1,000 has few digits.
use Rattle.std.proofs.Common.{◌≡◌, length, arith, rules}
use Rattle.std.specs.Prelude.{decimal}
use Rattle.eid_workload.proofs.Generating.{few_digits}
use Rattle.eid_workload.proofs.generated.config_of.Goals as goal

pub record_of-requires-clause-few : goal.record_of-requires-clause-few
record_of-requires-clause-few c =
    let is : c.len.result ≡ length (decimal c.args.number) = search rules in
    omega (arith, is, few_digits c.args.number c.requires)
