-- No byte, one, or more, of which the first one tells the case.
use Rattle.std.proofs.Common.{◌≡◌, ℕ, List, get_or, sym, subst, arith}
use Rattle.std.specs.Prelude.{OnErr}
use Rattle.eid_apdu.specs.Command.{IsTail}
use Rattle.eid_apdu.proofs.Tails.{first_rest, bare_tail, le_tail}
use Rattle.eid_apdu.proofs.command.read_tail.Goals as goal

pub returns-in-empty-clause-found : goal.returns-in-empty-clause-found
returns-in-empty-clause-found c = bare_tail c.args.bytes.now c.in-empty.len_below

pub returns-in-len1-clause-found : goal.returns-in-len1-clause-found
returns-in-len1-clause-found c =
    le_tail c.args.bytes.now c.short_expected.result c.in-len1.len_at_least c.in-len1.len_below c.short_expected.ensures.value c.short_expected.ensures.range

pub returns-in-0-clause-refused : goal.returns-in-0-clause-refused
returns-in-0-clause-refused c =
    let zero : get_or c.args.bytes.now 0 0 ≡ 0 = omega arith in
    let whole = rw zero at (first_rest c.args.bytes.now (omega arith)) in
    subst (λ (b : List ℕ). OnErr c.read_extended.result ((body : List ℕ) (ne : ℕ) → IsTail b body ne → ⊥)) (sym whole) c.read_extended.ensures.refused

pub returns-in-len1-up-clause-refused : goal.returns-in-len1-up-clause-refused
returns-in-len1-up-clause-refused c =
    subst (λ (b : List ℕ). OnErr c.read_body.result ((body : List ℕ) (ne : ℕ) → IsTail b body ne → ⊥)) (sym (first_rest c.args.bytes.now (omega arith))) c.read_body.ensures.refused
