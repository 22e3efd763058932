-- A text says one number alone.
use Rattle.std.proofs.Common.{◌≡◌, sym, ◌∙◌, arith}
use Rattle.std.proofs.lemmas.Fmt.{decimal_injective}
use Rattle.eid.proofs.words.sessions_in.Goals.{then-count-lt1-via-then-count-lt1, then-count-lt1-via-else-count-lt1+then-count-gt-MOST_SESSIONS}
use Rattle.eid.proofs.words.sessions_in.Goals as goal

pub returns-then-count-lt1-clause-none : goal.returns-then-count-lt1-clause-none
returns-then-count-lt1-clause-none c = λ n some few is.
    let said = rw c.in-Some.is at c.in_ok-count.ensures.found in
    let same : c.in-Some.count ≡ n = decimal_injective c.in-Some.count n said.0 (omega (arith, few)) (sym said.1 ∙ is) in
    elim c.then-count-lt1.branch [
      | then-count-lt1-via-then-count-lt1 w ↦ absurd (omega (arith, same, some, w.if-count-lt1.true))
      | then-count-lt1-via-else-count-lt1+then-count-gt-MOST_SESSIONS w ↦ absurd (omega (arith, same, few, w.if-count-gt-MOST_SESSIONS.true))
    ]
