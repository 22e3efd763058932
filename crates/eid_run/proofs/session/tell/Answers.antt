-- The line that a deed is told by is that of its move, whatever command was written.
use Rattle.std.proofs.Common.{◌≡◌, ◌==◌, ◌++◌, true, List, [], ◌∷◌, ℕ, length, IsTrue, sym, subst, ◌∙◌, append-nil, arith}
use Rattle.std.specs.Prelude.{OnOk, OnErr}
use Rattle.std.proofs.lemmas.Bool.{eqb-true}
use Rattle.eid_base.specs.Seen.{Grew, GrewByPart}
use Rattle.eid_run.proofs.session.tell.Goals as goal

no_line : (written line : List ℕ) → (length line == 0) ≡ true → written ≡ written ++ line
no_line written [] is = sym (append-nil written)
no_line written (x ∷ rest) is = let none : length (x ∷ rest) ≡ 0 = eqb-true (length (x ∷ rest)) 0 is in absurd (omega (arith, none))

pub returns-clause-whole : goal.returns-clause-whole
returns-clause-whole g c = λ message.
    let old = g.K.Sink.seen c.args.out.now in
    let new = g.K.Sink.seen c.print.new.out in
    subst (λ (l : List ℕ). OnOk c.print.result (IsTrue old.tells → Grew old.written new.written l)) (c.in-Ok.ensures message) c.print.ensures.whole

pub returns-clause-part : goal.returns-clause-part
returns-clause-part g c = λ message.
    let old = g.K.Sink.seen c.args.out.now in
    let new = g.K.Sink.seen c.print.new.out in
    subst (λ (l : List ℕ). OnErr c.print.result (IsTrue old.tells → GrewByPart old.written new.written l)) (c.in-Ok.ensures message) c.print.ensures.part

pub returns-then-is_empty-clause-whole : goal.returns-then-is_empty-clause-whole
returns-then-is_empty-clause-whole g c = λ message tells.
    let written = (g.K.Sink.seen c.args.out.now).written in
    subst (λ (l : List ℕ). written ≡ written ++ l) (c.as_bytes.ensures ∙ c.in-Ok.ensures message) (no_line written c.as_bytes.result.now (sym c.is_empty.ensures ∙ c.if-is_empty.true))
