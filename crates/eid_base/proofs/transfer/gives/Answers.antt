use Rattle.std.proofs.Common.{◌≡◌, ℕ, ◌-◌, List, ◌++◌, length, take, drop, sym, ap, ◌∙◌, append_assoc, refl}
use Rattle.std.proofs.lemmas.Bool.Decides.{Decides-eqb}
use Rattle.std.proofs.lemmas.List.{take_rest, length-take-le}
use Rattle.std.proofs.lemmas.Slice.Eq.{starts_is}
use Rattle.std.proofs.KnownBytes.{Consumes-trans}
use Rattle.eid_base.proofs.transfer.gives.Goals as goal

moves_front : (all done rest piece : List ℕ) (n : ℕ) → all ≡ done ++ rest → length piece ≡ n → rest ≡ piece ++ drop (length piece) rest → all ≡ (done ++ piece) ++ take (length rest - n) (drop n rest)
moves_front all done rest piece n split long begins =
    let begins : rest ≡ piece ++ drop n rest = rw (← long) begins in
    split ∙ ap (λ (l : List ℕ). done ++ l) begins ∙ sym (append_assoc done piece (drop n rest)) ∙ ap (λ (l : List ℕ). (done ++ piece) ++ l) (sym (take_rest rest n))

pub loop-rest-preserved : goal.loop-rest-preserved
loop-rest-preserved g c =
    let (done, split, given) = c.loop-rest.invariant in
    let rest = c.loop-rest.rest.now in
    let n = c.in-Some.count in
    let piece = take n c.read_some.new.into in
    let begins = (starts_is Decides-eqb rest piece _ c.if-starts_with.ensures.value).0 refl in (
      done ++ piece,
      moves_front _ done rest piece n split (length-take-le n c.read_some.new.into c.in-Some.ensures.some.0) begins,
      Consumes-trans _ _ _ _ _ given c.in-Some.ensures.some.1,
    )
