use Rattle.std.proofs.Common.{List, ℕ, ◌++◌, arith, ap, ◌∙◌, sym}
use Rattle.eid_sm.specs.Parts.{mac_object}
use Rattle.eid_sm.proofs.Lengths.{length-mac_object}
use Rattle.eid_sm.proofs.Ends.{size_with_end, before_end}
use Rattle.eid_sm.proofs.reading.without_mac.Goals as goal

pub returns-then-bytes-lt10-clause-only : goal.returns-then-bytes-lt10-clause-only
returns-then-bytes-lt10-clause-only g c = λ objects e.
    let object : List ℕ = mac_object c.args.mac.now c.args.start.now objects in
    absurd (omega (arith, c.if-bytes-lt10.true, size_with_end c.args.bytes.now objects object e, length-mac_object c.args.mac.now c.args.start.now objects))

pub returns-clause-only : goal.returns-clause-only
returns-clause-only g c = λ objects e.
    let before = before_end c.args.bytes.now objects _ 10 e (length-mac_object c.args.mac.now c.args.start.now objects) in
    let same = c.mac_bytes-object.ensures ∙ ap (λ (s : List ℕ). mac_object c.args.mac.now c.args.start.now s) before in
    c.without_end.ensures.only objects (e ∙ ap (λ s. objects ++ s) (sym same))
