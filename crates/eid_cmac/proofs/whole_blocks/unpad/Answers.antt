use Rattle.std.proofs.Common.{◌≡◌, ℕ, ◌-◌, length, get_or, Some, arith, sym, ap, ◌∙◌}
use Rattle.eid_cmac.proofs.PaddingFacts.{padded_at, padded_once, none_padded}
use Rattle.eid_cmac.proofs.whole_blocks.unpad.Goals as goal
use Rattle.eid_cmac.proofs.whole_blocks.unpad.Goals.{else-bytes-end-via-then-bytes-end+else-bytes-end-le16, else-bytes-end-via-else-bytes-end}

-- the mark stands at the padding's place
pub returns-then-bytes-end-le16-clause-only : goal.returns-then-bytes-end-le16-clause-only
returns-then-bytes-end-le16-clause-only c = λ message e.
    let p = padded_at c.args.bytes.now message e in
    let end : ℕ = c.loop-end.end - 1 in
    let mark : get_or c.args.bytes.now (c.loop-end.end - 1) 0 ≡ 0x80 = c.if-bytes-end.true in
    let same : c.loop-end.end - 1 ≡ length message = padded_once c.args.bytes.now (length message) (c.loop-end.end - 1) p
    (λ none. let no : ◌≡◌ {A = ℕ} 0x80 0 = sym mark ∙ none in absurd (omega arith)) (λ i h. c.loop-end.invariant i (omega arith)) in
    ap Some same

-- the last byte that is not 00 is no mark
pub returns-then-bytes-end-ne0-clause-only : goal.returns-then-bytes-end-ne0-clause-only
returns-then-bytes-end-ne0-clause-only c = λ message e.
    let p = padded_at c.args.bytes.now message e in
    let same : c.loop-end.end - 1 ≡ length message = padded_once c.args.bytes.now (length message) (c.loop-end.end - 1) p
    c.if-bytes-end-ne0.true (λ i h. c.loop-end.invariant i (omega arith)) in
    let mark : get_or c.args.bytes.now (c.loop-end.end - 1) 0 ≡ 0x80 = rw same p.mark in
    absurd (elim c.else-bytes-end.branch [
      | else-bytes-end-via-then-bytes-end+else-bytes-end-le16 w ↦ omega (arith, w.if-bytes-end-le16.false, p.close)
      | else-bytes-end-via-else-bytes-end w ↦ w.if-bytes-end.false mark
    ])

-- all bytes are 00
pub returns-clause-only : goal.returns-clause-only
returns-clause-only c = λ message e.
    none_padded c.args.bytes.now (length message) (padded_at c.args.bytes.now message e) (λ i. c.loop-end.invariant i (omega arith))
