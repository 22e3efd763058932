-- Bytes are those of at most one reply: the status is in the last two.
use Rattle.std.proofs.Common.{◌≡◌, ℕ, ◌/◌, ◌%◌, List, length, take, drop, sym, ap, ◌∙◌, arith, length-append}
use Rattle.std.proofs.Math.Seq.{take-append_seam, drop-append_seam}
use Rattle.eid_apdu.specs.Answer.{PlainReply, IsReply, status_bytes, spelled}

abbrev reply_of : List ℕ → ℕ → PlainReply
reply_of content status = record { content = content; status = status }

pub one_reply : (r s : PlainReply) → spelled r ≡ spelled s → IsReply r → IsReply s → r ≡ s
one_reply r s e p q =
    let size : length r.content ≡ length s.content =
    omega (arith, ap length e, length-append r.content (status_bytes r.status), length-append s.content (status_bytes s.status)) in
    let content : r.content ≡ s.content =
    sym (take-append_seam r.content (status_bytes r.status)) ∙ ap (λ (b : List ℕ). take (length r.content) b) e
    ∙ ap (λ n. take n (spelled s)) size ∙ take-append_seam s.content (status_bytes s.status) in
    let ends : status_bytes r.status ≡ status_bytes s.status =
    sym (drop-append_seam r.content (status_bytes r.status)) ∙ ap (λ (b : List ℕ). drop (length r.content) b) e
    ∙ ap (λ n. drop n (spelled s)) size ∙ drop-append_seam s.content (status_bytes s.status) in
    let high : r.status / 256 ≡ s.status / 256 = cc in
    let low : r.status % 256 ≡ s.status % 256 = cc in
    let status : r.status ≡ s.status = omega arith in
    let whole : reply_of r.content r.status ≡ reply_of s.content s.status = cc in
    whole
