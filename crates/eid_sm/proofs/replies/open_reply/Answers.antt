use Rattle.std.proofs.Common.{◌≡◌, length, ap, arith}
use Rattle.eid_sm.proofs.Lengths.{length-sealed_objects}
use Rattle.eid_sm.proofs.replies.open_reply.Goals as goal

pub returns-then-objects-gt-MAX_MESSAGE-clause-only : goal.returns-then-objects-gt-MAX_MESSAGE-clause-only
returns-then-objects-gt-MAX_MESSAGE-clause-only g c = λ p octets short e.
    let size : length c.args.objects.now ≡ _ = ap length e in
    absurd (omega (arith, c.if-objects-gt-MAX_MESSAGE.true, length-sealed_objects c.args.enc.now c.args.mac.now c.args.count.now p c.args.status short))
