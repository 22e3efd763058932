use Rattle.std.proofs.Common.{ℕ, subst}
use Rattle.eid_tlv.specs.Reading.{BeginsWith}
use Rattle.eid_sm.proofs.LeFacts.{none_first, one_first}
use Rattle.eid_sm.proofs.commands.split_encrypted.Goals as goal

pub returns-in_default-clause-only : goal.returns-in_default-clause-only
returns-in_default-clause-only c = λ key count p rest ne says e.
    none_first key count p rest c.args.objects.now c.requires e (λ v after begins. c.in_default.ensures.only 0x87 v after begins)

pub returns-then-object-ne135-clause-only : goal.returns-then-object-ne135-clause-only
returns-then-object-ne135-clause-only c = λ key count p rest ne says e.
    none_first key count p rest c.args.objects.now c.requires e (λ v after begins. c.if-object-ne135.true (c.in-Ok.ensures.only 0x87 v after begins).0)

pub returns-clause-only : goal.returns-clause-only
returns-clause-only c = λ key count p rest ne says e.
    let begins = subst (λ (t : ℕ). BeginsWith c.args.objects.now t c.in-Ok.object.value.now c.in-Ok.rest.now) c.if-object-ne135.false c.in-Ok.ensures.found in
    let parts = one_first key count p rest c.args.objects.now c.in-Ok.object.value.now c.in-Ok.rest.now ne says c.requires e begins in
    rw (c.split_at.ensures.front, c.split_at.ensures.back) parts
