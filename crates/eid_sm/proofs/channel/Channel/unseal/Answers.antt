use Rattle.std.proofs.Common.{◌≡◌, List, ℕ, refl, ap, ◌∙◌, subst}
use Rattle.eid_sm.specs.Keys.{counter_bytes, next_counter}
use Rattle.eid_sm.specs.Replies.{HasNoMac}
use Rattle.eid_sm.proofs.SealedFacts.{is_sealed, is_bare, sealed_has_mac}
use Rattle.eid_sm.proofs.channel.Channel.unseal.Goals as goal

pub returns-then-has_no_mac-clause-only : goal.returns-then-has_no_mac-clause-only
returns-then-has_no_mac-clause-only c = λ r is.
    let state = c.args.self.now in
    let split = c.in-Some.ensures.only _ r.status is.written in
    absurd (sealed_has_mac state.keys.enc state.keys.mac (counter_bytes (next_counter state.counter)) r.content r.status is.reply.content
    (subst (λ (s : List ℕ). HasNoMac s) split.0 (c.has_no_mac.ensures.0 c.if-has_no_mac.true)))

pub returns-then-has_no_mac-clause-missing : goal.returns-then-has_no_mac-clause-missing
returns-then-has_no_mac-clause-missing c = (
  λ same. is_bare c.args.bytes.now c.in-Some.objects.now c.in-Some.status c.in-Some.ensures.found c.in-Some.ensures.range c.if-objects-le-MAX_CONTENT.true
      (c.has_no_mac.ensures.0 c.if-has_no_mac.true),
  λ bare. refl,
)

pub returns-clause-found : goal.returns-clause-found
returns-clause-found c =
    let n : ℕ = next_counter c.self.inside.counter in
    let count : c.counter_bytes-count.result ≡ counter_bytes n = c.counter_bytes-count.ensures ∙ ap counter_bytes c.next_counter-counter.ensures in
    let told = c.if-not-open_reply.ensures in
    rw (← c.self.view_is)
    (is_sealed _ n c.args.bytes.now c.in-Some.objects.now c.open_reply.new.content.items c.in-Some.status c.in-Some.ensures.found c.in-Some.ensures.range
    told.size told.octets (rw count at told.found))
