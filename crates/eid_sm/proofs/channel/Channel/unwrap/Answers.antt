use Rattle.std.proofs.Common.{◌≡◌, ℕ, ap, sym, ◌∙◌, subst}
use Rattle.eid_apdu.specs.Command.{plain_command}
use Rattle.eid_sm.specs.Keys.{Keys, ChannelState, counter_bytes, next_counter}
use Rattle.eid_sm.specs.Commands.{IsProtected}
use Rattle.eid_sm.proofs.ProtectedFacts.{not_lacking, protected_has_objects, is_protected, sent_objects, plain_again}
use Rattle.eid_sm.proofs.channel.Channel.unwrap.Goals as goal

pub returns-in_default-clause-only : goal.returns-in_default-clause-only
returns-in_default-clause-only c = λ plain is.
    absurd (not_lacking c.args.bytes.now _ (protected_has_objects _ _ c.args.bytes.now plain is) c.in_default.ensures.lacking)

pub returns-in_default-open_objects-clause-only : goal.returns-in_default-open_objects-clause-only
returns-in_default-open_objects-clause-only c = λ plain is.
    let keys : Keys = record { enc = c.self.inside.enc; mac = c.self.inside.mac } in
    let n : ℕ = next_counter c.self.inside.counter in
    let here : IsProtected keys n c.args.bytes.now plain = subst (λ (s : ChannelState). IsProtected s.keys (next_counter s.counter) c.args.bytes.now plain) (sym c.self.view_is) is in
    let count : c.counter_bytes-count.result ≡ counter_bytes n = c.counter_bytes-count.ensures ∙ ap counter_bytes c.next_counter-counter.ensures in
    let sent = c.in-Some.ensures.only _ (protected_has_objects keys n c.args.bytes.now plain here) in
    let objects = sent_objects keys n c.args.bytes.now plain (plain_command c.in-Some.sent) here sent in
    absurd (c.in_default-open_objects.not-Some plain.ne (c.open_objects.ensures.only plain.body plain.ne here.octets (rw count objects)).0)

pub returns-in_default-open_objects-clause-missing : goal.returns-in_default-open_objects-clause-missing
returns-in_default-open_objects-clause-missing c =
    (λ wrong. absurd (cc), λ lacks. absurd (not_lacking c.args.bytes.now _ c.in-Some.ensures.found lacks))

pub returns-clause-found : goal.returns-clause-found
returns-clause-found c =
    let keys : Keys = record { enc = c.self.inside.enc; mac = c.self.inside.mac } in
    let n : ℕ = next_counter c.self.inside.counter in
    let count : c.counter_bytes-count.result ≡ counter_bytes n = c.counter_bytes-count.ensures ∙ ap counter_bytes c.next_counter-counter.ensures in
    let told = c.in-Some-open_objects.ensures in
    rw (← c.self.view_is)
    (is_protected keys n c.args.bytes.now c.open_objects.new.body.items (plain_command c.in-Some.sent) c.in-Some-open_objects.ne c.in-Some.ensures.found told.octets (rw count at told.found))

pub returns-clause-only : goal.returns-clause-only
returns-clause-only c = λ plain is.
    let keys : Keys = record { enc = c.self.inside.enc; mac = c.self.inside.mac } in
    let n : ℕ = next_counter c.self.inside.counter in
    let here : IsProtected keys n c.args.bytes.now plain = subst (λ (s : ChannelState). IsProtected s.keys (next_counter s.counter) c.args.bytes.now plain) (sym c.self.view_is) is in
    let count : c.counter_bytes-count.result ≡ counter_bytes n = c.counter_bytes-count.ensures ∙ ap counter_bytes c.next_counter-counter.ensures in
    let sent = c.in-Some.ensures.only _ (protected_has_objects keys n c.args.bytes.now plain here) in
    let objects = sent_objects keys n c.args.bytes.now plain (plain_command c.in-Some.sent) here sent in
    let opened = c.in-Some-open_objects.ensures.only plain.body plain.ne here.octets (rw count objects) in
    let length : c.in-Some-open_objects.ne ≡ plain.ne = let same = opened.0 in cc in
    plain_again keys n c.args.bytes.now c.open_objects.new.body.items plain (plain_command c.in-Some.sent) c.in-Some-open_objects.ne here sent opened.1 length

pub returns-clause-missing : goal.returns-clause-missing
returns-clause-missing c =
    (λ wrong. absurd (cc), λ lacks. absurd (not_lacking c.args.bytes.now _ c.in-Some.ensures.found lacks))
