-- The request at the place, or the end.
use Rattle.std.proofs.Common.{ap, refl, sym, ◌∙◌, []}
use Rattle.eid_sm.specs.declared.channel.Header.{Header}
use Rattle.eid_terminal.specs.Commands.{command}
use Rattle.eid_terminal.specs.Plans.{plan_view}
use Rattle.eid_terminal.specs.Requests.{command_for, requests}
use Rattle.eid_terminal.proofs.Coming.{did_at}
use Rattle.eid_terminal.proofs.RequestSteps.{from_behind, is_there, low_number, none_left, request_waits}
use Rattle.eid_terminal.proofs.requests.ask.Goals as goal

pub returns-in_default : goal.returns-in_default
returns-in_default c heard =
    let plan = plan_view c.args.plan.now in
    did_at plan _ _ _ (ap (λ left. requests plan c.args.place left c.args.channel.now) (from_behind plan.requests c.args.place (sym c.in_default.ensures)) ∙ none_left plan c.args.place c.args.channel.now)
    (record { left = refl; move = refl; octets = tt; sound = tt })

pub read-requires : goal.read-requires
read-requires c =
    let plan = plan_view c.args.plan.now in
    low_number plan.sector c.in-Some.request c.in-File.number c.in-File.is (is_there plan c.args.place c.in-Some.request c.requires (sym c.in-Some.ensures)).1

pub returns-in-File : goal.returns-in-File
returns-in-File c heard =
    let plan = plan_view c.args.plan.now in
    let found = sym c.in-Some.ensures in
    did_at plan _ _ _ (request_waits plan c.args.place c.in-Some.request c.args.channel.now found)
    (c.send.ensures plan _ (ap (λ (h : Header). command h.cla h.ins h.p1 h.p2 [] h.ne) c.read.ensures ∙ ap command_for (sym c.in-File.is)) (is_there plan c.args.place c.in-Some.request c.requires found))

pub returns-in-Age : goal.returns-in-Age
returns-in-Age c heard =
    let plan = plan_view c.args.plan.now in
    let found = sym c.in-Some.ensures in
    did_at plan _ _ _ (request_waits plan c.args.place c.in-Some.request c.args.channel.now found)
    (c.send-in-Age.ensures plan _ (ap (λ b. command 0x80 0x20 0x80 0x00 b 0) (c.deref.ensures.0 ∙ c.verification.ensures) ∙ ap command_for (sym c.in-Age.is)) (is_there plan c.args.place c.in-Some.request c.requires found))

pub returns-in-Validity : goal.returns-in-Validity
returns-in-Validity c heard =
    let plan = plan_view c.args.plan.now in
    let found = sym c.in-Some.ensures in
    did_at plan _ _ _ (request_waits plan c.args.place c.in-Some.request c.args.channel.now found)
    (c.send-in-Validity.ensures plan _ (ap (λ b. command 0x80 0x20 0x80 0x00 b 0) (c.deref-in-Validity.ensures.0 ∙ c.verification-in-Validity.ensures) ∙ ap command_for (sym c.in-Validity.is)) (is_there plan c.args.place c.in-Some.request c.requires found))

pub returns-in-Community : goal.returns-in-Community
returns-in-Community c heard =
    let plan = plan_view c.args.plan.now in
    let found = sym c.in-Some.ensures in
    did_at plan _ _ _ (request_waits plan c.args.place c.in-Some.request c.args.channel.now found)
    (c.send-in-Community.ensures plan _ (ap (λ b. command 0x80 0x20 0x80 0x00 b 0) (c.deref-in-Community.ensures.0 ∙ c.verification-in-Community.ensures) ∙ ap command_for (sym c.in-Community.is)) (is_there plan c.args.place c.in-Some.request c.requires found))

pub returns-in-Ri : goal.returns-in-Ri
returns-in-Ri c heard =
    let plan = plan_view c.args.plan.now in
    let found = sym c.in-Some.ensures in
    did_at plan _ _ _ (request_waits plan c.args.place c.in-Some.request c.args.channel.now found)
    (c.send-in-Ri.ensures plan _ (ap (λ b. command 0x00 0x22 0x41 0xA4 b 0) (c.deref-in-Ri.ensures.0 ∙ c.protocol_selection.ensures) ∙ ap command_for (sym c.in-Ri.is)) (is_there plan c.args.place c.in-Some.request c.requires found))
