-- A fragment, the command that ends a request, and one that is refused before its kind is known.
use Rattle.std.proofs.Common.{◌≡◌, ◌∙◌, ap, sym, subst, List, ℕ, [], Some}
use Rattle.eid_base.specs.declared.codes.Rule.{Rule}
use Rattle.eid_apdu.specs.Command.{PlainCommand, plain_command}
use Rattle.eid_apdu.specs.Answer.{plain_reply}
use Rattle.eid_apdu.specs.Chaining.{Collected, request}
use Rattle.eid_model.specs.declared.kind.Kind.{Kind}
use Rattle.eid_model.specs.Kinds.{kind_named}
use Rattle.eid_chip.specs.Endings.{Ended, ended, reacted}
use Rattle.eid_chip.specs.Held.{held}
use Rattle.eid_chip.specs.declared.naming.Named.{Named}
use Rattle.eid_chip.specs.Naming.{IsLast, IsNamedAs, kind_by}
use Rattle.eid_chip.specs.States.{chained, next_of, state}
use Rattle.eid_chip.specs.Steps.{Reacts, refusal}
use Rattle.eid_chip.specs.Worlds.{world}
use Rattle.eid_chip.proofs.Outcomes.{name_refused, refused_reacts, request_answered, request_reacts}
use Rattle.eid_chip.proofs.Tries.{ending_stays, reaction_stays}
use Rattle.eid_chip.proofs.chip.react.Goals as goal

pub returns-in-Err-clause-reacts : goal.returns-in-Err-clause-reacts
returns-in-Err-clause-reacts g c =
    let kept = held (g.E.Eeprom.cells c.args.cells.now) in
    let command = plain_command c.args.c.now in
    let fragments = c.args.chain.now.pending in
    let not_named = c.in-Err.ensures.named in
    let r = reacted c.refused.result c.refused.new.session in
    refused_reacts c.args.running.now.session fragments command _ r (plain_reply c.refused.new.reply) c.close.new.self.pending (g.C.Coprocessor.seen c.args.copro.now) c.args.running.now.store _ _
    c.requires.mounted (c.uncommitted-in-Err.ensures.ended _) (ap (λ (x : Collected). x.pending) c.close.ensures)
    (λ channel.
    name_refused kept (chained fragments (state c.args.running.now.session channel)) command (refusal c.in-Err.refusal) r (plain_reply c.refused.new.reply)
    (not_named.refused kept (chained fragments (state c.args.running.now.session channel)) []) not_named.lasting.0
    (ap (λ (r : Rule). r.0) c.refused.ensures.rule) c.refused.ensures.reply (c.refused.ensures.left channel))

pub returns-in-Ok-Fragment-clause-reacts : goal.returns-in-Ok-Fragment-clause-reacts
returns-in-Ok-Fragment-clause-reacts g c =
    let w = world (g.C.Coprocessor.seen c.args.copro.now) c.args.running.now.store (g.E.Eeprom.device c.args.cells.now) (g.E.Eeprom.cells c.args.cells.now) in
    subst (λ (e : Ended). Reacts c.args.running.now.session c.args.chain.now.pending (plain_command c.args.c.now) e (plain_reply c.take_fragment.new.reply) c.take_fragment.new.chain.pending w w) (sym (c.uncommitted.ensures.ended _))
    (c.take_fragment.ensures.reacts (g.C.Coprocessor.seen c.args.copro.now) c.args.running.now.store (g.E.Eeprom.device c.args.cells.now) (g.E.Eeprom.cells c.args.cells.now) c.requires.mounted)

pub returns-in-Err-end_request-clause-reacts : goal.returns-in-Err-end_request-clause-reacts
returns-in-Err-end_request-clause-reacts g c =
    let none = c.in-Err-end_request.ensures.refused in
    let r = c.refused-in-Err-end_request in
    request_reacts c.args.running.now.session c.args.chain.now.pending (plain_command c.args.c.now) (refusal c.in-Err-end_request.refusal) _ (reacted r.result r.new.session) (plain_reply r.new.reply) c.end_request.new.chain.pending
    (g.C.Coprocessor.seen c.args.copro.now) c.args.running.now.store _ _
    c.requires.mounted (c.uncommitted-in-Err-end_request.ensures.ended _) c.end_request.ensures.closed c.in-Ok-Ends.ensures.named.passed
    none.fails none.by_a_rule (ap (λ (r : Rule). r.0) r.ensures.rule) r.ensures.reply r.ensures.left

pub returns-clause-reacts : goal.returns-clause-reacts
returns-clause-reacts g c =
    let command = plain_command c.args.c.now in
    let session = c.args.running.now.session in
    let ends = c.in-Ok.ensures.whole in
    let named_so = c.in-Ok-Ends.ensures.named in
    let is_last : IsLast session command c.in-Ok-Ends.last = subst (λ (n : Named). IsNamedAs session command n) c.in-Ok-Ends.field-0-is named_so.named in
    let whole : plain_command c.request_of-request.result ≡ request c.args.chain.now.pending command =
    c.request_of-request.ensures ∙ ap (λ (b : List ℕ). record command { body = b }) ends.body in
    let named = ap (kind_named (next_of session)) c.request_of-request.ensures ∙ is_last.kind_is _
    ∙ ap (λ (x : PlainCommand). Some (kind_by c.in-Ok-Ends.last x.body)) (sym c.request_of-request.ensures) ∙ ap (λ (k : Kind). Some k) (sym c.kind_of-kind.ensures) in
    request_answered session c.args.chain.now.pending command (plain_command c.request_of-request.result) c.kind_of-kind.result (ended c.perform.result c.perform.new.session) (plain_reply c.perform.new.reply) c.end_request.new.chain.pending _ _
    ends.goes_on ends.short named named_so.passed whole c.end_request.ensures.closed c.perform.ensures.performed

-- a fragment leaves the run, or ends it
pub invariant_of-running : goal.invariant_of-running
invariant_of-running g c =
    let w = world (g.C.Coprocessor.seen c.args.copro.now) c.args.running.now.store (g.E.Eeprom.device c.args.cells.now) (g.E.Eeprom.cells c.args.cells.now) in
    record {
      try_left = reaction_stays c.args.running.now.session c.args.chain.now.pending (plain_command c.args.c.now) (reacted c.take_fragment.result c.take_fragment.new.session) 0 (plain_reply c.take_fragment.new.reply) c.take_fragment.new.chain.pending w w
          c.requires.mounted c.args.running.now.try_left
          (c.take_fragment.ensures.reacts (g.C.Coprocessor.seen c.args.copro.now) c.args.running.now.store (g.E.Eeprom.device c.args.cells.now) (g.E.Eeprom.cells c.args.cells.now) c.requires.mounted);
    }

-- a request ends by the rules, or its run is over
pub invariant_of-running-2 : goal.invariant_of-running-2
invariant_of-running-2 g c =
    let command = plain_command c.args.c.now in
    let session = c.args.running.now.session in
    let ends = c.in-Ok.ensures.whole in
    let named_so = c.in-Ok-Ends.ensures.named in
    let is_last : IsLast session command c.in-Ok-Ends.last = subst (λ (n : Named). IsNamedAs session command n) c.in-Ok-Ends.field-0-is named_so.named in
    let whole : plain_command c.request_of-request.result ≡ request c.args.chain.now.pending command =
    c.request_of-request.ensures ∙ ap (λ (b : List ℕ). record command { body = b }) ends.body in
    let named = ap (kind_named (next_of session)) c.request_of-request.ensures ∙ is_last.kind_is _
    ∙ ap (λ (x : PlainCommand). Some (kind_by c.in-Ok-Ends.last x.body)) (sym c.request_of-request.ensures) ∙ ap (λ (k : Kind). Some k) (sym c.kind_of-kind.ensures) in
    let was = world (g.C.Coprocessor.seen c.args.copro.now) c.args.running.now.store (g.E.Eeprom.device c.args.cells.now) (g.E.Eeprom.cells c.args.cells.now) in
    let now = world (g.C.Coprocessor.seen c.perform.new.copro) c.perform.new.store (g.E.Eeprom.device c.perform.new.cells) (g.E.Eeprom.cells c.perform.new.cells) in
    record {
      try_left = ending_stays c.perform.result session c.perform.new.session c.args.chain.now.pending command (plain_reply c.perform.new.reply) c.end_request.new.chain.pending was now
          c.requires.mounted c.args.running.now.try_left c.perform.ensures.lost
          (request_answered session c.args.chain.now.pending command (plain_command c.request_of-request.result) c.kind_of-kind.result (ended c.perform.result c.perform.new.session) (plain_reply c.perform.new.reply) c.end_request.new.chain.pending was now
          ends.goes_on ends.short named named_so.passed whole c.end_request.ensures.closed c.perform.ensures.performed);
    }
