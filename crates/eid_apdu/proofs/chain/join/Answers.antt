-- With no open chain the buffer is emptied first.
use Rattle.std.proofs.Common.{◌≡◌, ℕ, List, [], None, ap, subst, inl, inr}
use Rattle.eid_apdu.specs.Command.{PlainCommand, plain_command}
use Rattle.eid_apdu.specs.Collecting.{chain_of, Joins}
use Rattle.eid_apdu.specs.declared.chain.Fed.{Fed}
use Rattle.eid_apdu.specs.declared.chain.Stage.{Stage}
use Rattle.eid_apdu.proofs.Chains.{first_says, first_short, first_kept}
use Rattle.eid_apdu.proofs.chain.join.Goals as goal

pub returns-in-Empty : goal.returns-in-Empty
returns-in-Empty g c =
    let none : chain_of c.args.stage c.args.joined.now.items ≡ None =
    elim c.in-Empty.is [
      | inl e ↦ ap (λ (s : Stage). chain_of s c.args.joined.now.items) e
      | inr e ↦ ap (λ (s : Stage). chain_of s c.args.joined.now.items) e
    ] in
    let fed : PlainCommand = plain_command c.args.c.now in
    let said : Fed = c.append-in-Empty.result in
    let new : List ℕ = c.append-in-Empty.new.joined.items in
    let joins : Joins [] fed said new =
    subst (λ (old : List ℕ). Joins old fed said new) c.clear.ensures c.append-in-Empty.ensures in
    rw none (record {
      says = first_says fed said new joins;
      short = first_short fed said new joins;
      kept = first_kept fed said new joins;
    })
