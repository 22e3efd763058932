-- What each step of chip authentication promises, from what it did.
use Rattle.std.proofs.Common.{◌≡◌, ℕ, true, false, List, [], ◌∷◌, ◌++◌, Some, None, Result, Ok, refl, ap, ◌∙◌}
use Rattle.std.specs.Prelude.{is_some}
use Rattle.std.specs.Result.{result_ok}
use Rattle.eid_apdu.specs.Command.{PlainCommand}
use Rattle.eid_apdu.specs.Answer.{PlainReply}
use Rattle.eid_copro.specs.declared.ask.Answer.{Answer}
use Rattle.eid_copro.specs.declared.ask.Answer.TheVariants as answers
use Rattle.eid_cvc.specs.Chains.{PlainTerminalKnown}
use Rattle.eid_record.specs.Plain.{FullRecord}
use Rattle.eid_tlv.specs.Objects.{object}
use Rattle.eid_ca.specs.States.{PlainCaChosen, PlainProven, proven_by}
use Rattle.eid_ca.specs.Selections.{chosen_in, chosen_by}
use Rattle.eid_ca.specs.ProveEnds.{ProveEnd, OtherKey, NoNonce, NoAgreement, NoSecret, Shared, prove_asks, prove_given}
use Rattle.eid_model.specs.declared.kind.Kind.TheVariants.{SelectChipAuthentication, AuthenticateChip}
use Rattle.eid_model.specs.Answers.{data_alone}
use Rattle.eid_model.specs.Bodies.{data_in, holds_point}
use Rattle.eid_model.specs.Rules.{kind_rules, answer_rules, commit_rules, proof_rules, first_failed}
use Rattle.eid_model.specs.Runs.{Idle, Authentication, ChoseProtocol, as_protocol, entered, claimed}
use Rattle.eid_model.specs.Sessions.{State, channel_after}
use Rattle.eid_chip.specs.Steps.{IsAnsweredByKind, chip_keys, known, state_left}
use Rattle.eid_chip.specs.Transitions.{context_in, state_carried_out, without_run}
use Rattle.eid_chip.specs.Endings.{Reacted}
use Rattle.eid_chip.proofs.PaceSteps.{WasUnformed, due, moved, not_due, outcome_is}

-- ---- the selection

pub selection_passes : (kept : FullRecord) (old : State) (c : PlainCommand) → is_some (chosen_in c.body) ≡ true → is_some old.pace ≡ true → is_some old.terminal ≡ true → old.chip_proven ≡ false
    → first_failed (kind_rules ++ answer_rules ++ commit_rules ++ proof_rules) (known SelectChipAuthentication kept old c []) ≡ None
selection_passes kept old c named pace terminal unproven = rw (named, pace, terminal, unproven) refl

choice_is : (old : State) (c : PlainCommand) (terminal : PlainTerminalKnown) (chosen : PlainCaChosen) → old.terminal ≡ Some terminal → Ok chosen ≡ chosen_by (chosen_in c.body) terminal.key_x
    → ChoseProtocol chosen ≡ claimed SelectChipAuthentication c [] (context_in old) old.authentication
unfolding claimed
choice_is old c terminal chosen there given = rw there (ap (λ (r : Result PlainCaChosen ℕ). as_protocol (result_ok r)) given)

pub selection_leaves : (kept : FullRecord) (old : State) (c : PlainCommand) (terminal : PlainTerminalKnown) (chosen : PlainCaChosen) → old.terminal ≡ Some terminal → Ok chosen ≡ chosen_by (chosen_in c.body) terminal.key_x
    → moved (Some AuthenticateChip) Idle (ChoseProtocol chosen) old ≡ state_carried_out kept.fields SelectChipAuthentication c [] old
unfolding entered
selection_leaves kept old c terminal chosen there given =
    ap (λ (n : Authentication). moved (Some AuthenticateChip) Idle n old) (choice_is old c terminal chosen there given)

-- ---- the step

pub no_chip_point : (kept : FullRecord) (old : State) (c : PlainCommand) (reaction : Reacted) (said : PlainReply) → holds_point 0x80 c.body ≡ false → WasUnformed reaction said old → IsAnsweredByKind AuthenticateChip kept old c [] reaction said
no_chip_point kept old c reaction said body h = record {
  asked = rw body refl;
  ended = rw body (outcome_is 10 _ reaction said h.rule h.answered);
  left = h.state ∙ not_due kept.fields reaction.rule AuthenticateChip c [] old h.rule;
}

abbrev pub proof_data : PlainProven → List ℕ
proof_data proven = object 0x7C (object 0x81 proven.nonce ++ object 0x82 proven.token)

pub chip_was_proven : (kept : FullRecord) (old : State) (c : PlainCommand) (chosen : PlainCaChosen) (point : List ℕ) (end : ProveEnd chosen.key_x point) (proven : PlainProven) (reaction : Reacted) (said : PlainReply)
    → old.authentication ≡ ChoseProtocol chosen → point ≡ data_in c.body → holds_point 0x80 c.body ≡ true → Ok proven ≡ prove_given chosen point end
    → reaction.rule ≡ 0 → said ≡ data_alone (proof_data proven)
    → state_left reaction old.channel ≡ record (without_run old) { chip_proven = true; channel = Some (channel_after 0 (chip_keys proven)) }
    → IsAnsweredByKind AuthenticateChip kept old c (prove_asks chosen.key_x kept.fields.ca_secret point end) reaction said
unfolding entered claimed
chip_was_proven kept old c chosen point (OtherKey other) proven reaction said at is body e rule answered left = absurd (cc)
chip_was_proven kept old c chosen point (NoNonce same) proven reaction said at is body e rule answered left = absurd (cc)
chip_was_proven kept old c chosen point (NoAgreement nonce same) proven reaction said at is body e rule answered left = absurd (cc)
chip_was_proven kept old c chosen point (NoSecret nonce same) proven reaction said at is body e rule answered left = absurd (cc)
chip_was_proven kept old c chosen point (Shared nonce shared same) proven reaction said at is body e rule answered left =
    let gave : proven ≡ proven_by chosen.protocol point nonce shared = cc in
    let given : List Answer = answers.Challenge nonce ∷ answers.Shared shared ∷ [] in
    record {
      asked = (rw (body, at, ← is, same) refl, refl, (rw (body, at, ← is, same) refl, refl, rw (body, at, ← is, same) refl));
      ended = rw (body, at, ← is, same) (outcome_is 0 _ reaction said rule (answered ∙ ap (λ (p : PlainProven). data_alone (proof_data p)) gave ∙ ap (λ (q : List ℕ). data_alone (proof_data (proven_by chosen.protocol q nonce shared))) is));
      left = left ∙ ap (λ (p : PlainProven). record (without_run old) { chip_proven = true; channel = Some (channel_after 0 (chip_keys p)) }) gave
          ∙ due kept.fields reaction.rule AuthenticateChip c given old rule;
    }
