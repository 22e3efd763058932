-- How a command ends that commits: the tokens of a PACE with the PIN, and one effect.
use Rattle.std.proofs.Common.{◌≡◌, ℕ, ◌+◌, ◌-◌, ◌<◌, ◌≤◌, Bool, true, false, List, [], ◌∷◌, ◌++◌, Option, Some, None, Result, Ok, Err, refl, sym, ap, ◌∙◌, arith}
use Rattle.std.specs.Prelude.{◌⊎◌, is_none, nat_le, option_map, if◌then◌else◌}
use Rattle.std.specs.Str.{bytes_eq}
use Rattle.std.proofs.lemmas.Bool.Decides.{nat_tests}
use Rattle.eid_apdu.specs.Command.{PlainCommand}
use Rattle.eid_apdu.specs.Answer.{PlainReply}
use Rattle.eid_cells.specs.Device.{Device}
use Rattle.eid_copro.specs.Seen.{CoproSeen}
use Rattle.eid_record.specs.declared.fields.Password.{Password}
use Rattle.eid_record.specs.declared.fields.Password.TheVariants.{Can, Pin, Puk}
use Rattle.eid_password.specs.Passwords.{is_pin}
use Rattle.eid_pace.specs.Check.{done_by, terminal_token, chip_token}
use Rattle.eid_pace.specs.States.{PlainDone}
use Rattle.eid_pace.specs.View.{agreed_view}
use Rattle.eid_pace.specs.declared.agreed.Agreed.{Agreed}
use Rattle.eid_record.specs.Plain.{FullRecord, PlainEffect, Spend, Refill}
use Rattle.eid_record.specs.Effect.{committed}
use Rattle.eid_sm.specs.Keys.{ChannelState}
use Rattle.eid_store.specs.declared.store.Store.{Store}
use Rattle.eid_store.specs.Stands.{stands}
use Rattle.eid_store.specs.Store as stored
use Rattle.eid_model.specs.declared.kind.Kind.{Kind}
use Rattle.eid_model.specs.declared.kind.Kind.TheVariants.{MutualAuthentication}
use Rattle.eid_model.specs.Answers.{outcome_of, outcome_by, due_by, status_alone, data_alone}
use Rattle.eid_model.specs.Bodies.{data_in, holds_value}
use Rattle.eid_model.specs.Rules.{RuleRow, LAST_NUMBER, kind_rules, answer_rules, commit_rules, proof_rules, first_failed, token_effects, token_status, to_commit, Situation}
use Rattle.eid_chip.specs.declared.session.Change.{Change}
use Rattle.eid_copro.specs.declared.ask.Ask.{Ask}
use Rattle.eid_model.specs.Runs.{answers_of, entered, claimed}
use Rattle.eid_model.specs.Sessions.{State}
use Rattle.eid_chip.specs.Commits.{WasCutBehind}
use Rattle.eid_chip.specs.Held.{held}
use Rattle.eid_chip.specs.States.{state}
use Rattle.eid_chip.specs.Steps.{CommitsOne, SendsToken, IsEndedByKind, at_tokens, known, state_due, state_left, state_with_pace}
use Rattle.eid_chip.specs.Transitions.{state_refused, two_messages_later, with_change, without_run}
use Rattle.eid_chip.specs.Worlds.{world}
use Rattle.eid_chip.specs.Endings.{Answered, Lost, Reacted}
use Rattle.eid_chip.specs.declared.session.Memory.{Memory}
use Rattle.eid_chip.specs.declared.session.Authentication.{Authentication}
use Rattle.eid_chip.specs.declared.session.Session.{Session}
use Rattle.eid_chip.proofs.Commits.{Has}
use Rattle.eid_chip.proofs.Outcomes.{ended_uncommitted, ends_so, if_not, passed}
use Rattle.eid_chip.proofs.PaceSteps.{outcome_is, not_due_by, last_data}

-- ---- the tokens of a PACE with the PIN

within : (n : ℕ) → n ≤ LAST_NUMBER → nat_le n LAST_NUMBER ≡ true
within n le = grind (arith, nat_tests)

beyond : (n : ℕ) → LAST_NUMBER < n → nat_le n LAST_NUMBER ≡ false
beyond n lt = grind (arith, nat_tests)

-- a Spend is due, and where the token is right a Refill
pin_due : (kept : FullRecord) (agreed : Agreed) (begun : Authentication) (memory : Memory) (channel : Option ChannelState) (c : PlainCommand) → is_pin (agreed_view agreed).choice.password ≡ true → holds_value 0x85 8 c.body ≡ true → nat_le kept.fields.number LAST_NUMBER ≡ true
    → due_by kind_rules (known MutualAuthentication kept (state (at_tokens agreed begun memory) channel) c []) ≡ token_effects true (bytes_eq (data_in c.body) (terminal_token (agreed_view agreed)))
pin_due kept agreed begun memory channel c pin formed number = rw (formed, pin, number) refl

-- but not where there is no commit number left
pub no_number : (agreed : Agreed) (begun : Authentication) (memory : Memory) (channel : Option ChannelState) (c : PlainCommand) (token : List ℕ) (r : Reacted) (reply : PlainReply) (copro : CoproSeen) (store : Store) (device : Device) (cells : List ℕ)
    → stored.Fits store device cells → SendsToken c token → is_pin (agreed_view agreed).choice.password ≡ true → LAST_NUMBER < (held cells).fields.number
    → r.rule ≡ 54 → reply ≡ status_alone 0x6581 → state_left r channel ≡ state_due 54 (state_refused (state (at_tokens agreed begun memory) channel))
    → IsEndedByKind MutualAuthentication (state (at_tokens agreed begun memory) channel) c [] (Answered r 0) reply (world copro store device cells) (world copro store device cells)
no_number agreed begun memory channel c token r reply copro store device cells fits sends pin over rule answered left =
    let full = beyond (held cells).fields.number over in
    ended_uncommitted MutualAuthentication (state (at_tokens agreed begun memory) channel) c [] r reply copro copro store device cells fits
    (rw (sends.formed, pin, full) refl)
    (record {
      asked = rw sends.formed refl;
      ended = rw (sends.formed, pin, full) (outcome_is 54 _ r reply rule answered);
      left = left ∙ not_due_by (held cells).fields r.rule 54 MutualAuthentication c [] (state (at_tokens agreed begun memory) channel) rule refl;
    })

-- the power was cut in the Spend
pub spend_cut : (agreed : Agreed) (begun : Authentication) (memory : Memory) (channel : Option ChannelState) (c : PlainCommand) (token : List ℕ) (reply : PlainReply) (copro : CoproSeen) (store next : Store) (device now : Device) (cells cells_now : List ℕ)
    → SendsToken c token → is_pin (agreed_view agreed).choice.password ≡ true → (held cells).fields.number ≤ LAST_NUMBER
    → ((stands cells_now ≡ Some (held cells)) ⊎ (stands cells_now ≡ Some (committed Spend (held cells)))) × WasCutBehind 0 device now
    → IsEndedByKind MutualAuthentication (state (at_tokens agreed begun memory) channel) c [] (Lost 0) reply (world copro store device cells) (world copro next now cells_now)
spend_cut agreed begun memory channel c token reply copro store next device now cells cells_now sends pin fits left =
    let right = bytes_eq (data_in c.body) (terminal_token (agreed_view agreed)) in
    ends_so MutualAuthentication (state (at_tokens agreed begun memory) channel) c [] (token_effects true right) _ (Lost 0) reply (world copro store device cells) (world copro next now cells_now)
    (rw sends.formed refl) (pin_due (held cells) agreed begun memory channel c pin sends.formed (within _ fits)) refl (omega arith) tt left

-- the token was wrong
pub pin_was_wrong : (agreed : Agreed) (begun : Authentication) (memory : Memory) (channel : Option ChannelState) (c : PlainCommand) (token : List ℕ) (r : Reacted) (reply : PlainReply) (copro : CoproSeen) (store next : Store) (device now : Device) (cells cells_now : List ℕ)
    → SendsToken c token → is_pin (agreed_view agreed).choice.password ≡ true → (held cells).fields.number ≤ LAST_NUMBER → bytes_eq token (terminal_token (agreed_view agreed)) ≡ false
    → Has 1 (committed Spend (held cells)) device next now cells_now
    → r.rule ≡ 55 → reply ≡ status_alone (0x63C0 + ((held cells).fields.tries - 1)) → state_left r channel ≡ state_due 55 (state_refused (state (at_tokens agreed begun memory) channel))
    → IsEndedByKind MutualAuthentication (state (at_tokens agreed begun memory) channel) c [] (Answered r 1) reply (world copro store device cells) (world copro next now cells_now)
pin_was_wrong agreed begun memory channel c token r reply copro store next device now cells cells_now sends pin fits wrong has rule answered left =
    let other : bytes_eq (data_in c.body) (terminal_token (agreed_view agreed)) ≡ false = rw (← sends.is) wrong in
    let number = within _ fits in
    ends_so MutualAuthentication (state (at_tokens agreed begun memory) channel) c [] (Spend ∷ []) (record { rule = 55; reply = status_alone (0x63C0 + ((held cells).fields.tries - 1)) }) (Answered r 1) reply (world copro store device cells) (world copro next now cells_now)
    (rw sends.formed refl) (pin_due (held cells) agreed begun memory channel c pin sends.formed number ∙ ap (token_effects true) other)
    (rw (sends.formed, pin, number, other) (ap (λ (p : Bool). record { rule = 55; reply = status_alone (token_status (held cells).fields p) }) pin)) (refl, outcome_is 55 _ r reply rule answered)
    (left ∙ not_due_by (held cells).fields r.rule 55 MutualAuthentication c [] (state (at_tokens agreed begun memory) channel) rule refl) (has.fits, has.holds, has.wrote)

-- the power was cut in the Refill
pub refill_cut : (agreed : Agreed) (begun : Authentication) (memory : Memory) (channel : Option ChannelState) (c : PlainCommand) (token : List ℕ) (reply : PlainReply) (copro : CoproSeen) (store next : Store) (device now : Device) (cells cells_now : List ℕ)
    → SendsToken c token → is_pin (agreed_view agreed).choice.password ≡ true → (held cells).fields.number ≤ LAST_NUMBER → bytes_eq token (terminal_token (agreed_view agreed)) ≡ true
    → ((stands cells_now ≡ Some (committed Spend (held cells))) ⊎ (stands cells_now ≡ Some (committed Refill (committed Spend (held cells))))) × WasCutBehind 1 device now
    → IsEndedByKind MutualAuthentication (state (at_tokens agreed begun memory) channel) c [] (Lost 1) reply (world copro store device cells) (world copro next now cells_now)
refill_cut agreed begun memory channel c token reply copro store next device now cells cells_now sends pin fits was_right left =
    let right : bytes_eq (data_in c.body) (terminal_token (agreed_view agreed)) ≡ true = rw (← sends.is) was_right in
    ends_so MutualAuthentication (state (at_tokens agreed begun memory) channel) c [] (Spend ∷ Refill ∷ []) _ (Lost 1) reply (world copro store device cells) (world copro next now cells_now)
    (rw sends.formed refl) (pin_due (held cells) agreed begun memory channel c pin sends.formed (within _ fits) ∙ ap (token_effects true) right) refl (omega arith) tt left

-- the token was right
pub pin_was_right : (agreed : Agreed) (begun : Authentication) (memory : Memory) (channel : Option ChannelState) (c : PlainCommand) (token : List ℕ) (done : PlainDone) (r : Reacted) (reply : PlainReply) (copro : CoproSeen) (store next : Store) (device now : Device) (cells cells_now : List ℕ)
    → SendsToken c token → is_pin (agreed_view agreed).choice.password ≡ true → (held cells).fields.number ≤ LAST_NUMBER → bytes_eq token (terminal_token (agreed_view agreed)) ≡ true
    → Has 2 (committed Refill (committed Spend (held cells))) device next now cells_now
    → done ≡ done_by (agreed_view agreed) → r.rule ≡ 0 → reply ≡ data_alone (last_data (held cells) (chip_token (agreed_view agreed))) → state_left r channel ≡ state_with_pace memory done
    → IsEndedByKind MutualAuthentication (state (at_tokens agreed begun memory) channel) c [] (Answered r 2) reply (world copro store device cells) (world copro next now cells_now)
unfolding entered claimed
pin_was_right agreed begun memory channel c token done r reply copro store next device now cells cells_now sends pin fits was_right has is rule answered left =
    let right : bytes_eq (data_in c.body) (terminal_token (agreed_view agreed)) ≡ true = rw (← sends.is) was_right in
    let number = within _ fits in
    ends_so MutualAuthentication (state (at_tokens agreed begun memory) channel) c [] (Spend ∷ Refill ∷ []) (record { rule = 0; reply = data_alone (last_data (held cells) (chip_token (agreed_view agreed))) }) (Answered r 2) reply (world copro store device cells) (world copro next now cells_now)
    (rw sends.formed refl) (pin_due (held cells) agreed begun memory channel c pin sends.formed number ∙ ap (token_effects true) right)
    (rw (sends.formed, pin, number, right) refl) (refl, outcome_is 0 _ r reply rule answered)
    (left ∙ rw (rule, is) refl) (has.fits, has.holds, has.wrote)

-- what the comparison of a token said
pub was_wrong : (b : Bool) (given : PlainDone) (sent : List ℕ) (failed rule : ℕ) → ◌≡◌ {A = Result (PlainDone × List ℕ) ℕ} (Err failed) (if b then Ok (given, sent) else Err rule) → b ≡ false
was_wrong true given sent failed rule e = absurd (cc)
was_wrong false given sent failed rule e = refl

pub not_pin : (password : Password) → (password ≡ Pin → ⊥) → is_pin password ≡ false
not_pin Can other = refl
not_pin Pin other = absurd (other refl)
not_pin Puk other = refl

-- ---- one effect

abbrev found_at : Kind → FullRecord → State → PlainCommand → List Ask → Situation
found_at kind kept old c asks = known kind kept old c (answers_of asks)

open_rules : (kind : Kind) (kept : FullRecord) (old : State) (c : PlainCommand) (asks : List Ask) (effect : PlainEffect) (change : Change) (more : List RuleRow) → CommitsOne kind kept old c asks effect change → first_failed (kind_rules ++ answer_rules ++ more) (found_at kind kept old c asks) ≡ first_failed more (found_at kind kept old c asks)
open_rules kind kept old c asks effect change more one =
    let s = found_at kind kept old c asks in
    passed (kind_rules ++ answer_rules) more s (ap (option_map (λ (row : RuleRow). record { rule = row.number; status = row.status s })) one.passes)

bound_holds : (kind : Kind) (kept : FullRecord) (old : State) (c : PlainCommand) (asks : List Ask) (effect : PlainEffect) (change : Change) (more : List RuleRow) → CommitsOne kind kept old c asks effect change → nat_le kept.fields.number LAST_NUMBER ≡ true → first_failed (commit_rules ++ more) (found_at kind kept old c asks) ≡ first_failed more (found_at kind kept old c asks)
bound_holds kind kept old c asks effect change more one number = rw (one.committing, one.commits, number) refl

bound_fails : (kind : Kind) (kept : FullRecord) (old : State) (c : PlainCommand) (asks : List Ask) (effect : PlainEffect) (change : Change) (more : List RuleRow) → CommitsOne kind kept old c asks effect change → nat_le kept.fields.number LAST_NUMBER ≡ false
    → (is_none (first_failed (commit_rules ++ more) (found_at kind kept old c asks)) ≡ false) × (outcome_by (first_failed (commit_rules ++ more) (found_at kind kept old c asks)) (found_at kind kept old c asks) ≡ record { rule = 54; reply = status_alone 0x6581 })
bound_fails kind kept old c asks effect change more one number = (rw (one.committing, one.commits, number) refl, rw (one.committing, one.commits, number) refl)

-- the effect and the outcome
one_due : (kind : Kind) (kept : FullRecord) (old : State) (c : PlainCommand) (asks : List Ask) (effect : PlainEffect) (change : Change) → CommitsOne kind kept old c asks effect change → nat_le kept.fields.number LAST_NUMBER ≡ true → due_by kind_rules (found_at kind kept old c asks) ≡ effect ∷ []
one_due kind kept old c asks effect change one number =
    let s = found_at kind kept old c asks in
    ap (λ (f : Option RuleRow). if is_none f then to_commit (Some kind) s else []) (open_rules kind kept old c asks effect change commit_rules one ∙ bound_holds kind kept old c asks effect change [] one number) ∙ one.commits

one_outcome : (kind : Kind) (kept : FullRecord) (old : State) (c : PlainCommand) (asks : List Ask) (effect : PlainEffect) (change : Change) → CommitsOne kind kept old c asks effect change → nat_le kept.fields.number LAST_NUMBER ≡ true → outcome_of kind_rules (found_at kind kept old c asks) ≡ record { rule = 0; reply = status_alone 0x9000 }
one_outcome kind kept old c asks effect change one number =
    let s = found_at kind kept old c asks in
    ap (λ (f : Option RuleRow). outcome_by f s) (open_rules kind kept old c asks effect change (commit_rules ++ proof_rules) one ∙ bound_holds kind kept old c asks effect change proof_rules one number ∙ one.proves)
    ∙ ap (λ (r : PlainReply). record { rule = 0; reply = r }) one.answers

-- there is no commit number left
pub one_over : (kind : Kind) (session : Session) (channel : Option ChannelState) (c : PlainCommand) (asks : List Ask) (effect : PlainEffect) (change : Change) (r : Reacted) (reply : PlainReply) (before after : CoproSeen) (store : Store) (device : Device) (cells : List ℕ)
    → stored.Fits store device cells → CommitsOne kind (held cells) (state session channel) c asks effect change → LAST_NUMBER < (held cells).fields.number
    → r.rule ≡ 54 → reply ≡ status_alone 0x6581 → state_left r channel ≡ state_due 54 (state_refused (state session channel))
    → IsEndedByKind kind (state session channel) c asks (Answered r 0) reply (world before store device cells) (world after store device cells)
one_over kind session channel c asks effect change r reply before after store device cells fits one over rule answered left =
    let kept = held cells in
    let old = state session channel in
    let s = found_at kind kept old c asks in
    let number = beyond kept.fields.number over in
    let due_fails = bound_fails kind kept old c asks effect change [] one number in
    let fails = bound_fails kind kept old c asks effect change proof_rules one number in
    let none : due_by kind_rules s ≡ [] =
    ap (λ (f : Option RuleRow). if is_none f then to_commit (Some kind) s else []) (open_rules kind kept old c asks effect change commit_rules one) ∙ if_not _ (to_commit (Some kind) s) [] due_fails.0 in
    ended_uncommitted kind old c asks r reply before after store device cells fits none (record {
      asked = one.asked;
      ended = ap (λ (f : Option RuleRow). outcome_by f s) (open_rules kind kept old c asks effect change (commit_rules ++ proof_rules) one) ∙ fails.1 ∙ outcome_is 54 _ r reply rule answered;
      left = left ∙ not_due_by kept.fields r.rule 54 kind c (answers_of asks) old rule refl;
    })

-- the power was cut in its commit
pub one_cut : (kind : Kind) (session : Session) (channel : Option ChannelState) (c : PlainCommand) (asks : List Ask) (effect : PlainEffect) (change : Change) (reply : PlainReply) (before after : CoproSeen) (store next : Store) (device now : Device) (cells cells_now : List ℕ)
    → CommitsOne kind (held cells) (state session channel) c asks effect change → (held cells).fields.number ≤ LAST_NUMBER
    → ((stands cells_now ≡ Some (held cells)) ⊎ (stands cells_now ≡ Some (committed effect (held cells)))) × WasCutBehind 0 device now
    → IsEndedByKind kind (state session channel) c asks (Lost 0) reply (world before store device cells) (world after next now cells_now)
one_cut kind session channel c asks effect change reply before after store next device now cells cells_now one fits left =
    ends_so kind (state session channel) c asks (effect ∷ []) _ (Lost 0) reply (world before store device cells) (world after next now cells_now)
    one.asked (one_due kind (held cells) (state session channel) c asks effect change one (within _ fits)) refl (omega arith) tt left

-- it was committed
pub one_committed : (kind : Kind) (session without : Session) (channel : Option ChannelState) (c : PlainCommand) (asks : List Ask) (effect : PlainEffect) (change : Change) (r : Reacted) (reply : PlainReply) (before after : CoproSeen) (store next : Store) (device now : Device) (cells cells_now : List ℕ)
    → CommitsOne kind (held cells) (state session channel) c asks effect change → (held cells).fields.number ≤ LAST_NUMBER → Has 1 (committed effect (held cells)) device next now cells_now
    → r.rule ≡ 0 → reply ≡ status_alone 0x9000 → r.session ≡ without → r.opened ≡ None → ((ch : Option ChannelState) → state without ch ≡ with_change change (without_run (state session ch)))
    → IsEndedByKind kind (state session channel) c asks (Answered r 1) reply (world before store device cells) (world after next now cells_now)
one_committed kind session without channel c asks effect change r reply before after store next device now cells cells_now one fits has rule answered kept_session opened left =
    let number = within _ fits in
    let left_is : state_left r channel ≡ state without (option_map two_messages_later channel) = rw (rule, kept_session, opened) refl in
    ends_so kind (state session channel) c asks (effect ∷ []) _ (Answered r 1) reply (world before store device cells) (world after next now cells_now)
    one.asked (one_due kind (held cells) (state session channel) c asks effect change one number) (one_outcome kind (held cells) (state session channel) c asks effect change one number)
    (refl, outcome_is 0 _ r reply rule answered) (left_is ∙ left (option_map two_messages_later channel) ∙ sym one.leaves ∙ rw rule refl) (has.fits, has.holds, has.wrote)
