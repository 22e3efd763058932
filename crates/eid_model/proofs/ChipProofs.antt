-- Where the chip is authenticated, a terminal is known.
use Rattle.std.proofs.Common.{◌≡◌, Bool, true, false, not, ◌==◌, ◌&&◌, ◌||◌, List, [], ◌∷◌, ◌++◌, Option, Some, None, refl, sym, ap, ◌∙◌, subst}
use Rattle.std.specs.Prelude.{is_some, option_and_then, unwrap_or, if◌then◌else◌}
use Rattle.std.specs.List.{list_all}
use Rattle.std.proofs.lemmas.Bool.{and_parts, eqb-true}
use Rattle.eid_apdu.specs.Command.{PlainCommand}
use Rattle.eid_apdu.specs.Chaining.{is_fragment}
use Rattle.eid_copro.specs.declared.ask.Answer.{Answer}
use Rattle.eid_cvc.specs.Chains.{PlainTerminalKnown}
use Rattle.eid_pace.specs.States.{PlainDone}
use Rattle.eid_record.specs.Plain.{FullRecord}
use Rattle.eid_model.specs.declared.kind.Kind.{Kind}
use Rattle.eid_model.specs.declared.kind.Kind.TheVariants.{AuthenticateChip, ExternalAuthenticate, MutualAuthentication, SelectChipAuthentication}
use Rattle.eid_model.specs.Answers.{outcome}
use Rattle.eid_model.specs.Chains.{fragment, request_of}
use Rattle.eid_model.specs.Kinds.{has_form_of, kind_in_table, kind_named, kinds}
use Rattle.eid_model.specs.Laws.{IsTerminalKnown, all_rules, is_kept, kind_sent}
use Rattle.eid_model.specs.Ledger.{account, accepted, terminal}
use Rattle.eid_model.specs.Legal.{AreLegal}
use Rattle.eid_model.specs.Moments.{PlainMoment, ends_session, live, succeeded}
use Rattle.eid_model.specs.Rules.{Situation}
use Rattle.eid_model.specs.Runs.{Authentication, Phase, Step, answers_of, authentication, continued, is_piece_of_next, kind_done, next, phase, run}
use Rattle.eid_model.specs.Sessions.{chip_proof, chip_proven, context_of, kind_of_moment, made_known, pace, pace_by, pace_completed, terminal_behind}
use Rattle.eid_model.proofs.Access.{all_kept}
use Rattle.eid_model.proofs.Comparisons.{behind, weaker}
use Rattle.eid_model.proofs.Laws.{IsAnswered, answered_for, at, kind_so, rule_so}
use Rattle.eid_model.proofs.Steps.{in_table_of, never_found, no_fragment, no_piece}

-- ---- the step comes behind its selection alone

in_table : (next : Option Kind) (c : PlainCommand) → kind_in_table next c ≡ Some AuthenticateChip → next ≡ Some AuthenticateChip
in_table None c e = absurd (never_found AuthenticateChip kinds None c refl e)
in_table (Some AuthenticateChip) c e = refl
in_table (Some kind) c e = absurd (never_found AuthenticateChip kinds (Some kind) c refl e)

in_turn_of : (next : Option Kind) (o : Option PlainCommand) → option_and_then (kind_named next) o ≡ Some AuthenticateChip → next ≡ Some AuthenticateChip
in_turn_of next None e = absurd (cc)
in_turn_of next (Some c) e = in_table_of AuthenticateChip next c (in_table next c) e

in_turn : (m : PlainMoment) (session : List PlainMoment) → kind_of_moment m session ≡ Some AuthenticateChip → next (run session) ≡ Some AuthenticateChip
in_turn m session e = by (succeeded m) e where
  by : (b : Bool) → (if b then option_and_then (kind_named (next (run session))) (request_of m session) else None) ≡ Some AuthenticateChip → next (run session) ≡ Some AuthenticateChip
  by true so = in_turn_of (next (run session)) (request_of m session) so
  by false so = absurd (cc)

-- a run in which it is next began with the newest request, its selection
begun_by : (done : Option Kind) (whole : Option PlainCommand) (given : List Answer) (steps : List Step) → next (continued done whole given steps) ≡ Some AuthenticateChip
    → done ≡ Some SelectChipAuthentication
begun_by None whole given steps e = absurd (cc)
begun_by (Some kind) None given steps e = absurd (cc)
begun_by (Some SelectChipAuthentication) (Some c) given steps e = refl
begun_by (Some kind) (Some c) given steps e = absurd (cc)

no_form : (c : PlainCommand) → is_fragment c ≡ true → has_form_of AuthenticateChip c ≡ false
no_form c = no_fragment AuthenticateChip c (λ other. rw other refl)

-- ---- its selection needs a terminal

conditions_are : (s : Situation) → s.kind ≡ Some SelectChipAuthentication → list_all (λ row. not (row.number == 26) || is_kept s row) all_rules ≡ (is_some s.state.terminal && true)
conditions_are s kind = rw kind refl

selection_held : (s : Situation) → s.kind ≡ Some SelectChipAuthentication → (outcome s).rule ≡ 0 → is_some s.state.terminal ≡ true
unfolding outcome
selection_held s kind zero =
    let kept : list_all (is_kept s) all_rules ≡ true = all_kept all_rules s refl zero in
    let held = weaker (λ row. not (row.number == 26) || is_kept s row) all_rules s (λ row k. behind (not (row.number == 26)) (is_kept s row) k) kept in
    (and_parts (is_some s.state.terminal) true (sym (conditions_are s kind) ∙ held)).0

begun : (opening : FullRecord) (m : PlainMoment) (before : List PlainMoment) → AreLegal opening (m ∷ before)
    → kind_of_moment m (live before) ≡ Some SelectChipAuthentication → is_some (terminal opening before) ≡ true
begun opening m before legal kind = by (succeeded m) refl where
  by : (b : Bool) → succeeded m ≡ b → is_some (terminal opening before) ≡ true
  by false is = absurd (let none : kind_of_moment m (live before) ≡ None = rw is refl in cc)
  by true is =
      let both = and_parts (is_some m.answer) (m.rule == 0) is in
      let a : IsAnswered opening before m = answered_for m.input opening before m refl legal.0 both.0 in
      let s : Situation = at opening before a.incoming m in
      let sent : kind_sent m before ≡ Some SelectChipAuthentication = rw is at kind in
      let of : s.kind ≡ Some SelectChipAuthentication = sym (kind_so opening before m a) ∙ sent in
      selection_held s of (sym (rule_so opening before m a) ∙ eqb-true m.rule 0 both.1)

-- the terminal that is known after a moment of the session, by the kind that it carried out
abbrev known_by_kind : Option Kind → Phase → Authentication → Option PlainTerminalKnown → Option PlainTerminalKnown
known_by_kind kind p a before = terminal_behind (pace_by kind p) (made_known kind a) before

terminal_is : (opening : FullRecord) (m : PlainMoment) (before : List PlainMoment) → ends_session m ≡ false
    → (a : Authentication) × (terminal opening (m ∷ before) ≡ known_by_kind (kind_of_moment m (live before)) (phase (run (live before))) a (terminal opening before))
unfolding account
terminal_is opening m before ends =
    (authentication (context_of (pace (live before)) (accepted opening before) (terminal opening before)) (run (live before)), rw ends refl)

selection_keeps : (opening : FullRecord) (m : PlainMoment) (before : List PlainMoment) → ends_session m ≡ false → kind_of_moment m (live before) ≡ Some SelectChipAuthentication
    → terminal opening (m ∷ before) ≡ terminal opening before
selection_keeps opening m before ends kind =
    let is = terminal_is opening m before ends in
    is.1 ∙ ap (λ (k : Option Kind). known_by_kind k (phase (run (live before))) is.0 (terminal opening before)) kind

-- where the step comes next, a terminal is known
stands : (opening : FullRecord) (moments : List PlainMoment) → AreLegal opening moments → next (run (live moments)) ≡ Some AuthenticateChip → is_some (terminal opening moments) ≡ true
stands opening [] legal e = absurd (cc)
stands opening (m ∷ before) legal e = by (ends_session m) refl where
  selected : (piece : Bool) → is_piece_of_next (next (run (live before))) (fragment m) ≡ piece
      → next (if piece then run (live before) else continued (kind_done (next (run (live before))) m (live before)) (request_of m (live before)) (answers_of m.asks) (run (live before))) ≡ Some AuthenticateChip
      → kind_of_moment m (live before) ≡ Some SelectChipAuthentication
  selected true is so = absurd (let none : is_piece_of_next (next (run (live before))) (fragment m) ≡ false = rw so (no_piece AuthenticateChip m no_form) in cc)
  selected false is so = begun_by (kind_done (next (run (live before))) m (live before)) (request_of m (live before)) (answers_of m.asks) (run (live before)) so

  by : (b : Bool) → ends_session m ≡ b → is_some (terminal opening (m ∷ before)) ≡ true
  by true is = absurd (let none : next (run (live (m ∷ before))) ≡ None = rw is refl in cc)
  by false is =
      let kind = selected (is_piece_of_next (next (run (live before))) (fragment m)) refl (rw is at e) in
      ap (λ (t : Option PlainTerminalKnown). is_some t) (selection_keeps opening m before is kind) ∙ begun opening m before legal kind

-- ---- where the chip is authenticated, a terminal is known

known_at : (k : Option Kind) (p : Phase) (a : Authentication) (t : Option PlainTerminalKnown) (proven : Bool) → (proven ≡ true → is_some t ≡ true) → (k ≡ Some AuthenticateChip → is_some t ≡ true)
    → unwrap_or (chip_proof k) proven ≡ true → is_some (known_by_kind k p a t) ≡ true
known_at None p a t proven earlier turn e = earlier e
known_at (Some AuthenticateChip) p a t proven earlier turn e = turn refl
known_at (Some MutualAuthentication) p a t proven earlier turn e = absurd (cc)
known_at (Some ExternalAuthenticate) p a t proven earlier turn e = absurd (cc)
known_at (Some kind) p a t proven earlier turn e = earlier e

pub proven_known : (opening : FullRecord) (moments : List PlainMoment) → AreLegal opening moments → chip_proven (live moments) ≡ true → is_some (terminal opening moments) ≡ true
proven_known opening [] legal e = absurd (cc)
proven_known opening (m ∷ before) legal e = by (ends_session m) refl (proven_known opening before legal.1) where
  by : (b : Bool) → ends_session m ≡ b → (chip_proven (live before) ≡ true → is_some (terminal opening before) ≡ true) → is_some (terminal opening (m ∷ before)) ≡ true
  by true is earlier = absurd (let none : chip_proven (live (m ∷ before)) ≡ false = rw is refl in cc)
  by false is earlier =
      let t = terminal_is opening m before is in
      let proven : unwrap_or (chip_proof (kind_of_moment m (live before))) (chip_proven (live before)) ≡ true = rw is at e in
      ap (λ (x : Option PlainTerminalKnown). is_some x) t.1
      ∙ known_at (kind_of_moment m (live before)) (phase (run (live before))) t.0 (terminal opening before) (chip_proven (live before)) earlier
      (λ kind. stands opening before legal.1 (in_turn m (live before) kind)) proven

-- ---- a terminal that is known authenticated itself behind the last PACE

still_known : (m : PlainMoment) (session : List PlainMoment) → pace_completed m session ≡ None → IsTerminalKnown session → IsTerminalKnown (m ∷ session)
still_known m session quiet p =
    let here : pace_completed m (p.later ++ p.proof ∷ p.before) ≡ None = subst (λ (ms : List PlainMoment). pace_completed m ms ≡ None) p.are quiet in
    record {
      later = m ∷ p.later;
      proof = p.proof;
      before = p.before;
      are = ap (λ (ms : List PlainMoment). m ∷ ms) p.are;
      knows = p.knows;
      counts = rw (here, p.counts) refl;
    }

found_at : (m : PlainMoment) (session : List PlainMoment) (k : Option Kind) (a : Authentication) (t : Option PlainTerminalKnown) → kind_of_moment m session ≡ k → (is_some t ≡ true → IsTerminalKnown session)
    → (done : Option PlainDone) → pace_completed m session ≡ done → (known : Option PlainTerminalKnown) → made_known k a ≡ known → is_some (terminal_behind done known t) ≡ true → IsTerminalKnown (m ∷ session)
found_at m session k a t is earlier (Some done) pace known made e = absurd (cc)
found_at m session k a t is earlier None pace None made e = still_known m session pace (earlier e)
found_at m session k a t is earlier None pace (Some known) made e = record { later = []; proof = m; before = session; are = refl; knows = is ∙ made_by k a known made; counts = refl } where
  made_by : (k : Option Kind) (a : Authentication) (known : PlainTerminalKnown) → made_known k a ≡ Some known → k ≡ Some ExternalAuthenticate
  made_by None a known made = absurd (cc)
  made_by (Some ExternalAuthenticate) a known made = refl
  made_by (Some kind) a known made = absurd (cc)

pub known_found : (opening : FullRecord) (moments : List PlainMoment) → is_some (terminal opening moments) ≡ true → IsTerminalKnown (live moments)
unfolding account
known_found opening [] e = absurd (cc)
known_found opening (m ∷ before) e = by (ends_session m) refl (known_found opening before) where
  by : (b : Bool) → ends_session m ≡ b → (is_some (terminal opening before) ≡ true → IsTerminalKnown (live before)) → IsTerminalKnown (live (m ∷ before))
  by true is earlier = absurd (let none : terminal opening (m ∷ before) ≡ None = rw is refl in cc)
  by false is earlier =
      let t = terminal_is opening m before is in
      rw is (found_at m (live before) (kind_of_moment m (live before)) t.0 (terminal opening before) refl earlier (pace_completed m (live before)) refl
      (made_known (kind_of_moment m (live before)) t.0) refl (ap (λ (x : Option PlainTerminalKnown). is_some x) (sym t.1) ∙ e))
