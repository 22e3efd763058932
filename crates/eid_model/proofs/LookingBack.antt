-- What the account and the state carry is what looking back tells.
use Rattle.std.proofs.Common.{◌≡◌, ℕ, Bool, true, false, List, [], ◌∷◌, ◌++◌, drop, Option, Some, None, refl, sym, ap, ◌∙◌, subst}
use Rattle.std.specs.Prelude.{is_some, is_none, ◌&&◌, ◌||◌, unwrap_or, if◌then◌else◌}
use Rattle.std.specs.List.{list_any}
use Rattle.eid_apdu.specs.Answer.{PlainReply}
use Rattle.eid_record.specs.Plain.{FullRecord, PlainEffect}
use Rattle.eid_model.specs.declared.kind.Kind.{Kind}
use Rattle.eid_model.specs.declared.kind.Kind.TheVariants.{AuthenticateChip, ExternalAuthenticate, MutualAuthentication}
use Rattle.eid_model.specs.Moments.{Event, PoweredOn, PoweredOff, Received, PlainMoment, is_received, on, lost}
use Rattle.eid_model.specs.Sessions.{chip_proof, chip_proven, kind_of_moment}
use Rattle.eid_model.specs.Ledger.{account, books, books_handled, books_more, due_at, first_of, kept, pending, state_of}
use Rattle.eid_model.specs.Laws.{finds_number, IsPending, ends_proof, any_ends_proof, IsChipProven}

-- ---- what is pending

still_pending : (opening : FullRecord) (m : PlainMoment) (before : List PlainMoment) (effect : PlainEffect) → finds_number m.input ≡ false
    → IsPending opening before effect → IsPending opening (m ∷ before) effect
still_pending opening m before effect quiet p = record {
  later = m ∷ p.later;
  cut = p.cut;
  before = p.before;
  are = ap (λ (ms : List PlainMoment). m ∷ ms) p.are;
  command = p.command;
  lost = p.lost;
  unfound = rw (quiet, p.unfound) refl;
  unfinished = p.unfinished;
}

-- the effect that a command leaves where it is answered so
abbrev left_at : FullRecord → PlainMoment → List PlainMoment → Option PlainReply → Option PlainEffect
left_at opening m before answer = if is_some answer then None else first_of (drop m.finished (due_at (kept opening before) (state_of opening before) m.plain m))

-- the effect that a command left, by whether there was power, and whether it was answered
left_by : (opening : FullRecord) (m : PlainMoment) (before : List PlainMoment) (bytes : List ℕ) (effect : PlainEffect) (power : Bool) (o : Option PlainReply)
    → m.input ≡ Received bytes → on before ≡ power → m.answer ≡ o → (pending opening before ≡ Some effect → IsPending opening before effect)
    → (if power then books_handled (due_at (kept opening before) (state_of opening before) m.plain m) m (books opening before) else books opening before).pending ≡ Some effect
    → IsPending opening (m ∷ before) effect
left_by opening m before bytes effect false o is off answer earlier pends =
    still_pending opening m before effect (ap finds_number is) (earlier pends)
left_by opening m before bytes effect true (Some reply) is has answer earlier pends =
    let none : None ≡ Some effect = sym (ap (left_at opening m before) answer) ∙ pends in absurd (cc)
left_by opening m before bytes effect true None is has answer earlier pends =
    record {
      later = [];
      cut = m;
      before = before;
      are = refl;
      command = ap is_received is;
      lost = rw (is, answer, has) refl;
      unfound = refl;
      unfinished = sym (ap (left_at opening m before) answer) ∙ pends;
    }

pending_by : (opening : FullRecord) (m : PlainMoment) (before : List PlainMoment) (effect : PlainEffect) (e : Event) → m.input ≡ e
    → (pending opening before ≡ Some effect → IsPending opening before effect)
    → (books_more opening (on before) (state_of opening before) m e (books opening before)).pending ≡ Some effect → IsPending opening (m ∷ before) effect
pending_by opening m before effect (PoweredOn None) is earlier pends = still_pending opening m before effect (ap finds_number is) (earlier pends)
pending_by opening m before effect (PoweredOn (Some found)) is earlier pends = absurd (cc)
pending_by opening m before effect PoweredOff is earlier pends = still_pending opening m before effect (ap finds_number is) (earlier pends)
pending_by opening m before effect (Received bytes) is earlier pends =
    left_by opening m before bytes effect (on before) m.answer is refl refl earlier pends

pub pending_found : (opening : FullRecord) (moments : List PlainMoment) (effect : PlainEffect) → pending opening moments ≡ Some effect → IsPending opening moments effect
unfolding account
pending_found opening [] effect pends = absurd (cc)
pending_found opening (m ∷ before) effect pends =
    pending_by opening m before effect m.input refl (pending_found opening before effect) pends

-- without power and without a power-on that found a number, what is pending stays
stays_by : (opening : FullRecord) (m : PlainMoment) (before : List PlainMoment) (e : Event) → on before ≡ false → finds_number e ≡ false
    → (books_more opening (on before) (state_of opening before) m e (books opening before)).pending ≡ pending opening before
stays_by opening m before (PoweredOn None) off quiet = refl
stays_by opening m before (PoweredOn (Some found)) off quiet = absurd (cc)
stays_by opening m before PoweredOff off quiet = refl
stays_by opening m before (Received bytes) off quiet = rw off refl

and_false : (b : Bool) → (b && false) ≡ false
and_false true = refl
and_false false = refl

off_by : (m : PlainMoment) (before : List PlainMoment) (e : Event) → m.input ≡ e → on before ≡ false → finds_number e ≡ false → on (m ∷ before) ≡ false
off_by m before (PoweredOn None) is off quiet = rw is refl
off_by m before (PoweredOn (Some found)) is off quiet = absurd (cc)
off_by m before PoweredOff is off quiet = rw is refl
off_by m before (Received bytes) is off quiet = rw (is, off) (and_false (is_some m.answer))

both_false : (a b : Bool) → (a || b) ≡ false → (a ≡ false) × (b ≡ false)
both_false true b e = absurd (cc)
both_false false b e = (refl, e)

stays : (opening : FullRecord) (later before : List PlainMoment) → on before ≡ false → list_any (λ (m : PlainMoment). finds_number m.input) later ≡ false
    → (on (later ++ before) ≡ false) × (pending opening (later ++ before) ≡ pending opening before)
unfolding account
stays opening [] before off quiet = (off, refl)
stays opening (m ∷ later) before off quiet =
    let parts = both_false (finds_number m.input) (list_any (λ (m : PlainMoment). finds_number m.input) later) quiet in
    let behind = stays opening later before off parts.1 in
    (off_by m (later ++ before) m.input refl behind.0 parts.0, stays_by opening m (later ++ before) m.input behind.0 parts.0 ∙ behind.1)

lost_parts : (o : Option PlainReply) (power : Bool) → is_none o && power ≡ true → (o ≡ None) × (power ≡ true)
lost_parts None power e = (refl, e)
lost_parts (Some reply) power e = absurd (cc)

cut_by : (opening : FullRecord) (m : PlainMoment) (before : List PlainMoment) (effect : PlainEffect) (e : Event) → m.input ≡ e → is_received e ≡ true → lost m before ≡ true
    → first_of (drop m.finished (due_at (kept opening before) (state_of opening before) m.plain m)) ≡ Some effect
    → (on (m ∷ before) ≡ false) × ((books_more opening (on before) (state_of opening before) m e (books opening before)).pending ≡ Some effect)
cut_by opening m before effect (PoweredOn found) is command gone unfinished = absurd (cc)
cut_by opening m before effect PoweredOff is command gone unfinished = absurd (cc)
cut_by opening m before effect (Received bytes) is command gone unfinished =
    let parts = lost_parts m.answer (on before) (rw is at gone) in
    let old = books opening before in
    let handled = books_handled (due_at (kept opening before) (state_of opening before) m.plain m) m old in (
      rw (is, parts.0) refl,
      ap (λ (power : Bool). (if power then handled else old).pending) parts.1 ∙ ap (left_at opening m before) parts.0 ∙ unfinished,
    )

left_pending : (opening : FullRecord) (m : PlainMoment) (before : List PlainMoment) (effect : PlainEffect) → is_received m.input ≡ true → lost m before ≡ true
    → first_of (drop m.finished (due_at (kept opening before) (state_of opening before) m.plain m)) ≡ Some effect
    → (on (m ∷ before) ≡ false) × (pending opening (m ∷ before) ≡ Some effect)
unfolding account
left_pending opening m before effect command gone unfinished = cut_by opening m before effect m.input refl command gone unfinished

pub pending_is : (opening : FullRecord) (moments : List PlainMoment) (effect : PlainEffect) → IsPending opening moments effect → pending opening moments ≡ Some effect
pending_is opening moments effect p =
    let left = left_pending opening p.cut p.before effect p.command p.lost p.unfinished in
    ap (pending opening) p.are ∙ (stays opening p.later (p.cut ∷ p.before) left.0 p.unfound).1 ∙ left.1

-- ---- whether the chip is authenticated

still_proven : (m : PlainMoment) (before : List PlainMoment) → ends_proof (kind_of_moment m before) ≡ false → IsChipProven before → IsChipProven (m ∷ before)
still_proven m before quiet p =
    let here : ends_proof (kind_of_moment m (p.later ++ p.proof ∷ p.before)) ≡ false = subst (λ (ms : List PlainMoment). ends_proof (kind_of_moment m ms) ≡ false) p.are quiet in
    record {
      later = m ∷ p.later;
      proof = p.proof;
      before = p.before;
      are = ap (λ (ms : List PlainMoment). m ∷ ms) p.are;
      proves = p.proves;
      counts = rw (here, p.counts) refl;
    }

proven_by : (m : PlainMoment) (before : List PlainMoment) (o : Option Kind) → kind_of_moment m before ≡ o → (chip_proven before ≡ true → IsChipProven before)
    → unwrap_or (chip_proof o) (chip_proven before) ≡ true → IsChipProven (m ∷ before)
proven_by m before None is earlier proven = still_proven m before (ap ends_proof is) (earlier proven)
proven_by m before (Some AuthenticateChip) is earlier proven = record { later = []; proof = m; before = before; are = refl; proves = is; counts = refl }
proven_by m before (Some MutualAuthentication) is earlier proven = absurd (cc)
proven_by m before (Some ExternalAuthenticate) is earlier proven = absurd (cc)
proven_by m before (Some kind) is earlier proven = still_proven m before (ap ends_proof is) (earlier proven)

pub proven_found : (session : List PlainMoment) → chip_proven session ≡ true → IsChipProven session
proven_found [] proven = absurd (cc)
proven_found (m ∷ before) proven = proven_by m before (kind_of_moment m before) refl (proven_found before) proven

stays_proven : (o : Option Kind) (b : Bool) → ends_proof o ≡ false → b ≡ true → unwrap_or (chip_proof o) b ≡ true
stays_proven None b quiet proven = proven
stays_proven (Some AuthenticateChip) b quiet proven = refl
stays_proven (Some MutualAuthentication) b quiet proven = absurd (cc)
stays_proven (Some ExternalAuthenticate) b quiet proven = absurd (cc)
stays_proven (Some kind) b quiet proven = proven

proven_behind : (later : List PlainMoment) (proof : PlainMoment) (before : List PlainMoment) → kind_of_moment proof before ≡ Some AuthenticateChip
    → any_ends_proof later (proof ∷ before) ≡ false → chip_proven (later ++ proof ∷ before) ≡ true
proven_behind [] proof before proves counts = rw proves refl
proven_behind (m ∷ later) proof before proves counts =
    let parts = both_false (ends_proof (kind_of_moment m (later ++ proof ∷ before))) (any_ends_proof later (proof ∷ before)) counts in
    stays_proven (kind_of_moment m (later ++ proof ∷ before)) (chip_proven (later ++ proof ∷ before)) parts.0 (proven_behind later proof before proves parts.1)

pub proven_is : (session : List PlainMoment) → IsChipProven session → chip_proven session ≡ true
proven_is session p = ap chip_proven p.are ∙ proven_behind p.later p.proof p.before p.proves p.counts
