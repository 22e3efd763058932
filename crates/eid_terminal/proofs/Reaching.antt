-- Ways along a course, one behind the other, and what a turn promises everywhere.
use Rattle.std.proofs.Common.{◌≡◌, ℕ, zero, suc, ◌+◌, true, false, List, [], ◌∷◌, ◌++◌, Option, Some, None, refl, sym, ap, ◌∙◌, subst, arith, zero-add, add-zero}
use Rattle.std.proofs.lemmas.List.{append-nil}
use Rattle.std.specs.Borrow.{Bor}
use Rattle.std.specs.Option.{is_some, option_copied, option_to_list}
use Rattle.eid_base.specs.Faults.{Rose}
use Rattle.eid_copro.specs.Asking.{WereAsked}
use Rattle.eid_copro.specs.Seen.{CoproSeen}
use Rattle.eid_copro.specs.declared.ask.Ask.{Ask}
use Rattle.eid_sm.specs.Keys.{ChannelState}
use Rattle.eid_terminal.specs.declared.state.Awaited.{Awaited}
use Rattle.eid_terminal.specs.declared.state.Standing.{Standing}
use Rattle.eid_terminal.specs.declared.state.State.{State}
use Rattle.eid_terminal.specs.declared.state.State.TheVariants as states
use Rattle.eid_terminal.specs.Courses.{Course, IsHere, Reached, Asks, Sends, Passes, Gives, Stops, Faults, Ends, SendsBytes}
use Rattle.eid_terminal.specs.Moves.{Move, move_of}
use Rattle.eid_terminal.specs.Plans.{PlainPlan}
use Rattle.eid_terminal.specs.Terminals.{Goes, TerminalView, count_of, course, is_end, is_sent, left_at, tells_fault}
use Rattle.eid_terminal.specs.View.{Comes, Heard, TurnSeen, ready_course, state_view}
use Rattle.eid_terminal.proofs.Coming.{here}

from_here : (c : Course) (asks : List Ask) (replies : List (List ℕ)) (given : ℕ) (at : Course) (more : List Ask) (later : List (List ℕ)) (n : ℕ) (to : Course)
    → IsHere c asks replies given at → Reached at more later n to → Reached c (asks ++ more) (replies ++ later) (given + n) to
from_here c asks replies given at more later n to h r =
    let one : Reached c more later n to = subst (λ (x : Course). Reached x more later n to) h.3 r in
    subst (λ (xs : List Ask). Reached c (xs ++ more) (replies ++ later) (given + n) to) (sym h.0)
    (subst (λ (ys : List (List ℕ)). Reached c more (ys ++ later) (given + n) to) (sym h.1)
    (subst (λ (m : ℕ). Reached c more later (m + n) to) (sym h.2) (subst (λ (m : ℕ). Reached c more later m to) (sym (zero-add n)) one)))

-- one way behind the other
pub joined : (c : Course) (asks : List Ask) (replies : List (List ℕ)) (given : ℕ) (at : Course) (more : List Ask) (later : List (List ℕ)) (n : ℕ) (to : Course)
    → Reached c asks replies given at → Reached at more later n to → Reached c (asks ++ more) (replies ++ later) (given + n) to
joined (Asks question next) [] replies given at more later n to h r = from_here (Asks question next) [] replies given at more later n to h r
joined (Asks question next) (ask ∷ asks) replies given at more later n to h r = (h.0, joined (next ask.answer) asks replies given at more later n to h.1 r)
joined (Sends channel command next) asks [] given at more later n to h r = from_here (Sends channel command next) asks [] given at more later n to h r
joined (Sends channel command next) asks (bytes ∷ replies) given at more later n to h r =
    (h.0, (h.1.0, joined (next h.0) asks replies given at more later n to h.1.1 r))
joined (Passes step next) asks replies zero at more later n to h r = from_here (Passes step next) asks replies zero at more later n to h r
joined (Passes step next) asks replies (suc given) at more later n to h r =
    let e : suc given + n ≡ suc (given + n) = omega arith in
    subst (λ (m : ℕ). Reached (Passes step next) (asks ++ more) (replies ++ later) m to) (sym e) (joined next asks replies given at more later n to h r)
joined (Gives request reply next) asks replies zero at more later n to h r = from_here (Gives request reply next) asks replies zero at more later n to h r
joined (Gives request reply next) asks replies (suc given) at more later n to h r =
    let e : suc given + n ≡ suc (given + n) = omega arith in
    subst (λ (m : ℕ). Reached (Gives request reply next) (asks ++ more) (replies ++ later) m to) (sym e) (joined next asks replies given at more later n to h r)
joined (Stops step status) asks replies given at more later n to h r = from_here (Stops step status) asks replies given at more later n to h r
joined (Faults step) asks replies given at more later n to h r = from_here (Faults step) asks replies given at more later n to h r
joined Ends asks replies given at more later n to h r = from_here Ends asks replies given at more later n to h r

-- from a course to where the terminal stands once it has done what comes there
left_there : (at : Course) → Reached at [] [] (count_of (move_of at)) (left_at at).course
left_there (Asks question later) = here (Asks question later)
left_there (Sends channel command later) = here (Sends channel command later)
left_there (Passes step later) = here later
left_there (Gives request reply later) = here later
left_there (Stops step status) = here (Stops step status)
left_there (Faults step) = here (Faults step)
left_there Ends = here Ends

left_waits : (at : Course) → (left_at at).waits ≡ is_sent (move_of at)
left_waits (Asks question later) = refl
left_waits (Sends channel command later) = refl
left_waits (Passes step later) = refl
left_waits (Gives request reply later) = refl
left_waits (Stops step status) = refl
left_waits (Faults step) = refl
left_waits Ends = refl

left_ended : (at : Course) → (left_at at).ended ≡ is_end (move_of at)
left_ended (Asks question later) = refl
left_ended (Sends channel command later) = refl
left_ended (Passes step later) = refl
left_ended (Gives request reply later) = refl
left_ended (Stops step status) = refl
left_ended (Faults step) = refl
left_ended Ends = refl

-- along the asks and the replies, and then behind what was done
left_behind : (c : Course) (asks : List Ask) (replies : List (List ℕ)) (given : ℕ) (at : Course) → Reached c asks replies given at
    → Reached c asks replies (given + count_of (move_of at)) (left_at at).course
left_behind c asks replies given at h =
    let all = joined c asks replies given at [] [] (count_of (move_of at)) (left_at at).course h (left_there at) in
    subst (λ (xs : List Ask). Reached c xs replies (given + count_of (move_of at)) (left_at at).course) (append-nil asks)
    (subst (λ (ys : List (List ℕ)). Reached c (asks ++ []) ys (given + count_of (move_of at)) (left_at at).course) (append-nil replies) all)

-- what a turn promises
pub goes : (before after : CoproSeen) (old new : TerminalView) (reply : Option (List ℕ)) (move : Move) (asks : List Ask) (at : Course)
    → WereAsked before after asks → Reached old.course asks (option_to_list reply) 0 at → new ≡ left_at at → move ≡ move_of at → SendsBytes at
    → (tells_fault move ≡ true → Rose before.faults after.faults) → Goes before after old new reply move
goes before after old new reply move asks at asked reached left is octets fault = record {
  asks = asks;
  were_asked = asked;
  at = at;
  reached = reached;
  is = is;
  octets = octets;
  left = left;
  goes_on = λ plan past heard given stands.
      let there : Reached (course plan) (past ++ asks) (heard ++ option_to_list reply) given at =
      subst (λ (n : ℕ). Reached (course plan) (past ++ asks) (heard ++ option_to_list reply) n at) (add-zero given)
      (joined (course plan) past heard given old.course asks (option_to_list reply) 0 at stands reached) in
      let behind : Reached (course plan) (past ++ asks) (heard ++ option_to_list reply) (given + count_of (move_of at)) (left_at at).course =
      left_behind (course plan) (past ++ asks) (heard ++ option_to_list reply) given at there in (
        record { at = at; reached = there; is = is },
        subst (λ (m : Move). Reached (course plan) (past ++ asks) (heard ++ option_to_list reply) (given + count_of m) new.course) (sym is)
            (subst (λ (t : TerminalView). Reached (course plan) (past ++ asks) (heard ++ option_to_list reply) (given + count_of (move_of at)) t.course) (sym left) behind),
      );
  waits = ap (λ (t : TerminalView). t.waits) left ∙ left_waits at ∙ ap is_sent (sym is);
  ended = ap (λ (t : TerminalView). t.ended) left ∙ left_ended at ∙ ap is_end (sym is);
  fault = fault;
}

-- ---- a turn of each state

none_copied : (reply : Option (Bor (List ℕ))) → is_some reply ≡ false → option_copied reply ≡ None
none_copied None h = refl
none_copied (Some bytes) h = cc

pub ready_goes : (before after : CoproSeen) (plan : PlainPlan) (channel : Option ChannelState) (state : State) (standing : Standing) (reply : Option (Bor (List ℕ))) (turn : TurnSeen)
    → state ≡ states.Ready standing → is_some reply ≡ (state_view plan channel state).waits → Comes before after plan turn (ready_course plan standing channel)
    → Goes before after (state_view plan channel state) (state_view plan turn.channel turn.state) (option_copied reply) turn.move
ready_goes before after plan channel state standing reply turn is due comes =
    let none : option_copied reply ≡ None = none_copied reply (due ∙ ap (λ (s : State). (state_view plan channel s).waits) is) in
    subst (λ (s : State). Goes before after (state_view plan channel s) (state_view plan turn.channel turn.state) (option_copied reply) turn.move) (sym is)
    (subst (λ (r : Option (List ℕ)). Goes before after (state_view plan channel (states.Ready standing)) (state_view plan turn.channel turn.state) r turn.move) (sym none)
    (goes before after (state_view plan channel (states.Ready standing)) (state_view plan turn.channel turn.state) None turn.move comes.asks comes.at
    comes.were_asked comes.reached comes.did.left comes.did.move comes.did.octets comes.fault))

pub waiting_goes : (before after : CoproSeen) (plan : PlainPlan) (channel : Option ChannelState) (state : State) (awaited : Awaited) (reply : Option (Bor (List ℕ))) (bytes : Bor (List ℕ)) (turn : TurnSeen)
    → state ≡ states.Waiting awaited → reply ≡ Some bytes → Heard before after plan awaited channel bytes.now turn
    → Goes before after (state_view plan channel state) (state_view plan turn.channel turn.state) (option_copied reply) turn.move
waiting_goes before after plan channel state awaited reply bytes turn is there heard =
    subst (λ (s : State). Goes before after (state_view plan channel s) (state_view plan turn.channel turn.state) (option_copied reply) turn.move) (sym is)
    (subst (λ (r : Option (Bor (List ℕ))). Goes before after (state_view plan channel (states.Waiting awaited)) (state_view plan turn.channel turn.state) (option_copied r) turn.move) (sym there)
    (goes before after (state_view plan channel (states.Waiting awaited)) (state_view plan turn.channel turn.state) (Some bytes.now) turn.move heard.comes.asks heard.comes.at
    heard.comes.were_asked (heard.reading, (heard.reads, heard.comes.reached)) heard.comes.did.left heard.comes.did.move heard.comes.did.octets heard.comes.fault))
