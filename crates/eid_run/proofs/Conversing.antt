-- Conversations one behind the other, and that a course ends.
use Rattle.std.proofs.Common.{◌≡◌, List, [], ◌∷◌, ◌++◌, length, map, Option, Some, None, refl, ap, subst}
use Rattle.std.specs.Prelude.{option_map}
use Rattle.std.specs.Option.{option_to_list}
use Rattle.eid_copro.specs.declared.ask.Ask.{Ask}
use Rattle.eid_terminal.specs.Courses.{Course, Asks, Sends, Passes, Gives, Stops, Faults, Ends, Reached}
use Rattle.eid_run.specs.Conversations.{Exchange, IsAt, Talks, Told, reply_of, IsDue}

-- ---- one behind the other

pub here : (at : Course) → Talks at [] [] [] at
here (Asks question later) = (refl, refl, refl, refl)
here (Sends channel command later) = (refl, refl, refl, refl)
here (Passes step later) = (refl, refl, refl, refl)
here (Gives request reply later) = (refl, refl, refl, refl)
here (Stops step status) = (refl, refl, refl, refl)
here (Faults step) = (refl, refl, refl, refl)
here Ends = (refl, refl, refl, refl)

-- behind a conversation in which nothing passed
from_here : (course mid at : Course) (asks more : List Ask) (exchanges further : List Exchange) (told later : List Told) → IsAt course asks exchanges told mid → Talks mid more further later at
    → Talks course (asks ++ more) (exchanges ++ further) (told ++ later) at
from_here course mid at asks more exchanges further told later is talks =
    let course_at : Talks course more further later at = subst (λ (c : Course). Talks c more further later at) is.3 talks in
    rw (is.0, is.1, is.2) course_at

pub talks_on : (course mid at : Course) (asks more : List Ask) (exchanges further : List Exchange) (told later : List Told) → Talks course asks exchanges told mid → Talks mid more further later at
    → Talks course (asks ++ more) (exchanges ++ further) (told ++ later) at
talks_on (Asks question next) mid at [] more exchanges further told later is talks = from_here (Asks question next) mid at [] more exchanges further told later is talks
talks_on (Asks question next) mid at (ask ∷ asks) more exchanges further told later is talks =
    (is.0, talks_on (next ask.answer) mid at asks more exchanges further told later is.1 talks)
talks_on (Sends channel command next) mid at asks more [] further told later is talks = from_here (Sends channel command next) mid at asks more [] further told later is talks
talks_on (Sends channel command next) mid at asks more (e ∷ exchanges) further told later is talks =
    (is.0, (is.1.0, (is.1.1.0, talks_on (next is.1.0) mid at asks more exchanges further told later is.1.1.1 talks)))
talks_on (Passes step next) mid at asks more exchanges further [] later is talks = from_here (Passes step next) mid at asks more exchanges further [] later is talks
talks_on (Passes step next) mid at asks more exchanges further (t ∷ told) later is talks = (is.0, talks_on next mid at asks more exchanges further told later is.1 talks)
talks_on (Gives request reply next) mid at asks more exchanges further [] later is talks = from_here (Gives request reply next) mid at asks more exchanges further [] later is talks
talks_on (Gives request reply next) mid at asks more exchanges further (t ∷ told) later is talks = (is.0, talks_on next mid at asks more exchanges further told later is.1 talks)
talks_on (Stops step status) mid at asks more exchanges further told later is talks = from_here (Stops step status) mid at asks more exchanges further told later is talks
talks_on (Faults step) mid at asks more exchanges further told later is talks = from_here (Faults step) mid at asks more exchanges further told later is talks
talks_on Ends mid at asks more exchanges further told later is talks = from_here Ends mid at asks more exchanges further told later is talks

-- ---- a turn of the terminal, as a conversation

-- on the way only questions are put
pub talks_none : (course at : Course) (asks : List Ask) → Reached course asks [] 0 at → Talks course asks [] [] at
talks_none (Asks question later) at [] is = (is.0, refl, refl, is.3)
talks_none (Asks question later) at (ask ∷ asks) is = (is.0, talks_none (later ask.answer) at asks is.1)
talks_none (Sends channel command later) at asks is = (is.0, refl, refl, is.3)
talks_none (Passes step later) at asks is = (is.0, refl, refl, is.3)
talks_none (Gives request reply later) at asks is = (is.0, refl, refl, is.3)
talks_none (Stops step status) at asks is = (is.0, refl, refl, is.3)
talks_none (Faults step) at asks is = (is.0, refl, refl, is.3)
talks_none Ends at asks is = (is.0, refl, refl, is.3)

-- behind the reply to a command that was sent
pub talks_one : (course at : Course) (asks : List Ask) (e : Exchange) → IsDue course e.command → Reached course asks (e.reply ∷ []) 0 at → Talks course asks (e ∷ []) [] at
talks_one (Asks question later) at asks e sends is = absurd sends
talks_one (Sends channel command later) at asks e sends is = (sends, (is.0, (is.1.0, talks_none (later is.0) at asks is.1.1)))
talks_one (Passes step later) at asks e sends is = absurd sends
talks_one (Gives request reply later) at asks e sends is = absurd sends
talks_one (Stops step status) at asks e sends is = absurd sends
talks_one (Faults step) at asks e sends is = absurd sends
talks_one Ends at asks e sends is = absurd sends

-- the same where a reply may be due
pub talks_turn : (course at : Course) (asks : List Ask) (due : Option Exchange) → (((e : Exchange) → due ≡ Some e → IsDue course e.command))
    → Reached course asks (option_to_list (option_map reply_of due)) 0 at → Talks course asks (option_to_list due) [] at
talks_turn course at asks None sends is = talks_none course at asks is
talks_turn course at asks (Some e) sends is = talks_one course at asks e (sends e refl) is

-- ---- what the definition of the terminal says of it

at_reached : (course at : Course) (asks : List Ask) (exchanges : List Exchange) (told : List Told) → IsAt course asks exchanges told at → (asks ≡ []) × (map reply_of exchanges ≡ []) × (length told ≡ 0) × (at ≡ course)
at_reached course at asks exchanges told is = (is.0, ap (map reply_of) is.1, ap length is.2, is.3)

pub reached_of : (course at : Course) (asks : List Ask) (exchanges : List Exchange) (told : List Told) → Talks course asks exchanges told at → Reached course asks (map reply_of exchanges) (length told) at
reached_of (Asks question later) at [] exchanges told is = at_reached (Asks question later) at [] exchanges told is
reached_of (Asks question later) at (ask ∷ asks) exchanges told is = (is.0, reached_of (later ask.answer) at asks exchanges told is.1)
reached_of (Sends channel command later) at asks [] told is = at_reached (Sends channel command later) at asks [] told is
reached_of (Sends channel command later) at asks (e ∷ exchanges) told is = (is.1.0, (is.1.1.0, reached_of (later is.1.0) at asks exchanges told is.1.1.1))
reached_of (Passes step later) at asks exchanges [] is = at_reached (Passes step later) at asks exchanges [] is
reached_of (Passes step later) at asks exchanges (t ∷ told) is = reached_of later at asks exchanges told is.1
reached_of (Gives request reply later) at asks exchanges [] is = at_reached (Gives request reply later) at asks exchanges [] is
reached_of (Gives request reply later) at asks exchanges (t ∷ told) is = reached_of later at asks exchanges told is.1
reached_of (Stops step status) at asks exchanges told is = at_reached (Stops step status) at asks exchanges told is
reached_of (Faults step) at asks exchanges told is = at_reached (Faults step) at asks exchanges told is
reached_of Ends at asks exchanges told is = at_reached Ends at asks exchanges told is
