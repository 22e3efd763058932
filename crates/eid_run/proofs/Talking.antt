-- A session with one turn more.
use Rattle.std.proofs.Common.{◌≡◌, ℕ, ◌+◌, suc, Bool, true, false, IsTrue, List, [], ◌∷◌, ◌++◌, length, map, Option, Some, None, Err, refl, sym, ap, ◌∙◌, subst, inl, inr, ◌≤◌, append_assoc, append-nil, length-append, arith, IfSome}
use Rattle.std.specs.Prelude.{◌==◌, IsErrOf, is_some, option_map, slice_index, if◌then◌else◌}
use Rattle.std.specs.Option.{option_to_list}
use Rattle.std.specs.List.{count_by}
use Rattle.std.proofs.lemmas.List.Sums.{fold-append}
use Rattle.std.proofs.lemmas.Grind.{flat_map-append}
use Rattle.std.proofs.lemmas.List.{length-map, map-append}
use Rattle.std.specs.List.{All}
use Rattle.std.proofs.lemmas.List.Elements.{All-cons, All-nil}
use Rattle.eid_base.specs.declared.codes.RunError.{RunError}
use Rattle.eid_base.specs.declared.codes.RunError.TheVariants.{SinkFault, NoMemory}
use Rattle.eid_base.specs.Faults.{Rose}
use Rattle.eid_base.specs.Seen.{Grew, GrewByPart, SinkSeen}
use Rattle.eid_cells.specs.Device.{Device}
use Rattle.eid_chip.specs.Fits.{Fits, Scene, is_off, scene}
use Rattle.eid_chip.specs.States.{ChipView}
use Rattle.eid_copro.specs.Seen.{CoproSeen}
use Rattle.eid_copro.specs.declared.ask.Ask.{Ask}
use Rattle.eid_copro.specs.declared.ask.Question.{Question}
use Rattle.eid_model.specs.Legal.{silent}
use Rattle.eid_model.specs.Moments.{Event, PoweredOn, PoweredOff, Received, PlainMoment}
use Rattle.eid_record.specs.Plain.{FullRecord}
use Rattle.eid_script.specs.Scripts.{ScriptLine, OnLine, ApduLine}
use Rattle.eid_apdu.specs.Answer.{PlainReply}
use Rattle.eid_terminal.specs.declared.action.Deed.{Deed}
use Rattle.eid_terminal.specs.declared.action.Deed.TheVariants as deeds
use Rattle.eid_terminal.specs.declared.plan.Request.{Request}
use Rattle.eid_terminal.specs.Courses.{Course, Asks, Sends, Passes, Gives, Stops, Faults, Ends, Reached, SendsBytes, sent}
use Rattle.eid_terminal.specs.Moves.{Move, move_of}
use Rattle.eid_terminal.specs.Moves as moves
use Rattle.eid_terminal.specs.Plans.{IsFit, PlainPlan}
use Rattle.eid_terminal.specs.Replies.{success}
use Rattle.eid_terminal.specs.Terminals.{Goes, TerminalView, begun, course, left_at, move_made}
use Rattle.eid_terminal.proofs.Within.{at_most}
use Rattle.eid_run.specs.Conversations.{Exchange, IsEnd, Talks, Told, Passed, Result, command_of, reply_of, IsDue}
use Rattle.eid_step.specs.Effects.{Did, LineEffect, line_for}
use Rattle.eid_step.specs.Lines.{DidLine, IsLine, Keeps}
use Rattle.eid_step.specs.Sendable.{AnswersWell}
use Rattle.eid_step.specs.Sinks.{TellsFault, untold}
use Rattle.eid_run.specs.Report.{report, stop_line, told_line, told_lines}
use Rattle.eid_run.specs.Runs.{Outside, journal}
use Rattle.eid_run.specs.Sessions.{AreReplies, Conversed, DidPartOfSession, DidSession, command_line, replied, replies_in, replies_to, session_lines}
use Rattle.eid_run.specs.Tallies.{CountedSession, IsTallyOf, is_answered, is_refused, no_results, tally_more, tally_reply}
use Rattle.eid_run.specs.declared.tally.Tally.{Tally}
use Rattle.eid_run.specs.Talk.{BrokeTurn, ChipDid, DidTurn, IsLeftAlone, NoTurn, PartOfTurn, Standing, turn_line, standing}
use Rattle.eid_run.proofs.Conversing.{here, reached_of, talks_on, talks_turn}
use Rattle.eid_run.proofs.SoFar.{IsRunSoFar, IsTalkSoFar, turns, written_so_far}
use Rattle.eid_run.proofs.Running.{ran_happened, ran_lines, ran_more}

-- ---- lists

lines_more : (exchanges : List Exchange) (e : Exchange) → session_lines (exchanges ++ e ∷ []) ≡ session_lines exchanges ++ ApduLine e.command ∷ []
lines_more exchanges e = ap (λ (l : List ScriptLine). OnLine ∷ l) (map-append command_line exchanges (e ∷ []))

told_more : (plan : PlainPlan) (told : List Told) (t : Told) → told_lines plan (told ++ t ∷ []) ≡ told_lines plan told ++ told_line plan t
told_more plan told t = flat_map-append (told_line plan) told (t ∷ []) ∙ ap (λ (l : List ℕ). told_lines plan told ++ l) (append-nil (told_line plan t))

received_reply : (input : Event) (bytes reply : List ℕ) → line_for input ≡ ApduLine bytes → replies_to input reply ≡ reply ∷ []
received_reply (PoweredOn found) bytes reply e = absurd (cc)
received_reply PoweredOff bytes reply e = absurd (cc)
received_reply (Received command) bytes reply e = refl

never_asks : (deed : Deed) (message : List ℕ) (heard : PlainReply) (question : Question) → move_made deed message heard ≡ moves.Asks question → ⊥
never_asks deeds.Send message heard question e = cc
never_asks (deeds.Result request) message heard question e = cc
never_asks (deeds.Passed step) message heard question e = cc
never_asks deeds.Done message heard question e = cc
never_asks (deeds.Stopped step status) message heard question e = cc
never_asks (deeds.Fault step) message heard question e = cc

-- ---- the parts of a session so far

-- what was asked, what passed, and where the terminal is, behind one turn
record Turned (plan : PlainPlan) (asks : List Ask) (exchanges : List Exchange) (told : List Told) (first_log log_now : List Ask) (at : Course) : Type 0 where
  talks : Talks (course plan) asks exchanges told at
  logged : log_now ≡ first_log ++ asks

turned : (plan : PlainPlan) (opening : FullRecord) (start : Scene) (first old new : Standing) (taken : ℕ) (so : IsTalkSoFar plan opening start first old taken) (asked : CoproSeen) (move : Move) → asked.log ≡ old.copro.log → (goes : Goes asked new.copro old.terminal new.terminal old.due move)
    → Turned plan (so.asks ++ goes.asks) (so.exchanges ++ option_to_list so.pending) so.told first.copro.log new.copro.log goes.at
turned plan opening start first old new taken so asked move room goes =
    let reached : Reached old.terminal.course goes.asks (option_to_list (option_map reply_of so.pending)) 0 goes.at =
    subst (λ (d : Option (List ℕ)). Reached old.terminal.course goes.asks (option_to_list d) 0 goes.at) so.due_is goes.reached in
    let turn = talks_turn old.terminal.course goes.at goes.asks so.pending so.sends reached in
    let all = talks_on (course plan) old.terminal.course goes.at so.asks goes.asks so.exchanges (option_to_list so.pending) so.told [] so.talks turn in
    record {
      talks = subst (λ (t : List Told). Talks (course plan) (so.asks ++ goes.asks) (so.exchanges ++ option_to_list so.pending) t goes.at) (append-nil so.told) all;
      logged = goes.were_asked.logged ∙ ap (λ (l : List Ask). l ++ goes.asks) (room ∙ so.logged) ∙ append_assoc first.copro.log so.asks goes.asks;
    }

-- the run, where the chip was left alone
run_alone : (opening : FullRecord) (start old new : Scene) (log_0 log log_now : List Ask) (exchanges : List Exchange) (run : IsRunSoFar opening start old log_0 log (session_lines exchanges) untold untold)
    → AreReplies run.happened exchanges → IsLeftAlone old new log log_now
    → (now : IsRunSoFar opening start new log_0 log_now (session_lines (exchanges ++ [])) untold untold) × (AreReplies now.happened (exchanges ++ []))
run_alone opening start old new log_0 log log_now exchanges run replies alone =
    subst (λ (es : List Exchange). (now : IsRunSoFar opening start new log_0 log_now (session_lines es) untold untold) × (AreReplies now.happened es)) (sym (append-nil exchanges))
    (subst (λ (s : Scene). (now : IsRunSoFar opening start s log_0 log_now (session_lines exchanges) untold untold) × (AreReplies now.happened exchanges)) (sym alone.0)
    (subst (λ (l : List Ask). (now : IsRunSoFar opening start old log_0 l (session_lines exchanges) untold untold) × (AreReplies now.happened exchanges)) (sym alone.1) (run, replies)))

-- and where it handled one command more
run_one : (opening : FullRecord) (start old new : Scene) (log_0 log log_now : List Ask) (exchanges : List Exchange) (e : Exchange) (m : PlainMoment) (run : IsRunSoFar opening start old log_0 log (session_lines exchanges) untold untold)
    → AreReplies run.happened exchanges → IsLine old new log log_now (ApduLine e.command) (Did m) → Keeps old new (ApduLine e.command) → e.reply ≡ replied m → AnswersWell m
    → (now : IsRunSoFar opening start new log_0 log_now (session_lines (exchanges ++ e ∷ [])) untold untold) × (AreReplies now.happened (exchanges ++ e ∷ []))
run_one opening start old new log_0 log log_now exchanges e m run replies made keeps reply well =
    let did : DidLine old new log log_now (ApduLine e.command) untold untold = record { happened = Did m; made = made; written = λ never. absurd (cc) } in
    let now = ran_more opening start old new log_0 log log_now (session_lines exchanges) (ApduLine e.command) untold untold untold refl run did keeps in
    let happened : now.happened ≡ Did m ∷ run.happened = ran_happened opening start old new log_0 log log_now (session_lines exchanges) (ApduLine e.command) untold untold untold refl run did keeps in
    let last : replies_to m.input (replied m) ≡ e.reply ∷ [] = received_reply m.input e.command (replied m) made.carried ∙ ap (λ (r : List ℕ). r ∷ []) (sym reply) in
    let same : replies_in (journal now.happened) ≡ map reply_of (exchanges ++ e ∷ []) =
    ap (λ (h : List LineEffect). replies_in (journal h)) happened ∙ ap (λ (l : List (List ℕ)). l ++ replies_to m.input (replied m)) replies.same ∙ ap (λ (l : List (List ℕ)). map reply_of exchanges ++ l) last ∙ sym (map-append reply_of exchanges (e ∷ [])) in
    let all : AreReplies now.happened (exchanges ++ e ∷ []) =
    record { same = same; sendable = subst (λ (h : List LineEffect). All AnswersWell (journal h)) (sym happened) (All-cons AnswersWell m (journal run.happened) well replies.sendable) } in
    subst (λ (ls : List ScriptLine). (run_now : IsRunSoFar opening start new log_0 log_now ls untold untold) × (AreReplies run_now.happened (exchanges ++ e ∷ []))) (sym (lines_more exchanges e)) (now, all)

-- ---- the tally

-- one more, by what was told
abbrev tally_told : Tally → Told → Tally
tally_told tally (Passed step) = tally
tally_told tally (Result request reply) = tally_reply tally reply

same_count : (count more : ℕ) (told : List Told) (test : Told → Bool) (t : Told) → count ≡ count_by test told → more ≡ count + (if test t then 1 else 0) → more ≡ count_by test (told ++ t ∷ [])
same_count count more told test t is so =
    so ∙ ap (λ (n : ℕ). n + (if test t then 1 else 0)) is ∙ sym (fold-append (λ (n : ℕ) (x : Told). n + (if test x then 1 else 0)) 0 told (t ∷ []))

tally_on : (told : List Told) (t : Told) (tally : Tally) → IsTallyOf told tally → IsTallyOf (told ++ t ∷ []) (tally_told tally t)
tally_on told (Passed step) tally is = record {
  answered = same_count tally.answered tally.answered told is_answered (Passed step) is.answered (omega arith);
  refused = same_count tally.refused tally.refused told is_refused (Passed step) is.refused (omega arith);
}
tally_on told (Result request reply) tally is = by (reply.status == success) refl where
  by : (good : Bool) → (reply.status == success) ≡ good → IsTallyOf (told ++ Result request reply ∷ []) (tally_reply tally reply)
  by true good = record {
    answered = same_count tally.answered _ told is_answered (Result request reply) is.answered (rw good (omega arith));
    refused = same_count tally.refused _ told is_refused (Result request reply) is.refused (rw good (omega arith));
  }
  by false bad = record {
    answered = same_count tally.answered _ told is_answered (Result request reply) is.answered (rw bad (omega arith));
    refused = same_count tally.refused _ told is_refused (Result request reply) is.refused (rw bad (omega arith));
  }

-- ---- one turn more

-- what is written behind what was
grew_more : (start old new text line more : List ℕ) → old ≡ start ++ (text ++ []) → new ≡ old ++ line → more ≡ text ++ line → new ≡ start ++ more
grew_more start old new text line more earlier grew is =
    grew ∙ ap (λ (l : List ℕ). l ++ line) (earlier ∙ ap (λ (l : List ℕ). start ++ l) (append-nil text)) ∙ append_assoc start text line ∙ ap (λ (l : List ℕ). start ++ l) (sym is)

-- one more was told, or nothing
told_so : (plan : PlainPlan) (told : List Told) (t : Told) → told_lines plan (told ++ t ∷ []) ++ [] ≡ told_lines plan told ++ told_line plan t
told_so plan told t = append-nil (told_lines plan (told ++ t ∷ [])) ∙ told_more plan told t

one_longer : (exchanges : List Exchange) (pending : Option Exchange) (told : List Told) (t : Told) → turns (exchanges ++ option_to_list pending) None (told ++ t ∷ []) ≡ suc (turns exchanges pending told)
one_longer exchanges pending told t =
    let none : length ((exchanges ++ option_to_list pending) ++ []) ≡ length (exchanges ++ option_to_list pending) = ap length (append-nil (exchanges ++ option_to_list pending)) in
    let more = length-append told (t ∷ []) in
    omega (arith, none, more)

one_sent : (exchanges : List Exchange) (pending : Option Exchange) (told : List Told) (e : Exchange) → turns (exchanges ++ option_to_list pending) (Some e) told ≡ suc (turns exchanges pending told)
one_sent exchanges pending told e = let more = length-append (exchanges ++ option_to_list pending) (e ∷ []) in omega (arith, more)

some_same : (a b : Exchange) → Some a ≡ Some b → a ≡ b
some_same a b e = cc

pub talk_more : (plan : PlainPlan) (opening : FullRecord) (start : Scene) (first old new : Standing) (taken : ℕ) → IsTalkSoFar plan opening start first old taken → old.terminal.ended ≡ false → old.sink.tells ≡ first.sink.tells
    → DidTurn plan.requests old new → IsTalkSoFar plan opening start first new (suc taken)
talk_more plan opening start first old new taken so alive tells did = by did.goes.at did.goes.is did.goes.octets did.goes.left all.talks (subst (λ (m : Move). ChipDid old.scene new.scene old.log new.log new.due m) did.goes.is did.chip) where
  asks : List Ask
  asks = so.asks ++ did.goes.asks

  exchanges : List Exchange
  exchanges = so.exchanges ++ option_to_list so.pending

  all : Turned plan asks exchanges so.told first.copro.log new.copro.log did.goes.at
  all = turned plan opening start first old new taken so did.asked (move_made did.deed did.message did.heard) did.room did.goes

  count_at : (at : Course) → move_made did.deed did.message did.heard ≡ move_of at → new.tally ≡ tally_more old.tally (move_of at)
  count_at at is = did.counted ∙ ap (tally_more old.tally) is

  tally_as : new.tally ≡ old.tally → IsTallyOf so.told new.tally
  tally_as count = subst (λ (y : Tally). IsTallyOf so.told y) (sym count) so.tallied

  taken_is : taken ≡ turns so.exchanges so.pending so.told
  taken_is = so.counted alive

  wrote : (line more : List ℕ) → turn_line plan.requests (move_made did.deed did.message did.heard) ≡ line → more ≡ told_lines plan so.told ++ line → IsTrue first.sink.tells → Grew first.sink.written new.sink.written more
  wrote line more is so_is telling =
      let earlier : old.sink.written ≡ first.sink.written ++ (told_lines plan so.told ++ []) =
      so.written telling ∙ ap (λ (b : Bool). first.sink.written ++ (told_lines plan so.told ++ (if b then stop_line old.terminal.course else []))) alive in
      grew_more first.sink.written old.sink.written new.sink.written (told_lines plan so.told) line more earlier (did.written (tells ∙ telling) ∙ ap (λ (l : List ℕ). old.sink.written ++ l) is) so_is

  quiet : (told : List Told) (terminal : TerminalView) → new.terminal ≡ terminal → Talks (course plan) asks exchanges told terminal.course → terminal.waits ≡ false → IsLeftAlone old.scene new.scene old.log new.log × (new.due ≡ None)
      → IsTallyOf told new.tally → (IsTrue first.sink.tells → Grew first.sink.written new.sink.written (written_so_far plan told terminal)) → (terminal.ended ≡ false → suc taken ≡ turns exchanges None told)
      → (terminal.ended ≡ true → IsEnd terminal.course) → IsTalkSoFar plan opening start first new (suc taken)
  quiet told terminal left talks waits alone tallied written counted over =
      let ran = run_alone opening start old.scene new.scene first.log old.log new.log exchanges so.run so.replies alone.0 in
      record {
        asks = asks;
        exchanges = exchanges;
        told = told;
        pending = None;
        talks = subst (λ (t : TerminalView). Talks (course plan) asks exchanges told t.course) (sym left) talks;
        sends = λ e is. absurd (cc);
        due_is = alone.1;
        waits = ap (λ (t : TerminalView). t.waits) left ∙ waits;
        logged = all.logged;
        run = ran.0;
        replies = ran.1;
        written = λ telling. subst (λ (t : TerminalView). Grew first.sink.written new.sink.written (written_so_far plan told t)) (sym left) (written telling);
        counted = λ e. counted (sym (ap (λ (t : TerminalView). t.ended) left) ∙ e);
        tallied = tallied;
        over = λ e. (subst (λ (t : TerminalView). IsEnd t.course) (sym left) (over (sym (ap (λ (t : TerminalView). t.ended) left) ∙ e)), refl);
      }

  told_one : (t : Told) (at later : Course) → new.terminal ≡ left_at at → left_at at ≡ record { course = later; waits = false; ended = false } → Talks (course plan) asks exchanges so.told at → Talks at [] [] (t ∷ []) later
      → turn_line plan.requests (move_made did.deed did.message did.heard) ≡ told_line plan t → new.tally ≡ tally_told old.tally t → IsLeftAlone old.scene new.scene old.log new.log × (new.due ≡ None) → IsTalkSoFar plan opening start first new (suc taken)
  told_one t at later left is talks step line count alone =
      let more = talks_on (course plan) at later asks [] exchanges [] so.told (t ∷ []) talks step in
      let here_now : Talks (course plan) asks exchanges (so.told ++ t ∷ []) later =
      subst (λ (a : List Ask). Talks (course plan) a exchanges (so.told ++ t ∷ []) later) (append-nil asks) (subst (λ (es : List Exchange). Talks (course plan) (asks ++ []) es (so.told ++ t ∷ []) later) (append-nil exchanges) more) in
      quiet (so.told ++ t ∷ []) (record { course = later; waits = false; ended = false }) (left ∙ is) here_now refl alone
      (subst (λ (y : Tally). IsTallyOf (so.told ++ t ∷ []) y) (sym count) (tally_on so.told t old.tally so.tallied)) (wrote (told_line plan t) (told_lines plan (so.told ++ t ∷ []) ++ []) line (told_so plan so.told t)) (λ e. ap suc taken_is ∙ sym (one_longer so.exchanges so.pending so.told t)) (λ e. absurd (cc))

  ended_so : (at : Course) → new.terminal ≡ record { course = at; waits = false; ended = true } → Talks (course plan) asks exchanges so.told at → turn_line plan.requests (move_made did.deed did.message did.heard) ≡ stop_line at
      → new.tally ≡ old.tally → IsLeftAlone old.scene new.scene old.log new.log × (new.due ≡ None) → IsEnd at → IsTalkSoFar plan opening start first new (suc taken)
  ended_so at left talks line count alone end =
      quiet so.told (record { course = at; waits = false; ended = true }) left talks refl alone (tally_as count) (wrote (stop_line at) (told_lines plan so.told ++ stop_line at) line refl) (λ e. absurd (cc)) (λ e. end)

  by : (at : Course) → move_made did.deed did.message did.heard ≡ move_of at → SendsBytes at → new.terminal ≡ left_at at → Talks (course plan) asks exchanges so.told at → ChipDid old.scene new.scene old.log new.log new.due (move_of at) → IsTalkSoFar plan opening start first new (suc taken)
  by (Asks question later) is octets left talks chip = absurd (never_asks did.deed did.message did.heard question is)
  by (Sends channel command later) is octets left talks chip =
      let e : Exchange = record { command = sent channel command; reply = replied chip.moment } in
      let ran = run_one opening start old.scene new.scene first.log old.log new.log exchanges e chip.moment so.run so.replies chip.made chip.keeps refl chip.sendable in
      record {
        asks = asks;
        exchanges = exchanges;
        told = so.told;
        pending = Some e;
        talks = subst (λ (t : TerminalView). Talks (course plan) asks exchanges so.told t.course) (sym left) talks;
        sends = λ other same.
            let commands : e.command ≡ other.command = ap command_of (some_same e other same) in
            subst (λ (t : TerminalView). IsDue t.course other.command) (sym left) (record { written = sym commands; octets = octets });
        due_is = chip.brought;
        waits = ap (λ (t : TerminalView). t.waits) left;
        logged = all.logged;
        run = ran.0;
        replies = ran.1;
        written = λ telling. subst (λ (t : TerminalView). Grew first.sink.written new.sink.written (written_so_far plan so.told t)) (sym left) (wrote [] (told_lines plan so.told ++ []) (ap (turn_line plan.requests) is) refl telling);
        counted = λ alive_now. ap suc taken_is ∙ sym (one_sent so.exchanges so.pending so.told e);
        tallied = tally_as (count_at (Sends channel command later) is);
        over = λ ended. absurd (let no : new.terminal.ended ≡ false = ap (λ (t : TerminalView). t.ended) left in cc);
      }
  by (Passes step later) is octets left talks chip = told_one (Passed step) (Passes step later) later left refl talks (refl, here later) (ap (turn_line plan.requests) is) (count_at (Passes step later) is) chip
  by (Gives place reply later) is octets left talks chip = told_one (Result place reply) (Gives place reply later) later left refl talks (refl, here later) (ap (turn_line plan.requests) is) (count_at (Gives place reply later) is) chip
  by (Stops step status) is octets left talks chip = ended_so (Stops step status) left talks (ap (turn_line plan.requests) is) (count_at (Stops step status) is) chip tt
  by (Faults step) is octets left talks chip = ended_so (Faults step) left talks (ap (turn_line plan.requests) is) (count_at (Faults step) is) chip tt
  by Ends is octets left talks chip = ended_so Ends left talks (ap (turn_line plan.requests) is) (count_at Ends is) chip tt

-- ---- where it begins

powered_reply : (input : Event) (reply : List ℕ) → line_for input ≡ OnLine → replies_to input reply ≡ []
powered_reply (PoweredOn found) reply e = refl
powered_reply PoweredOff reply e = absurd (cc)
powered_reply (Received command) reply e = absurd (cc)

-- nothing was run yet
no_lines : (opening : FullRecord) (start at : Scene) (log : List Ask) → Fits at opening [] → at.device ≡ start.device → (start.device.has_power ≡ false → is_off at.chip ≡ true → at.device.has_power ≡ false) → IsRunSoFar opening start at log log [] untold untold
no_lines opening start at log fits same dark = record {
  happened = [];
  fits = fits;
  legal = tt;
  counts = ap (λ (d : Device). d.cuts) same;
  exact = λ told. let cuts = ap (λ (d : Device). d.cuts) same in omega (arith, cuts);
  unplanned = λ told none unplanned. (tt, ap (λ (d : Device). d.planned) same ∙ none);
  strikes = λ told none few. (tt, ap (λ (d : Device). d.planned) same ∙ none);
  same_told = ap (λ (d : Device). d.told) same;
  dark = dark;
  carried = refl;
  logged = sym (append-nil log);
  written = λ told. absurd (cc);
}

pub talk_begun : (plan : PlainPlan) (opening : FullRecord) (start at : Scene) (first now : Standing) (input : Event) → Fits at opening [] → at.device ≡ start.device → (start.device.has_power ≡ false → is_off at.chip ≡ true → at.device.has_power ≡ false)
    → IsLine at now.scene first.log first.log OnLine (Did (silent input)) → Keeps at now.scene OnLine → now.terminal ≡ begun plan → now.due ≡ None → now.log ≡ first.log → now.copro ≡ first.copro → now.sink ≡ first.sink → now.tally ≡ no_results
    → IsTalkSoFar plan opening start first now 0
unfolding no_lines
talk_begun plan opening start at first now input fits same dark made keeps terminal due log copro sink tally =
    let empty = no_lines opening start at first.log fits same dark in
    let did : DidLine at now.scene first.log first.log OnLine untold untold = record { happened = Did (silent input); made = made; written = λ never. absurd (cc) } in
    let ran = ran_more opening start at now.scene first.log first.log first.log [] OnLine untold untold untold refl empty did keeps in
    let happened : ran.happened ≡ Did (silent input) ∷ [] = ran_happened opening start at now.scene first.log first.log first.log [] OnLine untold untold untold refl empty did keeps in
    let replies : AreReplies ran.happened [] = record {
      same = ap (λ (h : List LineEffect). replies_in (journal h)) happened ∙ powered_reply input [] made.carried;
      sendable = subst (λ (h : List LineEffect). All AnswersWell (journal h)) (sym happened) (All-cons AnswersWell (silent input) [] tt (All-nil AnswersWell));
    } in
    let both : (run : IsRunSoFar opening start now.scene first.log now.log (session_lines []) untold untold) × AreReplies run.happened [] =
    subst (λ (l : List Ask). (run : IsRunSoFar opening start now.scene first.log l (session_lines []) untold untold) × AreReplies run.happened []) (sym log) (ran, replies) in
    record {
      asks = [];
      exchanges = [];
      told = [];
      pending = None;
      talks = subst (λ (t : TerminalView). Talks (course plan) [] [] [] t.course) (sym terminal) (here (course plan));
      sends = λ e is. absurd (cc);
      due_is = due;
      waits = ap (λ (t : TerminalView). t.waits) terminal;
      logged = ap (λ (s : CoproSeen). s.log) copro ∙ sym (append-nil first.copro.log);
      run = both.0;
      replies = both.1;
      written = λ telling.
          ap (λ (s : SinkSeen). s.written) sink ∙ sym (append-nil first.sink.written)
          ∙ ap (λ (b : Bool). first.sink.written ++ (if b then stop_line now.terminal.course else [])) (sym (ap (λ (t : TerminalView). t.ended) terminal));
      counted = λ alive. refl;
      tallied = subst (λ (y : Tally). IsTallyOf [] y) (sym tally) (record { answered = refl; refused = refl });
      over = λ ended. absurd (let no : now.terminal.ended ≡ false = ap (λ (t : TerminalView). t.ended) terminal in cc);
    }

-- ---- where it ends

-- the command whose reply is due is what the course sends
if_pending : (at : Course) (pending : Option Exchange) → ((e : Exchange) → pending ≡ Some e → IsDue at e.command) → IfSome pending (λ e. IsDue at e.command)
if_pending at None sends = tt
if_pending at (Some e) sends = sends e refl

-- what was said between them, seen from outside
pub conversed : (plan : PlainPlan) (opening : FullRecord) (chip chip_now : ChipView) (old new : Outside) (terminal terminal_now : CoproSeen) (asks : List Ask) (exchanges : List Exchange) (told : List Told) (unheard : Option Exchange) (at : Course)
    → Talks (course plan) asks exchanges told at → IfSome unheard (λ e. IsDue at e.command)
    → (run : IsRunSoFar opening (scene chip old.device old.cells) (scene chip_now new.device new.cells) old.copro.log new.copro.log (session_lines (exchanges ++ option_to_list unheard)) untold untold)
    → AreReplies run.happened (exchanges ++ option_to_list unheard) → new.copro.told ≡ old.copro.told → slice_index new.cells 0 ≡ slice_index old.cells 0
    → terminal_now.log ≡ terminal.log ++ asks → terminal_now.told ≡ terminal.told → Conversed plan opening old new terminal terminal_now told at
conversed plan opening chip chip_now old new terminal terminal_now asks exchanges told unheard at talks sends run replies chip_told layout logged same = record {
  asks = asks;
  exchanges = exchanges;
  unheard = unheard;
  talks = talks;
  sends = sends;
  happened = run.happened;
  ran = ran_lines opening chip chip_now old new (session_lines (exchanges ++ option_to_list unheard)) untold untold run chip_told layout;
  undone = [];
  carried = append-nil _ ∙ run.carried;
  replies = replies;
  logged = logged;
  same_told = same;
}

-- the whole session
pub talk_ended : (plan : PlainPlan) (opening : FullRecord) (chip chip_now : ChipView) (old new : Outside) (terminal terminal_now : CoproSeen) (first_terminal terminal_at : TerminalView) (first_due due : Option (List ℕ)) (tally : Tally) (taken : ℕ)
    → IsTalkSoFar plan opening (scene chip old.device old.cells) (standing (scene chip old.device old.cells) old.copro.log terminal first_terminal first_due old.sink no_results)
    (standing (scene chip_now new.device new.cells) new.copro.log terminal_now terminal_at due new.sink tally) taken
    → terminal_at.ended ≡ true → new.copro.told ≡ old.copro.told → slice_index new.cells 0 ≡ slice_index old.cells 0 → terminal_now.told ≡ terminal.told → CountedSession plan opening old new terminal terminal_now tally
unfolding conversed
talk_ended plan opening chip chip_now old new terminal terminal_now first_terminal terminal_at first_due due tally taken so ended chip_told layout same =
    let over = so.over ended in
    let did : DidSession plan opening old new terminal terminal_now = record {
      told = so.told;
      at = terminal_at.course;
      conversed = conversed plan opening chip chip_now old new terminal terminal_now so.asks so.exchanges so.told so.pending terminal_at.course so.talks (if_pending terminal_at.course so.pending so.sends) so.run so.replies chip_told layout so.logged same;
      heard = over.1;
      done = refl;
      ended = over.0;
      written = λ telling. so.written telling ∙ ap (λ (b : Bool). old.sink.written ++ (told_lines plan so.told ++ (if b then stop_line terminal_at.course else []))) ended;
    } in record { did = did; counted = so.tallied }

-- ---- where it breaks off

-- a front of a line behind a text is a front of the text with the line and more
front_more : (text part rest line tail : List ℕ) → part ++ rest ≡ line → (text ++ part) ++ (rest ++ tail) ≡ (text ++ line) ++ tail
front_more text part rest line tail is =
    append_assoc text part (rest ++ tail) ∙ ap (λ (l : List ℕ). text ++ l) (sym (append_assoc part rest tail)) ∙ ap (λ (l : List ℕ). text ++ (l ++ tail)) is ∙ sym (append_assoc text line tail)

part_written : (start was now text line tail whole : List ℕ) → was ≡ start ++ (text ++ []) → GrewByPart was now line → whole ≡ (text ++ line) ++ tail → GrewByPart start now whole
part_written start was now text line tail whole earlier grew is = (
  text ++ grew.0,
  (grew.1.0 ++ tail, front_more text grew.0 grew.1.0 line tail grew.1.1 ∙ sym is),
  grew.2 ∙ ap (λ (l : List ℕ). l ++ grew.0) (earlier ∙ ap (λ (l : List ℕ). start ++ l) (append-nil text)) ∙ append_assoc start text grew.0,
)

pub talk_broke : (plan : PlainPlan) (opening : FullRecord) (chip chip_was chip_now : ChipView) (old was new : Outside) (terminal terminal_was terminal_now : CoproSeen) (first_terminal was_at now_at : TerminalView) (first_due was_due now_due : Option (List ℕ)) (was_tally now_tally : Tally) (taken : ℕ)
    → IsTalkSoFar plan opening (scene chip old.device old.cells) (standing (scene chip old.device old.cells) old.copro.log terminal first_terminal first_due old.sink no_results)
    (standing (scene chip_was was.device was.cells) was.copro.log terminal_was was_at was_due was.sink was_tally) taken
    → was_at.ended ≡ false → was.sink.tells ≡ old.sink.tells
    → BrokeTurn plan.requests (standing (scene chip_was was.device was.cells) was.copro.log terminal_was was_at was_due was.sink was_tally) (standing (scene chip_now new.device new.cells) new.copro.log terminal_now now_at now_due new.sink now_tally)
    → new.copro.told ≡ old.copro.told → slice_index new.cells 0 ≡ slice_index old.cells 0 → terminal_now.told ≡ terminal.told → DidPartOfSession plan opening old new terminal terminal_now
talk_broke plan opening chip chip_was chip_now old was new terminal terminal_was terminal_now first_terminal was_at now_at first_due was_due now_due was_tally now_tally taken so alive tells broke chip_told layout same = by broke where
  start : Scene
  start = scene chip old.device old.cells

  earlier : IsTrue old.sink.tells → was.sink.written ≡ old.sink.written ++ (told_lines plan so.told ++ [])
  earlier telling = so.written telling ∙ ap (λ (b : Bool). old.sink.written ++ (told_lines plan so.told ++ (if b then stop_line was_at.course else []))) alive

  alone_run : (exchanges : List Exchange) → IsLeftAlone (scene chip_was was.device was.cells) (scene chip_now new.device new.cells) was.copro.log new.copro.log
      → (run : IsRunSoFar opening start (scene chip_was was.device was.cells) old.copro.log was.copro.log (session_lines exchanges) untold untold) → AreReplies run.happened exchanges
      → (now : IsRunSoFar opening start (scene chip_now new.device new.cells) old.copro.log new.copro.log (session_lines (exchanges ++ [])) untold untold) × (AreReplies now.happened (exchanges ++ []))
  alone_run exchanges alone run replies = run_alone opening start (scene chip_was was.device was.cells) (scene chip_now new.device new.cells) old.copro.log was.copro.log new.copro.log exchanges run replies alone

  not_taken : NoTurn (standing (scene chip_was was.device was.cells) was.copro.log terminal_was was_at was_due was.sink was_tally) (standing (scene chip_now new.device new.cells) new.copro.log terminal_now now_at now_due new.sink now_tally) → DidPartOfSession plan opening old new terminal terminal_now
  not_taken none =
      let ran = alone_run (so.exchanges ++ option_to_list so.pending) none.chip so.run so.replies in
      let both : (now : IsRunSoFar opening start (scene chip_now new.device new.cells) old.copro.log new.copro.log (session_lines (so.exchanges ++ option_to_list so.pending)) untold untold) × (AreReplies now.happened (so.exchanges ++ option_to_list so.pending)) =
      subst (λ (es : List Exchange). (now : IsRunSoFar opening start (scene chip_now new.device new.cells) old.copro.log new.copro.log (session_lines es) untold untold) × (AreReplies now.happened es)) (append-nil (so.exchanges ++ option_to_list so.pending)) ran in
      record {
        told = so.told;
        at = was_at.course;
        conversed = conversed plan opening chip chip_now old new terminal terminal_now so.asks so.exchanges so.told so.pending was_at.course so.talks (if_pending was_at.course so.pending so.sends) both.0 both.1 chip_told layout (none.log ∙ so.logged) same;
        written = λ telling. (told_lines plan so.told, (stop_line was_at.course, refl), none.written (tells ∙ telling) ∙ earlier telling ∙ ap (λ (l : List ℕ). old.sink.written ++ l) (append-nil (told_lines plan so.told)));
      }

  partly : (p : PartOfTurn plan.requests (standing (scene chip_was was.device was.cells) was.copro.log terminal_was was_at was_due was.sink was_tally) (standing (scene chip_now new.device new.cells) new.copro.log terminal_now now_at now_due new.sink now_tally)) → DidPartOfSession plan opening old new terminal terminal_now
  partly p = at_move p.goes.at p.goes.is all.talks where
    asks : List Ask
    asks = so.asks ++ p.goes.asks

    exchanges : List Exchange
    exchanges = so.exchanges ++ option_to_list so.pending

    all : Turned plan asks exchanges so.told terminal.log terminal_now.log p.goes.at
    all = turned plan opening start (standing start old.copro.log terminal first_terminal first_due old.sink no_results) (standing (scene chip_was was.device was.cells) was.copro.log terminal_was was_at was_due was.sink was_tally)
        (standing (scene chip_now new.device new.cells) new.copro.log terminal_now now_at now_due new.sink now_tally) taken so p.asked (move_made p.deed p.message p.heard) p.room p.goes

    part_of : (told : List Told) (at : Course) (line tail : List ℕ) → Talks (course plan) asks exchanges told at → turn_line plan.requests (move_made p.deed p.message p.heard) ≡ line → report plan told at ≡ (told_lines plan so.told ++ line) ++ tail → DidPartOfSession plan opening old new terminal terminal_now
    part_of told at line tail talks is whole =
        let ran = alone_run exchanges p.chip so.run so.replies in
        record {
          told = told;
          at = at;
          conversed = conversed plan opening chip chip_now old new terminal terminal_now asks exchanges told None at talks tt ran.0 ran.1 chip_told layout all.logged same;
          written = λ telling. part_written old.sink.written was.sink.written new.sink.written (told_lines plan so.told) line tail (report plan told at) (earlier telling)
              (subst (λ (l : List ℕ). GrewByPart was.sink.written new.sink.written l) is (p.written (tells ∙ telling))) whole;
        }

    told_one : (t : Told) (at later : Course) → Talks (course plan) asks exchanges so.told at → Talks at [] [] (t ∷ []) later → turn_line plan.requests (move_made p.deed p.message p.heard) ≡ told_line plan t → DidPartOfSession plan opening old new terminal terminal_now
    told_one t at later talks step line =
        let more = talks_on (course plan) at later asks [] exchanges [] so.told (t ∷ []) talks step in
        let here_now : Talks (course plan) asks exchanges (so.told ++ t ∷ []) later =
        subst (λ (a : List Ask). Talks (course plan) a exchanges (so.told ++ t ∷ []) later) (append-nil asks) (subst (λ (es : List Exchange). Talks (course plan) (asks ++ []) es (so.told ++ t ∷ []) later) (append-nil exchanges) more) in
        part_of (so.told ++ t ∷ []) later (told_line plan t) (stop_line later) here_now line (ap (λ (l : List ℕ). l ++ stop_line later) (told_more plan so.told t))

    stopped : (at : Course) → Talks (course plan) asks exchanges so.told at → turn_line plan.requests (move_made p.deed p.message p.heard) ≡ stop_line at → DidPartOfSession plan opening old new terminal terminal_now
    stopped at talks line = part_of so.told at (stop_line at) [] talks line (sym (append-nil (told_lines plan so.told ++ stop_line at)))

    at_move : (at : Course) → move_made p.deed p.message p.heard ≡ move_of at → Talks (course plan) asks exchanges so.told at → DidPartOfSession plan opening old new terminal terminal_now
    at_move (Asks question later) is talks = absurd (never_asks p.deed p.message p.heard question is)
    at_move (Sends channel command later) is talks = stopped (Sends channel command later) talks (ap (turn_line plan.requests) is)
    at_move (Passes step later) is talks = told_one (Passed step) (Passes step later) later talks (refl, here later) (ap (turn_line plan.requests) is)
    at_move (Gives place reply later) is talks = told_one (Result place reply) (Gives place reply later) later talks (refl, here later) (ap (turn_line plan.requests) is)
    at_move (Stops step status) is talks = stopped (Stops step status) talks (ap (turn_line plan.requests) is)
    at_move (Faults step) is talks = stopped (Faults step) talks (ap (turn_line plan.requests) is)
    at_move Ends is talks = stopped Ends talks (ap (turn_line plan.requests) is)

  by : BrokeTurn plan.requests (standing (scene chip_was was.device was.cells) was.copro.log terminal_was was_at was_due was.sink was_tally) (standing (scene chip_now new.device new.cells) new.copro.log terminal_now now_at now_due new.sink now_tally) → DidPartOfSession plan opening old new terminal terminal_now
  by (inl none) = not_taken none
  by (inr p) = partly p

-- nothing was done: there was no room for the plan's requests
pub talk_untaken : (plan : PlainPlan) (opening : FullRecord) (chip : ChipView) (old : Outside) (terminal : CoproSeen) → Fits (scene chip old.device old.cells) opening [] → DidPartOfSession plan opening old old terminal terminal
unfolding no_lines
talk_untaken plan opening chip old terminal fits =
    let run = no_lines opening (scene chip old.device old.cells) (scene chip old.device old.cells) old.copro.log fits refl (λ off is. off) in
    record {
      told = [];
      at = course plan;
      conversed = record {
        asks = [];
        exchanges = [];
        unheard = None;
        talks = here (course plan);
        sends = tt;
        happened = [];
        ran = ran_lines opening chip chip old old [] untold untold run refl refl;
        undone = session_lines [];
        carried = refl;
        replies = record { same = refl; sendable = All-nil AnswersWell };
        logged = sym (append-nil terminal.log);
        same_told = refl;
      };
      written = λ telling. ([], (report plan [] (course plan), refl), sym (append-nil old.sink.written));
    }

-- an error is told alike, whatever a success would have brought
same_error : {A B : Type 0} (error : RunError) → IsErrOf {T = A} (Err error) SinkFault → IsErrOf {T = B} (Err error) SinkFault
same_error SinkFault is = refl
same_error NoMemory is = absurd (cc)

-- a fault behind turns without one
pub fault_on : {A B : Type 0} (first before now : SinkSeen) (error : RunError) → before.tells ≡ first.tells → before.faults ≡ first.faults → TellsFault {T = A} before now (Err error) → TellsFault {T = B} first now (Err error)
fault_on first before now error tells faults sink = record {
  tells = sink.tells ∙ tells;
  later = subst (λ (n : ℕ). n ≤ now.faults) faults sink.later;
  fault = λ is. subst (λ (n : ℕ). Rose n now.faults) faults (sink.fault (same_error error is));
  still = λ other. sink.still (λ is. other (same_error error is)) ∙ faults;
}

-- ---- it ends in time

one_due : (pending : Option Exchange) → length (option_to_list pending) ≤ 1
one_due None = omega arith
one_due (Some e) = omega arith

pub too_many : (plan : PlainPlan) (opening : FullRecord) (start : Scene) (first now : Standing) (taken : ℕ) → IsFit plan → IsTalkSoFar plan opening start first now taken → now.terminal.ended ≡ false → 135 ≤ taken → ⊥
too_many plan opening start first now taken fit so alive many =
    let few = at_most plan so.asks (map reply_of so.exchanges) (length so.told) now.terminal.course fit (reached_of (course plan) now.terminal.course so.asks so.exchanges so.told so.talks) in
    let count = so.counted alive in
    let same = length-map so.exchanges reply_of in
    let all = length-append so.exchanges (option_to_list so.pending) in
    let one = one_due so.pending in
    absurd (omega (arith, few, count, same, all, one, many))

-- a command is told by no line
pub untold_part : (list : List Request) (deed : Deed) (message written : List ℕ) (heard : PlainReply) → deed ≡ deeds.Send → GrewByPart written written (turn_line list (move_made deed message heard))
untold_part list deed message written heard is =
    subst (λ (d : Deed). GrewByPart written written (turn_line list (move_made d message heard))) (sym is) ([], ([], refl), sym (append-nil written))

-- the chip is left alone where no command was sent
pub left_alone : (scene : Scene) (log : List Ask) (deed : Deed) (message : List ℕ) (heard : PlainReply) → (deed ≡ deeds.Send → ⊥) → ChipDid scene scene log log None (move_made deed message heard)
left_alone scene log deeds.Send message heard other = absurd (other refl)
left_alone scene log (deeds.Result request) message heard other = ((refl, refl), refl)
left_alone scene log (deeds.Passed step) message heard other = ((refl, refl), refl)
left_alone scene log deeds.Done message heard other = ((refl, refl), refl)
left_alone scene log (deeds.Stopped step status) message heard other = ((refl, refl), refl)
left_alone scene log (deeds.Fault step) message heard other = ((refl, refl), refl)

pub some_mapped : (pending : Option Exchange) (due : Option (List ℕ)) → due ≡ option_map reply_of pending → is_some due ≡ is_some pending
some_mapped None due is = ap is_some is
some_mapped (Some e) due is = ap is_some is
