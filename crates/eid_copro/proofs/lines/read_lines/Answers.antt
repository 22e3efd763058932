use Rattle.std.proofs.Common.{◌≡◌, length, ap, sym, ◌∙◌, arith, rules, tests, Some, None}
use Rattle.std.specs.Option.{option_to_list}
use Rattle.std.specs.Prelude.{option_map}
use Rattle.std.proofs.lemmas.Iterator.Splits.{YieldsList-from_slice_split}
use Rattle.std.proofs.lemmas.Iterator.Consumers.{YieldsList-turn, YieldsList-end}
use Rattle.std.proofs.lemmas.List.{length_push}
use Rattle.eid_text.specs.Lines.{is_lf}
use Rattle.eid_text.proofs.Turns.{turn_said, turn_bad, at_end}
use Rattle.eid_copro.specs.Lines.{says}
use Rattle.eid_copro.proofs.lines.read_lines.Goals as goal

pub returns-in_default-clause-refused : goal.returns-in_default-clause-refused
returns-in_default-clause-refused c =
    let lines = YieldsList-from_slice_split _ is_lf c.args.text.now (search rules) (search rules) (search rules) (λ x b q k. search (rules, tests)) in
    let turn = YieldsList-turn lines c.loop-line.yielded _ c.loop-line.yielded_by _ _ c.in-Some.line c.in-Some.is c.next.ensures.steps in
    let counted : c.loop-line.number ≡ length c.loop-line.yielded = c.loop-line.invariant.counted in
    let next = rw (← counted) at turn in
    let none : says c.in-Some.line.now ≡ None = sym c.read_any_line.ensures ∙ ap (option_map (λ said. option_to_list said)) c.in_default.is in
    turn_bad says _ c.loop-line.number c.in-Some.line.now _ c.loop-line.answers.items next none c.loop-line.invariant.so_far

pub loop-line-preserved : goal.loop-line-preserved
loop-line-preserved c =
    let lines = YieldsList-from_slice_split _ is_lf c.args.text.now (search rules) (search rules) (search rules) (λ x b q k. search (rules, tests)) in
    let turn = YieldsList-turn lines c.loop-line.yielded _ c.loop-line.yielded_by _ _ c.in-Some.line c.in-Some.is c.next.ensures.steps in
    let counted : c.loop-line.number ≡ length c.loop-line.yielded = c.loop-line.invariant.counted in
    let next = rw (← counted) at turn in
    let said = option_to_list c.in-Some-read_any_line.said in
    let is : says c.in-Some.line.now ≡ Some said = sym c.read_any_line.ensures ∙ ap (option_map (λ said. option_to_list said)) c.in-Some-read_any_line.is in
    record {
      counted = omega (arith, length_push c.loop-line.yielded c.in-Some.line);
      so_far = rw c.in-Ok.ensures (turn_said says _ c.loop-line.number c.in-Some.line.now _ c.loop-line.answers.items said next is c.loop-line.invariant.so_far);
    }

pub returns-clause-read : goal.returns-clause-read
returns-clause-read c =
    let lines = YieldsList-from_slice_split _ is_lf c.args.text.now (search rules) (search rules) (search rules) (λ x b q k. search (rules, tests)) in
    let all = YieldsList-end lines c.loop-line.yielded _ c.loop-line.yielded_by _ _ c.in-None.is c.next.ensures.steps in
    let counted : c.loop-line.number ≡ length c.loop-line.yielded = c.loop-line.invariant.counted in
    at_end says _ c.loop-line.number _ c.loop-line.answers.items (counted ∙ all.1) c.loop-line.invariant.so_far
