use Rattle.std.proofs.Common.{◌≡◌, length, map, ◌∙◌, arith, rules, tests, None}
use Rattle.std.specs.Option.{option_to_list}
use Rattle.std.proofs.lemmas.Iterator.Splits.{YieldsList-from_slice_split}
use Rattle.std.proofs.lemmas.Iterator.Consumers.{YieldsList-turn, YieldsList-end}
use Rattle.std.proofs.lemmas.List.{length_push}
use Rattle.eid_text.specs.Lines.{is_lf}
use Rattle.eid_text.proofs.Turns.{turn_said, turn_bad, at_end}
use Rattle.eid_script.specs.Scripts.{plain_line, says}
use Rattle.eid_script.proofs.script.read_lines.Goals as goal

pub returns-in-Err-Bad-clause-bad : goal.returns-in-Err-Bad-clause-bad
returns-in-Err-Bad-clause-bad c =
    let lines = YieldsList-from_slice_split _ is_lf c.args.text.now (search rules) (search rules) (search rules) (λ x b q k. search (rules, tests)) in
    let turn = YieldsList-turn lines c.loop-line.yielded _ c.loop-line.yielded_by _ _ c.in-Some.line c.in-Some.is c.next.ensures.steps in
    let counted : c.loop-line.number ≡ length c.loop-line.yielded = c.loop-line.invariant.counted in
    let next = rw (← counted) at turn in
    let none : says c.in-Some.line.now ≡ None = search rules in
    turn_bad says _ c.loop-line.number c.in-Some.line.now _ (map plain_line c.loop-line.lines.items) next none c.loop-line.invariant.so_far

pub loop-line-preserved : goal.loop-line-preserved
loop-line-preserved c =
    let lines = YieldsList-from_slice_split _ is_lf c.args.text.now (search rules) (search rules) (search rules) (λ x b q k. search (rules, tests)) in
    let turn = YieldsList-turn lines c.loop-line.yielded _ c.loop-line.yielded_by _ _ c.in-Some.line c.in-Some.is c.next.ensures.steps in
    let counted : c.loop-line.number ≡ length c.loop-line.yielded = c.loop-line.invariant.counted in
    let next = rw (← counted) at turn in
    let said = map plain_line (option_to_list c.in-Ok.said) in
    record {
      counted = omega (arith, length_push c.loop-line.yielded c.in-Some.line);
      so_far = rw c.in-Ok-keep.ensures
          (turn_said says _ c.loop-line.number c.in-Some.line.now _ (map plain_line c.loop-line.lines.items) said next c.in-Ok.ensures.found c.loop-line.invariant.so_far);
    }

pub returns-clause-found : goal.returns-clause-found
returns-clause-found c =
    let lines = YieldsList-from_slice_split _ is_lf c.args.text.now (search rules) (search rules) (search rules) (λ x b q k. search (rules, tests)) in
    let all = YieldsList-end lines c.loop-line.yielded _ c.loop-line.yielded_by _ _ c.in-None.is c.next.ensures.steps in
    let counted : c.loop-line.number ≡ length c.loop-line.yielded = c.loop-line.invariant.counted in
    at_end says _ c.loop-line.number _ (map plain_line c.loop-line.lines.items) (counted ∙ all.1) c.loop-line.invariant.so_far
