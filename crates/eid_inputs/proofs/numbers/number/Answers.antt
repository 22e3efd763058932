-- A decimal number is parsed as itself.
use Rattle.std.proofs.Common.{◌≡◌, true, ap, sym, ◌∙◌, rules}
use Rattle.std.specs.Prelude.{decimal, string_bytes}
use Rattle.std.proofs.lemmas.Fmt.{parse-decimal}
use Rattle.std.proofs.lemmas.Slice.Eq.{bytes_eq-Decides}
use Rattle.eid_inputs.proofs.numbers.number.Goals as goal

pub returns-in_default-clause-none : goal.returns-in_default-clause-none
returns-in_default-clause-none c = λ n fits is.
    let parsed = parse-decimal 64 n c.args.text.now c.parse.result fits fits is c.parse.ensures.value.0 in
    let not = c.in_default.is in
    absurd (cc)

pub returns-clause-none : goal.returns-clause-none
returns-clause-none c = λ n fits is.
    let parsed = parse-decimal 64 n c.args.text.now c.parse.result fits fits is c.parse.ensures.value.0 in
    let value = c.in-Ok.is in
    let same : c.in-Ok.value ≡ n = cc in
    let text : string_bytes c.in_ok-spelled.spelled ≡ decimal c.in-Ok.value = search rules in
    let spelled : c.as_str.result.now ≡ c.args.text.now = c.as_str.ensures.value ∙ text ∙ ap decimal same ∙ sym is in
    let equal : c.eq.result ≡ true = c.eq.ensures ∙ (bytes_eq-Decides c.as_str.result.now c.args.text.now).1 spelled in
    let not = c.if-eq.false in
    absurd (cc)
