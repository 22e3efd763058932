use Rattle.std.proofs.Common.{◌≡◌, length, sym, ◌∙◌, ap}
use Rattle.eid_bits.specs.Template.{template_bytes}
use Rattle.eid_cvc.proofs.TemplateFacts.{begins_so, ends_so, is_template, template_complete, template_none}
use Rattle.eid_cvc.proofs.template.read_template.Goals as goal

pub returns-in_default-clause-only : goal.returns-in_default-clause-only
returns-in_default-clause-only c template size is =
    let begins = begins_so c.args.value.now template size is in
    let other = c.in_default.ensures.cases in
    cc

pub returns-in_default-from_bytes-clause-only : goal.returns-in_default-from_bytes-clause-only
returns-in_default-from_bytes-clause-only c template size is =
    let ends = ends_so c.args.value.now template size is in
    let rest = c.in-Some.ensures.cases.1 in
    let five : length c.in-Some.bytes.now ≡ 5 = ap length (rest ∙ ends) ∙ size in
    let ok = c.in_default-from_bytes.ensures.five.1 five in
    cc

pub returns-clause-found : goal.returns-clause-found
returns-clause-found c =
    is_template c.args.value.now (template_bytes c.in-Ok.template) c.in-Ok.template.five c.in-Some.ensures.cases.0
    (c.in-Ok.ensures.value ∙ c.in-Some.ensures.cases.1)

pub returns-clause-only : goal.returns-clause-only
returns-clause-only c template size is =
    c.in-Ok.ensures.value ∙ c.in-Some.ensures.cases.1 ∙ ends_so c.args.value.now template size is

pub returns-in_default-clause-value : goal.returns-in_default-clause-value
returns-in_default-clause-value c = template_none c.args.value.now
    (λ template size is.
    let begins = begins_so c.args.value.now template size is in
    let other = c.in_default.ensures.cases in
    cc)

pub returns-clause-value : goal.returns-clause-value
returns-clause-value c =
    sym (template_complete c.args.value.now (template_bytes c.in-Ok.template) c.in-Ok.template.five
    (is_template c.args.value.now (template_bytes c.in-Ok.template) c.in-Ok.template.five c.in-Some.ensures.cases.0
    (c.in-Ok.ensures.value ∙ c.in-Some.ensures.cases.1)))
