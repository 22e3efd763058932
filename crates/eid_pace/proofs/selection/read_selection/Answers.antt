use Rattle.std.proofs.Common.{sym}
use Rattle.eid_pace.specs.View.{selection_view}
use Rattle.eid_pace.proofs.SelectionFacts.{selection_in-exact, selection_in-none}
use Rattle.eid_pace.proofs.selection.read_selection.Goals as goal

pub returns-in_default : goal.returns-in_default
returns-in_default c = selection_in-none c.args.body.now
    (λ selection is. let none = c.in_default.ensures.only selection.protocol is.protocol in cc)

pub returns-in_default-read_reference : goal.returns-in_default-read_reference
returns-in_default-read_reference c = selection_in-none c.args.body.now
    (λ selection is. let none = c.in_default-read_reference.ensures.only selection.reference is.reference in cc)

pub returns-in_default-find_template : goal.returns-in_default-find_template
returns-in_default-find_template c = selection_in-none c.args.body.now
    (λ selection is. c.in_default-find_template.ensures.only selection.template is.template)

pub returns : goal.returns
returns c =
    sym ((selection_in-exact c.args.body.now (selection_view record {
      protocol = c.in-Some.protocol;
      reference = c.in-Some-read_reference.reference;
      template = c.in-Some-find_template.template;
    })).1 record {
      protocol = c.in-Some.ensures.found;
      reference = c.in-Some-read_reference.ensures.found;
      template = c.in-Some-find_template.ensures.found;
    })
