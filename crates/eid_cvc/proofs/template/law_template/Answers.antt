use Rattle.eid_cvc.proofs.TemplateFacts.{template_found, template_complete}
use Rattle.eid_cvc.proofs.template.law_template.Goals as goal

pub returns : goal.returns
returns c value template = (template_found value template, λ is. template_complete value template is.0 is.1)
