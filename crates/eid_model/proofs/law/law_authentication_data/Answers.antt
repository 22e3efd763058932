use Rattle.eid_model.proofs.Forms.{form_written, data_written}
use Rattle.eid_model.proofs.law.law_authentication_data.Goals as goal

pub returns-clause-form : goal.returns-clause-form
returns-clause-form c = form_written

pub returns-clause-value : goal.returns-clause-value
returns-clause-value c = data_written
