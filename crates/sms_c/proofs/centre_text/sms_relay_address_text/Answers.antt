use Rattle.sms_c.specs.CentreText.{text_of_centre}
use Rattle.sms_c.proofs.Told.{answers}
use Rattle.sms_c.proofs.centre_text.sms_relay_address_text.Goals as goal

pub returns-clause-status : goal.returns-clause-status
returns-clause-status c = λ address used at. answers (text_of_centre address) c.put_text.result c.status_of.result c.status_of.ensures.status (c.put_text.ensures.exact address used at)
