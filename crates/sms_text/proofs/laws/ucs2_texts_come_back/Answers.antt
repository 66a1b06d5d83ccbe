use Rattle.sms_text.proofs.Ucs2Text.{ucs2_text_again, text_units}
use Rattle.sms_text.proofs.laws.ucs2_texts_come_back.Goals as goal

pub returns-clause-same : goal.returns-clause-same
returns-clause-same c = ucs2_text_again

pub returns-clause-units : goal.returns-clause-units
returns-clause-units c = text_units
