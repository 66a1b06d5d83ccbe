use Rattle.sms_national.proofs.Read.{read_as_text}
use Rattle.sms_national.proofs.laws.national_cuts_are_read_as_text.Goals as goal

pub returns : goal.returns
returns c = read_as_text c.texts_come_back.ensures c.parts_are_read_alone.ensures
