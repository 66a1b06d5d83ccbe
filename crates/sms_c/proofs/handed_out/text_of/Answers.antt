use Rattle.std.proofs.lemmas.Str.{is_utf8-from_IsUtf8}
use Rattle.sms_c.proofs.Texts.{utf8_untold}
use Rattle.sms_c.proofs.handed_out.text_of.Goals as goal

pub returns-in-Ok-clause-test : goal.returns-in-Ok-clause-test
returns-in-Ok-clause-test c = is_utf8-from_IsUtf8 c.args.octets.now c.in-Ok.ensures.cases.1

pub returns-in-Err-clause-test : goal.returns-in-Err-clause-test
returns-in-Err-clause-test c = utf8_untold c.args.octets.now c.in-Err.ensures.cases.0
