use Rattle.std.proofs.Common.{lit<}
use Rattle.std.proofs.lemmas.Str.Pattern.{strip_prefix_char}
use Rattle.sms_field.proofs.DigitTexts.{plus_front}
use Rattle.sms_field.proofs.address_text.international.Goals as goal

pub returns : goal.returns
returns c = plus_front c.args.text.now c.utf8.text c.strip_prefix.result (strip_prefix_char 43 c.args.text.now c.strip_prefix.result c.strip_prefix.ensures.cases (lit< tt))
