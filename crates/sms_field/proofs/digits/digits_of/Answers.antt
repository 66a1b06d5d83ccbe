use Rattle.std.proofs.Common.{ap, ◌∙◌, sym}
use Rattle.sms_field.specs.Address.DigitText.{digits_of_text}
use Rattle.sms_field.proofs.DigitTexts.{plain_text}
use Rattle.sms_field.proofs.digits.digits_of.Goals as goal

pub returns-in-Some : goal.returns-in-Some
returns-in-Some c =
    plain_text c.args.text.now c.in-Some.digits (ap digits_of_text (sym c.as_bytes.ensures.value) ∙ c.in-Some.ensures.digits) c.in-Some.ensures.few
