use Rattle.sms_page.proofs.HexDigits.{digits_are}
use Rattle.sms_page.proofs.hexadecimal.digits_of.Goals as goal

pub returns : goal.returns
returns c = digits_are c.args.numbers c.fits-numbers.0 c.requires
