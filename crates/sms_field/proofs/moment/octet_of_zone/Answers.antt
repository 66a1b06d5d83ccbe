use Rattle.std.proofs.Common.{rules}
use Rattle.sms_field.proofs.moment.octet_of_zone.Goals as goal

pub returns : goal.returns
returns c = search rules
