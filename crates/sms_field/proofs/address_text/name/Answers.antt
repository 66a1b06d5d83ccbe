use Rattle.std.proofs.Common.{rules}
use Rattle.sms_field.proofs.address_text.name.Goals as goal

pub new-requires : goal.new-requires
new-requires c = search rules
