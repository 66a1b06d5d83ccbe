use Rattle.std.proofs.Common.{rules}
use Rattle.sms_relay.proofs.unwrapping.relay_in.Goals as goal

pub returns-in-Err : goal.returns-in-Err
returns-in-Err c = search rules
