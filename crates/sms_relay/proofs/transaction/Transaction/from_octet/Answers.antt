use Rattle.std.proofs.Common.{rules}
use Rattle.sms_relay.proofs.transaction.Transaction.from_octet.Goals as goal

pub returns-then-value-eq7-clause-is : goal.returns-then-value-eq7-clause-is
returns-then-value-eq7-clause-is c = search rules
