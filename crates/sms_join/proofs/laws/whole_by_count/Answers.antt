use Rattle.sms_join.proofs.Counts.{whole_by_count}
use Rattle.sms_join.proofs.laws.whole_by_count.Goals as goal

pub returns : goal.returns
returns c = whole_by_count
