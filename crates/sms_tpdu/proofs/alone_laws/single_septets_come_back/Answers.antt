use Rattle.sms_tpdu.specs.Inside.SinglesLaws.{singles_come_back, singles_are_written}
use Rattle.sms_tpdu.proofs.alone_laws.single_septets_come_back.Goals as goal

pub returns-clause-back : goal.returns-clause-back
returns-clause-back c = singles_come_back

pub returns-clause-written : goal.returns-clause-written
returns-clause-written c = singles_are_written
