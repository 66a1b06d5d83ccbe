use Rattle.sms_tpdu.specs.Inside.AloneLaws.{units_read_the_same, alone_again, whole_is_length}
use Rattle.sms_tpdu.proofs.AloneKept.{alone_is_kept, alone_is_rewritten}
use Rattle.sms_tpdu.proofs.alone_laws.user_data_alone_are_those_of_a_unit.Goals as goal

pub returns-clause-same : goal.returns-clause-same
returns-clause-same c = units_read_the_same

pub returns-clause-back : goal.returns-clause-back
returns-clause-back c = alone_again

pub returns-clause-length : goal.returns-clause-length
returns-clause-length c = whole_is_length

pub returns-clause-kept : goal.returns-clause-kept
returns-clause-kept c = alone_is_kept

pub returns-clause-rewritten : goal.returns-clause-rewritten
returns-clause-rewritten c = alone_is_rewritten
