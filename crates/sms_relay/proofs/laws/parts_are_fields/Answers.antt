use Rattle.sms_relay.specs.Inside.CpLaws.{transaction_laws}
use Rattle.sms_relay.specs.Inside.RpLaws.{user_data_laws, optional_user_data_laws, cause_laws}
use Rattle.sms_relay.proofs.laws.parts_are_fields.Goals as goal

pub returns-clause-transaction : goal.returns-clause-transaction
returns-clause-transaction c = transaction_laws

pub returns-clause-cause : goal.returns-clause-cause
returns-clause-cause c = cause_laws

pub returns-clause-user : goal.returns-clause-user
returns-clause-user c = user_data_laws

pub returns-clause-optional : goal.returns-clause-optional
returns-clause-optional c = optional_user_data_laws
