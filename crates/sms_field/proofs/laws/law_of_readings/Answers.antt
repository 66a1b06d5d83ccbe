use Rattle.sms_field.specs.Inside.ReadableLaws.{decided, unread}
use Rattle.sms_field.specs.Inside.ReadingLaws.{one_reading}
use Rattle.sms_field.proofs.laws.law_of_readings.Goals as goal

pub returns-clause-one : goal.returns-clause-one
returns-clause-one g c = let f = g.F.Lawful in one_reading f.field f.short f.is_lawful

pub returns-clause-decided : goal.returns-clause-decided
returns-clause-decided g c = let f = g.F.Lawful in decided f.short f.field f.is_lawful

pub returns-clause-unread : goal.returns-clause-unread
returns-clause-unread g c = let f = g.F.Lawful in unread f.field f.short
