use Rattle.sms_national.proofs.Told.{headers_tell_tables, headers_tell_places}
use Rattle.sms_national.proofs.laws.national_headers_are_told.Goals as goal

pub returns-clause-tables : goal.returns-clause-tables
returns-clause-tables c = headers_tell_tables c.elements_are_one.ensures

pub returns-clause-places : goal.returns-clause-places
returns-clause-places c = headers_tell_places
