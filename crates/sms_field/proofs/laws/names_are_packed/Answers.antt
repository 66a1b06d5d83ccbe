use Rattle.sms_field.specs.Inside.NameSpelling.{name_packed, only_name_octets}
use Rattle.sms_field.proofs.laws.names_are_packed.Goals as goal

pub returns-clause-packed : goal.returns-clause-packed
returns-clause-packed c = name_packed

pub returns-clause-only : goal.returns-clause-only
returns-clause-only c = only_name_octets
