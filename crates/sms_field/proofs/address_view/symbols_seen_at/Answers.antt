use Rattle.sms_field.proofs.DigitsSeen.{digits_go, name_goes}
use Rattle.sms_field.proofs.address_view.symbols_seen_at.Goals as goal

pub returns-in_ok-octets-clause-fits : goal.returns-in_ok-octets-clause-fits
returns-in_ok-octets-clause-fits c = name_goes c.args.type_of_number c.args.count c.in_ok-octets.octets.now c.if-type_of_number-eq-ALPHANUMERIC.true c.requires

pub returns-in_ok-octets-2-clause-fits : goal.returns-in_ok-octets-2-clause-fits
returns-in_ok-octets-2-clause-fits c = digits_go c.args.type_of_number c.args.count _ _ c.in_ok-octets-2.octets.now _ _ c.if-type_of_number-eq-ALPHANUMERIC.false c.requires c.in_ok-octets-2.ensures.read
