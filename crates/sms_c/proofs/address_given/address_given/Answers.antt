use Rattle.sms_c.proofs.TelephonesSaid.{given_so}
use Rattle.sms_c.proofs.address_given.address_given.Goals as goal

pub returns-in-Some-clause-given : goal.returns-in-Some-clause-given
returns-in-Some-clause-given c = given_so c.args.text.now c.in-Some.address c.in-Some.ensures
