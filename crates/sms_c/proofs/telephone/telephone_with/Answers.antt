use Rattle.std.proofs.Common.{ap}
use Rattle.sms_field.specs.Address.Text.{telephone_of}
use Rattle.sms_c.proofs.TelephonesSaid.{few_read}
use Rattle.sms_c.proofs.telephone.telephone_with.Goals as goal

pub returns : goal.returns
returns c =
    let read = c.in_ok-digits.ensures in
    (read.ascii, ap (telephone_of c.args.type_of_number) (few_read c.args.octets.now c.in_ok-digits.digits read.digits read.few))
