use Rattle.std.proofs.Common.{refl}
use Rattle.std.proofs.lemmas.Nat.Bits.{shr_and_one}
use Rattle.sms_field.proofs.bit.has_bit.Goals as goal

pub returns : goal.returns
returns c = rw (shr_and_one c.args.octet c.args.number) refl
