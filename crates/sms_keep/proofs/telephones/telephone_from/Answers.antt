use Rattle.std.proofs.Common.{ℕ, List, get_or, refl, arith}
use Rattle.sms_keep.proofs.TelephonesRead.{telephone_written, telephone_spelled}
use Rattle.sms_keep.proofs.telephones.telephone_from.Goals as goal

pub returns : goal.returns
returns c =
    let read = c.in_ok-digits.ensures in
    let octets : List ℕ = c.args.octets.now in
    let t : ℕ = get_or octets 1 0 in
    record {
      is_one = telephone_spelled t c.in_ok-digits.digits (omega (arith, c.if-type_of_number-eq-ALPHANUMERIC.false)) read.0;
      written = telephone_written octets c.in_ok-digits.digits t c.in-len2-up.len_at_least refl (omega (arith, c.type_inv.octets 1)) (omega (arith, c.if-address_type-lt128.false)) read.1 read.2;
    }
