use Rattle.std.proofs.Common.{refl, sym, subst}
use Rattle.sms_field.specs.Address.DigitValues.{AreDigits}
use Rattle.sms_field.proofs.Rooms.{copied}
use Rattle.sms_field.proofs.digits.Digits.new.Goals as goal

pub invariant_of-result : goal.invariant_of-result
invariant_of-result c =
    let both = copied 20 _ c.copy_from_slice.new.self c.args.values.now refl c.copy_from_slice.ensures.after in
    (c.requires.few, subst AreDigits (sym both.0) c.requires, both.1)
