use Rattle.std.proofs.Common.{refl, sym, subst}
use Rattle.sms_field.specs.Address.NameOctets.{IsName}
use Rattle.sms_field.proofs.Rooms.{copied}
use Rattle.sms_field.proofs.name.Name.new.Goals as goal

pub invariant_of-result : goal.invariant_of-result
invariant_of-result c =
    let both = copied 11 _ c.copy_from_slice.new.self c.args.septets.now refl c.copy_from_slice.ensures.after in
    (c.requires.few, subst IsName (sym both.0) c.requires, both.1)
