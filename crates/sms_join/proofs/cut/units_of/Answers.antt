use Rattle.std.proofs.Common.{ap, ◌∙◌}
use Rattle.std.specs.Str.{chars}
use Rattle.sms_join.specs.declared.units.Units.TheVariants.{Gsm, Ucs2}
use Rattle.sms_join.proofs.TextUnits.{units_by_septets, units_by_utf16}
use Rattle.sms_join.proofs.cut.units_of.Goals as goal

pub returns-in-Some : goal.returns-in-Some
returns-in-Some c = ap Gsm c.new.ensures ∙ units_by_septets (chars c.args.text.now) c.in-Some.septets.items (rw c.in-Some.is at c.in_ok-septets.ensures.exact)

pub returns-in_ok-units-in-None : goal.returns-in_ok-units-in-None
returns-in_ok-units-in-None c =
    ap Ucs2 (c.new-in-None.ensures ∙ c.in_ok-units-in-None.ensures) ∙ units_by_utf16 (chars c.args.text.now) (rw c.in-None.is at c.in_ok-septets.ensures.exact)
