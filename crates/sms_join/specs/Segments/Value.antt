-- The segments of a text by its units and where each piece ends.
use Rattle.sms_text.specs.Bits.{AreSeptets}
use Rattle.sms_tpdu.specs.declared.user_data.lent.UnitsView.{UnitsView}
use Rattle.sms_tpdu.specs.declared.user_data.lent.UnitsView.TheVariants as lent
use Rattle.sms_join.specs.declared.units.Units.{Units}
use Rattle.sms_join.specs.declared.units.Units.TheVariants.{Gsm, Ucs2}

-- units that are lent
abbrev pub seen_units : UnitsView → Units
seen_units (lent.Gsm septets) = Gsm septets.now
seen_units (lent.Ucs2 units) = Ucs2 units.now

-- what is lent as septets are septets
abbrev pub AreLent : UnitsView → Type 0
AreLent (lent.Gsm septets) = AreSeptets septets.now
AreLent (lent.Ucs2 units) = Unit {0}
