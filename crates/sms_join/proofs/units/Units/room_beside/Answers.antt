use Rattle.std.proofs.Common.{◌≡◌, ℕ, ◌+◌, ◌-◌, ◌*◌, ◌/◌, length, Some, arith}
use Rattle.sms_tpdu.specs.declared.user_data.concat.Width.{Width}
use Rattle.sms_tpdu.specs.declared.user_data.concat.Width.TheVariants.{Eight, Sixteen}
use Rattle.sms_tpdu.specs.UserData.{header_octets}
use Rattle.sms_tpdu.specs.UserData.Elements.{element_octets}
use Rattle.sms_tpdu.specs.UserData.Concatenation.{element_for}
use Rattle.sms_join.specs.UnitsOfText.{Default, Wide}
use Rattle.sms_join.specs.Cut.{room_beside}
use Rattle.sms_join.proofs.units.Units.room_beside.Goals as goal

for_septets : (width : Width) (header : ℕ) → header ≡ length (header_octets (Some (element_octets (element_for width 0 0 0)))) → 160 - (8 * header + 6) / 7 ≡ room_beside width Default
for_septets Eight header e = let six : header ≡ 6 = e in omega (arith, six)
for_septets Sixteen header e = let seven : header ≡ 7 = e in omega (arith, seven)

for_units : (width : Width) (header : ℕ) → header ≡ length (header_octets (Some (element_octets (element_for width 0 0 0)))) → (140 - header) / 2 ≡ room_beside width Wide
for_units Eight header e = let six : header ≡ 6 = e in omega (arith, six)
for_units Sixteen header e = let seven : header ≡ 7 = e in omega (arith, seven)

pub returns-in-Gsm : goal.returns-in-Gsm
returns-in-Gsm c = rw (c.in-Gsm.is, c.greatest_length.ensures, c.length_of_header.ensures) (for_septets c.args.width c.header_octets-header.result (c.header_octets-header.ensures.is 0 0 0))

pub returns-in-Ucs2 : goal.returns-in-Ucs2
returns-in-Ucs2 c = rw (c.in-Ucs2.is, c.greatest_length-in-Ucs2.ensures) (for_units c.args.width c.header_octets-header.result (c.header_octets-header.ensures.is 0 0 0))
