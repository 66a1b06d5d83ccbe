-- The validity period of a submission, TP-VP, in one of four formats (3GPP TS 23.040, 9.2.3.12).
use Rattle.std.specs.Prelude.{ℕ, ◌<◌, List, [], ◌∷◌, Bool, true, false}
use Rattle.sms_field.specs.Field.{Field, ◌>>=◌, always, octet, octets_of}
use Rattle.sms_field.specs.Time.Stamp.{stamp, IsStamp}
use Rattle.sms_field.specs.declared.validity.Validity.{Validity}
use Rattle.sms_field.specs.declared.validity.Validity.TheVariants as period
use Rattle.sms_tpdu.specs.declared.fault.UnitFault.{UnitFault}
use Rattle.sms_tpdu.specs.declared.fault.UnitFault.TheVariants.{Short}
use Rattle.sms_tpdu.specs.declared.submit.validity.ValidityFormat.{ValidityFormat}
use Rattle.sms_tpdu.specs.declared.submit.validity.ValidityFormat.TheVariants.{Absent, Relative, Enhanced, Absolute}

-- TP-VPF, by bits 4 and 3 of the first octet
abbrev pub validity_format : Bool → Bool → ValidityFormat
validity_format false false = Absent
validity_format true false = Relative
validity_format false true = Enhanced
validity_format true true = Absolute

abbrev pub format_bits : ValidityFormat → Bool × Bool
format_bits Absent = (false, false)
format_bits Relative = (true, false)
format_bits Enhanced = (false, true)
format_bits Absolute = (true, true)

-- nothing, one octet, seven octets, or a stamp
unfoldable pub validity : ValidityFormat → Field Validity UnitFault
validity Absent = always period.Absent
validity Relative = do
  -- TP-VP: one octet
  value ← octet Short
  always (period.Relative value)
validity Enhanced = do
  -- TP-VP: seven octets
  values ← octets_of Short 7
  always (period.Enhanced values)
validity Absolute = do
  -- TP-VP: a stamp
  end ← stamp Short
  always (period.Absolute end)

abbrev pub format_of : Validity → ValidityFormat
format_of period.Absent = Absent
format_of (period.Relative value) = Relative
format_of (period.Enhanced values) = Enhanced
format_of (period.Absolute end) = Absolute

abbrev pub validity_octets : Validity → List ℕ
validity_octets period.Absent = []
validity_octets (period.Relative value) = value ∷ []
validity_octets (period.Enhanced values) = values
validity_octets (period.Absolute end) = end

-- what has a spelling
abbrev pub IsInRange : Validity → Type 0
IsInRange period.Absent = Unit {0}
IsInRange (period.Relative value) = value < 256
IsInRange (period.Enhanced values) = IsStamp values
IsInRange (period.Absolute end) = IsStamp end
