-- The end of a validity period (3GPP TS 23.040, 9.2.3.12), in seconds from 2000-01-01 00:00:00 UTC.
use Rattle.std.specs.Prelude.{◌≡◌, ℕ, ◌+◌, ◌-◌, ◌*◌, List, Result, Ok, Err, nat_le, if◌then◌else◌}
use Rattle.sms_field.specs.Time.Moment.{IsMoment}
use Rattle.sms_field.specs.declared.validity.Validity.{Validity}
use Rattle.sms_field.specs.declared.validity.Validity.TheVariants.{Absent, Relative, Enhanced, Absolute}
use Rattle.sms_field.specs.declared.validity.ValidityFault.{ValidityFault}
use Rattle.sms_field.specs.declared.validity.ValidityFault.TheVariants.{EnhancedValidity, NoMoment}

-- 5 minutes to 12 hours in steps of 5 minutes, to 24 hours in steps of 30 minutes, 2 to 30 days, 5
-- to 63 weeks (9.2.3.12.1)
abbrev pub relative_seconds : ℕ → ℕ
relative_seconds octet =
    if nat_le octet 143 then (octet + 1) * 300
    else (if nat_le octet 167 then 43_200 + (octet - 143) * 1_800
    else (if nat_le octet 196 then (octet - 166) * 86_400
    else (octet - 192) * 604_800))

-- the moment of the stamp, where there is one (9.2.3.12.2)
abbrev pub AbsoluteEndIs : List ℕ → Result ℕ ValidityFault → Type 0
AbsoluteEndIs stamp (Ok end) = IsMoment stamp end
AbsoluteEndIs stamp (Err why) = (why ≡ NoMoment) × ((moment : ℕ) → ¬ IsMoment stamp moment)

-- the end of a period from its acceptance on; where none is given this centre takes two days, and
-- it does not interpret the enhanced format
abbrev pub EndIs : Validity → ℕ → Result ℕ ValidityFault → Type 0
EndIs Absent accepted end = end ≡ Ok (accepted + 172_800)
EndIs (Relative octet) accepted end = end ≡ Ok (accepted + relative_seconds octet)
EndIs (Enhanced octets) accepted end = end ≡ Err EnhancedValidity
EndIs (Absolute stamp) accepted end = AbsoluteEndIs stamp end
