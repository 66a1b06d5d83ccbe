-- What C is told of stamps and of validity periods.
use Rattle.std.specs.Prelude.{◌≡◌, ℕ, ◌==◌, if◌then◌else◌, [], ◌∷◌, slice_index, Option, Some, None, Result, Ok, Err}
use Rattle.sms_field.specs.Time.Computed.{end_of}
use Rattle.sms_field.specs.declared.stamp.StampDate.{StampDate}
use Rattle.sms_field.specs.declared.validity.Validity.{Validity}
use Rattle.sms_field.specs.declared.validity.Validity.TheVariants.{Absent, Relative, Enhanced, Absolute}
use Rattle.sms_field.specs.declared.validity.ValidityFault.{ValidityFault}
use Rattle.sms_c.specs.declared.times.Date.{Date}
use Rattle.sms_c.specs.declared.times.ValidityOctets.{ValidityOctets}

-- a moment, or that there is none
abbrev pub MomentTold : Option ℕ → ℕ → ℕ → ℕ → Type 0
MomentTold None before after status = (status ≡ 8) × (after ≡ before)
MomentTold (Some moment) before after status = (status ≡ 0) × (after ≡ moment)

abbrev pub date_seen : StampDate → Date
date_seen date =
    record {
      year = date.year;
      month = date.month;
      day = date.day;
      hour = date.hour;
      minute = date.minute;
      second = date.second;
      quarters = date.quarters;
    }

-- ---- validity periods

-- the period of a format, where it is one
abbrev pub validity_of : ValidityOctets → Option Validity
validity_of period =
    if period.format == 0 then Some Absent
    else (if period.format == 1 then Some (Relative (slice_index period.octets 0))
    else (if period.format == 2 then Some (Enhanced period.octets)
    else (if period.format == 3 then Some (Absolute period.octets)
    else None)))

-- a period as C sees it: the octets that it has not are 0
abbrev pub validity_seen : Validity → ValidityOctets
validity_seen Absent = record { format = 0; octets = 0 ∷ 0 ∷ 0 ∷ 0 ∷ 0 ∷ 0 ∷ 0 ∷ [] }
validity_seen (Relative octet) =
    record { format = 1; octets = octet ∷ 0 ∷ 0 ∷ 0 ∷ 0 ∷ 0 ∷ 0 ∷ [] }
validity_seen (Enhanced octets) = record { format = 2; octets = octets }
validity_seen (Absolute stamp) = record { format = 3; octets = stamp }

abbrev pub EndIs : Result ℕ ValidityFault → ℕ → ℕ → ℕ → Type 0
EndIs (Ok end) before after status = (status ≡ 0) × (after ≡ end)
EndIs (Err _) before after status = (status ≡ 8) × (after ≡ before)

-- the end of a period, or that it has none, or that it is none
abbrev pub EndTold : Option Validity → ℕ → ℕ → ℕ → ℕ → Type 0
EndTold None accepted before after status = (status ≡ 7) × (after ≡ before)
EndTold (Some period) accepted before after status =
    EndIs (end_of period accepted) before after status
