-- Stamps of moments, moments of stamps and ends of validity periods as functions (3GPP TS 23.040,
-- 9.2.3.11 and 9.2.3.12).
use Rattle.std.specs.Prelude.{◌≡◌, ℕ, zero, suc, ◌+◌, ◌-◌, ◌*◌, ◌/◌, ◌%◌, ◌<◌, ℤ, pos, negsuc, ◌-ℤ◌, ◌*ℤ◌, Bool, ◌&&◌, nat_lt, nat_le, if◌then◌else◌, List, [], ◌∷◌, slice_index, Option, Some, None, Result, Ok, Err}
use Rattle.jiff_core.specs.Calendar.{days_in_year, days_in_month}
use Rattle.sms_field.specs.Time.Stamp.{IsStamp}
use Rattle.sms_field.specs.Time.StampDate.{date_in}
use Rattle.sms_field.specs.Time.Moment.{MomentIs, local_seconds}
use Rattle.sms_field.specs.Time.Stamping.{IsStampAt}
use Rattle.sms_field.specs.Time.Validity.{relative_seconds, EndIs}
use Rattle.sms_field.specs.declared.stamp.StampDate.{StampDate}
use Rattle.sms_field.specs.declared.validity.Validity.{Validity}
use Rattle.sms_field.specs.declared.validity.Validity.TheVariants.{Absent, Relative, Enhanced, Absolute}
use Rattle.sms_field.specs.declared.validity.ValidityFault.{ValidityFault}
use Rattle.sms_field.specs.declared.validity.ValidityFault.TheVariants.{EnhancedValidity, NoMoment}

-- ---- the stamp of a moment

-- the first moment that has no stamp in zone 0: the end of 2099, which is 36,525 days after the
-- start of 2000
abbrev pub end_of_2099 : ℕ
end_of_2099 = 3_155_760_000

-- a day of the calendar
pub record Day : Type 0 where
  pub year : ℕ
  pub month : ℕ
  pub day : ℕ

-- the day that lies a number of days after the first of a month; the first number bounds the months
-- that are passed
abbrev pub month_after : ℕ → ℕ → ℕ → ℕ → Day
month_after zero year month days = record { year = year; month = month; day = days + 1 }
month_after (suc n) year month days =
    if nat_lt days (days_in_month (pos year) month)
    then record { year = year; month = month; day = days + 1 }
    else month_after n year (month + 1) (days - days_in_month (pos year) month)

-- the day that lies a number of days after the first of a year; the first number bounds the years
-- that are passed
abbrev pub year_after : ℕ → ℕ → ℕ → Day
year_after zero year days = month_after 12 year 1 days
year_after (suc n) year days =
    if nat_lt days (days_in_year (pos year))
    then month_after 12 year 1 days
    else year_after n (year + 1) (days - days_in_year (pos year))

-- the octet of a value below 100: two decimal digits, the tens in the low half
abbrev pub digits_octet : ℕ → ℕ
digits_octet value = value % 10 * 16 + value / 10

-- year, month, day, hour, minute, second, and the zone, which is 0
abbrev pub stamp_of_day : Day → ℕ → List ℕ
stamp_of_day d time =
    digits_octet (d.year - 2000) ∷ digits_octet d.month ∷ digits_octet d.day
    ∷ digits_octet (time / 3_600) ∷ digits_octet (time / 60 % 60) ∷ digits_octet (time % 60)
    ∷ 0 ∷ []

-- the stamp of a moment in zone 0
unfoldable pub stamp_octets : ℕ → List ℕ
stamp_octets moment = stamp_of_day (year_after 100 2000 (moment / 86_400)) (moment % 86_400)

-- ---- the moment of a stamp

abbrev pub has_two_digits : ℕ → Bool
has_two_digits octet = nat_lt (octet % 16) 10 && nat_lt (octet / 16) 10

abbrev pub is_day : StampDate → Bool
is_day d =
    nat_le 1 d.month
    && (nat_le d.month 12 && (nat_le 1 d.day && nat_le d.day (days_in_month (pos d.year) d.month)))

abbrev pub is_time : StampDate → Bool
is_time d = nat_lt d.hour 24 && (nat_lt d.minute 60 && nat_lt d.second 60)

-- every digit is one, the day exists, and so does the time of day
abbrev pub is_date : List ℕ → Bool
is_date stamp =
    has_two_digits (slice_index stamp 0) && (has_two_digits (slice_index stamp 1)
    && (has_two_digits (slice_index stamp 2) && (has_two_digits (slice_index stamp 3)
    && (has_two_digits (slice_index stamp 4) && (has_two_digits (slice_index stamp 5)
    && (nat_lt (slice_index stamp 6 / 16) 10
    && (is_day (date_in stamp) && is_time (date_in stamp))))))))

abbrev pub not_negative : ℤ → Option ℕ
not_negative (pos n) = Some n
not_negative (negsuc n) = None

-- the moment of a stamp, where it is a date that does not lie before 2000 in UTC
unfoldable pub moment_of : List ℕ → Option ℕ
moment_of stamp =
    if is_date stamp
    then not_negative (pos (local_seconds (date_in stamp)) -ℤ pos 900 *ℤ (date_in stamp).quarters)
    else None

-- ---- the end of a validity period

abbrev pub end_at : Option ℕ → Result ℕ ValidityFault
end_at None = Err NoMoment
end_at (Some moment) = Ok moment

-- the end of a period from its acceptance on
abbrev pub end_of : Validity → ℕ → Result ℕ ValidityFault
end_of Absent accepted = Ok (accepted + 172_800)
end_of (Relative octet) accepted = Ok (accepted + relative_seconds octet)
end_of (Enhanced octets) accepted = Err EnhancedValidity
end_of (Absolute stamp) accepted = end_at (moment_of stamp)

-- ---- these are the functions of the relations

-- a stamp of a moment in zone 0 is the one that is computed
abbrev pub StampIsOne : Type 0
StampIsOne =
    (moment : ℕ) (stamp : List ℕ) → IsStamp stamp → IsStampAt moment (pos 0) stamp
    → stamp ≡ stamp_octets moment

-- and what is computed is a stamp of that moment
abbrev pub StampIsThere : Type 0
StampIsThere =
    (moment : ℕ) → moment < end_of_2099
    → IsStamp (stamp_octets moment) × IsStampAt moment (pos 0) (stamp_octets moment)

-- the moment of a stamp is the one that is computed
abbrev pub MomentIsOne : Type 0
MomentIsOne =
    (stamp : List ℕ) (moment : Option ℕ) → MomentIs stamp moment → moment ≡ moment_of stamp

-- and what is computed is the moment of the stamp
abbrev pub MomentIsThere : Type 0
MomentIsThere = (stamp : List ℕ) → MomentIs stamp (moment_of stamp)

-- the end of a period is the one that is computed
abbrev pub EndIsOne : Type 0
EndIsOne =
    (period : Validity) (accepted : ℕ) (end : Result ℕ ValidityFault) → EndIs period accepted end
    → end ≡ end_of period accepted

-- ---- there and back

-- the moment of the stamp of a moment is that moment, in whatever zone the stamp is
abbrev pub MomentComesBack : Type 0
MomentComesBack =
    (moment : ℕ) (quarters : ℤ) (stamp : List ℕ) → IsStampAt moment quarters stamp
    → moment_of stamp ≡ Some moment

abbrev pub MomentComesBackOfZone0 : Type 0
MomentComesBackOfZone0 =
    (moment : ℕ) → moment < end_of_2099 → moment_of (stamp_octets moment) ≡ Some moment
