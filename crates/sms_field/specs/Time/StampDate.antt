-- The date and time in a time stamp (3GPP TS 23.040, 9.2.3.11).
use Rattle.std.specs.Prelude.{ℕ, ℤ, pos, neg_ℤ, ◌+◌, ◌*◌, ◌/◌, ◌%◌, ◌<◌, List, slice_index, if◌then◌else◌}
use Rattle.sms_field.specs.Bit.{bit}
use Rattle.sms_field.specs.Time.Days.{IsDay}
use Rattle.sms_field.specs.declared.stamp.StampDate.{StampDate}

-- both halves of an octet are decimal digits
abbrev pub HasTwoDigits : ℕ → Type 0
HasTwoDigits octet = (octet % 16 < 10) × (octet / 16 < 10)

-- the value of its two digits, the tens in the low half
abbrev pub value_in : ℕ → ℕ
value_in octet = octet % 16 * 10 + octet / 16

-- the local time's distance from UTC in quarters of an hour: bit 3 is the sign, set to the west,
-- and bits 0 to 2 are the tens
abbrev pub quarters_in : ℕ → ℤ
quarters_in zone =
    if bit 3 zone then neg_ℤ (pos (zone % 8 * 10 + zone / 16)) else pos (zone % 8 * 10 + zone / 16)

-- what the seven octets say; the year is one of 2000 to 2099
abbrev pub date_in : List ℕ → StampDate
date_in stamp = record {
  year = 2000 + value_in (slice_index stamp 0);
  month = value_in (slice_index stamp 1);
  day = value_in (slice_index stamp 2);
  hour = value_in (slice_index stamp 3);
  minute = value_in (slice_index stamp 4);
  second = value_in (slice_index stamp 5);
  quarters = quarters_in (slice_index stamp 6);
}

-- every digit is one, the day exists, and so does the time of day
pub record IsDate (stamp : List ℕ) : Type 0 where
  pub year : HasTwoDigits (slice_index stamp 0)
  pub month : HasTwoDigits (slice_index stamp 1)
  pub day : HasTwoDigits (slice_index stamp 2)
  pub hour : HasTwoDigits (slice_index stamp 3)
  pub minute : HasTwoDigits (slice_index stamp 4)
  pub second : HasTwoDigits (slice_index stamp 5)
  pub zone : slice_index stamp 6 / 16 < 10
  pub exists : IsDay (date_in stamp).year (date_in stamp).month (date_in stamp).day
  pub before_24 : (date_in stamp).hour < 24
  pub minute_60 : (date_in stamp).minute < 60
  pub second_60 : (date_in stamp).second < 60
