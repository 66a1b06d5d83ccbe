-- The moment of a time stamp (3GPP TS 23.040, 9.2.3.11), in seconds from 2000-01-01 00:00:00 UTC.
use Rattle.std.specs.Prelude.{◌≡◌, ℕ, pos, ◌+◌, ◌*◌, ◌-ℤ◌, ◌*ℤ◌, List, Option, Some, None}
use Rattle.sms_field.specs.Time.Days.{days_before}
use Rattle.sms_field.specs.Time.StampDate.{IsDate, date_in}
use Rattle.sms_field.specs.declared.stamp.StampDate.{StampDate}

-- from the start of 2000 to a local time, both read off the same clock
abbrev pub local_seconds : StampDate → ℕ
local_seconds d =
    days_before d.year d.month d.day * 86_400 + d.hour * 3_600 + d.minute * 60 + d.second

-- the moment is the local time less a quarter of an hour, 900 seconds, for each of the zone's
-- quarters
pub record IsMoment (stamp : List ℕ) (moment : ℕ) : Type 0 where
  pub is_date : IsDate stamp
  pub seconds : pos moment
      ≡ pos (local_seconds (date_in stamp)) -ℤ pos 900 *ℤ (date_in stamp).quarters

-- the moment of a stamp, or none: it is no date, or its time in UTC is before 2000
abbrev pub MomentIs : List ℕ → Option ℕ → Type 0
MomentIs stamp (Some moment) = IsMoment stamp moment
MomentIs stamp None = (moment : ℕ) → ¬ IsMoment stamp moment
