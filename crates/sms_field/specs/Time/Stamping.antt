-- Which moments have a time stamp in a zone, and how the zone is written (3GPP TS 23.040,
-- 9.2.3.11).
use Rattle.std.specs.Prelude.{◌≡◌, ℕ, ℤ, pos, negsuc, suc, ◌+◌, ◌*◌, ◌/◌, ◌%◌, ◌+ℤ◌, ◌*ℤ◌, ◌≤ℤ◌, ◌<ℤ◌, List, slice_index}
use Rattle.sms_field.specs.Time.Moment.{IsMoment}

-- two digits hold at most 79 quarters beside the sign, and the local time lies in 2000 to 2099,
-- which are 36,525 days
pub record HasStamp (moment : ℕ) (quarters : ℤ) : Type 0 where
  pub west : negsuc 78 ≤ℤ quarters
  pub east : quarters ≤ℤ pos 79
  pub from_2000 : pos 0 ≤ℤ (pos moment +ℤ pos 900 *ℤ quarters)
  pub to_2099 : (pos moment +ℤ pos 900 *ℤ quarters) <ℤ pos (36_525 * 86_400)

-- the tens in the low half, and bit 3 set to the west
abbrev pub zone_octet : ℤ → ℕ
zone_octet (pos n) = n % 10 * 16 + n / 10
zone_octet (negsuc n) = suc n % 10 * 16 + 8 + suc n / 10

-- the stamp of a moment in a zone
pub record IsStampAt (moment : ℕ) (quarters : ℤ) (stamp : List ℕ) : Type 0 where
  pub is_moment : IsMoment stamp moment
  pub zone : slice_index stamp 6 ≡ zone_octet quarters
