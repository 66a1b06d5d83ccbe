-- Stamps as moments, over plain numbers.
use Rattle.std.proofs.Common.{◌≡◌, ℕ, ℤ, pos, negsuc, suc, ◌+◌, ◌-◌, ◌*◌, ◌/◌, ◌%◌, ◌<◌, ◌≤◌, ◌^◌, ◌+ℤ◌, ◌-ℤ◌, ◌*ℤ◌, ◌≤ℤ◌, Bool, true, false, cond, List, [], ◌∷◌, Option, Some, None, refl, sym, ap, subst, ◌∙◌, arith}
use Rattle.std.specs.Prelude.{SomeIff, nat_abs, neg_ℤ, slice_index}
use Rattle.std.specs.Int.{FitsUnsigned}
use Rattle.std.proofs.lemmas.Int.{ints, to_z-of_z}
use mir.Syntax.{w8, w64}
use mir.Val.{to_z, of_z, SFits}
use Rattle.sms_field.specs.Bit.{bit}
use Rattle.sms_field.specs.declared.stamp.StampDate.{StampDate}
use Rattle.sms_field.specs.Time.Days.{IsDay, days_before}
use Rattle.sms_field.specs.Time.StampDate.{HasTwoDigits, value_in, quarters_in, date_in, IsDate}
use Rattle.sms_field.specs.Time.Moment.{local_seconds, MomentIs}
use Rattle.sms_field.specs.Time.Stamping.{zone_octet, IsStampAt}
use Rattle.sms_field.proofs.DayLemmas.{days_before_bound}

-- an offset of at most a hundred hours keeps its value as it is handed on
handed_on : (offset : ℤ) → negsuc 1_000_000 ≤ℤ offset → offset ≤ℤ pos 1_000_000 → to_z w64 (of_z w64 offset) ≡ offset
handed_on offset low high =
    let fits : SFits w64 offset = omega (arith, ints) in
    to_z-of_z w64 offset fits

pub moment_is : (stamp : List ℕ) (total : ℕ) (offset : ℤ) (result : Option ℕ) → IsDate stamp → total ≡ local_seconds (date_in stamp) → offset ≡ pos 900 *ℤ (date_in stamp).quarters → negsuc 1_000_000 ≤ℤ offset → offset ≤ℤ pos 1_000_000 → total < 2 ^ 63 → SomeIff result (FitsUnsigned w64 (pos total -ℤ to_z w64 (of_z w64 offset))) (nat_abs (pos total -ℤ to_z w64 (of_z w64 offset))) → MomentIs stamp result
moment_is stamp total offset (Some x) date total_is offset_is low high small h =
    let same = handed_on offset low high in
    let difference : pos x ≡ pos total -ℤ offset = omega (arith, ints, same, h.0.0, h.1) in
    record { is_date = date; seconds = difference ∙ ap (λ (n : ℕ). pos n -ℤ offset) total_is ∙ ap (λ (z : ℤ). pos (local_seconds (date_in stamp)) -ℤ z) offset_is }
moment_is stamp total offset None date total_is offset_is low high small h = λ x is.
    let same = handed_on offset low high in
    let difference : pos x ≡ pos total -ℤ offset = is.seconds ∙ ap (λ (n : ℕ). pos n -ℤ (pos 900 *ℤ (date_in stamp).quarters)) (sym total_is) ∙ ap (λ (z : ℤ). pos total -ℤ z) (sym offset_is) in
    h (rw same (omega (arith, ints, difference), omega (arith, ints, difference)))

-- the octet of a zone is read as it
pub zone_reads : (q : ℤ) → negsuc 78 ≤ℤ q → q ≤ℤ pos 79 → (zone_octet q / 16 < 10) × (quarters_in (zone_octet q) ≡ q)
zone_reads (pos n) low high =
    let small : n ≤ 79 = omega (arith, ints, high) in
    let east : bit 3 (zone_octet (pos n)) ≡ false = grind arith in
    (omega arith, rw east (ap pos (omega arith)))
zone_reads (negsuc n) low high =
    let small : n ≤ 78 = omega (arith, ints, low) in
    let west : bit 3 (zone_octet (negsuc n)) ≡ true = grind arith in
    let number : zone_octet (negsuc n) % 8 * 10 + zone_octet (negsuc n) / 16 ≡ suc n = omega arith in
    (omega arith, rw west (ap (λ (k : ℕ). neg_ℤ (pos k)) number))

module _ (moment time year month day : ℕ) (quarters : ℤ) (o₀ o₁ o₂ o₃ o₄ o₅ : ℕ) where
  abbrev stamp : List ℕ
  stamp = o₀ ∷ o₁ ∷ o₂ ∷ o₃ ∷ o₄ ∷ o₅ ∷ zone_octet quarters ∷ []

  pub stamp_is : IsDay year month day → time < 86_400 → HasTwoDigits o₀ → HasTwoDigits o₁ → HasTwoDigits o₂ → HasTwoDigits o₃ → HasTwoDigits o₄ → HasTwoDigits o₅ → value_in o₀ ≡ year - 2000 → value_in o₁ ≡ month → value_in o₂ ≡ day → value_in o₃ ≡ time / 3_600 → value_in o₄ ≡ time / 60 % 60 → value_in o₅ ≡ time % 60 → negsuc 78 ≤ℤ quarters → quarters ≤ℤ pos 79 → pos (days_before year month day * 86_400 + time) ≡ pos moment +ℤ pos 900 *ℤ quarters → IsStampAt moment quarters stamp
  stamp_is is_day short d₀ d₁ d₂ d₃ d₄ d₅ n₀ n₁ n₂ n₃ n₄ n₅ low high sum =
      let zone = zone_reads quarters low high in
      let y : year ≡ 2000 + value_in o₀ = omega (arith, n₀, is_day.0.0) in
      let there : IsDay (2000 + value_in o₀) (value_in o₁) (value_in o₂) = subst (λ (k : ℕ). IsDay k (value_in o₁) (value_in o₂)) y (subst (λ (k : ℕ). IsDay year k (value_in o₂)) (sym n₁) (subst (λ (k : ℕ). IsDay year month k) (sym n₂) is_day)) in
      let days : days_before (2000 + value_in o₀) (value_in o₁) (value_in o₂) ≡ days_before year month day = ap (λ (k : ℕ). days_before k (value_in o₁) (value_in o₂)) (sym y) ∙ ap (λ (k : ℕ). days_before year k (value_in o₂)) n₁ ∙ ap (λ (k : ℕ). days_before year month k) n₂ in
      let seconds : local_seconds (date_in stamp) ≡ days_before year month day * 86_400 + time = omega (arith, days, n₃, n₄, n₅) in
      let equal : pos moment ≡ pos (local_seconds (date_in stamp)) -ℤ pos 900 *ℤ quarters = rw seconds (omega (arith, ints, sum)) in
      record {
        is_moment = record {
          is_date = record {
            year = d₀;
            month = d₁;
            day = d₂;
            hour = d₃;
            minute = d₄;
            second = d₅;
            zone = zone.0;
            exists = there;
            before_24 = omega (arith, n₃, short);
            minute_60 = omega (arith, n₄);
            second_60 = omega (arith, n₅);
          };
          seconds = rw zone.1 equal;
        };
        zone = refl;
      }

-- a date's quarters are -79 to 79
quarters_range : (zone : ℕ) → zone / 16 < 10 → (negsuc 78 ≤ℤ quarters_in zone) × (quarters_in zone ≤ℤ pos 79)
quarters_range zone digit = go (bit 3 zone)
  where
    go : (west : Bool) → (negsuc 78 ≤ℤ cond west (neg_ℤ (pos (zone % 8 * 10 + zone / 16))) (pos (zone % 8 * 10 + zone / 16))) × (cond west (neg_ℤ (pos (zone % 8 * 10 + zone / 16))) (pos (zone % 8 * 10 + zone / 16)) ≤ℤ pos 79)
    go true = (omega (arith, ints, digit), omega (arith, ints, digit))
    go false = (omega (arith, ints, digit), omega (arith, ints, digit))

pub record IsOffset (stamp : List ℕ) (offset : ℤ) : Type 0 where
  pub value : offset ≡ pos 900 *ℤ (date_in stamp).quarters
  pub low : negsuc 1_000_000 ≤ℤ offset
  pub high : offset ≤ℤ pos 1_000_000

-- the seconds of the zone of a date
pub offset_of : (stamp : List ℕ) (date : StampDate) (offset : ℤ) → IsDate stamp → date ≡ date_in stamp → offset ≡ pos 900 *ℤ to_z w8 (of_z w8 date.quarters) → IsOffset stamp offset
offset_of stamp date offset is_date same is =
    let quarters : date.quarters ≡ (date_in stamp).quarters = ap (λ (d : StampDate). d.quarters) same in
    let range = quarters_range (slice_index stamp 6) is_date.zone in
    let fits : SFits w8 date.quarters = omega (arith, ints, range.0, range.1, quarters) in
    let value : offset ≡ pos 900 *ℤ (date_in stamp).quarters = is ∙ ap (λ (z : ℤ). pos 900 *ℤ z) (to_z-of_z w8 date.quarters fits ∙ quarters) in
    record { value = value; low = omega (arith, ints, range.0, value); high = omega (arith, ints, range.1, value) }

pub record IsLocal (stamp : List ℕ) (days time : ℕ) : Type 0 where
  pub value : days * 86_400 + time ≡ local_seconds (date_in stamp)
  pub days_few : days < 36_525
  pub time_few : time < 86_400

-- the seconds of the local time of a date
pub local_of : (stamp : List ℕ) (date : StampDate) (days time : ℕ) → IsDate stamp → date ≡ date_in stamp → days ≡ days_before date.year date.month date.day → time ≡ date.hour * 3_600 + date.minute * 60 + date.second → IsLocal stamp days time
local_of stamp date days time is_date same days_are time_is =
    let value : days * 86_400 + time ≡ local_seconds date = omega (arith, days_are, time_is) in
    let there : days ≡ days_before (date_in stamp).year (date_in stamp).month (date_in stamp).day = days_are ∙ ap (λ (d : StampDate). days_before d.year d.month d.day) same in
    let hour : date.hour < 24 = subst (λ (d : StampDate). d.hour < 24) (sym same) is_date.before_24 in
    let minute : date.minute < 60 = subst (λ (d : StampDate). d.minute < 60) (sym same) is_date.minute_60 in
    let second : date.second < 60 = subst (λ (d : StampDate). d.second < 60) (sym same) is_date.second_60 in
    record {
      value = value ∙ ap local_seconds same;
      days_few = omega (arith, there, days_before_bound _ _ _ is_date.exists);
      time_few = omega (arith, time_is, hour, minute, second);
    }

-- the quarters as they are handed on
pub same_quarters : (quarters : ℤ) → SFits w8 quarters → to_z w8 (of_z w8 quarters) ≡ quarters
same_quarters quarters fits = to_z-of_z w8 quarters fits

-- the local time of a moment in a zone
pub local_sum : (seconds local : ℕ) (quarters offset : ℤ) → negsuc 78 ≤ℤ quarters → quarters ≤ℤ pos 79 → offset ≡ pos 900 *ℤ quarters → FitsUnsigned w64 (pos seconds +ℤ to_z w64 (of_z w64 offset)) → local ≡ nat_abs (pos seconds +ℤ to_z w64 (of_z w64 offset)) → pos local ≡ pos seconds +ℤ pos 900 *ℤ quarters
local_sum seconds local quarters offset low high is fits local_is =
    let same = handed_on offset (omega (arith, ints, is, low)) (omega (arith, ints, is, high)) in
    omega (arith, ints, same, fits.0, local_is, is)
