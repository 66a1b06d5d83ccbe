-- Stamps and moments are the functions of their relations.
use Rattle.std.proofs.Common.{◌≡◌, ℕ, ◌+◌, ◌-◌, ◌*◌, ◌/◌, ◌%◌, ◌<◌, ◌≤◌, ℤ, pos, negsuc, ◌-ℤ◌, ◌*ℤ◌, Bool, true, false, cond, ◌&&◌, List, [], ◌∷◌, Some, None, Result, Ok, Err, refl, sym, ap, ◌∙◌, subst, arith}
use Rattle.std.specs.Prelude.{slice_index}
use Rattle.std.proofs.lemmas.Bool.{ltb-true, lt-ltb, leb-true, le-leb}
use Rattle.std.proofs.lemmas.Int.{ints}
use Rattle.std.proofs.Common.{lit<}
use Rattle.jiff_core.proofs.CalendarLemmas.{days_in_month_bounds}
use Rattle.sms_field.specs.Time.Days.{IsDay, days_before}
use Rattle.sms_field.specs.Time.Stamp.{IsStamp}
use Rattle.sms_field.specs.Time.StampDate.{HasTwoDigits, value_in, quarters_in, date_in, IsDate}
use Rattle.sms_field.specs.Time.Moment.{MomentIs, local_seconds}
use Rattle.sms_field.specs.Time.Stamping.{IsStampAt}
use Rattle.sms_field.specs.Time.Validity.{AbsoluteEndIs}
use Rattle.sms_field.specs.declared.stamp.StampDate.{StampDate}
use Rattle.sms_field.specs.declared.validity.Validity.TheVariants.{Absent, Relative, Enhanced, Absolute}
use Rattle.sms_field.specs.declared.validity.ValidityFault.{ValidityFault}
use Rattle.sms_field.specs.Time.Computed.{Day, year_after, digits_octet, stamp_of_day, stamp_octets, has_two_digits, is_day, is_time, is_date, not_negative, moment_of, end_at, StampIsOne, StampIsThere, MomentIsOne, MomentIsThere, EndIsOne, MomentComesBack, MomentComesBackOfZone0}
use Rattle.sms_field.proofs.DayWalk.{day_is, day_there}
use Rattle.sms_field.proofs.MomentLaws.{stamp_is}

-- ---- the stamp of a moment

seven : (a b c d e f g i j k l m n o : ℕ) → a ≡ i → b ≡ j → c ≡ k → d ≡ l → e ≡ m → f ≡ n → g ≡ o → ◌≡◌ {A = List ℕ} (a ∷ b ∷ c ∷ d ∷ e ∷ f ∷ g ∷ []) (i ∷ j ∷ k ∷ l ∷ m ∷ n ∷ o ∷ [])
seven a b c d e f g i j k l m n o p q r s t u v = cc

digits_by : (a b o : ℕ) → a < 10 → b < 10 → o ≡ b * 16 + a → o ≡ digits_octet (a * 10 + b)
digits_by a b o h k e = omega arith

rest : (y m d moment h mi se : ℕ) → moment % 86400 / 3600 ≡ h → moment % 86400 / 60 % 60 ≡ mi → moment % 86400 % 60 ≡ se
    → stamp_of_day (record { year = 2000 + y; month = m; day = d }) (moment % 86400) ≡ digits_octet y ∷ digits_octet m ∷ digits_octet d ∷ digits_octet h ∷ digits_octet mi ∷ digits_octet se ∷ 0 ∷ []
rest y m d moment h mi se p q r =
    let s : (2000 + y) - 2000 ≡ y = omega arith in
    seven _ _ _ _ _ _ _ _ _ _ _ _ _ _ (ap digits_octet s) refl refl (ap digits_octet p) (ap digits_octet q) (ap digits_octet r) refl

digits_back : (o : ℕ) → HasTwoDigits o → o ≡ digits_octet (value_in o)
digits_back o h =
    let a : o % 16 < 10 = h.0 in
    let b : o / 16 < 10 = h.1 in
    digits_by (o % 16) (o / 16) o a b (omega arith)

no_zone : (m l : ℕ) (q : ℤ) → q ≡ pos 0 → pos m ≡ pos l -ℤ pos 900 *ℤ q → m ≡ l
no_zone m l q z e =
    let f : pos m ≡ pos l -ℤ pos 900 *ℤ pos 0 = subst (λ (x : ℤ). pos m ≡ pos l -ℤ pos 900 *ℤ x) z e in
    omega (arith, ints)

record AreParts (m days h mi se : ℕ) : Type 0 where
  day : m / 86400 ≡ days
  hour : m % 86400 / 3600 ≡ h
  minute : m % 86400 / 60 % 60 ≡ mi
  second : m % 86400 % 60 ≡ se

time_parts : (m days h mi se : ℕ) → h < 24 → mi < 60 → se < 60 → m ≡ days * 86400 + h * 3600 + mi * 60 + se → AreParts m days h mi se
time_parts m days h mi se a b c e =
    let time : m % 86400 ≡ h * 3600 + mi * 60 + se = omega arith in
    let whole : m / 86400 ≡ days = omega arith in
    record { day = whole; hour = rw time (omega arith); minute = rw time (omega arith); second = rw time (omega arith) }

stamp_by : (moment a b c d e f g : ℕ) → IsStampAt moment (pos 0) (a ∷ b ∷ c ∷ d ∷ e ∷ f ∷ g ∷ []) → (a ∷ b ∷ c ∷ d ∷ e ∷ f ∷ g ∷ []) ≡ stamp_octets moment
unfolding stamp_octets
stamp_by moment a b c d e f g is =
    let date = is.is_moment.is_date in
    let local : moment ≡ local_seconds (date_in (a ∷ b ∷ c ∷ d ∷ e ∷ f ∷ g ∷ [])) = no_zone _ _ _ (ap quarters_in is.zone) is.is_moment.seconds in
    let t = time_parts moment (days_before (2000 + value_in a) (value_in b) (value_in c)) (value_in d) (value_in e) (value_in f) date.before_24 date.minute_60 date.second_60 local in
    let day : year_after 100 2000 (moment / 86400) ≡ record { year = 2000 + value_in a; month = value_in b; day = value_in c } = ap (year_after 100 2000) t.day ∙ day_is (2000 + value_in a) (value_in b) (value_in c) date.exists in
    seven a b c d e f g _ _ _ _ _ _ _ (digits_back a date.year) (digits_back b date.month) (digits_back c date.day) (digits_back d date.hour) (digits_back e date.minute) (digits_back f date.second) is.zone
    ∙ sym (ap (λ (x : Day). stamp_of_day x (moment % 86400)) day ∙ rest (value_in a) (value_in b) (value_in c) moment _ _ _ t.hour t.minute t.second)

pub stamp_is_one : StampIsOne
stamp_is_one moment (a ∷ b ∷ c ∷ d ∷ e ∷ f ∷ g ∷ []) fits is = stamp_by moment a b c d e f g is
stamp_is_one moment [] fits is = absurd (omega (arith, fits.0))
stamp_is_one moment (a ∷ []) fits is = absurd (omega (arith, fits.0))
stamp_is_one moment (a ∷ b ∷ []) fits is = absurd (omega (arith, fits.0))
stamp_is_one moment (a ∷ b ∷ c ∷ []) fits is = absurd (omega (arith, fits.0))
stamp_is_one moment (a ∷ b ∷ c ∷ d ∷ []) fits is = absurd (omega (arith, fits.0))
stamp_is_one moment (a ∷ b ∷ c ∷ d ∷ e ∷ []) fits is = absurd (omega (arith, fits.0))
stamp_is_one moment (a ∷ b ∷ c ∷ d ∷ e ∷ f ∷ []) fits is = absurd (omega (arith, fits.0))
stamp_is_one moment (a ∷ b ∷ c ∷ d ∷ e ∷ f ∷ g ∷ h ∷ more) fits is = absurd (omega (arith, fits.0))

-- ---- the moment of a stamp

both : (a b : Bool) → a ≡ true → b ≡ true → (a && b) ≡ true
both a b p q = rw (p, q) refl

first_of_both : (a b : Bool) → (a && b) ≡ true → a ≡ true
first_of_both true b e = refl
first_of_both false b e = e

second_of_both : (a b : Bool) → (a && b) ≡ true → b ≡ true
second_of_both true b e = e
second_of_both false b e = absurd cc

two : (o : ℕ) → HasTwoDigits o → has_two_digits o ≡ true
two o h = both _ _ (lt-ltb _ _ h.0) (lt-ltb _ _ h.1)

has_two : (o : ℕ) → has_two_digits o ≡ true → HasTwoDigits o
has_two o e = (ltb-true _ _ (first_of_both _ _ e), ltb-true _ _ (second_of_both _ _ e))

day_true : (d : StampDate) → IsDay d.year d.month d.day → is_day d ≡ true
day_true d h = both _ _ (le-leb _ _ h.1.0) (both _ _ (le-leb _ _ h.1.1) (both _ _ (le-leb _ _ h.2.0) (le-leb _ _ h.2.1)))

time_true : (d : StampDate) → d.hour < 24 → d.minute < 60 → d.second < 60 → is_time d ≡ true
time_true d a b c = both _ _ (lt-ltb _ _ a) (both _ _ (lt-ltb _ _ b) (lt-ltb _ _ c))

date_true : (s : List ℕ) → IsDate s → is_date s ≡ true
date_true s h =
    both _ _ (two _ h.year) (both _ _ (two _ h.month) (both _ _ (two _ h.day) (both _ _ (two _ h.hour) (both _ _ (two _ h.minute) (both _ _ (two _ h.second)
    (both _ _ (lt-ltb _ _ h.zone) (both _ _ (day_true (date_in s) h.exists) (time_true (date_in s) h.before_24 h.minute_60 h.second_60))))))))

year_fits : (o : ℕ) → HasTwoDigits o → 2000 + value_in o ≤ 2099
year_fits o h = let a : o % 16 < 10 = h.0 in let b : o / 16 < 10 = h.1 in omega arith

year_from : (o : ℕ) → 2000 ≤ 2000 + value_in o
year_from o = omega arith

true_date : (s : List ℕ) → is_date s ≡ true → IsDate s
true_date s e =
    let e1 = second_of_both _ _ e in
    let e2 = second_of_both _ _ e1 in
    let e3 = second_of_both _ _ e2 in
    let e4 = second_of_both _ _ e3 in
    let e5 = second_of_both _ _ e4 in
    let e6 = second_of_both _ _ e5 in
    let e7 = second_of_both _ _ e6 in
    let day = first_of_both _ _ e7 in
    let day1 = second_of_both _ _ day in
    let day2 = second_of_both _ _ day1 in
    let time = second_of_both _ _ e7 in
    let time1 = second_of_both _ _ time in
    let year : HasTwoDigits (slice_index s 0) = has_two _ (first_of_both _ _ e) in
    record {
      year = year;
      month = has_two _ (first_of_both _ _ e1);
      day = has_two _ (first_of_both _ _ e2);
      hour = has_two _ (first_of_both _ _ e3);
      minute = has_two _ (first_of_both _ _ e4);
      second = has_two _ (first_of_both _ _ e5);
      zone = ltb-true _ _ (first_of_both _ _ e6);
      exists = ((year_from (slice_index s 0), year_fits (slice_index s 0) year), (leb-true _ _ (first_of_both _ _ day), leb-true _ _ (first_of_both _ _ day1)), (leb-true _ _ (first_of_both _ _ day2), leb-true _ _ (second_of_both _ _ day2)));
      before_24 = ltb-true _ _ (first_of_both _ _ time);
      minute_60 = ltb-true _ _ (first_of_both _ _ time1);
      second_60 = ltb-true _ _ (second_of_both _ _ time1);
    }

none_by : (s : List ℕ) (z : ℤ) → ((n : ℕ) → pos n ≡ z → ⊥) → None ≡ not_negative z
none_by s (pos n) h = absurd (h n refl)
none_by s (negsuc n) h = refl

none_at : (s : List ℕ) (b : Bool) → is_date s ≡ b → MomentIs s None → None ≡ cond b (not_negative (pos (local_seconds (date_in s)) -ℤ pos 900 *ℤ (date_in s).quarters)) None
none_at s true e h = none_by s _ (λ n f. h n (record { is_date = true_date s e; seconds = f }))
none_at s false e h = refl

pub moment_is_one : MomentIsOne
unfolding moment_of
moment_is_one stamp (Some moment) is = rw (date_true stamp is.is_date) (ap not_negative is.seconds)
moment_is_one stamp None is = none_at stamp (is_date stamp) refl is

there_by : (s : List ℕ) (z : ℤ) → IsDate s → z ≡ pos (local_seconds (date_in s)) -ℤ pos 900 *ℤ (date_in s).quarters → MomentIs s (not_negative z)
there_by s (pos n) date e = record { is_date = date; seconds = e }
there_by s (negsuc n) date e = λ moment is. let f : pos moment ≡ negsuc n = is.seconds ∙ sym e in absurd cc

there_at : (s : List ℕ) (b : Bool) → is_date s ≡ b → MomentIs s (cond b (not_negative (pos (local_seconds (date_in s)) -ℤ pos 900 *ℤ (date_in s).quarters)) None)
there_at s true e = there_by s _ (true_date s e) refl
there_at s false e = λ moment is. let f : true ≡ false = sym (date_true s is.is_date) ∙ e in absurd cc

pub moment_is_there : MomentIsThere
unfolding moment_of
moment_is_there stamp = there_at stamp (is_date stamp) refl

absolute_is : (stamp : List ℕ) (end : Result ℕ ValidityFault) → AbsoluteEndIs stamp end → end ≡ end_at (moment_of stamp)
absolute_is stamp (Ok end) h = ap end_at (moment_is_one stamp (Some end) h)
absolute_is stamp (Err why) h = ap Err h.0 ∙ ap end_at (moment_is_one stamp None h.1)

pub end_is_one : EndIsOne
end_is_one Absent accepted end h = h
end_is_one (Relative octet) accepted end h = h
end_is_one (Enhanced octets) accepted end h = h
end_is_one (Absolute stamp) accepted end h = absolute_is stamp end h

-- ---- what is computed of a moment is its stamp

digits_there : (n : ℕ) → n < 100 → HasTwoDigits (digits_octet n)
digits_there n h = (omega arith, omega arith)

number_there : (n : ℕ) → n < 100 → value_in (digits_octet n) ≡ n
number_there n h = omega arith

octet_there : (n : ℕ) → n < 100 → digits_octet n < 256
octet_there n h = omega arith

record AreTwoDigits (year month day time : ℕ) : Type 0 where
  years : year - 2000 < 100
  months : month < 100
  days : day < 100
  hours : time / 3600 < 100
  minutes : time / 60 % 60 < 100
  seconds : time % 60 < 100

module _ (moment : ℕ) (d : Day) (is_day : IsDay d.year d.month d.day) (days_are : days_before d.year d.month d.day ≡ moment / 86400) where
  parts_there : AreTwoDigits d.year d.month d.day (moment % 86400)
  parts_there =
      let most = days_in_month_bounds (pos d.year) d.month in
      record { years = omega (arith, is_day.0.1); months = omega (arith, is_day.1.1); days = omega (arith, is_day.2.1, most.0); hours = omega arith; minutes = omega arith; seconds = omega arith }

  stamp_there : IsStampAt moment (pos 0) (stamp_of_day d (moment % 86400))
  stamp_there =
      let t = parts_there in
      stamp_is moment (moment % 86400) d.year d.month d.day (pos 0) _ _ _ _ _ _ is_day (omega arith)
      (digits_there _ t.years) (digits_there _ t.months) (digits_there _ t.days) (digits_there _ t.hours) (digits_there _ t.minutes) (digits_there _ t.seconds)
      (number_there _ t.years) (number_there _ t.months) (number_there _ t.days) (number_there _ t.hours) (number_there _ t.minutes) (number_there _ t.seconds)
      (omega (arith, ints)) (omega (arith, ints)) (omega (arith, ints, days_are))

  octets_there : IsStamp (stamp_of_day d (moment % 86400))
  octets_there =
      let t = parts_there in
      (refl, (octet_there _ t.years, (octet_there _ t.months, (octet_there _ t.days, (octet_there _ t.hours, (octet_there _ t.minutes, (octet_there _ t.seconds, (lit< tt, tt))))))))

pub stamp_is_there : StampIsThere
unfolding stamp_octets
stamp_is_there moment lt =
    let there = day_there (moment / 86400) (omega arith) in
    (octets_there moment _ there.is_day there.days_are, stamp_there moment _ there.is_day there.days_are)

-- ---- there and back

pub moment_comes_back : MomentComesBack
moment_comes_back moment quarters stamp is = sym (moment_is_one stamp (Some moment) is.is_moment)

pub moment_comes_back_of_zone_0 : MomentComesBackOfZone0
moment_comes_back_of_zone_0 moment lt = moment_comes_back moment (pos 0) (stamp_octets moment) (stamp_is_there moment lt).1
