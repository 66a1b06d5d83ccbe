-- The day number of 2000-01-01, and where the days of 2000 to 2099 lie.
use Rattle.std.proofs.Common.{◌≡◌, ℕ, ◌+◌, ◌-◌, ◌<◌, ◌≤◌, ◌^◌, refl, arith, ℤ, pos, ◌+ℤ◌, ◌≤ℤ◌, subst, sym, ◌∙◌}
use Rattle.std.proofs.lemmas.Int.{by_lt_z, to_z_pos, to_z-of_z}
use mir.Syntax.{w8, w16}
use mir.Val.{to_z, of_z, SFits}
use borrow.Author.Differences.{up, down}
use Rattle.std.specs.Int.{IsInRange}
use Rattle.jiff_core.specs.Calendar.{day_count, days_from_civil, days_in_month, IsCivilDate}
use Rattle.jiff_core.proofs.SignedLemmas.{signed_arith}
use Rattle.jiff_core.proofs.MarchLemmas.{day_count-early, day_count-late}
use Rattle.jiff_core.proofs.CalendarLemmas.{day_count-day_of_year, day_count-lt_year, day_count-later_year, day_of_year_bound, days_from_civil-day_count}
use Rattle.jiff_core.specs.declared.civil.date.Date.{Date}
use Rattle.jiff_core.specs.Date.{IsYmd, epoch_day}
use Rattle.jiff_core.proofs.DateLemmas.{civil}
use Rattle.sms_field.specs.Time.Days.{IsDay, days_before}

pub day_count-2000 : day_count (pos 2000) 1 1 ≡ 4_382_910
day_count-2000 = day_count-early (pos 2000) 11999 1 1 refl (omega arith) (omega arith) (omega arith)

pub day_count-2100 : day_count (pos 2100) 1 1 ≡ 4_419_435
day_count-2100 = day_count-early (pos 2100) 12099 1 1 refl (omega arith) (omega arith) (omega arith)

pub civil_of_day : (y m d : ℕ) → IsDay y m d → IsCivilDate (pos y) m d
civil_of_day y m d h = search (arith, signed_arith)

-- no day of these years lies before 2000-01-01 or after 2099-12-31
pub day_count-day : (y m d : ℕ) → IsDay y m d → (4_382_910 ≤ day_count (pos y) m d) × (day_count (pos y) m d < 4_419_435)
day_count-day y m d h =
    let civil : IsCivilDate (pos y) m d = civil_of_day y m d h in
    let place = day_count-day_of_year (pos y) m d civil.2.0 in
    let end = day_of_year_bound (pos y) m d civil in
    let last = day_count-later_year (pos y) (pos 2100) (omega (arith, signed_arith)) (omega (arith, signed_arith)) in
    let first : 4_382_910 ≤ day_count (pos y) 1 1 = by_lt_z (pos 2000) (pos y)
    (λ lt. omega (arith, day_count-later_year (pos 2000) (pos y) (omega (arith, signed_arith)) lt, day_count-2000))
    (λ le. let e : pos y ≡ pos 2000 = omega (arith, signed_arith) in rw e (omega (arith, day_count-2000))) in
    omega (arith, day_count-2100, civil.2.0)

-- the day number of jiff, counted from 2000-01-01
pub days_before-since_min : (y m d n : ℕ) → IsDay y m d → days_from_civil (pos y) m d +ℤ pos 4_371_587 ≡ pos n → (4_382_544 ≤ n) × (n - 4_382_544 ≡ days_before y m d)
days_before-since_min y m d n h e =
    let range = day_count-day y m d h in
    let count = days_from_civil-day_count (pos y) m d in
    let same : n + 366 ≡ day_count (pos y) m d = omega (arith, signed_arith) in
    omega (arith, day_count-2000)

-- the same of a date of jiff
days_before-parts : (date : Date) (y m d n : ℕ) → 2000 ≤ y → y ≤ 2099 → IsYmd (pos y) (pos m) (pos d) date → epoch_day date +ℤ pos 4_371_587 ≡ pos n → (4_382_544 ≤ n) × (n - 4_382_544 ≡ days_before y m d)
days_before-parts date y m d n low high ymd e =
    let month : date.month ≡ m = search (arith, signed_arith) in
    let day : date.day ≡ d = search (arith, signed_arith) in
    let InMonth : ℤ → ℕ → Type 0 = λ z k. IsInRange 1 (days_in_month z k) date.day in
    let in_month : InMonth (pos y) m = subst (λ z. InMonth z m) ymd.0 (subst (λ k. InMonth date.year k) month date.day_in) in
    let Number : ℤ → ℕ → ℕ → Type 0 = λ z k j. days_from_civil z k j +ℤ pos 4_371_587 ≡ pos n in
    let number : Number (pos y) m d = subst (λ z. Number z m d) ymd.0 (subst (λ k. Number date.year k d) month (subst (λ j. Number date.year date.month j) day e)) in
    let h : IsDay y m d = ((low, high), rw month at date.month_in, subst (λ j. IsInRange 1 (days_in_month (pos y) m) j) day in_month) in
    days_before-since_min y m d n h number

-- the same where the parts were cast to signed numbers
pub days_before-date : (date : Date) (y m d n : ℕ) → 2000 ≤ y → y ≤ 2099 → m ≤ 12 → d ≤ 31 → IsYmd (to_z w16 y) (to_z w8 m) (to_z w8 d) date → epoch_day date +ℤ pos 4_371_587 ≡ pos n → (4_382_544 ≤ n) × (n - 4_382_544 ≡ days_before y m d)
days_before-date date y m d n low high months days ymd e =
    let ey = to_z_pos w16 y (omega arith) in
    let em = to_z_pos w8 m (omega arith) in
    let ed = to_z_pos w8 d (omega arith) in
    days_before-parts date y m d n low high (ymd.0 ∙ ey, ymd.1 ∙ em, ymd.2 ∙ ed) e

day_count-2099 : day_count (pos 2099) 12 31 ≡ 4_419_434
day_count-2099 = day_count-late (pos 2099) 12099 12 31 refl (omega arith) (omega arith) (omega arith)

-- the year of a day between 2000-01-01 and 2099-12-31
pub year_of : (date : Date) (n : ℕ) → 4_382_544 ≤ n → n < 4_419_069 → epoch_day date +ℤ pos 4_371_587 ≡ pos n → (pos 2000 ≤ℤ date.year) × (date.year ≤ℤ pos 2099)
year_of date n low high e =
    let here : IsCivilDate date.year date.month date.day = civil date in
    let count = days_from_civil-day_count date.year date.month date.day in
    let same : n + 366 ≡ day_count date.year date.month date.day = omega (arith, signed_arith) in
    let first : pos 2000 ≤ℤ date.year = by_lt_z date.year (pos 2000)
    (λ lt. let before = day_count-lt_year date.year date.month date.day (pos 2000) 1 1 here (omega arith) lt in absurd (omega (arith, day_count-2000)))
    (λ le. le) in
    let last : date.year ≤ℤ pos 2099 = by_lt_z (pos 2099) date.year
    (λ lt. let after = day_count-lt_year (pos 2099) 12 31 date.year date.month date.day (civil_of_day 2099 12 31 ((omega arith, omega arith), (omega arith, omega arith), (omega arith, omega arith))) here.2.0 lt in absurd (omega (arith, day_count-2099)))
    (λ le. le) in
    (first, last)

-- a year of a date that is cast to an unsigned number
pub read_back : (z : ℤ) (y : ℕ) → z ≡ pos y → y < 2 ^ 15 → to_z w16 (of_z w16 z) ≡ pos y
read_back z y e h =
    let fits : SFits w16 z = omega (arith, signed_arith) in
    to_z-of_z w16 z fits ∙ e

-- what a date is read as
pub record IsRead (date : Date) (y n : ℕ) : Type 0 where
  pub year : date.year ≡ pos y
  pub is_day : IsDay y date.month date.day
  pub number : days_before y date.month date.day ≡ n - 4_382_544

pub parts_of : (date : Date) (n : ℕ) → 4_382_544 ≤ n → n < 4_419_069 → epoch_day date +ℤ pos 4_371_587 ≡ pos n → IsRead date (up date.year - down date.year) n
parts_of date n low high e =
    let y = up date.year - down date.year in
    let range = year_of date n low high e in
    let year : date.year ≡ pos y = omega (arith, signed_arith) in
    let from : 2000 ≤ y = omega (arith, signed_arith) in
    let to : y ≤ 2099 = omega (arith, signed_arith) in
    let in_month : IsInRange 1 (days_in_month (pos y) date.month) date.day = subst (λ z. IsInRange 1 (days_in_month z date.month) date.day) year date.day_in in
    let read = days_before-parts date y date.month date.day n from to (year, refl, refl) e in
    record { year = year; is_day = ((from, to), date.month_in, in_month); number = sym read.1 }

-- a number of these years is below 36,525
pub days_before_bound : (y m d : ℕ) → IsDay y m d → days_before y m d < 36_525
days_before_bound y m d h = omega (arith, day_count-day y m d h, day_count-2000)

-- the year of a date that was read is as it was cast to an unsigned number
pub year_cast : (date : Date) (y n : ℕ) → IsRead date y n → to_z w16 (of_z w16 date.year) ≡ pos y
year_cast date y n read = read_back date.year y read.year (omega (arith, read.is_day.0.1))

-- the date of a day of these years
pub read_day : (date : Date) (days : ℕ) → days < 36_525 → epoch_day date +ℤ pos 4_371_587 ≡ pos (days + 4_382_544) → IsRead date (up date.year - down date.year) (days + 4_382_544)
read_day date days few e = parts_of date (days + 4_382_544) (omega arith) (omega (arith, few)) e
