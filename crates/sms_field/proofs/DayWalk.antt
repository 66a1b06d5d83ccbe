-- The day that a number of days leads to: it is the day of that number, and there is one.
use Rattle.std.proofs.Common.{◌≡◌, ℕ, zero, suc, ◌+◌, ◌-◌, ◌<◌, ◌≤◌, pos, ⊎_elim, Bool, true, false, cond, nat_lt, refl, sym, subst, arith}
use Rattle.std.proofs.lemmas.Bool.Decides.{nat_tests}
use Rattle.std.proofs.lemmas.Int.{ints}
use Rattle.std.proofs.lemmas.Bool.{cases_lt}
use Rattle.std.specs.Int.{IsInRange}
use Rattle.jiff_core.specs.Calendar.{days_in_year, days_in_month, day_count, day_of_year}
use Rattle.jiff_core.proofs.CalendarLemmas.{days_in_month_bounds, day_count-last_of_year, day_count-lt_month, day_count-day, day_count-next_month, day_count-next_year, day_count-later_year, day_count-day_of_year, day_of_year_bound}
use Rattle.sms_field.specs.Time.Days.{IsDay, days_before}
use Rattle.sms_field.proofs.DayLemmas.{civil_of_day, day_count-2000, day_count-2100, day_count-day as day_bounds}
use Rattle.sms_field.specs.Time.Computed.{Day, month_after, year_after}

abbrev day_of : ℕ → ℕ → ℕ → Day
day_of y m d = record { year = y; month = m; day = d }

same_day : (y m n d e : ℕ) → m ≡ n → d ≡ e → day_of y m d ≡ day_of y n e
same_day y m n d e p q = cc

-- of one month
this_month : (y m d days : ℕ) → 1 ≤ d → day_count (pos y) m 1 + days ≡ day_count (pos y) m d → days + 1 ≡ d
this_month y m d days h e = let f = day_count-day (pos y) m 1 d (omega arith) h in omega arith

module _ (y target d : ℕ) (from : 1 ≤ d) (to : d ≤ days_in_month (pos y) target) (last : target ≤ 12) (small : y ≤ 2099) where
  later_month : (m days : ℕ) → 1 ≤ m → m < target → day_count (pos y) m 1 + days ≡ day_count (pos y) target d → days_in_month (pos y) m ≤ days
  later_month m days h l e =
      let b = days_in_month_bounds (pos y) m in
      let c = day_count-lt_month (pos y) m (days_in_month (pos y) m) target d ((omega (arith, ints), omega (arith, ints)), (h, omega arith), (omega arith, omega arith)) from l in
      let f = day_count-day (pos y) m 1 (days_in_month (pos y) m) (omega arith) (omega arith) in
      omega arith

  month_step : (n m days : ℕ) (b : Bool) → nat_lt days (days_in_month (pos y) m) ≡ b → 1 ≤ m → m ≤ target → day_count (pos y) m 1 + days ≡ day_count (pos y) target d
      → (m < target → days_in_month (pos y) m ≤ days → month_after n y (m + 1) (days - days_in_month (pos y) m) ≡ day_of y target d)
      → cond b (day_of y m (days + 1)) (month_after n y (m + 1) (days - days_in_month (pos y) m)) ≡ day_of y target d
  month_step n m days true f h l e next =
      let under : days < days_in_month (pos y) m = grind (arith, nat_tests) in
      ⊎_elim {C = day_of y m (days + 1) ≡ day_of y target d} (λ less. let g = later_month m days h less e in absurd (omega arith))
      (λ at. let same : m ≡ target = omega arith in same_day y m target (days + 1) d same (this_month y target d days from (subst (λ k. day_count (pos y) k 1 + days ≡ day_count (pos y) target d) same e)))
      (cases_lt m target)
  month_step n m days false f h l e next =
      let over : days_in_month (pos y) m ≤ days = grind (arith, nat_tests) in
      ⊎_elim {C = month_after n y (m + 1) (days - days_in_month (pos y) m) ≡ day_of y target d} (λ less. next less over)
      (λ at.
      let same : m ≡ target = omega arith in
      let full : days_in_month (pos y) target ≤ days = subst (λ k. days_in_month (pos y) k ≤ days) same over in
      let one = this_month y target d days from (subst (λ k. day_count (pos y) k 1 + days ≡ day_count (pos y) target d) same e) in
      absurd (omega (arith, one, full, to)))
      (cases_lt m target)

  month_is : (n m days : ℕ) → 1 ≤ m → m ≤ target → target ≤ m + n → day_count (pos y) m 1 + days ≡ day_count (pos y) target d → month_after n y m days ≡ day_of y target d
  month_is zero m days h l k e =
      let same : m ≡ target = omega arith in
      same_day y m target (days + 1) d same (this_month y target d days from (subst (λ k. day_count (pos y) k 1 + days ≡ day_count (pos y) target d) same e))
  month_is (suc n) m days h l k e =
      month_step n m days (nat_lt days (days_in_month (pos y) m)) refl h l e
      (λ less over. let f = day_count-next_month (pos y) m h in month_is n (m + 1) (days - days_in_month (pos y) m) (omega arith) (omega arith) (omega arith) (omega (arith, f, e, over)))

-- of one year
this_year : (y m d days : ℕ) → 1 ≤ d → day_count (pos y) 1 1 + days ≡ day_count (pos y) m d → days + 1 ≡ day_of_year (pos y) m d
this_year y m d days h e = let f = day_count-day_of_year (pos y) m d h in omega (arith, f, e)

module _ (target m d : ℕ) (is_day : IsDay target m d) where
  later_year : (y days : ℕ) → y < target → day_count (pos y) 1 1 + days ≡ day_count (pos target) m d → days_in_year (pos y) ≤ days
  later_year y days l e =
      let f = day_count-later_year (pos y) (pos target) (omega (arith, ints)) (omega (arith, ints)) in
      let g = day_count-day_of_year (pos target) m d is_day.2.0 in
      omega (arith, f, g, e, is_day.2.0)

  at_year : (y days : ℕ) → y ≡ target → day_count (pos y) 1 1 + days ≡ day_count (pos target) m d → month_after 12 y 1 days ≡ day_of target m d
  at_year y days same e =
      subst (λ k. month_after 12 k 1 days ≡ day_of target m d) (sym same)
      (month_is target m d is_day.2.0 is_day.2.1 is_day.1.1 is_day.0.1 12 1 days (omega arith) is_day.1.0 (omega (arith, is_day.1.1)) (subst (λ k. day_count (pos k) 1 1 + days ≡ day_count (pos target) m d) same e))

  year_step : (n y days : ℕ) (b : Bool) → nat_lt days (days_in_year (pos y)) ≡ b → y ≤ target → day_count (pos y) 1 1 + days ≡ day_count (pos target) m d
      → (y < target → days_in_year (pos y) ≤ days → year_after n (y + 1) (days - days_in_year (pos y)) ≡ day_of target m d)
      → cond b (month_after 12 y 1 days) (year_after n (y + 1) (days - days_in_year (pos y))) ≡ day_of target m d
  year_step n y days true f l e next =
      let under : days < days_in_year (pos y) = grind (arith, nat_tests) in
      ⊎_elim {C = month_after 12 y 1 days ≡ day_of target m d} (λ less. let g = later_year y days less e in absurd (omega arith))
      (λ at. at_year y days (omega arith) e) (cases_lt y target)
  year_step n y days false f l e next =
      let over : days_in_year (pos y) ≤ days = grind (arith, nat_tests) in
      ⊎_elim {C = year_after n (y + 1) (days - days_in_year (pos y)) ≡ day_of target m d} (λ less. next less over)
      (λ at.
      let same : y ≡ target = omega arith in
      let one = this_year target m d days is_day.2.0 (subst (λ k. day_count (pos k) 1 1 + days ≡ day_count (pos target) m d) same e) in
      let most = day_of_year_bound (pos target) m d (civil_of_day target m d is_day) in
      let full : days_in_year (pos target) ≤ days = subst (λ k. days_in_year (pos k) ≤ days) same over in
      absurd (omega (arith, one, most, full)))
      (cases_lt y target)

  year_is : (n y days : ℕ) → y ≤ target → target ≤ y + n → day_count (pos y) 1 1 + days ≡ day_count (pos target) m d → year_after n y days ≡ day_of target m d
  year_is zero y days l k e = at_year y days (omega arith) e
  year_is (suc n) y days l k e =
      year_step n y days (nat_lt days (days_in_year (pos y))) refl l e
      (λ less over. let f = day_count-next_year (pos y) (pos (y + 1)) (omega (arith, ints)) (omega (arith, ints)) in year_is n (y + 1) (days - days_in_year (pos y)) (omega arith) (omega arith) (omega (arith, f, e, over)))

  pub day_is : year_after 100 2000 (days_before target m d) ≡ day_of target m d
  day_is =
      let b = day_bounds target m d is_day in
      year_is 100 2000 (days_before target m d) is_day.0.0 (omega (arith, is_day.0.1)) (omega (arith, day_count-2000, b.0))

-- ---- what is led to is a day

record IsAt (y : ℕ) (d : Day) (count : ℕ) : Type 0 where
  year : d.year ≡ y
  month : IsInRange 1 12 d.month
  day : IsInRange 1 (days_in_month (pos y) d.month) d.day
  count_is : day_count (pos y) d.month d.day ≡ count

past_december : (y days : ℕ) → day_count (pos y) 13 1 + days < day_count (pos y) 1 1 + days_in_year (pos y) → ⊥
past_december y days lt =
    let next : day_count (pos y) 13 1 ≡ day_count (pos y) 12 1 + 31 = day_count-next_month (pos y) 12 (omega arith) in
    let same : day_count (pos y) 12 1 + 31 ≡ day_count (pos y) 12 31 + 1 = day_count-day (pos y) 12 1 31 (omega arith) (omega arith) in
    let last = day_count-last_of_year (pos y) in
    omega (arith, lt, next, same, last)

month_found : (y n m days : ℕ) (b : Bool) → nat_lt days (days_in_month (pos y) m) ≡ b → 1 ≤ m → m ≤ 12
    → (days_in_month (pos y) m ≤ days → IsAt y (month_after n y (m + 1) (days - days_in_month (pos y) m)) (day_count (pos y) m 1 + days))
    → IsAt y (cond b (day_of y m (days + 1)) (month_after n y (m + 1) (days - days_in_month (pos y) m))) (day_count (pos y) m 1 + days)
month_found y n m days true f h l next =
    let under : days < days_in_month (pos y) m = grind (arith, nat_tests) in
    let same = day_count-day (pos y) m 1 (days + 1) (omega arith) (omega arith) in
    record { year = refl; month = (h, l); day = (omega arith, omega arith); count_is = omega (arith, same) }
month_found y n m days false f h l next =
    let over : days_in_month (pos y) m ≤ days = grind (arith, nat_tests) in
    next over

month_at : (y n m days : ℕ) → 1 ≤ m → m + n ≡ 13 → day_count (pos y) m 1 + days < day_count (pos y) 1 1 + days_in_year (pos y) → IsAt y (month_after n y m days) (day_count (pos y) m 1 + days)
month_at y zero m days h e lt =
    let thirteen : m ≡ 13 = omega arith in
    absurd (past_december y days (subst (λ k. day_count (pos y) k 1 + days < day_count (pos y) 1 1 + days_in_year (pos y)) thirteen lt))
month_at y (suc n) m days h e lt =
    month_found y n m days (nat_lt days (days_in_month (pos y) m)) refl h (omega arith)
    (λ over.
    let f = day_count-next_month (pos y) m h in
    let sum : day_count (pos y) (m + 1) 1 + (days - days_in_month (pos y) m) ≡ day_count (pos y) m 1 + days = omega (arith, f, over) in
    subst (IsAt y (month_after n y (m + 1) (days - days_in_month (pos y) m))) sum (month_at y n (m + 1) (days - days_in_month (pos y) m) (omega arith) (omega arith) (omega (arith, sum, lt))))

record IsCounted (d : Day) (count : ℕ) : Type 0 where
  is_day : IsDay d.year d.month d.day
  count_is : day_count (pos d.year) d.month d.day ≡ count

counted : (y : ℕ) (d : Day) (count : ℕ) → 2000 ≤ y → y ≤ 2099 → IsAt y d count → IsCounted d count
counted y d count low high at =
    let year = at.year in
    record {
      is_day = ((omega arith, omega arith), at.month, subst (λ k. IsInRange 1 (days_in_month (pos k) d.month) d.day) (sym year) at.day);
      count_is = subst (λ k. day_count (pos k) d.month d.day ≡ count) (sym year) at.count_is;
    }

year_found : (n y days : ℕ) (b : Bool) → nat_lt days (days_in_year (pos y)) ≡ b → 2000 ≤ y → y ≤ 2099
    → (days_in_year (pos y) ≤ days → IsCounted (year_after n (y + 1) (days - days_in_year (pos y))) (day_count (pos y) 1 1 + days))
    → IsCounted (cond b (month_after 12 y 1 days) (year_after n (y + 1) (days - days_in_year (pos y)))) (day_count (pos y) 1 1 + days)
year_found n y days true f low high next =
    let under : days < days_in_year (pos y) = grind (arith, nat_tests) in
    counted y (month_after 12 y 1 days) (day_count (pos y) 1 1 + days) low high (month_at y 12 1 days (omega arith) (omega arith) (omega arith))
year_found n y days false f low high next =
    let over : days_in_year (pos y) ≤ days = grind (arith, nat_tests) in
    next over

year_at : (n y days : ℕ) → 2000 ≤ y → y + n ≡ 2100 → day_count (pos y) 1 1 + days < 4_419_435 → IsCounted (year_after n y days) (day_count (pos y) 1 1 + days)
year_at zero y days low e lt =
    let last : y ≡ 2100 = omega arith in
    let over : day_count (pos 2100) 1 1 + days < 4_419_435 = subst (λ k. day_count (pos k) 1 1 + days < 4_419_435) last lt in
    absurd (omega (arith, over, day_count-2100))
year_at (suc n) y days low e lt =
    year_found n y days (nat_lt days (days_in_year (pos y))) refl low (omega arith)
    (λ over.
    let f = day_count-next_year (pos y) (pos (y + 1)) (omega (arith, ints)) (omega (arith, ints)) in
    let sum : day_count (pos (y + 1)) 1 1 + (days - days_in_year (pos y)) ≡ day_count (pos y) 1 1 + days = omega (arith, f, over) in
    subst (IsCounted (year_after n (y + 1) (days - days_in_year (pos y)))) sum (year_at n (y + 1) (days - days_in_year (pos y)) (omega arith) (omega arith) (omega (arith, sum, lt))))

pub record IsDayNumber (d : Day) (days : ℕ) : Type 0 where
  pub is_day : IsDay d.year d.month d.day
  pub days_are : days_before d.year d.month d.day ≡ days

pub day_there : (days : ℕ) → days < 36_525 → IsDayNumber (year_after 100 2000 days) days
day_there days lt =
    let there = year_at 100 2000 days (omega arith) (omega arith) (omega (arith, day_count-2000)) in
    record { is_day = there.is_day; days_are = omega (arith, there.count_is, day_count-2000) }
