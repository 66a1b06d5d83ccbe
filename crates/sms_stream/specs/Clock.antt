-- The clock of units that come one after another, each of an origin (TP-OA) and with the moment of
-- its stamp (TP-SCTS). A stamp more than a week after the clock is not believed alone.
use Rattle.std.specs.Prelude.{ℕ, ◌+◌, ◌-◌, min, max, Bool, true, false, not, ◌&&◌, if◌then◌else◌, nat_lt, Option, unwrap_or}
use Rattle.sms_field.specs.Address.Value.{AddressValue}
use Rattle.sms_field.specs.Address.Same.{same_address}
use Rattle.sms_stream.specs.declared.clock.Clock.{Clock}
use Rattle.sms_stream.specs.declared.clock.Row.{Row}
use Rattle.sms_stream.specs.declared.clock.Standing.{Standing}
use Rattle.sms_stream.specs.declared.clock.Standing.TheVariants.{Unset, First, Sure, Ahead}

-- the seconds of seven days, after which a set is old
abbrev pub week : ℕ
week = 604800

-- how many units of one origin are not believed alone
abbrev pub few : ℕ
few = 3

-- more than a week goes by from the earlier moment to the later
abbrev pub is_far_after : ℕ → ℕ → Bool
is_far_after later earlier = nat_lt week (later - earlier)

-- after so many units of an origin comes one more of it, and they were few
abbrev pub goes_on : AddressValue → ℕ → AddressValue → Bool
goes_on first count origin = nat_lt count few && same_address first origin

-- a clock that shows this time
abbrev pub clock_at : ℕ → Standing → Clock
clock_at time standing = record { time = time; standing = standing }

-- so many units, of which the least moment is this
abbrev pub row_of : AddressValue → ℕ → ℕ → Row
row_of origin least count = record { origin = origin; least = least; count = count }

-- Before the first unit the clock shows 0.
abbrev pub new_clock : Clock
new_clock = clock_at 0 Unset

-- The first stamp sets the clock, for want of another.
abbrev pub first_clock : AddressValue → ℕ → Clock
first_clock origin moment = clock_at moment (First origin 1)

-- A sure clock stays where a stamp lies far ahead, which begins a row; any other stamp moves it on
-- where it is later.
abbrev pub after_sure : ℕ → AddressValue → ℕ → Clock
after_sure time origin moment =
    if is_far_after moment time
    then clock_at time (Ahead (row_of origin moment 1))
    else clock_at (max time moment) Sure

-- A unit of another origin lies more than a week before the clock that the first origin set.
abbrev pub is_refuted : ℕ → AddressValue → AddressValue → ℕ → Bool
is_refuted time first origin moment = is_far_after time moment && not (same_address first origin)

-- The first origin alone is not sure until its fourth unit; a unit of another origin makes it sure.
abbrev pub standing_after : AddressValue → ℕ → AddressValue → Standing
standing_after first count origin =
    if goes_on first count origin then First first (count + 1) else Sure

-- After units of the first origin alone: a unit that refutes them sets the clock back to its own
-- moment, one that lies far ahead begins a row, and any other moves the clock on where it is later.
abbrev pub after_first : ℕ → AddressValue → ℕ → AddressValue → ℕ → Clock
after_first time first count origin moment =
    if is_refuted time first origin moment
    then clock_at moment Sure
    else (if is_far_after moment time
    then after_sure time origin moment
    else clock_at (max time moment) (standing_after first count origin))

-- After a row, one more unit that lies far ahead. Of the same origin it makes the row longer, up to
-- three. One of another origin, or the fourth, bears the row out: the clock moves to the least of
-- their moments, and the unit is looked at from there.
abbrev pub after_far : ℕ → Row → AddressValue → ℕ → Clock
after_far time row origin moment =
    if goes_on row.origin row.count origin
    then clock_at time (Ahead (row_of row.origin (min row.least moment) (row.count + 1)))
    else after_sure (min row.least moment) origin moment

-- After a row, a unit that does not lie far ahead ends the row, and moves the clock on where it is
-- later.
abbrev pub after_row : ℕ → Row → AddressValue → ℕ → Clock
after_row time row origin moment =
    if is_far_after moment time
    then after_far time row origin moment
    else clock_at (max time moment) Sure

abbrev pub after : Standing → ℕ → AddressValue → ℕ → Clock
after Unset time origin moment = first_clock origin moment
after (First first count) time origin moment = after_first time first count origin moment
after Sure time origin moment = after_sure time origin moment
after (Ahead row) time origin moment = after_row time row origin moment

-- The clock after one more unit of this origin, with a stamp of this moment.
abbrev pub ticked : Clock → AddressValue → ℕ → Clock
ticked clock origin moment = after clock.standing clock.time origin moment

abbrev pub is_unset : Standing → Bool
is_unset Unset = true
is_unset (First first count) = false
is_unset Sure = false
is_unset (Ahead row) = false

-- The clock after a unit that was taken long ago, of which no row is left: one that lies far ahead is
-- passed over, unless it sets the clock.
abbrev pub recalled : Clock → AddressValue → ℕ → Clock
recalled clock origin moment =
    if not (is_unset clock.standing) && is_far_after moment clock.time
    then clock
    else ticked clock origin moment

-- A set is opened at the moment of its first segment where that lies ahead of the clock, else at
-- the clock.
abbrev pub opened_at : Clock → Option ℕ → ℕ
opened_at clock moment = max (unwrap_or moment 0) clock.time
