-- The clock goes on, and what is old then is told and dropped.
use Rattle.std.specs.Prelude.{◌≡◌, ℕ, ◌-◌, nat_lt, if◌then◌else◌, List, [], length, codes, Option, None, Some, MatchBool}
use Rattle.std.specs.List.{flat_map}
use Rattle.sms_field.specs.Address.Value.{AddressValue}
use Rattle.sms_join.specs.Joiner.Same.{IsSame}
use Rattle.sms_join.specs.OpenSets.Told.{old_after, young_after}
use Rattle.sms_join.specs.Gateway.Answers.{gateway_aged}
use Rattle.sms_join.specs.Gateway.Finishings.{finishings_at}
use Rattle.sms_join.specs.Gateway.Value.{GatewayValue}
use Rattle.sms_told.specs.declared.answer.Telling.{Telling}
use Rattle.sms_told.specs.Sets.{set_text}
use Rattle.sms_stream.specs.declared.clock.Clock.{Clock}
use Rattle.sms_stream.specs.Clock.{ticked}
use Rattle.sms_stream.specs.Losses.{dropped_then}
use Rattle.sms_stream.specs.Stream.{StreamValue}

-- the clock after a piece of this origin (TP-OA), with a stamp of this moment if it has one
abbrev pub clock_after : Clock → AddressValue → Option ℕ → Clock
clock_after clock origin None = clock
clock_after clock origin (Some moment) = ticked clock origin moment

-- what is told of the sets that are old at a moment, in order of opening, where all is told
abbrev pub old_text : Telling → GatewayValue → ℕ → List ℕ
old_text telling joiner now =
    if telling.is_verbose
    then flat_map (set_text telling.form (codes "dropped"))
    (old_after joiner.limits.open_for now joiner.told)
    else []

-- what is told where the clock shows this time then: of old sets, if the time is later
abbrev pub aging_text : StreamValue → ℕ → List ℕ
aging_text old now =
    if nat_lt old.clock.time now then old_text old.telling old.joiner now else []

-- The joiner has dropped its old sets, and forgotten its old keys.
pub record IsAged (old new : GatewayValue) (now : ℕ) : Type 0 where
  pub holds : IsSame new.holds (gateway_aged old now)
  pub told : new.told ≡ young_after old.limits.open_for now old.told
  pub finishings : new.finishings ≡ finishings_at old.limits.remember_for now old.finishings
  pub limits : new.limits ≡ old.limits

-- It is so, and the sets that it dropped are counted.
abbrev pub Drops : StreamValue → StreamValue → ℕ → Type 0
Drops old new now =
    IsAged old.joiner new.joiner now
    × (new.losses ≡ dropped_then old.losses (length old.joiner.told - length new.joiner.told))

-- It drops what is old at this moment, if that is later than the clock; else all stays.
abbrev pub DropsAt : StreamValue → StreamValue → ℕ → Type 0
DropsAt old new now =
    MatchBool (nat_lt old.clock.time now) (Drops old new now)
    ((new.joiner ≡ old.joiner) × (new.losses ≡ old.losses))

-- The clock goes on with a piece, and what is old then is dropped.
pub record GoesOn (old new : StreamValue) (origin : AddressValue) (moment : Option ℕ) : Type 0 where
  pub clock : new.clock ≡ clock_after old.clock origin moment
  pub drops : DropsAt old new new.clock.time
  pub telling : new.telling ≡ old.telling
