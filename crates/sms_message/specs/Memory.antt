-- For which octets a call may say that memory ran out.
use Rattle.std.proofs.Common.{◌≡◌, ◌≢◌, refl, ℕ, Bool, true, List, Result, Ok, Err}
use Rattle.sms_message.specs.declared.glance.Glance.{Glance}
use Rattle.sms_message.specs.declared.outcome.Step.{Step}
use Rattle.sms_message.specs.declared.outcome.Dropped.{Dropped}
use Rattle.sms_message.specs.declared.outcome.Dropped.TheVariants.{NotCp, Unmatched, Busy, Memory, TooManySegments}
use Rattle.sms_message.specs.Message.Glance.{IsSeenAs}

-- only for those that pass the test at a glance
abbrev pub MemoryOnlyFor : (Glance → Bool) → List ℕ → Result Step Dropped → Type 0
MemoryOnlyFor passes octets (Err Memory) =
    (seen : Glance) × IsSeenAs octets seen × (passes seen ≡ true)
MemoryOnlyFor passes octets _ = Unit {0}

-- they do
pub only_for : (passes : Glance → Bool) (octets : List ℕ) (seen : Glance) (r : Result Step Dropped) → IsSeenAs octets seen → passes seen ≡ true → MemoryOnlyFor passes octets r
only_for passes octets seen (Ok step) h p = tt
only_for passes octets seen (Err Memory) h p = (seen, h, p)
only_for passes octets seen (Err NotCp) h p = tt
only_for passes octets seen (Err Unmatched) h p = tt
only_for passes octets seen (Err Busy) h p = tt
only_for passes octets seen (Err TooManySegments) h p = tt

-- memory did not run out
pub never_for : (passes : Glance → Bool) (octets : List ℕ) (r : Result Step Dropped) → r ≢ Err Memory → MemoryOnlyFor passes octets r
never_for passes octets (Ok step) n = tt
never_for passes octets (Err Memory) n = absurd (n refl)
never_for passes octets (Err NotCp) n = tt
never_for passes octets (Err Unmatched) n = tt
never_for passes octets (Err Busy) n = tt
never_for passes octets (Err TooManySegments) n = tt
