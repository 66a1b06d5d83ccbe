-- A reader may pass this by: contracts of private functions, and proofs, alone cite it.
use Rattle.std.specs.Prelude.{◌≡◌, ℕ, Bool, true, false, not, ◌&&◌, if◌then◌else◌, List, Option, Some, None, Ok, slice_get}
use Rattle.sms_relay.specs.declared.side.Side.{Side}
use Rattle.sms_relay.specs.declared.side.Side.TheVariants.{FromPhone, ToPhone}
use Rattle.sms_message.specs.Does.{Does, drops}
use Rattle.sms_message.specs.declared.glance.Glance.{Glance}
use Rattle.sms_message.specs.declared.glance.Glance.TheVariants as glance
use Rattle.sms_message.specs.declared.glance.RelayGlance.{RelayGlance}
use Rattle.sms_message.specs.declared.glance.RelayGlance.TheVariants as relay
use Rattle.sms_message.specs.declared.message.Tag.{Tag}
use Rattle.sms_message.specs.declared.outcome.Outcome.{Outcome}
use Rattle.sms_message.specs.declared.outcome.Dropped.{Dropped}
use Rattle.sms_message.specs.declared.outcome.Dropped.TheVariants.{NotCp, Unmatched}
use Rattle.sms_centre.specs.Centre.State.{CentreState}
use Rattle.sms_centre.specs.Centre.Value.{LineValue}
use Rattle.sms_centre.specs.Inside.Lines.{awaits_in}

abbrev pub is_from_phone : Side → Bool
is_from_phone FromPhone = true
is_from_phone ToPhone = false

-- In a transaction that the phone has opened an RP-DATA from the phone is taken, and what is no RP
-- message, to be refused; in one that the centre has opened an answer from the phone, if it is
-- awaited.
abbrev pub is_taken : (flag awaited : Bool) → RelayGlance → Bool
is_taken flag awaited (relay.Transfer side) = not flag && is_from_phone side
is_taken flag awaited (relay.Answer side) = (flag && is_from_phone side) && awaited
is_taken flag awaited relay.NoRelay = not flag

-- whether an answer with this tag is awaited of a phone
abbrev pub awaited_of : ℕ → Tag → Option LineValue → Bool
awaited_of now tag None = false
awaited_of now tag (Some line) = awaits_in now tag line.latest

abbrev pub awaited_at : ℕ → List LineValue → ℕ → Tag → Bool
awaited_at now lines phone tag = awaited_of now tag (slice_get lines phone)

-- why it is dropped, if it is; `awaited` says whether an answer with a tag is
abbrev pub drop_of : (awaited : Tag → Bool) → Glance → Option Dropped
drop_of awaited glance.NotCp = Some NotCp
drop_of awaited (glance.Note flag value) = None
drop_of awaited (glance.Tiny flag value) = Some Unmatched
drop_of awaited (glance.Data flag tag seen) =
    if is_taken flag (awaited tag) seen then None else Some Unmatched

-- Just that is dropped in a state; all else is answered.
abbrev pub DropsFor : Option Dropped → CentreState → Does CentreState → Type 0
DropsFor (Some why) c d = d ≡ drops c why
DropsFor None c d = (outcome : Outcome) × (d.answer ≡ Ok outcome)
