-- Each phone's store.
use Rattle.std.specs.Prelude.{◌≡◌, ℕ, List}
use Rattle.sms_field.specs.Address.Value.{AddressValue}
use Rattle.sms_world.specs.Told.{Told}
use Rattle.sms_script.specs.declared.script.limits.Limits.{Limits}
use Rattle.sms_world.specs.Machine.{Machine, start}
use Rattle.sms_world.specs.Machine.Event.{Event}
use Rattle.sms_world.specs.Texts.Stands.{stands}
use Rattle.sms_world.specs.Orderly.{OrderlyRun}

-- After every orderly run the store of each phone is, in order of completion, just the texts that
-- have finished there, each with the address of the phone that it was typed at and the characters
-- that were typed. (Both lists have the newest first.)
abbrev pub StoresStand : Type 0
StoresStand =
    (limits : Limits) (phones : List AddressValue) (past : List (Event × Told)) (m : Machine)
    → OrderlyRun (start limits phones) past m
    → (phone : ℕ) → (m.receiver phone).store ≡ stands m phone
