-- The keys that a phone remembers are those of the last texts that finished there. Lists have the
-- newest entry first.
use Rattle.std.specs.Prelude.{◌≡◌, ℕ, List, map, take}
use Rattle.sms_field.specs.Address.Value.{AddressValue}
use Rattle.sms_world.specs.Told.{Told}
use Rattle.sms_script.specs.declared.script.limits.Limits.{Limits}
use Rattle.sms_world.specs.Machine.{Machine, start}
use Rattle.sms_world.specs.Machine.Event.{Event}
use Rattle.sms_world.specs.Texts.Keys.{texts_of}
use Rattle.sms_world.specs.Texts.Finished.{finished}
use Rattle.sms_world.specs.Orderly.{OrderlyRun}

abbrev pub KeysAreOfFinished : Type 0
KeysAreOfFinished =
    (limits : Limits) (phones : List AddressValue) (past : List (Event × Told)) (m : Machine)
    → OrderlyRun (start limits phones) past m
    → (phone : ℕ) → (m.receiver phone).joiner.finished
    ≡ map (texts_of m.phones m.senders.texts m.centre.accepted).key
    (take m.limits.remembered (finished m phone))
