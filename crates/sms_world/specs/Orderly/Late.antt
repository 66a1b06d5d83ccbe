-- Late segments fall within the remembered texts.
use Rattle.std.specs.Prelude.{ℕ, Some}
use Rattle.sms_tpdu.specs.Deliver.{Delivery}
use Rattle.sms_message.specs.Message.{Origin}
use Rattle.sms_world.specs.Machine.{Machine}
use Rattle.sms_world.specs.Machine.Event.{Event}
use Rattle.sms_world.specs.Texts.Finished.{HasFinished, IsAmongLast}
use Rattle.sms_world.specs.Orderly.Brought.{BringsDelivery}

-- Where a delivery of a text that has finished at a phone comes to it once more, the text is among
-- the last that finished there, as many as the phone remembers.
abbrev pub LateSegmentsAreRemembered : Machine → Event → Type 0
LateSegmentsAreRemembered m event =
    (phone : ℕ) (d : Delivery) (o : Origin) → BringsDelivery m event phone d (Some o)
    → HasFinished m phone o.text → IsAmongLast m phone o.text
