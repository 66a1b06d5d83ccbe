-- What came from the network, seen where it lies.
use Rattle.sms_card.specs.declared.received.ReceivedUnit.{ReceivedUnit}
use Rattle.sms_card.specs.declared.received.ReceivedUnit.TheVariants as received
use Rattle.sms_card.specs.declared.received.view.ReceivedView.{ReceivedView}
use Rattle.sms_card.specs.declared.received.view.ReceivedView.TheVariants as seen

abbrev pub seen_received : ReceivedView → ReceivedUnit
seen_received (seen.Deliver d) = received.Deliver d
seen_received (seen.StatusReport r) = received.StatusReport r
