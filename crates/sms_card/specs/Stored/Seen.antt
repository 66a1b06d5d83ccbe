-- A record, seen where it lies.
use Rattle.sms_card.specs.Originated.Seen.{seen_originated}
use Rattle.sms_card.specs.Received.Seen.{seen_received}
use Rattle.sms_card.specs.declared.stored.Record.{Record}
use Rattle.sms_card.specs.declared.stored.Record.TheVariants as stored
use Rattle.sms_card.specs.declared.stored.view.RecordView.{RecordView}
use Rattle.sms_card.specs.declared.stored.view.RecordView.TheVariants as seen

abbrev pub seen_record : RecordView → Record
seen_record seen.Free = stored.Free
seen_record (seen.Received unread centre unit) = stored.Received unread centre (seen_received unit)
seen_record (seen.Originated report centre unit) =
    stored.Originated report centre (seen_originated unit)
