-- What an RP message holds, seen where it lies.
use Rattle.sms_relay.specs.declared.rp.RpBody.{RpBody}
use Rattle.sms_relay.specs.declared.rp.RpBody.TheVariants as body
use Rattle.sms_relay.specs.declared.rp.view.RpBodyView.{RpBodyView}
use Rattle.sms_relay.specs.declared.rp.view.RpBodyView.TheVariants as seen

abbrev pub seen_rp_body : RpBodyView → RpBody
seen_rp_body (seen.Transfer address user) = body.Transfer address user
seen_rp_body (seen.Ack user) = body.Ack user
seen_rp_body (seen.Fail cause diagnostic user) = body.Fail cause diagnostic user
