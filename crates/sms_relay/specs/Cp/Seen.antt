-- What a CP message holds, seen where it lies.
use Rattle.sms_relay.specs.declared.cp.CpBody.{CpBody}
use Rattle.sms_relay.specs.declared.cp.CpBody.TheVariants as body
use Rattle.sms_relay.specs.declared.cp.view.CpBodyView.{CpBodyView}
use Rattle.sms_relay.specs.declared.cp.view.CpBodyView.TheVariants as seen

abbrev pub seen_cp_body : CpBodyView → CpBody
seen_cp_body (seen.Transfer octets) = body.Transfer octets
seen_cp_body seen.Ack = body.Ack
seen_cp_body (seen.Fail cause) = body.Fail cause
