-- The body of user data, where it lies.
use Rattle.sms_tpdu.specs.declared.user_data.body.Body.{Body}
use Rattle.sms_tpdu.specs.declared.user_data.body.Body.TheVariants as body
use Rattle.sms_tpdu.specs.declared.user_data.view.body.BodyView.{BodyView}
use Rattle.sms_tpdu.specs.declared.user_data.view.body.BodyView.TheVariants as seen

abbrev pub seen_body : BodyView → Body
seen_body (seen.Septets septets) = body.Septets septets
seen_body (seen.Octets octets) = body.Octets octets.now
