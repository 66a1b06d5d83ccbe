-- What C sees of a unit that was read.
use Rattle.std.specs.Prelude.{◌≡◌, ℕ, List}
use Rattle.sms_tpdu.specs.Deliver.{Delivery}
use Rattle.sms_tpdu.specs.Submit.{Submission}
use Rattle.sms_tpdu.specs.Deliver.Spans.{DeliveryLies}
use Rattle.sms_tpdu.specs.Submit.Spans.{SubmissionLies}
use Rattle.sms_tpdu.specs.declared.deliver.spans.DeliverSpans.{DeliverSpans}
use Rattle.sms_tpdu.specs.declared.submit.spans.SubmitSpans.{SubmitSpans}
use Rattle.sms_c.specs.Parts.{bit, span_at, ShowsUser}
use Rattle.sms_c.specs.Times.{validity_seen}
use Rattle.sms_c.specs.declared.reading.deliver.DeliverSeen.{DeliverSeen}
use Rattle.sms_c.specs.declared.reading.submit.SubmitSeen.{SubmitSeen}

-- an SMS-DELIVER that was read at the front of the octets, with the address and the user data where
-- they lie
pub record ShowsDelivery (value : Delivery) (octets : List ℕ) (seen : DeliverSeen) : Type 0 where
  pub more : seen.more ≡ bit value.more
  pub looped : seen.looped ≡ bit value.looped
  pub report : seen.report ≡ bit value.report
  pub reply : seen.reply ≡ bit value.reply
  pub origin_kind : seen.origin.type_of_number ≡ value.origin.kind
  pub origin_plan : seen.origin.plan ≡ value.origin.plan
  pub pid : seen.pid ≡ value.pid
  pub dcs : seen.dcs ≡ value.dcs
  pub stamp : seen.stamp.octets ≡ value.stamp
  pub spans : DeliverSpans
  pub lie : DeliveryLies value octets seen.used spans
  pub origin : seen.origin.octets ≡ span_at spans.origin
  pub user : ShowsUser value.user value.dcs spans.user seen.user

-- an SMS-SUBMIT likewise
pub record ShowsSubmission (value : Submission) (octets : List ℕ) (seen : SubmitSeen) : Type 0 where
  pub reject : seen.reject ≡ bit value.reject
  pub report : seen.report ≡ bit value.report
  pub reply : seen.reply ≡ bit value.reply
  pub reference : seen.reference ≡ value.reference
  pub target_kind : seen.target.type_of_number ≡ value.target.kind
  pub target_plan : seen.target.plan ≡ value.target.plan
  pub pid : seen.pid ≡ value.pid
  pub dcs : seen.dcs ≡ value.dcs
  pub validity : seen.validity ≡ validity_seen value.validity
  pub spans : SubmitSpans
  pub lie : SubmissionLies value octets seen.used spans
  pub target : seen.target.octets ≡ span_at spans.target
  pub user : ShowsUser value.user value.dcs spans.user seen.user
