-- Where the parts of an SMS-DELIVER lie in its octets (3GPP TS 23.040, 9.2.2.1).
use Rattle.std.specs.Prelude.{◌≡◌, ℕ, ◌+◌, List}
use Rattle.sms_field.specs.Address.{address}
use Rattle.sms_field.specs.Reading.Lies.{LiesAt}
use Rattle.sms_tpdu.specs.Deliver.{Delivery}
use Rattle.sms_tpdu.specs.UserData.Spans.{UserLies}
use Rattle.sms_tpdu.specs.declared.deliver.spans.DeliverSpans.{DeliverSpans}

-- of a delivery that was read at the front of the input, in so many octets
pub record DeliveryLies (d : Delivery) (input : List ℕ) (used : ℕ) (spans : DeliverSpans)
    : Type 0 where
  -- TP-OA, after the first octet
  pub begins : spans.origin.offset ≡ 1
  pub origin : LiesAt address d.origin input spans.origin
  -- TP-UDL and TP-UD, after TP-PID, TP-DCS and the seven octets of TP-SCTS
  pub user : UserLies d.user input (spans.origin.offset + spans.origin.length + 9) used spans.user
