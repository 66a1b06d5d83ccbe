-- The messages that answer a transfer, and the reports in them (3GPP TS 23.040, 9.2.2.1a and
-- 9.2.2.2a).
use Rattle.std.specs.Prelude.{ℕ, true, false, List, [], ◌∷◌, Option, None}
use Rattle.sms_relay.specs.declared.side.Side.{Side}
use Rattle.sms_field.specs.Time.Computed.{stamp_octets}
use Rattle.sms_message.specs.declared.message.Tag.{Tag}
use Rattle.sms_message.specs.declared.message.Report.{Report}
use Rattle.sms_message.specs.declared.message.Report.TheVariants.{SubmitAck, SubmitError, DeliverAck, DeliverError}
use Rattle.sms_message.specs.declared.message.Relay.TheVariants.{Answer}
use Rattle.sms_message.specs.declared.message.Message.{Message}
use Rattle.sms_message.specs.declared.message.Message.TheVariants.{Note, Data}

-- A CP-ACK; and in a CP-DATA an RP-ACK, or an RP-ERROR where there is a cause, with this report.
-- Both have flag 1: they come from the side that the transaction was opened to.
abbrev pub answers : Side → Tag → Option ℕ → Option Report → List Message
answers side tag cause report = Note true tag.value ∷ Data true tag (Answer side cause report) ∷ []

-- Reports have no optional field and no header. The failure cause is TP-FCS, the stamp TP-SCTS, in
-- zone 0.
abbrev pub submit_ack_of : ℕ → Report
submit_ack_of moment =
    SubmitAck (record {
      has_header = false;
      cause = tt;
      stamp = stamp_octets moment;
      pid = None;
      dcs = None;
      user = None;
    })

abbrev pub submit_error_of : ℕ → ℕ → Report
submit_error_of failure moment =
    SubmitError (record {
      has_header = false;
      cause = failure;
      stamp = stamp_octets moment;
      pid = None;
      dcs = None;
      user = None;
    })

abbrev pub plain_ack : Report
plain_ack =
    DeliverAck (record {
      has_header = false;
      cause = tt;
      stamp = tt;
      pid = None;
      dcs = None;
      user = None;
    })

abbrev pub deliver_error_of : ℕ → Report
deliver_error_of failure =
    DeliverError (record {
      has_header = false;
      cause = failure;
      stamp = tt;
      pid = None;
      dcs = None;
      user = None;
    })
