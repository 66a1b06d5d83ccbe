-- Where the parts of an SMS-SUBMIT lie in its octets (3GPP TS 23.040, 9.2.2.2).
use Rattle.std.specs.Prelude.{◌≡◌, ℕ, ◌+◌, List, length}
use Rattle.sms_field.specs.Address.{address}
use Rattle.sms_field.specs.Reading.Lies.{LiesAt}
use Rattle.sms_tpdu.specs.Submit.{Submission}
use Rattle.sms_tpdu.specs.Submit.ValidityPeriod.{validity_octets}
use Rattle.sms_tpdu.specs.UserData.Spans.{UserLies}
use Rattle.sms_tpdu.specs.declared.submit.spans.SubmitSpans.{SubmitSpans}

-- of a submission that was read at the front of the input, in so many octets
pub record SubmissionLies (s : Submission) (input : List ℕ) (used : ℕ) (spans : SubmitSpans)
    : Type 0 where
  -- TP-DA, after the first octet and TP-MR
  pub begins : spans.target.offset ≡ 2
  pub target : LiesAt address s.target input spans.target
  -- TP-UDL and TP-UD, after TP-PID, TP-DCS and TP-VP
  pub user : UserLies s.user input
      (spans.target.offset + spans.target.length + 2 + length (validity_octets s.validity)) used
      spans.user
