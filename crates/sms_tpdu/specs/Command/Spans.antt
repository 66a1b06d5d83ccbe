-- Where the parts of an SMS-COMMAND lie in its octets (3GPP TS 23.040, 9.2.2.4).
use Rattle.std.specs.Prelude.{◌≡◌, ℕ, List}
use Rattle.sms_field.specs.Address.{address}
use Rattle.sms_field.specs.Reading.Lies.{LiesAt}
use Rattle.sms_tpdu.specs.Command.{CommandValue}
use Rattle.sms_tpdu.specs.DataSpans.{DataLie}
use Rattle.sms_tpdu.specs.declared.command.spans.CommandSpans.{CommandSpans}

-- of a command that was read at the front of the input, in so many octets
pub record CommandLies (c : CommandValue) (input : List ℕ) (used : ℕ) (spans : CommandSpans)
    : Type 0 where
  -- TP-DA, after the first octet, TP-MR, TP-PID, TP-CT and TP-MN
  pub begins : spans.target.offset ≡ 5
  pub target : LiesAt address c.target input spans.target
  -- TP-CD, at the end
  pub «data» : DataLie c.has_header c.octets input used spans.«data»
