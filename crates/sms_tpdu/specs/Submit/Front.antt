-- An SMS-SUBMIT in two parts (3GPP TS 23.040, 9.2.2.2): what stands before its user data, and
-- these.
use Rattle.std.specs.Prelude.{ℕ, ◌<◌, Bool}
use Rattle.sms_field.specs.Address.Value.{AddressValue, HasSpelling}
use Rattle.sms_field.specs.declared.validity.Validity.{Validity}
use Rattle.sms_tpdu.specs.Submit.{Submission}
use Rattle.sms_tpdu.specs.Submit.ValidityPeriod.{format_of, IsInRange}
use Rattle.sms_tpdu.specs.declared.submit.flags.SubmitFlags.{SubmitFlags}
use Rattle.sms_tpdu.specs.declared.user_data.UserData.{UserData}

pub record Front : Type 0 where
  -- TP-RD
  pub reject : Bool
  -- TP-VPF and TP-VP
  pub validity : Validity
  -- TP-SRR
  pub report : Bool
  -- TP-RP
  pub reply : Bool
  -- TP-MR
  pub reference : ℕ
  -- TP-DA
  pub target : AddressValue
  -- TP-PID
  pub pid : ℕ
  -- TP-DCS
  pub dcs : ℕ

-- what has a spelling
pub record IsFront (f : Front) : Type 0 where
  pub validity : IsInRange f.validity
  pub reference : f.reference < 256
  pub target : HasSpelling f.target
  pub pid : f.pid < 256
  pub dcs : f.dcs < 256

-- the flags, by whether the user data have a header
abbrev pub front_flags : Front → Bool → SubmitFlags
front_flags f header =
    record {
      reject = f.reject;
      format = format_of f.validity;
      report = f.report;
      header = header;
      reply = f.reply;
    }

-- the submission with these user data
abbrev pub submission_of : Front → UserData → Submission
submission_of f user =
    record {
      reject = f.reject;
      validity = f.validity;
      report = f.report;
      reply = f.reply;
      reference = f.reference;
      target = f.target;
      pid = f.pid;
      dcs = f.dcs;
      user = user;
    }
