-- SMS-SUBMIT (3GPP TS 23.040, 9.2.2.2).
pub mod Flags
pub mod Front
pub mod ValidityPeriod
pub mod Spans
use Rattle.std.specs.Prelude.{◌≡◌, ℕ, List, ◌∷◌, ◌++◌, ◌<◌, Bool}
use Rattle.sms_field.specs.Field.{Field, ◌>>=◌, always, octet, octet_by, map_reason}
use Rattle.sms_field.specs.Address.{address, address_octets}
use Rattle.sms_field.specs.Coding.{alphabet_at}
use Rattle.sms_tpdu.specs.Fault.{unit_fault}
use Rattle.sms_tpdu.specs.Submit.Flags.{submit_flags, submit_octet}
use Rattle.sms_tpdu.specs.Submit.ValidityPeriod.{validity, format_of, validity_octets, IsInRange}
use Rattle.sms_tpdu.specs.UserData.{user_data, has_header, SpellsUserData, FitsAlphabet}
use Rattle.sms_tpdu.specs.declared.submit.flags.SubmitFlags.{SubmitFlags}
use Rattle.sms_tpdu.specs.declared.fault.UnitFault.{UnitFault}
use Rattle.sms_tpdu.specs.declared.fault.UnitFault.TheVariants.{Short}
use Rattle.sms_field.specs.Address.Value.{AddressValue, HasSpelling}
use Rattle.sms_field.specs.declared.validity.Validity.{Validity}
use Rattle.sms_tpdu.specs.declared.user_data.UserData.{UserData}

pub record Submission : Type 0 where
  -- TP-RD
  pub reject : Bool
  -- TP-VPF and TP-VP
  pub validity : Validity
  -- TP-SRR
  pub report : Bool
  -- TP-RP
  pub reply : Bool
  -- TP-MR
  pub reference : ℕ
  -- TP-DA
  pub target : AddressValue
  -- TP-PID
  pub pid : ℕ
  -- TP-DCS
  pub dcs : ℕ
  -- TP-UDHI, TP-UDL and TP-UD
  pub user : UserData

-- what has a spelling
pub record IsSubmittable (s : Submission) : Type 0 where
  pub validity : IsInRange s.validity
  pub reference : s.reference < 256
  pub target : HasSpelling s.target
  pub pid : s.pid < 256
  pub dcs : s.dcs < 256
  pub user : FitsAlphabet (alphabet_at s.dcs) s.user

unfoldable pub submit : Field Submission UnitFault
submit = do
  -- TP-MTI, TP-RD, TP-VPF, TP-SRR, TP-UDHI and TP-RP; another TP-MTI: WrongType
  flags ← octet_by Short submit_flags
  -- TP-MR
  reference ← octet Short
  -- TP-DA
  target ← map_reason unit_fault address
  -- TP-PID
  pid ← octet Short
  -- TP-DCS
  dcs ← octet Short
  -- TP-VP
  period ← validity flags.format
  -- TP-UDL and TP-UD
  user ← user_data flags.header (alphabet_at dcs)
  always (record {
    reject = flags.reject;
    validity = period;
    report = flags.report;
    reply = flags.reply;
    reference = reference;
    target = target;
    pid = pid;
    dcs = dcs;
    user = user;
  })

abbrev pub flags_in : Submission → SubmitFlags
flags_in s =
    record {
      reject = s.reject;
      format = format_of s.validity;
      report = s.report;
      header = has_header s.user;
      reply = s.reply;
    }

-- how a submission is written
pub record SpellsSubmit (s : Submission) (octets : List ℕ) : Type 0 where
  pub submittable : IsSubmittable s
  pub written : List ℕ
  pub user : SpellsUserData s.user written
  pub parts : octets
      ≡ submit_octet (flags_in s) ∷ s.reference
      ∷ (address_octets s.target ++ (s.pid ∷ s.dcs ∷ (validity_octets s.validity ++ written)))
