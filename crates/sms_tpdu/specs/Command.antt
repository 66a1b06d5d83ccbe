-- SMS-COMMAND (3GPP TS 23.040, 9.2.2.4).
pub mod Flags
pub mod Kind
pub mod Spans
use Rattle.std.specs.Prelude.{◌≡◌, ℕ, List, ◌∷◌, ◌++◌, ◌<◌, ◌≤◌, length, Bool}
use Rattle.sms_text.specs.Octets.{IsOctets}
use Rattle.sms_field.specs.Field.{Field, ◌>>=◌, always, octet, octet_by, octets_of, map_reason, up_to}
use Rattle.sms_field.specs.Address.{address, address_octets}
use Rattle.sms_field.specs.Address.Value.{AddressValue, HasSpelling}
use Rattle.sms_tpdu.specs.Fault.{unit_fault}
use Rattle.sms_tpdu.specs.Command.Flags.{command_flags, command_octet}
use Rattle.sms_tpdu.specs.declared.command.flags.CommandFlags.{CommandFlags}
use Rattle.sms_tpdu.specs.declared.fault.UnitFault.{UnitFault}
use Rattle.sms_tpdu.specs.declared.fault.UnitFault.TheVariants.{Short, DataTooLong}

pub record CommandValue : Type 0 where
  -- TP-UDHI
  pub has_header : Bool
  -- TP-SRR
  pub report : Bool
  -- TP-MR
  pub reference : ℕ
  -- TP-PID
  pub pid : ℕ
  -- TP-CT
  pub kind : ℕ
  -- TP-MN
  pub message : ℕ
  -- TP-DA
  pub target : AddressValue
  -- TP-CDL and TP-CD
  pub octets : List ℕ

abbrev pub flags_in : CommandValue → CommandFlags
flags_in c = record { report = c.report; header = c.has_header }

-- what has a spelling
pub record IsCommand (c : CommandValue) : Type 0 where
  pub reference : c.reference < 256
  pub pid : c.pid < 256
  pub kind : c.kind < 256
  pub message : c.message < 256
  pub target : HasSpelling c.target
  pub few : length c.octets ≤ 157
  pub octets : IsOctets c.octets

unfoldable pub command : Field CommandValue UnitFault
command = do
  -- TP-MTI, TP-SRR and TP-UDHI; another TP-MTI: WrongType
  flags ← octet_by Short command_flags
  -- TP-MR
  reference ← octet Short
  -- TP-PID
  pid ← octet Short
  -- TP-CT
  kind ← octet Short
  -- TP-MN
  message ← octet Short
  -- TP-DA
  target ← map_reason unit_fault address
  -- TP-CDL; above 157 octets: DataTooLong
  count ← octet_by Short (up_to 157 DataTooLong)
  -- TP-CD
  octets ← octets_of Short count
  always (record {
    has_header = flags.header;
    report = flags.report;
    reference = reference;
    pid = pid;
    kind = kind;
    message = message;
    target = target;
    octets = octets;
  })

-- how it is written
abbrev pub command_octets : CommandValue → List ℕ
command_octets c =
    command_octet (flags_in c) ∷ c.reference ∷ c.pid ∷ c.kind ∷ c.message
    ∷ (address_octets c.target ++ (length c.octets ∷ c.octets))

abbrev pub SpellsCommand : CommandValue → List ℕ → Type 0
SpellsCommand c octets = IsCommand c × (octets ≡ command_octets c)
