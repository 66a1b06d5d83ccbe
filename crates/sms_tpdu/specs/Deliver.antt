-- SMS-DELIVER (3GPP TS 23.040, 9.2.2.1).
pub mod Flags
pub mod Front
pub mod Spans
use Rattle.std.specs.Prelude.{◌≡◌, ℕ, List, ◌∷◌, ◌++◌, ◌<◌, Bool}
use Rattle.sms_field.specs.Field.{Field, ◌>>=◌, always, octet, octet_by, map_reason}
use Rattle.sms_field.specs.Address.{address, address_octets}
use Rattle.sms_field.specs.Coding.{alphabet_at}
use Rattle.sms_field.specs.Time.Stamp as time
use Rattle.sms_tpdu.specs.Fault.{unit_fault}
use Rattle.sms_tpdu.specs.Deliver.Flags.{deliver_flags, deliver_octet}
use Rattle.sms_tpdu.specs.UserData.{user_data, has_header, SpellsUserData, FitsAlphabet}
use Rattle.sms_tpdu.specs.declared.deliver.flags.DeliverFlags.{DeliverFlags}
use Rattle.sms_tpdu.specs.declared.fault.UnitFault.{UnitFault}
use Rattle.sms_tpdu.specs.declared.fault.UnitFault.TheVariants.{Short}
use Rattle.sms_field.specs.Address.Value.{AddressValue, HasSpelling}
use Rattle.sms_field.specs.Time.Stamp.{IsStamp}
use Rattle.sms_tpdu.specs.declared.user_data.UserData.{UserData}

pub record Delivery : Type 0 where
  -- TP-MMS
  pub more : Bool
  -- TP-LP
  pub looped : Bool
  -- TP-SRI
  pub report : Bool
  -- TP-RP
  pub reply : Bool
  -- TP-OA
  pub origin : AddressValue
  -- TP-PID
  pub pid : ℕ
  -- TP-DCS
  pub dcs : ℕ
  -- TP-SCTS
  pub stamp : List ℕ
  -- TP-UDHI, TP-UDL and TP-UD
  pub user : UserData

-- what has a spelling
pub record IsDeliverable (d : Delivery) : Type 0 where
  pub origin : HasSpelling d.origin
  pub pid : d.pid < 256
  pub dcs : d.dcs < 256
  pub stamp : IsStamp d.stamp
  pub user : FitsAlphabet (alphabet_at d.dcs) d.user

unfoldable pub deliver : Field Delivery UnitFault
deliver = do
  -- TP-MTI, TP-MMS, TP-LP, TP-SRI, TP-UDHI and TP-RP; another TP-MTI: WrongType
  flags ← octet_by Short deliver_flags
  -- TP-OA
  origin ← map_reason unit_fault address
  -- TP-PID
  pid ← octet Short
  -- TP-DCS
  dcs ← octet Short
  -- TP-SCTS
  stamp ← time.stamp Short
  -- TP-UDL and TP-UD
  user ← user_data flags.header (alphabet_at dcs)
  always (record {
    more = flags.more;
    looped = flags.looped;
    report = flags.report;
    reply = flags.reply;
    origin = origin;
    pid = pid;
    dcs = dcs;
    stamp = stamp;
    user = user;
  })

abbrev pub flags_in : Delivery → DeliverFlags
flags_in d =
    record {
      more = d.more;
      looped = d.looped;
      report = d.report;
      header = has_header d.user;
      reply = d.reply;
    }

-- how a delivery is written
pub record SpellsDeliver (d : Delivery) (octets : List ℕ) : Type 0 where
  pub deliverable : IsDeliverable d
  pub written : List ℕ
  pub user : SpellsUserData d.user written
  pub parts : octets ≡ deliver_octet (flags_in d)
      ∷ (address_octets d.origin ++ (d.pid ∷ d.dcs ∷ (d.stamp ++ written)))
