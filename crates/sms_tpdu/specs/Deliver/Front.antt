-- An SMS-DELIVER in two parts (3GPP TS 23.040, 9.2.2.1): what stands before its user data, and
-- these.
use Rattle.std.specs.Prelude.{ℕ, ◌<◌, Bool, List}
use Rattle.sms_field.specs.Address.Value.{AddressValue, HasSpelling}
use Rattle.sms_field.specs.Time.Stamp.{IsStamp}
use Rattle.sms_tpdu.specs.Deliver.{Delivery}
use Rattle.sms_tpdu.specs.declared.deliver.flags.DeliverFlags.{DeliverFlags}
use Rattle.sms_tpdu.specs.declared.user_data.UserData.{UserData}

pub record Front : Type 0 where
  -- TP-MMS
  pub more : Bool
  -- TP-LP
  pub looped : Bool
  -- TP-SRI
  pub report : Bool
  -- TP-RP
  pub reply : Bool
  -- TP-OA
  pub origin : AddressValue
  -- TP-PID
  pub pid : ℕ
  -- TP-DCS
  pub dcs : ℕ
  -- TP-SCTS
  pub stamp : List ℕ

-- what has a spelling
pub record IsFront (f : Front) : Type 0 where
  pub origin : HasSpelling f.origin
  pub pid : f.pid < 256
  pub dcs : f.dcs < 256
  pub stamp : IsStamp f.stamp

-- the flags, by whether the user data have a header
abbrev pub front_flags : Front → Bool → DeliverFlags
front_flags f header =
    record {
      more = f.more;
      looped = f.looped;
      report = f.report;
      header = header;
      reply = f.reply;
    }

-- the delivery with these user data
abbrev pub delivery_with : Front → UserData → Delivery
delivery_with f user =
    record {
      more = f.more;
      looped = f.looped;
      report = f.report;
      reply = f.reply;
      origin = f.origin;
      pid = f.pid;
      dcs = f.dcs;
      stamp = f.stamp;
      user = user;
    }
