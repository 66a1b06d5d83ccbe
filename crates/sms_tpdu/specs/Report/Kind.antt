-- A part that stands in some of the four reports: the failure cause, TP-FCS, in those under an
-- error of the relay, and the stamp of the centre, TP-SCTS, in those on a submission (3GPP TS
-- 23.040, 9.2.2.1a and 9.2.2.2a).
use Rattle.std.specs.Prelude.{ℕ, ◌<◌, List, [], ◌∷◌}
use Rattle.sms_text.specs.Octets.{IsOctets}
use Rattle.sms_field.specs.Field.{Field, IsSelfContained, IsLawful, always, octet}
use Rattle.sms_field.specs.Time.Stamp as time
use Rattle.sms_tpdu.specs.declared.fault.UnitFault.{UnitFault}
use Rattle.sms_tpdu.specs.declared.fault.UnitFault.TheVariants.{Short}

pub record KindPart (V : Type 0) : Type 1 where
  pub field : Field V UnitFault
  -- what has a spelling
  pub is : V → Type 0
  -- how it is written
  pub octets : V → List ℕ

-- where it does not stand
abbrev pub no_part : KindPart (Unit {0})
no_part = record { field = always tt; is = λ _. Unit {0}; octets = λ _. [] }

-- TP-FCS
abbrev pub failure_cause : KindPart ℕ
failure_cause = record { field = octet Short; is = λ n. n < 256; octets = λ n. n ∷ [] }

-- TP-SCTS
abbrev pub centre_stamp : KindPart (List ℕ)
centre_stamp = record { field = time.stamp Short; is = time.IsStamp; octets = λ l. l }

-- it is a lawful field that does not look at what follows, and what is written is read back
pub record AreKindPartLaws {V : Type 0} (part : KindPart V) : Type 0 where
  pub alone : IsSelfContained part.field
  pub lawful : IsLawful Short part.field
  pub octets : (v : V) → part.is v → IsOctets (part.octets v)
  pub again : (v : V) (rest : List ℕ) → part.is v → part.field.reads v (part.octets v) rest
