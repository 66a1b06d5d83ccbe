-- The field of a stamp is lawful.
use Rattle.sms_field.specs.Field.{IsLawful}
use Rattle.sms_field.specs.Time.Stamp.{stamp}
use Rattle.sms_field.specs.Inside.SingleLaws.{octets_of_lawful}

pub stamp_lawful : {W : Type 0} (short : W) → IsLawful short (stamp short)
stamp_lawful short = octets_of_lawful short 7
