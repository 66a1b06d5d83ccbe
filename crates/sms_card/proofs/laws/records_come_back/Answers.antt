use Rattle.std.proofs.Common.{[], refl, sym, arith}
use Rattle.std.proofs.lemmas.List.{append-nil}
use Rattle.sms_card.specs.Inside.RecordLaws.{record_laws}
use Rattle.sms_card.proofs.laws.records_come_back.Goals as goal

pub returns : goal.returns
returns c = λ r octets s. record {
  few = omega (arith, s.size);
  read = record { octets = octets; rest = []; parts = sym (append-nil octets); used_is = refl; read = record_laws.again r octets [] s refl };
}
