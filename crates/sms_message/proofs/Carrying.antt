-- A packet that carries a message is read as it.
use Rattle.std.proofs.Common.{ℕ, List, [], length, Option, Some, None, refl, sym, subst}
use Rattle.std.proofs.lemmas.List.{append-nil}
use Rattle.sms_field.specs.Field.{Field}
use Rattle.sms_field.specs.Reading.{Reads}
use Rattle.sms_tpdu.specs.Submit.{submit}
use Rattle.sms_tpdu.specs.Inside.SubmitLaws.{submit_laws}
use Rattle.sms_tpdu.specs.Deliver.{deliver}
use Rattle.sms_tpdu.specs.Inside.DeliverLaws.{deliver_laws}
use Rattle.sms_tpdu.specs.Report.{submit_ack, submit_error, deliver_ack, deliver_error}
use Rattle.sms_tpdu.specs.Inside.ReportLaws.{submit_ack_laws, submit_error_laws, deliver_ack_laws, deliver_error_laws}
use Rattle.sms_relay.specs.Rp.Value.{RpValue}
use Rattle.sms_text.specs.Octets.{IsOctets}
use Rattle.sms_relay.specs.Rp.{SpellsRp}
use Rattle.sms_relay.specs.Inside.RpLaws.{rp_laws}
use Rattle.sms_relay.specs.Inside.CarriedLaws.{read_alone, packet_read}
use Rattle.sms_relay.specs.declared.side.Side.{Side}
use Rattle.sms_relay.specs.declared.side.Side.TheVariants.{FromPhone, ToPhone}
use Rattle.sms_relay.specs.declared.cp.CpBody.TheVariants as cp
use Rattle.sms_message.specs.declared.message.TransferUnit.{TransferUnit}
use Rattle.sms_message.specs.declared.message.TransferUnit.TheVariants.{Submit, Deliver, OtherUnit, BadUnit}
use Rattle.sms_message.specs.declared.message.Report.{Report}
use Rattle.sms_message.specs.declared.message.Report.TheVariants.{SubmitAck, SubmitError, DeliverAck, DeliverError}
use Rattle.sms_message.specs.declared.message.Relay.TheVariants.{Transfer, Answer, UnknownType, Unreadable}
use Rattle.sms_message.specs.declared.message.Message.TheVariants.{NotCp, Note, Tiny, Data}
use Rattle.sms_message.specs.Message.Carrying.{centre_address, SpellsUnit, SpellsReport}
use Rattle.sms_message.specs.Message.Reading.{ReadsUnit, ReadsReport, IsSecond}
use Rattle.sms_message.specs.Message.Laws.{CarriedIsRead}

-- what is written is read alone
alone : {V W : Type 0} (f : Field V W) (v : V) (octets : List ℕ) → f.reads v octets [] → Reads f v octets (length octets)
alone f v octets r = record { octets = octets; rest = []; parts = sym (append-nil octets); used_is = refl; read = r }

unit_read : (side : Side) (unit : TransferUnit) (octets : List ℕ) → SpellsUnit side unit octets → ReadsUnit side octets unit
unit_read FromPhone (Submit s) octets h = (length octets, alone submit s octets (submit_laws.again s octets [] h tt))
unit_read ToPhone (Deliver d) octets h = (length octets, alone deliver d octets (deliver_laws.again d octets [] h tt))
unit_read FromPhone (Deliver d) octets h = absurd h
unit_read FromPhone OtherUnit octets h = absurd h
unit_read FromPhone BadUnit octets h = absurd h
unit_read ToPhone (Submit s) octets h = absurd h
unit_read ToPhone OtherUnit octets h = absurd h
unit_read ToPhone BadUnit octets h = absurd h

report_read : (side : Side) (cause : Option ℕ) (report : Option Report) (octets : Option (List ℕ)) → SpellsReport side cause report octets → ReadsReport side cause octets report
report_read side cause None None h = refl
report_read ToPhone None (Some (SubmitAck r)) (Some octets) h = (submit_ack_laws.octets r octets h, (length octets, alone submit_ack r octets (submit_ack_laws.again r octets [] h tt)))
report_read ToPhone (Some cause) (Some (SubmitError r)) (Some octets) h = (submit_error_laws.octets r octets h, (length octets, alone submit_error r octets (submit_error_laws.again r octets [] h tt)))
report_read FromPhone None (Some (DeliverAck r)) (Some octets) h = (deliver_ack_laws.octets r octets h, (length octets, alone deliver_ack r octets (deliver_ack_laws.again r octets [] h tt)))
report_read FromPhone (Some cause) (Some (DeliverError r)) (Some octets) h = (deliver_error_laws.octets r octets h, (length octets, alone deliver_error r octets (deliver_error_laws.again r octets [] h tt)))
report_read _ _ _ _ h = absurd h

unit_octets : (side : Side) (unit : TransferUnit) (octets : List ℕ) → SpellsUnit side unit octets → IsOctets octets
unit_octets FromPhone (Submit s) octets h = submit_laws.octets s octets h
unit_octets ToPhone (Deliver d) octets h = deliver_laws.octets d octets h
unit_octets _ _ octets h = absurd h

inner_octets : (m : RpValue) (octets : List ℕ) → SpellsRp m octets → IsOctets octets
inner_octets m octets s = rp_laws.octets m octets s

second_is : (m : RpValue) (octets : List ℕ) → SpellsRp m octets → IsSecond m.reference octets
second_is m octets s = subst (IsSecond m.reference) (sym s.1) refl

pub carried_is_read : CarriedIsRead
carried_is_read packet NotCp h = absurd h
carried_is_read packet (Note flag value) h = (cp.Ack, length packet, tt, packet_read _ packet h)
carried_is_read packet (Tiny flag value) h = absurd h
carried_is_read packet (Data flag tag (Transfer side unit)) h =
    let inner = h.2.0 in (
      inner,
      record { are_octets = inner_octets _ inner h.2.1; used = length packet; connection = packet_read _ packet h.2.2 },
      second_is _ inner h.2.1,
      record { address = Some centre_address; user = h.0; are_octets = unit_octets side unit h.0 h.1; used = length inner; relay = read_alone _ inner h.2.1; unit = unit_read side unit h.0 h.1 },
    )
carried_is_read packet (Data flag tag (Answer side None report)) h =
    let inner = h.2.0 in (
      inner,
      record { are_octets = inner_octets _ inner h.2.1; used = length packet; connection = packet_read _ packet h.2.2 },
      second_is _ inner h.2.1,
      record { diagnostic = None; user = h.0; used = length inner; relay = read_alone _ inner h.2.1; report = report_read side None report h.0 h.1 },
    )
carried_is_read packet (Data flag tag (Answer side (Some cause) report)) h =
    let inner = h.2.0 in (
      inner,
      record { are_octets = inner_octets _ inner h.2.1; used = length packet; connection = packet_read _ packet h.2.2 },
      second_is _ inner h.2.1,
      record { diagnostic = None; user = h.0; used = length inner; relay = read_alone _ inner h.2.1; report = report_read side (Some cause) report h.0 h.1 },
    )
carried_is_read packet (Data flag tag UnknownType) h = absurd h
carried_is_read packet (Data flag tag Unreadable) h = absurd h
