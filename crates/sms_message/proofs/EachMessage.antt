-- Octets are read as some message.
use Rattle.std.proofs.Common.{◌≡◌, ◌⊎◌, inl, inr, ⊎_elim, ℕ, Bool, List, [], ◌∷◌, Option, Some, None, Result, Ok, Err, refl, subst, arith}
use Rattle.sms_text.specs.Octets.{IsOctets}
use Rattle.sms_field.specs.Reading.{Reads}
use Rattle.sms_tpdu.specs.Submit.{submit}
use Rattle.sms_tpdu.specs.Submit.Flags.{submit_flags}
use Rattle.sms_tpdu.specs.Inside.SubmitLaws.{submit_lawful}
use Rattle.sms_tpdu.specs.Deliver.{deliver}
use Rattle.sms_tpdu.specs.Deliver.Flags.{deliver_flags}
use Rattle.sms_tpdu.specs.Inside.DeliverLaws.{deliver_lawful}
use Rattle.sms_tpdu.specs.Report.{submit_ack, submit_error, deliver_ack, deliver_error}
use Rattle.sms_tpdu.specs.Inside.ReportLaws.{submit_ack_lawful, submit_error_lawful, deliver_ack_lawful, deliver_error_lawful}
use Rattle.sms_tpdu.specs.declared.fault.UnitFault.{UnitFault}
use Rattle.sms_tpdu.specs.declared.fault.UnitFault.TheVariants as unit
use Rattle.sms_relay.specs.Cp.{cp_message}
use Rattle.sms_relay.specs.Inside.CpLaws.{cp_laws}
use Rattle.sms_relay.specs.Rp.Kind.{rp_type}
use Rattle.sms_relay.specs.Rp.{rp_message}
use Rattle.sms_relay.specs.Inside.RpLaws.{rp_laws}
use Rattle.sms_relay.specs.declared.side.Side.{Side}
use Rattle.sms_relay.specs.declared.side.Side.TheVariants.{FromPhone, ToPhone}
use Rattle.sms_relay.specs.declared.cp.CpBody.{CpBody}
use Rattle.sms_relay.specs.declared.cp.CpBody.TheVariants as cp
use Rattle.sms_relay.specs.declared.rp.RpBody.{RpBody}
use Rattle.sms_relay.specs.declared.rp.RpBody.TheVariants as rp
use Rattle.sms_relay.specs.declared.rp_kind.RpType.{RpType}
use Rattle.sms_relay.specs.declared.fault.RelayFault.{RelayFault}
use Rattle.sms_relay.specs.declared.fault.RelayFault.TheVariants as fault
use Rattle.sms_message.specs.declared.message.TransferUnit.{TransferUnit}
use Rattle.sms_message.specs.declared.message.TransferUnit.TheVariants.{Submit, Deliver, OtherUnit, BadUnit}
use Rattle.sms_message.specs.declared.message.Report.{Report}
use Rattle.sms_message.specs.declared.message.Report.TheVariants.{SubmitAck, SubmitError, DeliverAck, DeliverError}
use Rattle.sms_message.specs.declared.message.Relay.{Relay}
use Rattle.sms_message.specs.declared.message.Relay.TheVariants.{Transfer, Answer, UnknownType, Unreadable}
use Rattle.sms_message.specs.declared.message.Message.{Message}
use Rattle.sms_message.specs.declared.message.Message.TheVariants.{NotCp, Note, Tiny, Data}
use Rattle.sms_field.specs.Reading.Reasons.{StartsAs}
use Rattle.sms_field.specs.Reading.Values.{AreOptionalOctets}
use Rattle.sms_message.specs.Message.Reading.{ReadsUnit, ReadsReport, ReadsRelay, ReadsAs}
use Rattle.sms_message.specs.Message.Laws.{EachIsRead}
use Rattle.sms_relay.specs.Inside.TypeLaws.{reference_is}
use Rattle.sms_field.specs.Inside.ReadableLaws.{decided, read_as}
use Rattle.sms_relay.specs.ReadOctets.{HasCpOctets, HasRpOctets}
use Rattle.sms_relay.specs.Inside.ReadOctetLaws.{cp_octets_are, rp_octets_are}

-- an octet has a meaning or is refused; whether for this reason
starts_by : {V : Type 0} (r : Result V UnitFault) → (r ≡ Err unit.WrongType) ⊎ (r ≡ Err unit.WrongType → ⊥)
starts_by (Ok v) = inr (λ e. cc)
starts_by (Err unit.WrongType) = inl refl
starts_by (Err unit.Short) = inr (λ e. cc)
starts_by (Err unit.AddressTooLong) = inr (λ e. cc)
starts_by (Err unit.BadDigit) = inr (λ e. cc)
starts_by (Err unit.DataTooLong) = inr (λ e. cc)
starts_by (Err unit.HeaderTooLong) = inr (λ e. cc)

starts_unit : {V : Type 0} (meaning : ℕ → Result V UnitFault) (octets : List ℕ) → StartsAs meaning unit.WrongType octets ⊎ ¬ StartsAs meaning unit.WrongType octets
starts_unit meaning [] = inr (λ h. h)
starts_unit meaning (o ∷ rest) = starts_by (meaning o)

relay_by : (r : Result RpType RelayFault) → (r ≡ Err fault.UnknownType) ⊎ (r ≡ Err fault.UnknownType → ⊥)
relay_by (Ok v) = inr (λ e. cc)
relay_by (Err fault.UnknownType) = inl refl
relay_by (Err fault.Short) = inr (λ e. cc)
relay_by (Err fault.NotSms) = inr (λ e. cc)
relay_by (Err fault.BadTransaction) = inr (λ e. cc)
relay_by (Err fault.BadAddress) = inr (λ e. cc)
relay_by (Err fault.BadCause) = inr (λ e. cc)
relay_by (Err fault.DataTooLong) = inr (λ e. cc)

starts_relay : (octets : List ℕ) → StartsAs rp_type fault.UnknownType octets ⊎ ¬ StartsAs rp_type fault.UnknownType octets
starts_relay [] = inr (λ h. h)
starts_relay (o ∷ rest) = relay_by (rp_type o)

record SomeUnit (side : Side) (octets : List ℕ) : Type 0 where
  unit : TransferUnit
  read : ReadsUnit side octets unit

each_unit : (side : Side) (octets : List ℕ) → IsOctets octets → SomeUnit side octets
each_unit FromPhone octets are =
    ⊎_elim {C = SomeUnit FromPhone octets} (λ r. record { unit = Submit r.value; read = (_, read_as _ _ r) })
    (λ n. ⊎_elim {C = SomeUnit FromPhone octets} (λ s. record { unit = OtherUnit; read = s }) (λ m. record { unit = BadUnit; read = (n, m) }) (starts_unit submit_flags octets))
    (decided unit.Short submit submit_lawful octets are)
each_unit ToPhone octets are =
    ⊎_elim {C = SomeUnit ToPhone octets} (λ r. record { unit = Deliver r.value; read = (_, read_as _ _ r) })
    (λ n. ⊎_elim {C = SomeUnit ToPhone octets} (λ s. record { unit = OtherUnit; read = s }) (λ m. record { unit = BadUnit; read = (n, m) }) (starts_unit deliver_flags octets))
    (decided unit.Short deliver deliver_lawful octets are)

record SomeReport (side : Side) (cause : Option ℕ) (user : Option (List ℕ)) : Type 0 where
  report : Option Report
  read : ReadsReport side cause user report

each_some : (side : Side) (cause : Option ℕ) (octets : List ℕ) → IsOctets octets → SomeReport side cause (Some octets)
each_some ToPhone None octets are =
    ⊎_elim {C = SomeReport ToPhone None (Some octets)} (λ r. record { report = Some (SubmitAck r.value); read = (are, (_, read_as _ _ r)) }) (λ n. record { report = None; read = (are, n) }) (decided unit.Short submit_ack submit_ack_lawful octets are)
each_some ToPhone (Some c) octets are =
    ⊎_elim {C = SomeReport ToPhone (Some c) (Some octets)} (λ r. record { report = Some (SubmitError r.value); read = (are, (_, read_as _ _ r)) }) (λ n. record { report = None; read = (are, n) }) (decided unit.Short submit_error submit_error_lawful octets are)
each_some FromPhone None octets are =
    ⊎_elim {C = SomeReport FromPhone None (Some octets)} (λ r. record { report = Some (DeliverAck r.value); read = (are, (_, read_as _ _ r)) }) (λ n. record { report = None; read = (are, n) }) (decided unit.Short deliver_ack deliver_ack_lawful octets are)
each_some FromPhone (Some c) octets are =
    ⊎_elim {C = SomeReport FromPhone (Some c) (Some octets)} (λ r. record { report = Some (DeliverError r.value); read = (are, (_, read_as _ _ r)) }) (λ n. record { report = None; read = (are, n) }) (decided unit.Short deliver_error deliver_error_lawful octets are)

each_report : (side : Side) (cause : Option ℕ) (user : Option (List ℕ)) → AreOptionalOctets user → SomeReport side cause user
each_report side cause None are = record { report = None; read = refl }
each_report side cause (Some octets) are = each_some side cause octets are

record SomeRelay (octets : List ℕ) (reference : ℕ) : Type 0 where
  relay : Relay
  read : ReadsRelay octets reference relay

relay_body : (octets : List ℕ) (reference : ℕ) (side : Side) (body : RpBody) (used : ℕ) → HasRpOctets body → Reads rp_message (record { side = side; reference = reference; body = body }) octets used → SomeRelay octets reference
relay_body octets reference side (rp.Transfer address user) used are r =
    let u = each_unit side user are in
    record { relay = Transfer side u.unit; read = record { address = address; user = user; are_octets = are; used = used; relay = r; unit = u.read } }
relay_body octets reference side (rp.Ack user) used are r =
    let p = each_report side None user are in
    record { relay = Answer side None p.report; read = record { diagnostic = None; user = user; used = used; relay = r; report = p.read } }
relay_body octets reference side (rp.Fail cause added user) used are r =
    let p = each_report side (Some cause) user are in
    record { relay = Answer side (Some cause) p.report; read = record { diagnostic = added; user = user; used = used; relay = r; report = p.read } }

each_relay : (first second : ℕ) (rest : List ℕ) → IsOctets (first ∷ second ∷ rest) → SomeRelay (first ∷ second ∷ rest) second
each_relay first second rest are =
    ⊎_elim {C = SomeRelay (first ∷ second ∷ rest) second}
    (λ r. subst (λ n. SomeRelay (first ∷ second ∷ rest) n) (reference_is r.value first second rest _ (read_as _ _ r))
    (relay_body (first ∷ second ∷ rest) r.value.reference r.value.side r.value.body _ (rp_octets_are r.value (first ∷ second ∷ rest) _ are (read_as _ _ r)) (read_as _ _ r)))
    (λ n. ⊎_elim {C = SomeRelay (first ∷ second ∷ rest) second} (λ s. record { relay = UnknownType; read = s }) (λ m. record { relay = Unreadable; read = (n, m) }) (starts_relay (first ∷ second ∷ rest)))
    (decided fault.Short rp_message rp_laws.lawful (first ∷ second ∷ rest) are)

record SomeMessage (packet : List ℕ) : Type 0 where
  message : Message
  read : ReadsAs packet message

data_by : (packet : List ℕ) (flag : Bool) (value : ℕ) (octets : List ℕ) (used : ℕ) → IsOctets octets → Reads cp_message (record { flag = flag; value = value; body = cp.Transfer octets }) packet used → SomeMessage packet
data_by packet flag value [] used are r = record { message = Tiny flag value; read = ([], record { are_octets = are; used = used; connection = r }, omega arith) }
data_by packet flag value (a ∷ []) used are r = record { message = Tiny flag value; read = (a ∷ [], record { are_octets = are; used = used; connection = r }, omega arith) }
data_by packet flag value (a ∷ b ∷ rest) used are r =
    let x = each_relay a b rest are in
    record { message = Data flag (record { value = value; reference = b }) x.relay; read = (a ∷ b ∷ rest, record { are_octets = are; used = used; connection = r }, refl, x.read) }

message_by : (packet : List ℕ) (flag : Bool) (value : ℕ) (body : CpBody) (used : ℕ) → HasCpOctets body → Reads cp_message (record { flag = flag; value = value; body = body }) packet used → SomeMessage packet
message_by packet flag value (cp.Transfer octets) used are r = data_by packet flag value octets used are r
message_by packet flag value cp.Ack used are r = record { message = Note flag value; read = (cp.Ack, used, tt, r) }
message_by packet flag value (cp.Fail cause) used are r = record { message = Note flag value; read = (cp.Fail cause, used, tt, r) }

some_message : (packet : List ℕ) → IsOctets packet → SomeMessage packet
some_message packet are =
    ⊎_elim {C = SomeMessage packet}
    (λ r. message_by packet r.value.flag r.value.value r.value.body _ (cp_octets_are r.value packet _ are (read_as _ _ r)) (read_as _ _ r))
    (λ n. record { message = NotCp; read = n })
    (decided fault.Short cp_message cp_laws.lawful packet are)

pub each_is_read : EachIsRead
each_is_read packet are = let x = some_message packet are in (x.message, x.read)
