-- Octets are read as one message.
use Rattle.std.proofs.Common.{◌≡◌, ℕ, ◌<◌, Bool, List, [], ◌∷◌, length, Option, Some, None, refl, sym, ap, ◌∙◌, subst, arith}
use Rattle.sms_text.specs.Octets.{IsOctets}
use Rattle.sms_field.specs.Field.{HasReading}
use Rattle.sms_field.specs.Inside.ReadableLaws.{reading_of}
use Rattle.sms_field.specs.Reading.{Reads}
use Rattle.sms_field.specs.Inside.ReadingLaws.{one_reading}
use Rattle.sms_field.specs.Inside.ReasonLaws.{starts_apart}
use Rattle.sms_tpdu.specs.Inside.RefusalLaws.{submit_tells, deliver_tells}
use Rattle.sms_field.specs.RelayAddress.Value.{RelayAddressValue}
use Rattle.sms_tpdu.specs.Submit.{submit}
use Rattle.sms_tpdu.specs.Inside.SubmitLaws.{submit_lawful}
use Rattle.sms_tpdu.specs.Deliver.{deliver}
use Rattle.sms_tpdu.specs.Inside.DeliverLaws.{deliver_lawful}
use Rattle.sms_tpdu.specs.Report.{submit_ack, submit_error, deliver_ack, deliver_error}
use Rattle.sms_tpdu.specs.Inside.ReportLaws.{submit_ack_lawful, submit_error_lawful, deliver_ack_lawful, deliver_error_lawful}
use Rattle.sms_tpdu.specs.declared.fault.UnitFault.TheVariants as unit
use Rattle.sms_relay.specs.Cp.Value.{CpValue}
use Rattle.sms_relay.specs.Cp.{cp_message}
use Rattle.sms_relay.specs.Inside.CpLaws.{cp_laws}
use Rattle.sms_relay.specs.Rp.Value.{RpValue}
use Rattle.sms_relay.specs.Rp.Kind.{rp_type}
use Rattle.sms_relay.specs.Rp.{rp_message}
use Rattle.sms_relay.specs.Inside.RpLaws.{rp_laws}
use Rattle.sms_relay.specs.Carried.{in_transaction}
use Rattle.sms_relay.specs.declared.side.Side.{Side}
use Rattle.sms_relay.specs.declared.side.Side.TheVariants.{FromPhone, ToPhone}
use Rattle.sms_relay.specs.declared.cp.CpBody.{CpBody}
use Rattle.sms_relay.specs.declared.cp.CpBody.TheVariants as cp
use Rattle.sms_relay.specs.declared.rp.RpBody.TheVariants as rp
use Rattle.sms_relay.specs.declared.fault.RelayFault.TheVariants as fault
use Rattle.sms_message.specs.declared.message.TransferUnit.{TransferUnit}
use Rattle.sms_message.specs.declared.message.TransferUnit.TheVariants.{Submit, Deliver, OtherUnit, BadUnit}
use Rattle.sms_message.specs.declared.message.Report.{Report}
use Rattle.sms_message.specs.declared.message.Report.TheVariants.{SubmitAck, SubmitError, DeliverAck, DeliverError}
use Rattle.sms_message.specs.declared.message.Relay.{Relay}
use Rattle.sms_message.specs.declared.message.Relay.TheVariants.{Transfer, Answer, UnknownType, Unreadable}
use Rattle.sms_message.specs.declared.message.Tag.{Tag}
use Rattle.sms_message.specs.declared.message.Message.{Message}
use Rattle.sms_message.specs.declared.message.Message.TheVariants.{NotCp, Note, Tiny, Data}
use Rattle.sms_field.specs.Reading.Reasons.{StartsAs}
use Rattle.sms_message.specs.Message.Reading.{ReadsUnit, ReadsSomeReport, ReadsReport, answer_body, ReadsTransfer, ReadsAnswer, ReadsRelay, IsSecond, IsNote, ReadsData, ReadsAs}
use Rattle.sms_message.specs.Message.Laws.{OneMessageIsRead}

-- ---- units

one_unit : (side : Side) (octets : List ℕ) (u v : TransferUnit) → IsOctets octets → ReadsUnit side octets u → ReadsUnit side octets v → v ≡ u
one_unit FromPhone octets (Submit s) (Submit t) are h k = ap Submit (one_reading submit unit.Short submit_lawful s t octets h.0 k.0 are h.1 k.1).0
one_unit FromPhone octets (Submit s) OtherUnit are h k = absurd (submit_tells.unread octets k (reading_of _ _ s h.0 h.1))
one_unit FromPhone octets (Submit s) BadUnit are h k = absurd (k.0 (reading_of _ _ s h.0 h.1))
one_unit FromPhone octets OtherUnit (Submit t) are h k = absurd (submit_tells.unread octets h (reading_of _ _ t k.0 k.1))
one_unit FromPhone octets OtherUnit OtherUnit are h k = refl
one_unit FromPhone octets OtherUnit BadUnit are h k = absurd (k.1 h)
one_unit FromPhone octets BadUnit (Submit t) are h k = absurd (h.0 (reading_of _ _ t k.0 k.1))
one_unit FromPhone octets BadUnit OtherUnit are h k = absurd (h.1 k)
one_unit FromPhone octets BadUnit BadUnit are h k = refl
one_unit FromPhone octets (Deliver d) v are h k = absurd h
one_unit FromPhone octets u (Deliver d) are h k = absurd k
one_unit ToPhone octets (Deliver s) (Deliver t) are h k = ap Deliver (one_reading deliver unit.Short deliver_lawful s t octets h.0 k.0 are h.1 k.1).0
one_unit ToPhone octets (Deliver s) OtherUnit are h k = absurd (deliver_tells.unread octets k (reading_of _ _ s h.0 h.1))
one_unit ToPhone octets (Deliver s) BadUnit are h k = absurd (k.0 (reading_of _ _ s h.0 h.1))
one_unit ToPhone octets OtherUnit (Deliver t) are h k = absurd (deliver_tells.unread octets h (reading_of _ _ t k.0 k.1))
one_unit ToPhone octets OtherUnit OtherUnit are h k = refl
one_unit ToPhone octets OtherUnit BadUnit are h k = absurd (k.1 h)
one_unit ToPhone octets BadUnit (Deliver t) are h k = absurd (h.0 (reading_of _ _ t k.0 k.1))
one_unit ToPhone octets BadUnit OtherUnit are h k = absurd (h.1 k)
one_unit ToPhone octets BadUnit BadUnit are h k = refl
one_unit ToPhone octets (Submit s) v are h k = absurd h
one_unit ToPhone octets u (Submit s) are h k = absurd k

-- ---- reports

one_some : (side : Side) (cause : Option ℕ) (octets : List ℕ) (r q : Option Report) → IsOctets octets → ReadsSomeReport side cause octets r → ReadsSomeReport side cause octets q → q ≡ r
one_some ToPhone None octets (Some (SubmitAck r)) (Some (SubmitAck q)) are h k = ap (λ v. Some (SubmitAck v)) (one_reading submit_ack unit.Short submit_ack_lawful r q octets h.0 k.0 are h.1 k.1).0
one_some ToPhone (Some c) octets (Some (SubmitError r)) (Some (SubmitError q)) are h k = ap (λ v. Some (SubmitError v)) (one_reading submit_error unit.Short submit_error_lawful r q octets h.0 k.0 are h.1 k.1).0
one_some FromPhone None octets (Some (DeliverAck r)) (Some (DeliverAck q)) are h k = ap (λ v. Some (DeliverAck v)) (one_reading deliver_ack unit.Short deliver_ack_lawful r q octets h.0 k.0 are h.1 k.1).0
one_some FromPhone (Some c) octets (Some (DeliverError r)) (Some (DeliverError q)) are h k = ap (λ v. Some (DeliverError v)) (one_reading deliver_error unit.Short deliver_error_lawful r q octets h.0 k.0 are h.1 k.1).0
one_some ToPhone None octets (Some (SubmitAck r)) None are h k = absurd (k (reading_of _ _ r h.0 h.1))
one_some ToPhone (Some c) octets (Some (SubmitError r)) None are h k = absurd (k (reading_of _ _ r h.0 h.1))
one_some FromPhone None octets (Some (DeliverAck r)) None are h k = absurd (k (reading_of _ _ r h.0 h.1))
one_some FromPhone (Some c) octets (Some (DeliverError r)) None are h k = absurd (k (reading_of _ _ r h.0 h.1))
one_some ToPhone None octets None (Some (SubmitAck r)) are h k = absurd (h (reading_of _ _ r k.0 k.1))
one_some ToPhone (Some c) octets None (Some (SubmitError r)) are h k = absurd (h (reading_of _ _ r k.0 k.1))
one_some FromPhone None octets None (Some (DeliverAck r)) are h k = absurd (h (reading_of _ _ r k.0 k.1))
one_some FromPhone (Some c) octets None (Some (DeliverError r)) are h k = absurd (h (reading_of _ _ r k.0 k.1))
one_some side cause octets None None are h k = refl
one_some FromPhone None octets (Some (SubmitAck r)) q are h k = absurd h
one_some FromPhone None octets (Some (SubmitError r)) q are h k = absurd h
one_some FromPhone None octets (Some (DeliverError r)) q are h k = absurd h
one_some FromPhone (Some c) octets (Some (SubmitAck r)) q are h k = absurd h
one_some FromPhone (Some c) octets (Some (SubmitError r)) q are h k = absurd h
one_some FromPhone (Some c) octets (Some (DeliverAck r)) q are h k = absurd h
one_some ToPhone None octets (Some (SubmitError r)) q are h k = absurd h
one_some ToPhone None octets (Some (DeliverAck r)) q are h k = absurd h
one_some ToPhone None octets (Some (DeliverError r)) q are h k = absurd h
one_some ToPhone (Some c) octets (Some (SubmitAck r)) q are h k = absurd h
one_some ToPhone (Some c) octets (Some (DeliverAck r)) q are h k = absurd h
one_some ToPhone (Some c) octets (Some (DeliverError r)) q are h k = absurd h
one_some _ _ octets _ _ are h k = absurd k

one_report : (side : Side) (cause : Option ℕ) (user : Option (List ℕ)) (r q : Option Report) → ReadsReport side cause user r → ReadsReport side cause user q → q ≡ r
one_report side cause None r q h k = k ∙ sym h
one_report side cause (Some octets) r q h k = one_some side cause octets r q h.0 h.1 k.1

-- ---- relay messages

pub rp_apart : (octets : List ℕ) → StartsAs rp_type fault.UnknownType octets → ¬ HasReading rp_message octets
unfolding rp_message
rp_apart octets h = starts_apart fault.Short fault.UnknownType rp_type _ octets h

pub one_rp : (octets : List ℕ) (m n : RpValue) (used other : ℕ) → IsOctets octets → Reads rp_message m octets used → Reads rp_message n octets other → n ≡ m
one_rp octets m n used other are h k = (one_reading rp_message fault.Short rp_laws.lawful m n octets used other are h k).0

same_transfer : (octets : List ℕ) (reference : ℕ) (s t : Side) (u w : TransferUnit) → IsOctets octets → ReadsTransfer octets s reference u → ReadsTransfer octets t reference w → ◌≡◌ {A = Relay} (Transfer t w) (Transfer s u)
same_transfer octets reference s t u w are h k =
    let e = one_rp octets _ _ h.used k.used are h.relay k.relay in
    let side : t ≡ s = ap (λ (m : RpValue). m.side) e in
    let body : rp.Transfer k.address k.user ≡ rp.Transfer h.address h.user = ap (λ (m : RpValue). m.body) e in
    let user : k.user ≡ h.user = cc in
    let read : ReadsUnit s h.user w = subst (λ (x : Side). ReadsUnit x h.user w) side (subst (λ (l : List ℕ). ReadsUnit t l w) user k.unit) in
    let same : w ≡ u = one_unit s h.user u w h.are_octets h.unit read in
    cc

transfer_apart : (cause : Option ℕ) (address : Option RelayAddressValue) (user : List ℕ) (diagnostic : Option ℕ) (answered : Option (List ℕ)) → rp.Transfer address user ≡ answer_body cause diagnostic answered → ⊥
transfer_apart None address user diagnostic answered e = cc
transfer_apart (Some cause) address user diagnostic answered e = cc

record IsSameAnswer (c d : Option ℕ) (u w : Option (List ℕ)) : Type 0 where
  cause : d ≡ c
  user : w ≡ u

same_body : (c d : Option ℕ) (x y : Option ℕ) (u w : Option (List ℕ)) → answer_body d y w ≡ answer_body c x u → IsSameAnswer c d u w
same_body None None x y u w e = record { cause = refl; user = cc }
same_body None (Some d) x y u w e = absurd cc
same_body (Some c) None x y u w e = absurd cc
same_body (Some c) (Some d) x y u w e = record { cause = cc; user = cc }

same_answer : (octets : List ℕ) (reference : ℕ) (s t : Side) (c d : Option ℕ) (r q : Option Report) → IsOctets octets → ReadsAnswer octets s reference c r → ReadsAnswer octets t reference d q → ◌≡◌ {A = Relay} (Answer t d q) (Answer s c r)
same_answer octets reference s t c d r q are h k =
    let e = one_rp octets _ _ h.used k.used are h.relay k.relay in
    let side : t ≡ s = ap (λ (m : RpValue). m.side) e in
    let body = same_body c d h.diagnostic k.diagnostic h.user k.user (ap (λ (m : RpValue). m.body) e) in
    let cause : d ≡ c = body.cause in
    let read : ReadsReport s c h.user q = subst (λ (x : Side). ReadsReport x c h.user q) side (subst (λ (x : Option ℕ). ReadsReport t x h.user q) cause (subst (λ (l : Option (List ℕ)). ReadsReport t d l q) body.user k.report)) in
    let same : q ≡ r = one_report s c h.user r q h.report read in
    cc

one_relay : (octets : List ℕ) (reference : ℕ) (r q : Relay) → IsOctets octets → ReadsRelay octets reference r → ReadsRelay octets reference q → q ≡ r
one_relay octets reference (Transfer s u) (Transfer t w) are h k = same_transfer octets reference s t u w are h k
one_relay octets reference (Transfer s u) (Answer t d q) are h k = absurd (transfer_apart d h.address h.user k.diagnostic k.user (sym (ap (λ (m : RpValue). m.body) (one_rp octets _ _ h.used k.used are h.relay k.relay))))
one_relay octets reference (Transfer s u) UnknownType are h k = absurd (rp_apart octets k (reading_of _ _ _ h.used h.relay))
one_relay octets reference (Transfer s u) Unreadable are h k = absurd (k.0 (reading_of _ _ _ h.used h.relay))
one_relay octets reference (Answer s c r) (Transfer t w) are h k = absurd (transfer_apart c k.address k.user h.diagnostic h.user (ap (λ (m : RpValue). m.body) (one_rp octets _ _ h.used k.used are h.relay k.relay)))
one_relay octets reference (Answer s c r) (Answer t d q) are h k = same_answer octets reference s t c d r q are h k
one_relay octets reference (Answer s c r) UnknownType are h k = absurd (rp_apart octets k (reading_of _ _ _ h.used h.relay))
one_relay octets reference (Answer s c r) Unreadable are h k = absurd (k.0 (reading_of _ _ _ h.used h.relay))
one_relay octets reference UnknownType (Transfer t w) are h k = absurd (rp_apart octets h (reading_of _ _ _ k.used k.relay))
one_relay octets reference UnknownType (Answer t d q) are h k = absurd (rp_apart octets h (reading_of _ _ _ k.used k.relay))
one_relay octets reference UnknownType UnknownType are h k = refl
one_relay octets reference UnknownType Unreadable are h k = absurd (k.1 h)
one_relay octets reference Unreadable (Transfer t w) are h k = absurd (h.0 (reading_of _ _ _ k.used k.relay))
one_relay octets reference Unreadable (Answer t d q) are h k = absurd (h.0 (reading_of _ _ _ k.used k.relay))
one_relay octets reference Unreadable UnknownType are h k = absurd (h.1 k)
one_relay octets reference Unreadable Unreadable are h k = refl

-- ---- messages

pub one_cp : (packet : List ℕ) (m n : CpValue) (used other : ℕ) → IsOctets packet → Reads cp_message m packet used → Reads cp_message n packet other → n ≡ m
one_cp packet m n used other are h k = (one_reading cp_message fault.Short cp_laws.lawful m n packet used other are h k).0

note_apart : (octets : List ℕ) (b : CpBody) → IsNote b → b ≡ cp.Transfer octets → ⊥
note_apart octets b h e = subst IsNote e h

record IsSameData (f g : Bool) (v w : ℕ) (o p : List ℕ) : Type 0 where
  flag : g ≡ f
  value : w ≡ v
  octets : p ≡ o

one_data : (packet : List ℕ) (f g : Bool) (v w : ℕ) (o p : List ℕ) → IsOctets packet → ReadsData packet f v o → ReadsData packet g w p → IsSameData f g v w o p
one_data packet f g v w o p are h k =
    let e = one_cp packet _ _ h.used k.used are h.connection k.connection in
    let b : cp.Transfer p ≡ cp.Transfer o = ap (λ (m : CpValue). m.body) e in
    record { flag = ap (λ (m : CpValue). m.flag) e; value = ap (λ (m : CpValue). m.value) e; octets = cc }

note_no_data : (packet : List ℕ) (f g : Bool) (v w used : ℕ) (b : CpBody) (o : List ℕ) → IsOctets packet → IsNote b → Reads cp_message (in_transaction f v b) packet used → ReadsData packet g w o → ⊥
note_no_data packet f g v w used b o are n h k = note_apart o b n (sym (ap (λ (m : CpValue). m.body) (one_cp packet _ _ used k.used are h k.connection)))

short_apart : (octets : List ℕ) (n : ℕ) → length octets < 2 → IsSecond n octets → ⊥
short_apart [] n h s = s
short_apart (a ∷ []) n h s = s
short_apart (a ∷ b ∷ rest) n h s = omega arith

one_second : (octets : List ℕ) (m n : ℕ) → IsSecond m octets → IsSecond n octets → n ≡ m
one_second [] m n h k = absurd h
one_second (a ∷ []) m n h k = absurd h
one_second (a ∷ b ∷ rest) m n h k = k ∙ sym h

pub tag_same : (t u : Tag) → u.value ≡ t.value → u.reference ≡ t.reference → u ≡ t
tag_same t u e f = let p : ◌≡◌ {A = Tag} (record { value = u.value; reference = u.reference }) (record { value = t.value; reference = t.reference }) = cc in p

same_data : (packet : List ℕ) (f g : Bool) (t u : Tag) (r q : Relay) → IsOctets packet → ReadsAs packet (Data f t r) → ReadsAs packet (Data g u q) → ◌≡◌ {A = Message} (Data g u q) (Data f t r)
same_data packet f g t u r q are h k =
    let d = one_data packet f g t.value u.value h.0 k.0 are h.1 k.1 in
    let flag : g ≡ f = d.flag in
    let second : u.reference ≡ t.reference = one_second h.0 t.reference u.reference h.2 (subst (IsSecond u.reference) d.octets k.2) in
    let read : ReadsRelay h.0 t.reference q = subst (λ n. ReadsRelay h.0 n q) second (subst (λ (l : List ℕ). ReadsRelay l u.reference q) d.octets k.3) in
    let relay : q ≡ r = one_relay h.0 t.reference r q h.1.are_octets h.3 read in
    let value : u.value ≡ t.value = d.value in
    let tag : u ≡ t = tag_same t u value second in
    cc

pub one_message_is_read : OneMessageIsRead
one_message_is_read packet NotCp NotCp are h k = refl
one_message_is_read packet NotCp (Note g w) are h k = absurd (h (reading_of _ _ _ k.1 k.3))
one_message_is_read packet NotCp (Tiny g w) are h k = absurd (h (reading_of _ _ _ k.1.used k.1.connection))
one_message_is_read packet NotCp (Data g u q) are h k = absurd (h (reading_of _ _ _ k.1.used k.1.connection))
one_message_is_read packet (Note f v) NotCp are h k = absurd (k (reading_of _ _ _ h.1 h.3))
one_message_is_read packet (Note f v) (Note g w) are h k =
    let e = one_cp packet _ _ h.1 k.1 are h.3 k.3 in
    let flag : g ≡ f = ap (λ (m : CpValue). m.flag) e in
    let value : w ≡ v = ap (λ (m : CpValue). m.value) e in
    cc
one_message_is_read packet (Note f v) (Tiny g w) are h k = absurd (note_no_data packet f g v w h.1 h.0 k.0 are h.2 h.3 k.1)
one_message_is_read packet (Note f v) (Data g u q) are h k = absurd (note_no_data packet f g v u.value h.1 h.0 k.0 are h.2 h.3 k.1)
one_message_is_read packet (Tiny f v) NotCp are h k = absurd (k (reading_of _ _ _ h.1.used h.1.connection))
one_message_is_read packet (Tiny f v) (Note g w) are h k = absurd (note_no_data packet g f w v k.1 k.0 h.0 are k.2 k.3 h.1)
one_message_is_read packet (Tiny f v) (Tiny g w) are h k =
    let d = one_data packet f g v w h.0 k.0 are h.1 k.1 in
    let flag : g ≡ f = d.flag in
    let value : w ≡ v = d.value in
    cc
one_message_is_read packet (Tiny f v) (Data g u q) are h k =
    absurd (short_apart h.0 u.reference h.2 (subst (IsSecond u.reference) (one_data packet f g v u.value h.0 k.0 are h.1 k.1).octets k.2))
one_message_is_read packet (Data f t r) NotCp are h k = absurd (k (reading_of _ _ _ h.1.used h.1.connection))
one_message_is_read packet (Data f t r) (Note g w) are h k = absurd (note_no_data packet g f w t.value k.1 k.0 h.0 are k.2 k.3 h.1)
one_message_is_read packet (Data f t r) (Tiny g w) are h k =
    absurd (short_apart k.0 t.reference k.2 (subst (IsSecond t.reference) (one_data packet g f w t.value k.0 h.0 are k.1 h.1).octets h.2))
one_message_is_read packet (Data f t r) (Data g u q) are h k = same_data packet f g t u r q are h k
