-- What stands before the padding has one length, so a record that is too long is none that is
-- written.
use Rattle.std.proofs.Common.{◌≡◌, ℕ, ◌+◌, ◌*◌, ◌<◌, List, [], ◌∷◌, ◌++◌, length, replicate, Option, refl, sym, ap, ◌∙◌, arith, length-append}
use Rattle.std.proofs.lemmas.List.{length-replicate}
use Rattle.sms_text.specs.Bits.{PackedPlain, septet_bits}
use Rattle.sms_text.specs.Inside.PackingLaws.{length-octet_bits, length-septet_bits}
use Rattle.sms_field.specs.Address.{address_octets}
use Rattle.sms_field.specs.RelayAddress.{optional_address_octets}
use Rattle.sms_field.specs.RelayAddress.Value.{RelayAddressValue}
use Rattle.sms_tpdu.specs.Deliver.{Delivery, SpellsDeliver}
use Rattle.sms_tpdu.specs.Submit.{Submission, SpellsSubmit}
use Rattle.sms_tpdu.specs.Submit.ValidityPeriod.{validity_octets}
use Rattle.sms_tpdu.specs.UserData.Lengths.{fill_bits}
use Rattle.sms_tpdu.specs.UserData.{header_octets, SpellsBody, SpellsUserData}
use Rattle.sms_tpdu.specs.declared.user_data.body.Body.{Body}
use Rattle.sms_tpdu.specs.declared.user_data.body.Body.TheVariants as body
use Rattle.sms_tpdu.specs.declared.user_data.UserData.{UserData}
use Rattle.sms_card.specs.Originated.{SpellsOriginated}
use Rattle.sms_card.specs.Received.{SpellsReceived}
use Rattle.sms_card.specs.Status.{status_octet}
use Rattle.sms_card.specs.Stored.{SpellsUsed, SpellsFront, SpellsRecord, IsTooLong}
use Rattle.sms_card.specs.Stored.Laws.{TooLongIsUnwritten}
use Rattle.sms_card.specs.declared.originated.OriginatedUnit.{OriginatedUnit}
use Rattle.sms_card.specs.declared.originated.OriginatedUnit.TheVariants as originated
use Rattle.sms_card.specs.declared.received.ReceivedUnit.{ReceivedUnit}
use Rattle.sms_card.specs.declared.received.ReceivedUnit.TheVariants as received
use Rattle.sms_card.specs.declared.status.Status.{Status}
use Rattle.sms_card.specs.declared.stored.Record.{Record}
use Rattle.sms_card.specs.declared.stored.Record.TheVariants as stored

-- ---- user data

packed_bits : (fill : ℕ) (septets packed : List ℕ) (p : PackedPlain fill septets packed) → 8 * length packed ≡ fill + 7 * length septets + p.spare
packed_bits fill septets packed p =
    omega (arith, ap length p.parts, length-octet_bits packed, length-append (replicate fill 0 ++ septet_bits septets) (replicate p.spare 0), length-append (replicate fill 0) (septet_bits septets), length-septet_bits septets, length-replicate {A = ℕ} fill 0, length-replicate {A = ℕ} p.spare 0)

packed_length : (fill : ℕ) (septets one other : List ℕ) → PackedPlain fill septets one → PackedPlain fill septets other → length other ≡ length one
packed_length fill septets one other p q = omega (arith, packed_bits fill septets one p, packed_bits fill septets other q, p.few, q.few)

body_length : (taken : ℕ) (b : Body) (one other : List ℕ) → SpellsBody taken b one → SpellsBody taken b other → length other ≡ length one
body_length taken (body.Septets septets) one other p q = packed_length (fill_bits taken) septets one other p.0 q.0
body_length taken (body.Octets octets) one other p q = ap length (q ∙ sym p)

user_length : (u : UserData) (one other : List ℕ) → SpellsUserData u one → SpellsUserData u other → length other ≡ length one
user_length u one other p q =
    omega (arith, ap length p.parts, ap length q.parts, length-append (header_octets u.header) p.written, length-append (header_octets u.header) q.written, body_length (length (header_octets u.header)) u.body p.written q.written p.spells_body q.spells_body)

-- ---- units

deliver_length : (d : Delivery) (one other : List ℕ) → SpellsDeliver d one → SpellsDeliver d other → length other ≡ length one
deliver_length d one other p q =
    omega (arith, ap length p.parts, ap length q.parts, user_length d.user p.written q.written p.user q.user, length-append (address_octets d.origin) (d.pid ∷ d.dcs ∷ (d.stamp ++ p.written)), length-append (address_octets d.origin) (d.pid ∷ d.dcs ∷ (d.stamp ++ q.written)), length-append d.stamp p.written, length-append d.stamp q.written)

submit_length : (s : Submission) (one other : List ℕ) → SpellsSubmit s one → SpellsSubmit s other → length other ≡ length one
submit_length s one other p q =
    omega (arith, ap length p.parts, ap length q.parts, user_length s.user p.written q.written p.user q.user, length-append (address_octets s.target) (s.pid ∷ s.dcs ∷ (validity_octets s.validity ++ p.written)), length-append (address_octets s.target) (s.pid ∷ s.dcs ∷ (validity_octets s.validity ++ q.written)), length-append (validity_octets s.validity) p.written, length-append (validity_octets s.validity) q.written)

received_length : (unit : ReceivedUnit) (one other : List ℕ) → SpellsReceived unit one → SpellsReceived unit other → length other ≡ length one
received_length (received.Deliver d) one other p q = deliver_length d one other p q
received_length (received.StatusReport r) one other p q = ap length (q.1 ∙ sym p.1)

originated_length : (unit : OriginatedUnit) (one other : List ℕ) → SpellsOriginated unit one → SpellsOriginated unit other → length other ≡ length one
originated_length (originated.Submit s) one other p q = submit_length s one other p q
originated_length (originated.Command c) one other p q = ap length (q.1 ∙ sym p.1)

-- ---- records

used_length : (told : Status) (centre : Option RelayAddressValue) (one other x y : List ℕ) → one ≡ status_octet told ∷ (optional_address_octets centre ++ x) → other ≡ status_octet told ∷ (optional_address_octets centre ++ y) → length y ≡ length x → length other ≡ length one
used_length told centre one other x y p q same =
    omega (arith, same, ap length p, ap length q, length-append (optional_address_octets centre) x, length-append (optional_address_octets centre) y)

front_length : (r : Record) (one other : List ℕ) → SpellsFront r one → SpellsFront r other → length other ≡ length one
front_length stored.Free one other p q = ap length (q ∙ sym p)
front_length (stored.Received unread centre unit) one other p q = used_length _ centre one other p.unit q.unit p.parts q.parts (received_length unit p.unit q.unit p.of_unit q.of_unit)
front_length (stored.Originated report centre unit) one other p q = used_length _ centre one other p.unit q.unit p.parts q.parts (originated_length unit p.unit q.unit p.of_unit q.of_unit)

pub too_long_is_unwritten : TooLongIsUnwritten
too_long_is_unwritten r octets long s =
    let same : length s.front ≡ length long.0 = front_length r long.0 s.front long.1 s.spelled in
    absurd (omega (arith, same, long.2, s.size, ap length s.parts, length-append s.front s.filled))
