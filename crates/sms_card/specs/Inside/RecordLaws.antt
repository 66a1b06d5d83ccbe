-- A reader may pass this by: lemmas, for the proofs of this crate and of those above it.
--
-- A record is a lawful field, and what is written is read back.
use Rattle.std.proofs.Common.{◌≡◌, ℕ, ◌<◌, ◌==◌, Bool, true, false, cond, List, [], ◌∷◌, ◌++◌, Option, Some, None, Ok, Err, refl, sym, ap, subst, ◌∙◌, lit<, arith, append_assoc}
use Rattle.sms_text.specs.Octets.{IsOctets}
use Rattle.sms_field.specs.Bit.{bit}
use Rattle.sms_field.specs.Field.{Field, IsLawful, octet_by, map_reason}
use Rattle.sms_field.specs.Field.Mapped.{mapped}
use Rattle.sms_field.specs.Inside.ChainLaws.{chain_lawful}
use Rattle.sms_field.specs.Inside.ChainReading.{chained}
use Rattle.sms_field.specs.Inside.MappedLaws.{mapped_lawful}
use Rattle.sms_field.specs.Inside.OctetLists.{octets-append}
use Rattle.sms_field.specs.Inside.RelayAddressLaws.{relay_address_self, relay_address_lawful, relay_address_again, relay_address_are_octets}
use Rattle.sms_field.specs.Inside.SingleLaws.{map_reason_lawful, octet_by_self, octet_by_lawful}
use Rattle.sms_field.specs.RelayAddress.{relay_address, optional_address_octets}
use Rattle.sms_field.specs.RelayAddress.Value.{RelayAddressValue, HasOptionalSpelling}
use Rattle.sms_field.specs.declared.fault.FieldFault.TheVariants as fields
use Rattle.sms_tpdu.specs.UnitLaws.{AreUnitLaws}
use Rattle.sms_card.specs.Fault.{centre_fault}
use Rattle.sms_card.specs.Inside.FaultLaws.{centre_apart}
use Rattle.sms_card.specs.Inside.PaddingLaws.{anything_lawful, padding_octets}
use Rattle.sms_card.specs.Inside.UnitLaws.{received_lawful, received_ends, received_again, received_octets, originated_lawful, originated_ends, originated_again, originated_octets}
use Rattle.sms_card.specs.Originated.{originated_unit, SpellsOriginated}
use Rattle.sms_card.specs.Padding.{IsPadding, anything}
use Rattle.sms_card.specs.Received.{received_unit, SpellsReceived}
use Rattle.sms_card.specs.Status.{status_of, status_octet}
use Rattle.sms_card.specs.Stored.{received_after, originated_after, after_status, card_record, received_status, originated_status, status_in, SpellsUsed, SpellsFront, SpellsRecord, EndsHere}
use Rattle.sms_card.specs.declared.fault.RecordFault.TheVariants.{Short, BadStatus}
use Rattle.sms_card.specs.declared.originated.OriginatedUnit.{OriginatedUnit}
use Rattle.sms_card.specs.declared.received.ReceivedUnit.{ReceivedUnit}
use Rattle.sms_card.specs.declared.status.ReportState.{ReportState}
use Rattle.sms_card.specs.declared.status.ReportState.TheVariants as report
use Rattle.sms_card.specs.declared.status.Status.{Status}
use Rattle.sms_card.specs.declared.status.Status.TheVariants as status
use Rattle.sms_card.specs.declared.stored.Record.{Record}
use Rattle.sms_card.specs.declared.stored.Record.TheVariants as stored

-- ---- the status

status_apart_by : (a b c d e f g h : Bool) → cond a (cond b (Ok status.Read) (cond c (Ok status.Unread) (cond d (Ok status.ToBeSent) (cond e (Ok (status.Sent report.NotAsked)) (cond f (Ok (status.Sent report.Awaited)) (cond g (Ok (status.Sent report.Received)) (cond h (Ok (status.Sent report.Stored)) (Err BadStatus)))))))) (Ok status.Free) ≡ Err Short → ⊥
status_apart_by false b c d e f g h p = cc
status_apart_by true true c d e f g h p = cc
status_apart_by true false true d e f g h p = cc
status_apart_by true false false true e f g h p = cc
status_apart_by true false false false true f g h p = cc
status_apart_by true false false false false true g h p = cc
status_apart_by true false false false false false true h p = cc
status_apart_by true false false false false false false true p = cc
status_apart_by true false false false false false false false p = cc

status_apart : (o : ℕ) → status_of o ≡ Err Short → ⊥
status_apart o e = status_apart_by (bit 0 o) (o == 1) (o == 3) (o == 7) (o == 5) (o == 13) (o == 21) (o == 29) e

record IsStatusOctet (s : Status) (octet : ℕ) : Type 0 where
  again : status_of octet ≡ Ok s
  small : octet < 256

status_is : (s : Status) → IsStatusOctet s (status_octet s)
status_is status.Free = record { again = refl; small = lit< tt }
status_is status.Read = record { again = refl; small = lit< tt }
status_is status.Unread = record { again = refl; small = lit< tt }
status_is status.ToBeSent = record { again = refl; small = lit< tt }
status_is (status.Sent report.NotAsked) = record { again = refl; small = lit< tt }
status_is (status.Sent report.Awaited) = record { again = refl; small = lit< tt }
status_is (status.Sent report.Received) = record { again = refl; small = lit< tt }
status_is (status.Sent report.Stored) = record { again = refl; small = lit< tt }

-- ---- the record

centre_lawful : IsLawful Short (map_reason centre_fault relay_address)
centre_lawful = map_reason_lawful fields.Short centre_fault centre_apart relay_address relay_address_lawful

received_after_lawful : (unread : Bool) → IsLawful Short (received_after unread)
unfolding received_after
received_after_lawful unread =
    chain_lawful _ _ Short relay_address_self centre_lawful (λ centre _ _ _.
    mapped_lawful Short (stored.Received unread centre) received_unit received_lawful)

originated_after_lawful : (sent : Option ReportState) → IsLawful Short (originated_after sent)
unfolding originated_after
originated_after_lawful sent =
    chain_lawful _ _ Short relay_address_self centre_lawful (λ centre _ _ _.
    mapped_lawful Short (stored.Originated sent centre) originated_unit originated_lawful)

after_status_lawful : (s : Status) → IsLawful Short (after_status s)
unfolding after_status
after_status_lawful status.Free = mapped_lawful Short _ anything anything_lawful
after_status_lawful status.Read = received_after_lawful false
after_status_lawful status.Unread = received_after_lawful true
after_status_lawful status.ToBeSent = originated_after_lawful None
after_status_lawful (status.Sent sent) = originated_after_lawful (Some sent)

pub card_record_lawful : IsLawful Short card_record
unfolding card_record
card_record_lawful = chain_lawful _ _ Short (octet_by_self Short status_of) (octet_by_lawful Short status_of (0, lit< tt, _, refl) status_apart) (λ told _ _ _. after_status_lawful told)

-- ---- it ends where the input does

received_after_ends : (unread : Bool) (r : Record) (octets rest : List ℕ) → (received_after unread).reads r octets rest → rest ≡ []
unfolding received_after
received_after_ends unread r octets rest h = received_ends h.of_second.0 h.back rest h.of_second.1

originated_after_ends : (sent : Option ReportState) (r : Record) (octets rest : List ℕ) → (originated_after sent).reads r octets rest → rest ≡ []
unfolding originated_after
originated_after_ends sent r octets rest h = originated_ends h.of_second.0 h.back rest h.of_second.1

after_status_ends : (s : Status) (r : Record) (octets rest : List ℕ) → (after_status s).reads r octets rest → rest ≡ []
unfolding after_status
after_status_ends status.Free r octets rest h = h.1
after_status_ends status.Read r octets rest h = received_after_ends false r octets rest h
after_status_ends status.Unread r octets rest h = received_after_ends true r octets rest h
after_status_ends status.ToBeSent r octets rest h = originated_after_ends None r octets rest h
after_status_ends (status.Sent sent) r octets rest h = originated_after_ends (Some sent) r octets rest h

pub card_record_ends : (r : Record) (octets rest : List ℕ) → card_record.reads r octets rest → rest ≡ []
unfolding card_record
card_record_ends r octets rest h = after_status_ends h.choice r h.back rest h.of_second

-- ---- what is written

received_used : (unread : Bool) (centre : Option RelayAddressValue) (unit : ReceivedUnit) (written filled : List ℕ) → HasOptionalSpelling centre → SpellsReceived unit written → IsPadding filled
    → (received_after unread).reads (stored.Received unread centre unit) (optional_address_octets centre ++ (written ++ filled)) []
unfolding received_after
received_used unread centre unit written filled fits s are =
    chained _ _ centre (stored.Received unread centre unit) (optional_address_octets centre) (written ++ filled) [] (relay_address_again centre _ fits) (unit, received_again unit written filled s are, refl)

originated_used : (sent : Option ReportState) (centre : Option RelayAddressValue) (unit : OriginatedUnit) (written filled : List ℕ) → HasOptionalSpelling centre → SpellsOriginated unit written → IsPadding filled
    → (originated_after sent).reads (stored.Originated sent centre unit) (optional_address_octets centre ++ (written ++ filled)) []
unfolding originated_after
originated_used sent centre unit written filled fits s are =
    chained _ _ centre (stored.Originated sent centre unit) (optional_address_octets centre) (written ++ filled) [] (relay_address_again centre _ fits) (unit, originated_again unit written filled s are, refl)

-- what is read after a status is read after its octet
with_status : (s : Status) (r : Record) (octets : List ℕ) → (after_status s).reads r octets [] → card_record.reads r (status_octet s ∷ octets) []
unfolding card_record
with_status s r octets read = chained _ _ s r (status_octet s ∷ []) octets [] (status_octet s, refl, (status_is s).again) read

after_received : (unread : Bool) (r : Record) (octets : List ℕ) → (received_after unread).reads r octets [] → (after_status (received_status unread)).reads r octets []
unfolding after_status
after_received false r octets read = read
after_received true r octets read = read

after_originated : (sent : Option ReportState) (r : Record) (octets : List ℕ) → (originated_after sent).reads r octets [] → (after_status (originated_status sent)).reads r octets []
unfolding after_status
after_originated None r octets read = read
after_originated (Some state) r octets read = read

free_again : (octets : List ℕ) → (after_status status.Free).reads stored.Free octets []
unfolding after_status
free_again octets = (tt, refl, refl)

regrouped : (s : ℕ) (front octets centre unit filled : List ℕ) → octets ≡ front ++ filled → front ≡ s ∷ (centre ++ unit) → s ∷ (centre ++ (unit ++ filled)) ≡ octets
regrouped s front octets centre unit filled whole parts =
    ap (λ (l : List ℕ). s ∷ l) (sym (append_assoc centre unit filled)) ∙ ap (λ (l : List ℕ). l ++ filled) (sym parts) ∙ sym whole

spelled_again : (r : Record) (front filled octets : List ℕ) → octets ≡ front ++ filled → SpellsFront r front → IsPadding filled → card_record.reads r octets []
spelled_again stored.Free front filled octets whole s are =
    subst (λ (l : List ℕ). card_record.reads stored.Free l []) (ap (λ (l : List ℕ). l ++ filled) (sym s) ∙ sym whole) (with_status status.Free stored.Free filled (free_again filled))
spelled_again (stored.Received unread centre unit) front filled octets whole s are =
    let r : Record = stored.Received unread centre unit in
    subst (λ (l : List ℕ). card_record.reads r l []) (regrouped (status_octet (received_status unread)) front octets (optional_address_octets centre) s.unit filled whole s.parts)
    (with_status (received_status unread) r _ (after_received unread r _ (received_used unread centre unit s.unit filled s.fits s.of_unit are)))
spelled_again (stored.Originated sent centre unit) front filled octets whole s are =
    let r : Record = stored.Originated sent centre unit in
    subst (λ (l : List ℕ). card_record.reads r l []) (regrouped (status_octet (originated_status sent)) front octets (optional_address_octets centre) s.unit filled whole s.parts)
    (with_status (originated_status sent) r _ (after_originated sent r _ (originated_used sent centre unit s.unit filled s.fits s.of_unit are)))

used_octets : (s : Status) (centre : Option RelayAddressValue) (front unit : List ℕ) → HasOptionalSpelling centre → IsOctets unit → front ≡ status_octet s ∷ (optional_address_octets centre ++ unit) → IsOctets front
used_octets s centre front unit fits are parts = subst IsOctets (sym parts) ((status_is s).small, octets-append (optional_address_octets centre) unit (relay_address_are_octets centre fits) are)

front_octets : (r : Record) (front : List ℕ) → SpellsFront r front → IsOctets front
front_octets stored.Free front s = subst IsOctets (sym s) (lit< tt, tt)
front_octets (stored.Received unread centre unit) front s = used_octets (received_status unread) centre front s.unit s.fits (received_octets unit s.unit s.of_unit) s.parts
front_octets (stored.Originated sent centre unit) front s = used_octets (originated_status sent) centre front s.unit s.fits (originated_octets unit s.unit s.of_unit) s.parts

pub record_laws : AreUnitLaws Short card_record SpellsRecord EndsHere
record_laws = record {
  lawful = card_record_lawful;
  octets = λ r octets s. subst IsOctets (sym s.parts) (octets-append s.front s.filled (front_octets r s.front s.spelled) (padding_octets s.filled s.padding));
  again = λ r octets more s ends. subst (λ (l : List ℕ). card_record.reads r octets l) (sym ends) (spelled_again r s.front s.filled octets s.parts s.spelled s.padding);
}
