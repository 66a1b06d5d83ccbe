-- A reader may pass this by: lemmas, for the proofs of this crate and of those above it.
--
-- The units of records are lawful fields, and what is written is read back.
use Rattle.std.proofs.Common.{◌≡◌, ℕ, ◌||◌, Bool, true, false, not, cond, List, [], ◌∷◌, ◌++◌, Result, Ok, Err, refl, sym, ap, subst, ◌∙◌, lit<, arith}
use Rattle.sms_text.specs.Octets.{IsOctets}
use Rattle.sms_field.specs.Bit.{bit}
use Rattle.sms_field.specs.Field.{Field, IsLawful, IsSelfContained, HasReading, CanContinue, octet_by, map_reason, ◌>>=◌}
use Rattle.sms_field.specs.Inside.AddressLaws.{address_self}
use Rattle.sms_field.specs.Inside.ChainLaws.{chain_self_contained}
use Rattle.sms_field.specs.Inside.MappedLaws.{mapped_lawful}
use Rattle.sms_field.specs.Inside.SingleLaws.{map_reason_lawful, always_self, octet_self, octet_by_self, octets_of_self}
use Rattle.sms_field.specs.Coding.{alphabet_at}
use Rattle.sms_tpdu.specs.Command.{CommandValue, command, SpellsCommand}
use Rattle.sms_tpdu.specs.Command.Flags.{command_flags}
use Rattle.sms_tpdu.specs.Deliver.{Delivery, deliver, SpellsDeliver}
use Rattle.sms_tpdu.specs.Deliver.Flags.{deliver_flags}
use Rattle.sms_tpdu.specs.Inside.CommandLaws.{command_laws}
use Rattle.sms_tpdu.specs.Inside.DeliverLaws.{deliver_laws}
use Rattle.sms_tpdu.specs.Inside.StatusReportLaws.{status_report_laws}
use Rattle.sms_tpdu.specs.Inside.SubmitLaws.{submit_laws}
use Rattle.sms_tpdu.specs.Inside.UserDataLaws.{user_data_self}
use Rattle.sms_tpdu.specs.Inside.ValidityPeriodLaws.{validity_self}
use Rattle.sms_tpdu.specs.StatusReport.{StatusReportValue}
use Rattle.sms_tpdu.specs.StatusReport.Flags.{status_report_flags}
use Rattle.sms_tpdu.specs.Submit.{Submission, submit, SpellsSubmit}
use Rattle.sms_tpdu.specs.Submit.Flags.{submit_flags}
use Rattle.sms_tpdu.specs.declared.fault.UnitFault.{UnitFault}
use Rattle.sms_tpdu.specs.declared.fault.UnitFault.TheVariants as units
use Rattle.sms_card.specs.ByFirst.{StartsWith, by_first}
use Rattle.sms_card.specs.Fault.{record_fault}
use Rattle.sms_card.specs.Inside.ByFirstLaws.{by_first_lawful, FirstMeans, first_means, first_means_before, starts_as_kind}
use Rattle.sms_card.specs.Inside.FaultLaws.{record_apart}
use Rattle.sms_card.specs.Inside.PaddingLaws.{padded_lawful, padded_ends, padded_again, ends_nowhere}
use Rattle.sms_card.specs.Inside.ReportLaws.{stored_report_lawful, stored_report_ends, stored_report_means, stored_report_again}
use Rattle.sms_card.specs.Originated.{originated_by, originated_kind, originated_as, originated_unit, SpellsOriginated}
use Rattle.sms_card.specs.Padding.{IsPadding}
use Rattle.sms_card.specs.Received.{received_by, received_kind, received_as, received_unit, SpellsReceived}
use Rattle.sms_card.specs.Report.{stored_report}
use Rattle.sms_card.specs.declared.originated.OriginatedKind.{OriginatedKind}
use Rattle.sms_card.specs.declared.originated.OriginatedKind.TheVariants as sent_kind
use Rattle.sms_card.specs.declared.originated.OriginatedUnit.{OriginatedUnit}
use Rattle.sms_card.specs.declared.originated.OriginatedUnit.TheVariants as originated
use Rattle.sms_card.specs.declared.received.ReceivedKind.{ReceivedKind}
use Rattle.sms_card.specs.declared.received.ReceivedKind.TheVariants as kind
use Rattle.sms_card.specs.declared.received.ReceivedUnit.{ReceivedUnit}
use Rattle.sms_card.specs.declared.received.ReceivedUnit.TheVariants as received
use Rattle.sms_card.specs.declared.fault.RecordFault.{RecordFault}
use Rattle.sms_card.specs.declared.fault.RecordFault.TheVariants.{Short, Unit as OfUnit}

-- ---- the units do not look at what follows them

pub deliver_self : IsSelfContained deliver
unfolding deliver
deliver_self =
    chain_self_contained _ _ (octet_by_self units.Short deliver_flags) (λ flags.
    chain_self_contained _ _ address_self (λ origin.
    chain_self_contained _ _ (octet_self units.Short) (λ pid.
    chain_self_contained _ _ (octet_self units.Short) (λ dcs.
    chain_self_contained _ _ (octets_of_self units.Short 7) (λ stamp.
    chain_self_contained _ _ (user_data_self flags.header (alphabet_at dcs)) (λ user.
    λ v octets rest other r. r))))))

pub submit_self : IsSelfContained submit
unfolding submit
submit_self =
    chain_self_contained _ _ (octet_by_self units.Short submit_flags) (λ flags.
    chain_self_contained _ _ (octet_self units.Short) (λ reference.
    chain_self_contained _ _ address_self (λ target.
    chain_self_contained _ _ (octet_self units.Short) (λ pid.
    chain_self_contained _ _ (octet_self units.Short) (λ dcs.
    chain_self_contained _ _ (validity_self flags.format) (λ period.
    chain_self_contained _ _ (user_data_self flags.header (alphabet_at dcs)) (λ user.
    λ v octets rest other r. r)))))))

pub command_self : IsSelfContained command
unfolding command
command_self =
    chain_self_contained _ _ (octet_by_self units.Short command_flags) (λ flags.
    chain_self_contained _ _ (octet_self units.Short) (λ reference.
    chain_self_contained _ _ (octet_self units.Short) (λ pid.
    chain_self_contained _ _ (octet_self units.Short) (λ kind.
    chain_self_contained _ _ (octet_self units.Short) (λ message.
    chain_self_contained _ _ address_self (λ target.
    chain_self_contained _ _ (octet_by_self units.Short _) (λ count.
    chain_self_contained _ _ (octets_of_self units.Short count) (λ octets.
    λ v octets rest other r. r))))))))

-- ---- their first octets

deliver_means : (d : Delivery) (octets rest : List ℕ) → deliver.reads d octets rest → FirstMeans deliver_flags octets
unfolding deliver
deliver_means d octets rest r = first_means units.Short deliver_flags _ d octets rest r

submit_means : (s : Submission) (octets rest : List ℕ) → submit.reads s octets rest → FirstMeans submit_flags octets
unfolding submit
submit_means s octets rest r = first_means units.Short submit_flags _ s octets rest r

command_means : (c : CommandValue) (octets rest : List ℕ) → command.reads c octets rest → FirstMeans command_flags octets
unfolding command
command_means c octets rest r = first_means units.Short command_flags _ c octets rest r

deliver_by : {F : Type 0} (b a : Bool) (f g : F) → cond (a || b) (Err units.WrongType) (Ok f) ≡ Ok g → received_by b a ≡ Ok kind.Deliver
deliver_by false false f g e = refl
deliver_by true false f g e = absurd cc
deliver_by false true f g e = absurd cc
deliver_by true true f g e = absurd cc

report_by : {F : Type 0} (b a : Bool) (f g : F) → cond (a || not b) (Err units.WrongType) (Ok f) ≡ Ok g → received_by b a ≡ Ok kind.StatusReport
report_by false false f g e = absurd cc
report_by true false f g e = refl
report_by false true f g e = absurd cc
report_by true true f g e = absurd cc

submit_by : {F : Type 0} (b a : Bool) (f g : F) → cond (b || not a) (Err units.WrongType) (Ok f) ≡ Ok g → originated_by b a ≡ Ok sent_kind.Submit
submit_by false false f g e = absurd cc
submit_by true false f g e = absurd cc
submit_by false true f g e = refl
submit_by true true f g e = absurd cc

command_by : {F : Type 0} (b a : Bool) (f g : F) → cond (a || not b) (Err units.WrongType) (Ok f) ≡ Ok g → originated_by b a ≡ Ok sent_kind.Command
command_by false false f g e = absurd cc
command_by true false f g e = refl
command_by false true f g e = absurd cc
command_by true true f g e = absurd cc

received_apart_by : (b a : Bool) → received_by b a ≡ Err Short → ⊥
received_apart_by false false e = cc
received_apart_by true false e = cc
received_apart_by false true e = cc
received_apart_by true true e = cc

originated_apart_by : (b a : Bool) → originated_by b a ≡ Err Short → ⊥
originated_apart_by false false e = cc
originated_apart_by true false e = cc
originated_apart_by false true e = cc
originated_apart_by true true e = cc

-- ---- what came from the network

in_record : {V : Type 0} (unit : Field V UnitFault) → IsLawful units.Short unit → IsLawful Short (map_reason record_fault unit)
in_record unit law = map_reason_lawful units.Short record_fault record_apart unit law

received_as_lawful : (k : ReceivedKind) → IsLawful Short (received_as k)
unfolding received_as
received_as_lawful kind.Deliver = padded_lawful received.Deliver (map_reason record_fault deliver) deliver_self (in_record deliver deliver_laws.lawful)
received_as_lawful kind.StatusReport = mapped_lawful Short received.StatusReport stored_report stored_report_lawful

received_as_ends : (k : ReceivedKind) (value : ReceivedUnit) (octets rest : List ℕ) → (received_as k).reads value octets rest → rest ≡ []
unfolding received_as
received_as_ends kind.Deliver value octets rest r = padded_ends received.Deliver (map_reason record_fault deliver) value octets rest r
received_as_ends kind.StatusReport value octets rest r = stored_report_ends r.0 octets rest r.1

-- it begins with the octet of its kind
received_as_starts : (k : ReceivedKind) (value : ReceivedUnit) (octets rest : List ℕ) → (received_as k).reads value octets rest → StartsWith received_kind k octets
unfolding received_as
received_as_starts kind.Deliver value octets rest r =
    starts_as_kind deliver_flags received_kind kind.Deliver octets (λ o f e. deliver_by (bit 1 o) (bit 0 o) _ f e)
    (first_means_before deliver_flags r.front r.back octets r.parts (deliver_means r.choice r.front (r.back ++ rest) r.of_first))
received_as_starts kind.StatusReport value octets rest r =
    starts_as_kind status_report_flags received_kind kind.StatusReport octets (λ o f e. report_by (bit 1 o) (bit 0 o) _ f e) (stored_report_means r.0 octets rest r.1)

received_reading : (k : ReceivedKind) (input : List ℕ) → HasReading (received_as k) input → HasReading received_unit input
received_reading k input r = record {
  value = r.value;
  octets = r.octets;
  rest = r.rest;
  parts = r.parts;
  read = record { chosen = k; starts = received_as_starts k r.value r.octets r.rest r.read; read = r.read };
}

received_starts : CanContinue received_unit []
received_starts =
    let some = (received_as_lawful kind.Deliver).starts in
    record { more = some.more; are_octets = some.are_octets; reading = received_reading kind.Deliver some.more some.reading }

pub received_lawful : IsLawful Short received_unit
received_lawful =
    by_first_lawful Short received_kind received_as received_as_lawful
    (λ k value octet rest r. ends_nowhere octet rest (received_as_ends k value [] (octet ∷ rest) r))
    (λ octet e. received_apart_by (bit 1 octet) (bit 0 octet) e)
    received_starts

pub received_ends : (value : ReceivedUnit) (octets rest : List ℕ) → received_unit.reads value octets rest → rest ≡ []
received_ends value octets rest r = received_as_ends r.chosen value octets rest r.read

received_by_kind : (k : ReceivedKind) (value : ReceivedUnit) (octets : List ℕ) → (received_as k).reads value octets [] → received_unit.reads value octets []
received_by_kind k value octets read = record { chosen = k; starts = received_as_starts k value octets [] read; read = read }

delivered_again : (d : Delivery) (octets filled : List ℕ) → SpellsDeliver d octets → IsPadding filled → (received_as kind.Deliver).reads (received.Deliver d) (octets ++ filled) []
unfolding received_as
delivered_again d octets filled s are = padded_again received.Deliver (map_reason record_fault deliver) d octets filled (deliver_laws.again d octets (filled ++ []) s tt) are

reported_again : (r : StatusReportValue) (octets filled : List ℕ) → stored_report.reads r (octets ++ filled) [] → (received_as kind.StatusReport).reads (received.StatusReport r) (octets ++ filled) []
unfolding received_as
reported_again r octets filled read = (r, read, refl)

pub received_again : (value : ReceivedUnit) (octets filled : List ℕ) → SpellsReceived value octets → IsPadding filled → received_unit.reads value (octets ++ filled) []
received_again (received.Deliver d) octets filled s are = received_by_kind kind.Deliver (received.Deliver d) (octets ++ filled) (delivered_again d octets filled s are)
received_again (received.StatusReport r) octets filled s are = received_by_kind kind.StatusReport (received.StatusReport r) (octets ++ filled) (reported_again r octets filled (stored_report_again r octets filled s are))

pub received_octets : (value : ReceivedUnit) (octets : List ℕ) → SpellsReceived value octets → IsOctets octets
received_octets (received.Deliver d) octets s = deliver_laws.octets d octets s
received_octets (received.StatusReport r) octets s = status_report_laws.octets r octets s

-- ---- what the phone wrote

originated_as_lawful : (k : OriginatedKind) → IsLawful Short (originated_as k)
unfolding originated_as
originated_as_lawful sent_kind.Submit = padded_lawful originated.Submit (map_reason record_fault submit) submit_self (in_record submit submit_laws.lawful)
originated_as_lawful sent_kind.Command = padded_lawful originated.Command (map_reason record_fault command) command_self (in_record command command_laws.lawful)

originated_as_ends : (k : OriginatedKind) (value : OriginatedUnit) (octets rest : List ℕ) → (originated_as k).reads value octets rest → rest ≡ []
unfolding originated_as
originated_as_ends sent_kind.Submit value octets rest r = padded_ends originated.Submit (map_reason record_fault submit) value octets rest r
originated_as_ends sent_kind.Command value octets rest r = padded_ends originated.Command (map_reason record_fault command) value octets rest r

originated_as_starts : (k : OriginatedKind) (value : OriginatedUnit) (octets rest : List ℕ) → (originated_as k).reads value octets rest → StartsWith originated_kind k octets
unfolding originated_as
originated_as_starts sent_kind.Submit value octets rest r =
    starts_as_kind submit_flags originated_kind sent_kind.Submit octets (λ o f e. submit_by (bit 1 o) (bit 0 o) _ f e)
    (first_means_before submit_flags r.front r.back octets r.parts (submit_means r.choice r.front (r.back ++ rest) r.of_first))
originated_as_starts sent_kind.Command value octets rest r =
    starts_as_kind command_flags originated_kind sent_kind.Command octets (λ o f e. command_by (bit 1 o) (bit 0 o) _ f e)
    (first_means_before command_flags r.front r.back octets r.parts (command_means r.choice r.front (r.back ++ rest) r.of_first))

originated_reading : (k : OriginatedKind) (input : List ℕ) → HasReading (originated_as k) input → HasReading originated_unit input
originated_reading k input r = record {
  value = r.value;
  octets = r.octets;
  rest = r.rest;
  parts = r.parts;
  read = record { chosen = k; starts = originated_as_starts k r.value r.octets r.rest r.read; read = r.read };
}

originated_starts : CanContinue originated_unit []
originated_starts =
    let some = (originated_as_lawful sent_kind.Submit).starts in
    record { more = some.more; are_octets = some.are_octets; reading = originated_reading sent_kind.Submit some.more some.reading }

pub originated_lawful : IsLawful Short originated_unit
originated_lawful =
    by_first_lawful Short originated_kind originated_as originated_as_lawful
    (λ k value octet rest r. ends_nowhere octet rest (originated_as_ends k value [] (octet ∷ rest) r))
    (λ octet e. originated_apart_by (bit 1 octet) (bit 0 octet) e)
    originated_starts

pub originated_ends : (value : OriginatedUnit) (octets rest : List ℕ) → originated_unit.reads value octets rest → rest ≡ []
originated_ends value octets rest r = originated_as_ends r.chosen value octets rest r.read

originated_by_kind : (k : OriginatedKind) (value : OriginatedUnit) (octets : List ℕ) → (originated_as k).reads value octets [] → originated_unit.reads value octets []
originated_by_kind k value octets read = record { chosen = k; starts = originated_as_starts k value octets [] read; read = read }

submitted_again : (s : Submission) (octets filled : List ℕ) → SpellsSubmit s octets → IsPadding filled → (originated_as sent_kind.Submit).reads (originated.Submit s) (octets ++ filled) []
unfolding originated_as
submitted_again s octets filled p are = padded_again originated.Submit (map_reason record_fault submit) s octets filled (submit_laws.again s octets (filled ++ []) p tt) are

commanded_again : (c : CommandValue) (octets filled : List ℕ) → SpellsCommand c octets → IsPadding filled → (originated_as sent_kind.Command).reads (originated.Command c) (octets ++ filled) []
unfolding originated_as
commanded_again c octets filled p are = padded_again originated.Command (map_reason record_fault command) c octets filled (command_laws.again c octets (filled ++ []) p tt) are

pub originated_again : (value : OriginatedUnit) (octets filled : List ℕ) → SpellsOriginated value octets → IsPadding filled → originated_unit.reads value (octets ++ filled) []
originated_again (originated.Submit s) octets filled p are = originated_by_kind sent_kind.Submit (originated.Submit s) (octets ++ filled) (submitted_again s octets filled p are)
originated_again (originated.Command c) octets filled p are = originated_by_kind sent_kind.Command (originated.Command c) (octets ++ filled) (commanded_again c octets filled p are)

pub originated_octets : (value : OriginatedUnit) (octets : List ℕ) → SpellsOriginated value octets → IsOctets octets
originated_octets (originated.Submit s) octets p = submit_laws.octets s octets p
originated_octets (originated.Command c) octets p = command_laws.octets c octets p
