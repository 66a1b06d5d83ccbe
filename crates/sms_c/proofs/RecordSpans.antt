-- Where the centre's address and the unit of a record lie.
use Rattle.std.proofs.Common.{◌≡◌, ℕ, suc, ◌+◌, ◌<◌, ◌⊎◌, inl, inr, Bool, true, false, List, [], ◌∷◌, ◌++◌, length, take, drop, Option, Some, None, is_some, Ok, refl, sym, ap, subst, ◌∙◌, append_assoc, arith, length-append}
use Rattle.std.proofs.lemmas.List.{append-nil, take_at, drop_at, drop-drop}
use Rattle.std.specs.Prelude.{◌==◌, ◌^◌, ◌-◌, min, slice_get}
use Rattle.sms_field.specs.Field.{Field, ◌>>=◌, IsSelfContained}
use Rattle.sms_field.specs.Address.{address}
use Rattle.sms_field.specs.Inside.AddressLaws.{address_self}
use Rattle.sms_field.specs.Inside.ChainLaws.{chain_self_contained}
use Rattle.sms_field.specs.Inside.ChainReading.{chained}
use Rattle.sms_field.specs.Inside.Lies.{lies_at}
use Rattle.sms_field.specs.Inside.RelayAddressLaws.{relay_address_self}
use Rattle.sms_field.specs.Inside.SingleLaws.{octet_by_self, octet_self, octets_of_self}
use Rattle.sms_field.specs.Reading.{Reads}
use Rattle.sms_field.specs.Reading.Lies.{TakesOctets}
use Rattle.sms_field.specs.RelayAddress.{relay_address}
use Rattle.sms_field.specs.RelayAddress.Value.{RelayAddressValue}
use Rattle.sms_tpdu.specs.Command.{command}
use Rattle.sms_tpdu.specs.Deliver.{deliver}
use Rattle.sms_tpdu.specs.Inside.AnnouncedPartsLaws.{parts_self}
use Rattle.sms_tpdu.specs.Inside.ParameterIndicatorLaws.{indicator_self}
use Rattle.sms_tpdu.specs.Report.AnnouncedParts.{Parts}
use Rattle.sms_tpdu.specs.Report.Indicated.{indicated_parts, no_parts, optional_parts}
use Rattle.sms_tpdu.specs.StatusReport.Flags.{status_report_flags}
use Rattle.sms_tpdu.specs.StatusReport.{StatusReportValue, status_report}
use Rattle.sms_tpdu.specs.Submit.{submit}
use Rattle.sms_tpdu.specs.declared.fault.UnitFault.TheVariants as units
use Rattle.sms_card.specs.ByFirst.{StartsWith}
use Rattle.sms_card.specs.Inside.RecordLaws.{card_record_ends}
use Rattle.sms_card.specs.Inside.UnitLaws.{deliver_self, submit_self, command_self}
use Rattle.sms_card.specs.Originated.{originated_as}
use Rattle.sms_card.specs.Padding.{IsPadding}
use Rattle.sms_card.specs.Received.{received_as}
use Rattle.sms_card.specs.Report.{end_of, is_pad, report_end, report_front, report_with, stored_report}
use Rattle.sms_card.specs.Stored.Reading.{IsRecordIn}
use Rattle.sms_card.specs.Stored.Seen.{seen_record}
use Rattle.sms_card.specs.Stored.{after_status, card_record, originated_after, received_after}
use Rattle.sms_card.specs.declared.originated.OriginatedKind.{OriginatedKind}
use Rattle.sms_card.specs.declared.originated.OriginatedKind.TheVariants as sent_kind
use Rattle.sms_card.specs.declared.originated.OriginatedUnit.{OriginatedUnit}
use Rattle.sms_card.specs.declared.originated.OriginatedUnit.TheVariants as originated
use Rattle.sms_card.specs.declared.received.ReceivedKind.{ReceivedKind}
use Rattle.sms_card.specs.declared.received.ReceivedKind.TheVariants as kind
use Rattle.sms_card.specs.declared.received.ReceivedUnit.{ReceivedUnit}
use Rattle.sms_card.specs.declared.received.ReceivedUnit.TheVariants as received
use Rattle.sms_card.specs.declared.report.ReportFront.{ReportFront}
use Rattle.sms_card.specs.declared.status.ReportState.{ReportState}
use Rattle.sms_card.specs.declared.status.Status.{Status}
use Rattle.sms_card.specs.declared.status.Status.TheVariants as status
use Rattle.sms_card.specs.declared.stored.Record.{Record}
use Rattle.sms_card.specs.declared.stored.Record.TheVariants as stored
use Rattle.sms_card.specs.declared.stored.view.RecordView.{RecordView}
use Rattle.sms_card.specs.declared.stored.view.RecordView.TheVariants as seen
use Rattle.sms_c.specs.Inside.UnitLengths.{ReportTakes, UnitTakes}
use Rattle.sms_c.specs.Parts.{no_span, octets_at}
use Rattle.sms_c.specs.Records.{CentreLies, LiesPadded, UnitLies, centre_of}
use Rattle.sms_c.specs.declared.parts.Span.{Span}

-- ---- a unit, and FF after it

record PaddedBy {V W : Type 0} (field : Field V W) (value : V) (octets : List ℕ) : Type 0 where
  unit : List ℕ
  filled : List ℕ
  parts : octets ≡ unit ++ filled
  read : field.reads value unit filled
  padding : IsPadding filled

-- what follows the status and the address
abbrev UnitStands : Record → List ℕ → Type 0
UnitStands stored.Free octets = Unit {0}
UnitStands (stored.Received unread centre (received.Deliver d)) octets = PaddedBy deliver d octets
UnitStands (stored.Received unread centre (received.StatusReport r)) octets = stored_report.reads r octets []
UnitStands (stored.Originated report centre (originated.Submit s)) octets = PaddedBy submit s octets
UnitStands (stored.Originated report centre (originated.Command c)) octets = PaddedBy command c octets

-- a used record: its status, the address of the centre, and the unit
record IsUsed (r : Record) (octets : List ℕ) : Type 0 where
  status : ℕ
  centre : List ℕ
  back : List ℕ
  parts : octets ≡ status ∷ (centre ++ back)
  address : relay_address.reads (centre_of r) centre back
  unit : UnitStands r back

received_stands : (unread : Bool) (centre : Option RelayAddressValue) (k : ReceivedKind) (unit : ReceivedUnit) (octets rest : List ℕ) → rest ≡ [] → (received_as k).reads unit octets rest → UnitStands (stored.Received unread centre unit) octets
unfolding received_as
received_stands unread centre kind.Deliver unit octets rest end r =
    subst (λ (u : ReceivedUnit). UnitStands (stored.Received unread centre u) octets) (sym r.of_second.2)
    (record { unit = r.front; filled = r.back; parts = r.parts; read = deliver_self r.choice r.front (r.back ++ rest) r.back r.of_first; padding = r.of_second.1.0 })
received_stands unread centre kind.StatusReport unit octets rest end r =
    subst (λ (u : ReceivedUnit). UnitStands (stored.Received unread centre u) octets) (sym r.2)
    (subst (λ (l : List ℕ). stored_report.reads r.0 octets l) end r.1)

originated_stands : (report : Option ReportState) (centre : Option RelayAddressValue) (k : OriginatedKind) (unit : OriginatedUnit) (octets rest : List ℕ) → (originated_as k).reads unit octets rest → UnitStands (stored.Originated report centre unit) octets
unfolding originated_as
originated_stands report centre sent_kind.Submit unit octets rest r =
    subst (λ (u : OriginatedUnit). UnitStands (stored.Originated report centre u) octets) (sym r.of_second.2)
    (record { unit = r.front; filled = r.back; parts = r.parts; read = submit_self r.choice r.front (r.back ++ rest) r.back r.of_first; padding = r.of_second.1.0 })
originated_stands report centre sent_kind.Command unit octets rest r =
    subst (λ (u : OriginatedUnit). UnitStands (stored.Originated report centre u) octets) (sym r.of_second.2)
    (record { unit = r.front; filled = r.back; parts = r.parts; read = command_self r.choice r.front (r.back ++ rest) r.back r.of_first; padding = r.of_second.1.0 })

received_used : (unread : Bool) (s : ℕ) (r : Record) (octets rest : List ℕ) → rest ≡ [] → (received_after unread).reads r octets rest → IsUsed r (s ∷ octets)
unfolding received_after
received_used unread s r octets rest end h =
    let w = h.of_second in
    subst (λ (x : Record). IsUsed x (s ∷ octets)) (sym w.2)
    (record {
      status = s;
      centre = h.front;
      back = h.back;
      parts = ap (λ (l : List ℕ). s ∷ l) h.parts;
      address = relay_address_self h.choice h.front (h.back ++ rest) h.back h.of_first;
      unit = received_stands unread h.choice w.1.chosen w.0 h.back rest end w.1.read;
    })

originated_used : (report : Option ReportState) (s : ℕ) (r : Record) (octets rest : List ℕ) → (originated_after report).reads r octets rest → IsUsed r (s ∷ octets)
unfolding originated_after
originated_used report s r octets rest h =
    let w = h.of_second in
    subst (λ (x : Record). IsUsed x (s ∷ octets)) (sym w.2)
    (record {
      status = s;
      centre = h.front;
      back = h.back;
      parts = ap (λ (l : List ℕ). s ∷ l) h.parts;
      address = relay_address_self h.choice h.front (h.back ++ rest) h.back h.of_first;
      unit = originated_stands report h.choice w.1.chosen w.0 h.back rest w.1.read;
    })

by_status : (told : Status) (s : ℕ) (r : Record) (octets rest : List ℕ) → rest ≡ [] → (after_status told).reads r octets rest → (r ≡ stored.Free) ⊎ IsUsed r (s ∷ octets)
unfolding after_status
by_status status.Free s r octets rest end h = inl h.2
by_status status.Read s r octets rest end h = inr (received_used false s r octets rest end h)
by_status status.Unread s r octets rest end h = inr (received_used true s r octets rest end h)
by_status status.ToBeSent s r octets rest end h = inr (originated_used None s r octets rest h)
by_status (status.Sent report) s r octets rest end h = inr (originated_used (Some report) s r octets rest h)

free_or_used : (r : Record) (octets : List ℕ) → IsRecordIn octets r → (r ≡ stored.Free) ⊎ IsUsed r octets
unfolding card_record
free_or_used r octets is =
    let whole = is.read in
    let end : whole.rest ≡ [] = card_record_ends r whole.octets whole.rest whole.read in
    let h = whole.read in
    let parts : octets ≡ h.of_first.0 ∷ h.back = rw (whole.parts, end, append-nil whole.octets, h.parts, h.of_first.1) refl in
    go (h.of_first.0 ∷ h.back) parts (by_status h.choice h.of_first.0 r h.back whole.rest end h.of_second)
  where
    go : (input : List ℕ) → octets ≡ input → (r ≡ stored.Free) ⊎ IsUsed r input → (r ≡ stored.Free) ⊎ IsUsed r octets
    go input same both = subst (λ (l : List ℕ). (r ≡ stored.Free) ⊎ IsUsed r l) (sym same) both

-- ---- a status report: up to TP-ST, and what follows it

-- a chain whose last field is another one, which reads more
extended : {A B C W : Type 0} (first : Field A W) (second : A → Field B W) (third : A → Field C W) (v : B) (w : C) (octets left back rest : List ℕ) → IsSelfContained first → (first >>= second).reads v octets left → ((c : A) (o : List ℕ) → (second c).reads v o left → (third c).reads w (o ++ back) rest) → (first >>= third).reads w (octets ++ back) rest
extended first second third v w octets left back rest self h next =
    let whole : octets ++ back ≡ h.front ++ (h.back ++ back) = ap (λ (l : List ℕ). l ++ back) h.parts ∙ append_assoc h.front h.back back in
    subst (λ (l : List ℕ). (first >>= third).reads w l rest) (sym whole)
    (chained first third h.choice w h.front (h.back ++ back) rest (self h.choice h.front (h.back ++ left) ((h.back ++ back) ++ rest) h.of_first) (next h.choice h.back h.of_second))

whole_report : (f : ReportFront) (those : Parts) (octets left back rest : List ℕ) → report_front.reads f octets left → optional_parts.reads those back rest → status_report.reads (report_with f those) (octets ++ back) rest
unfolding report_front status_report
whole_report f those octets left back rest h last =
    extended _ _ _ f (report_with f those) octets left back rest (octet_by_self units.Short status_report_flags) h (λ flags o1 h1.
    extended _ _ _ f (report_with f those) o1 left back rest (octet_self units.Short) h1 (λ reference o2 h2.
    extended _ _ _ f (report_with f those) o2 left back rest address_self h2 (λ recipient o3 h3.
    extended _ _ _ f (report_with f those) o3 left back rest (octets_of_self units.Short 7) h3 (λ stamp o4 h4.
    extended _ _ _ f (report_with f those) o4 left back rest (octets_of_self units.Short 7) h4 (λ discharged o5 h5.
    extended _ _ _ f (report_with f those) o5 left back rest (octet_self units.Short) h5 (λ status o6 h6.
    (those, subst (λ (l : List ℕ). optional_parts.reads those (l ++ back) rest) (sym h6.1) last, ap (λ (g : ReportFront). report_with g those) h6.0)))))))

-- after TP-ST nothing follows, or FF to the end
record IsPlain (those : Parts) (octets : List ℕ) : Type 0 where
  none : those ≡ no_parts
  padding : IsPadding octets
  first : (slice_get octets 0 ≡ None) ⊎ (slice_get octets 0 ≡ Some 255)

-- or parts, and FF to the end
record HasParts (those : Parts) (octets : List ℕ) : Type 0 where
  part : List ℕ
  filled : List ℕ
  parts : octets ≡ part ++ filled
  read : indicated_parts.reads those part (filled ++ [])
  padding : IsPadding filled
  first : (slice_get octets 0 ≡ None → ⊥) × (slice_get octets 0 ≡ Some 255 → ⊥)

padded_first : (octets : List ℕ) → IsPadding octets → (slice_get octets 0 ≡ None) ⊎ (slice_get octets 0 ≡ Some 255)
padded_first [] is = inl refl
padded_first (o ∷ octets) is = inr (ap Some is.0)

no_pad : (octets : List ℕ) → StartsWith is_pad false octets → (slice_get octets 0 ≡ None → ⊥) × (slice_get octets 0 ≡ Some 255 → ⊥)
no_pad [] is = absurd is
no_pad (o ∷ octets) is = (λ none. cc, λ pad. let same : o ≡ 255 = cc in let no : Ok (o == 255) ≡ Ok false = is in let yes : (255 == 255) ≡ false = subst (λ (n : ℕ). (n == 255) ≡ false) same (cc) in cc)

by_end : (is : Bool) (those : Parts) (octets : List ℕ) → StartsWith is_pad is octets → (end_of is).reads those octets [] → IsPlain those octets ⊎ HasParts those octets
unfolding end_of
by_end true those octets starts r = inl (record { none = r.2; padding = r.1.0; first = padded_first octets r.1.0 })
by_end false those octets starts r =
    inr (record { part = r.front; filled = r.back; parts = r.parts; read = subst (λ (p : Parts). indicated_parts.reads p r.front (r.back ++ [])) (sym r.of_second.2) r.of_first; padding = r.of_second.1.0; first = no_pad octets starts })

end_told : (those : Parts) (octets : List ℕ) → report_end.reads those octets [] → IsPlain those octets ⊎ HasParts those octets
end_told those octets (inl e) = inl (record { none = e.0; padding = subst IsPadding (sym e.1) tt; first = inl (subst (λ (l : List ℕ). slice_get l 0 ≡ None) (sym e.1) refl) })
end_told those octets (inr k) = by_end k.chosen those octets k.starts k.read

-- so many octets are the report, and FF stands after them
abbrev IsReportAt : StatusReportValue → List ℕ → ℕ → Type 0
IsReportAt r octets n = Reads status_report r (take n octets) n × IsPadding (drop n octets)

report_at : (r : StatusReportValue) (unit filled octets : List ℕ) (n : ℕ) → octets ≡ unit ++ filled → n ≡ length unit → status_report.reads r unit [] → IsPadding filled → IsReportAt r octets n
report_at r unit filled octets n parts size read padding =
    let front : take n octets ≡ unit = ap (take n) parts ∙ take_at unit filled n (sym size) in
    let back : drop n octets ≡ filled = ap (drop n) parts ∙ drop_at unit filled n (sym size) in
    (record { octets = unit; rest = []; parts = front ∙ sym (append-nil unit); used_is = size; read = read }, subst IsPadding (sym back) padding)

plain_report : (f : ReportFront) (those : Parts) (u left b octets : List ℕ) (n : ℕ) → octets ≡ u ++ b → n ≡ length u → report_front.reads f u left → IsPlain those b → IsReportAt (report_with f those) octets n
plain_report f those u left b octets n parts size read plain =
    report_at (report_with f those) u b octets n parts size
    (subst (λ (l : List ℕ). status_report.reads (report_with f those) l []) (append-nil u) (whole_report f those u left [] [] read (inl (plain.none, refl, refl)))) plain.padding

indicated_self : IsSelfContained indicated_parts
unfolding indicated_parts
indicated_self = chain_self_contained _ _ indicator_self (λ there. parts_self there)

report_with_parts : (f : ReportFront) (those : Parts) (u left b octets : List ℕ) (n : ℕ) → octets ≡ u ++ b → report_front.reads f u left → (h : HasParts those b) → n ≡ length (u ++ h.part) → IsReportAt (report_with f those) octets n
report_with_parts f those u left b octets n parts read h size =
    let whole : octets ≡ (u ++ h.part) ++ h.filled = parts ∙ ap (λ (l : List ℕ). u ++ l) h.parts ∙ sym (append_assoc u h.part h.filled) in
    report_at (report_with f those) (u ++ h.part) h.filled octets n whole size
    (whole_report f those u left h.part [] read (inr (indicated_self those h.part (h.filled ++ []) [] h.read))) h.padding

-- what a report in a record is made of
record IsStored (r : StatusReportValue) (octets : List ℕ) : Type 0 where
  front : ReportFront
  those : Parts
  unit : List ℕ
  left : List ℕ
  back : List ℕ
  parts : octets ≡ unit ++ back
  of_front : report_front.reads front unit left
  ends : IsPlain those back ⊎ HasParts those back
  is : r ≡ report_with front those
  size : (n : ℕ) → TakesOctets report_front octets n → n ≡ length unit

stored_told : (r : StatusReportValue) (octets : List ℕ) → stored_report.reads r octets [] → IsStored r octets
unfolding stored_report
stored_told r octets h =
    record {
      front = h.choice;
      those = h.of_second.0;
      unit = h.front;
      left = h.back ++ [];
      back = h.back;
      parts = h.parts;
      of_front = h.of_first;
      ends = end_told h.of_second.0 h.back h.of_second.1;
      is = h.of_second.2;
      size = λ n takes. takes h.choice (length h.front) (record { octets = h.front; rest = h.back ++ []; parts = h.parts ∙ ap (λ (l : List ℕ). h.front ++ l) (sym (append-nil h.back)); used_is = refl; read = h.of_first });
    }

first_at : (octets unit back : List ℕ) (n : ℕ) → octets ≡ unit ++ back → n ≡ length unit → slice_get (drop n octets) 0 ≡ slice_get back 0
first_at octets unit back n parts size = ap (λ (l : List ℕ). slice_get l 0) (ap (λ (k : ℕ). drop k octets) size ∙ ap (drop (length unit)) parts ∙ drop_at unit back (length unit) refl)

pub front_is_all : (octets : List ℕ) (n : ℕ) → TakesOctets report_front octets n → (slice_get (drop n octets) 0 ≡ None) ⊎ (slice_get (drop n octets) 0 ≡ Some 255) → ReportTakes octets n
front_is_all octets n takes next = λ r h. go r (stored_told r octets h)
  where
    none : (s : Option ℕ) → (slice_get (drop n octets) 0 ≡ None) ⊎ (slice_get (drop n octets) 0 ≡ Some 255) → slice_get (drop n octets) 0 ≡ s → (s ≡ None → ⊥) × (s ≡ Some 255 → ⊥) → ⊥
    none s (inl e) same never = never.0 (sym same ∙ e)
    none s (inr e) same never = never.1 (sym same ∙ e)

    by : (r : StatusReportValue) (s : IsStored r octets) → IsPlain s.those s.back ⊎ HasParts s.those s.back → IsReportAt (report_with s.front s.those) octets n
    by r s (inl plain) = plain_report s.front s.those s.unit s.left s.back octets n s.parts (s.size n takes) s.of_front plain
    by r s (inr h) = absurd (none (slice_get s.back 0) next (first_at octets s.unit s.back n s.parts (s.size n takes)) h.first)

    go : (r : StatusReportValue) → IsStored r octets → IsReportAt r octets n
    go r s = subst (λ (x : StatusReportValue). IsReportAt x octets n) (sym s.is) (by r s s.ends)

pub report_is_all : (octets : List ℕ) (n m o : ℕ) → TakesOctets report_front octets n → TakesOctets status_report octets m → slice_get (drop n octets) 0 ≡ Some o → (o ≡ 255 → ⊥) → ReportTakes octets m
report_is_all octets n m o takes whole next other = λ r h. go r (stored_told r octets h)
  where
    never : (s : Option ℕ) → slice_get (drop n octets) 0 ≡ s → (s ≡ None) ⊎ (s ≡ Some 255) → ⊥
    never s same (inl e) = let both : Some o ≡ None = sym next ∙ same ∙ e in cc
    never s same (inr e) = let both : Some o ≡ Some 255 = sym next ∙ same ∙ e in other (cc)

    by : (r : StatusReportValue) (s : IsStored r octets) → IsPlain s.those s.back ⊎ HasParts s.those s.back → IsReportAt (report_with s.front s.those) octets m
    by r s (inl plain) = absurd (never (slice_get s.back 0) (first_at octets s.unit s.back n s.parts (s.size n takes)) plain.first)
    by r s (inr h) =
        let together : octets ≡ (s.unit ++ h.part) ++ h.filled = s.parts ∙ ap (λ (l : List ℕ). s.unit ++ l) h.parts ∙ sym (append_assoc s.unit h.part h.filled) in
        let read : status_report.reads (report_with s.front s.those) (s.unit ++ h.part) h.filled = whole_report s.front s.those s.unit s.left h.part h.filled s.of_front (inr (indicated_self s.those h.part (h.filled ++ []) h.filled h.read)) in
        report_with_parts s.front s.those s.unit s.left s.back octets m s.parts s.of_front h (whole (report_with s.front s.those) (length (s.unit ++ h.part)) (record { octets = s.unit ++ h.part; rest = h.filled; parts = together; used_is = refl; read = read }))

    go : (r : StatusReportValue) → IsStored r octets → IsReportAt r octets m
    go r s = subst (λ (x : StatusReportValue). IsReportAt x octets m) (sym s.is) (by r s s.ends)

-- how many octets it takes up to TP-ST: its address stands after two of them, and before fifteen
pub front_takes : (octets : List ℕ) (n m : ℕ) → length octets < 2 ^ 64 → TakesOctets address (drop 2 octets) n → m ≡ min (n + 17) (2 ^ 64 - 1) → TakesOctets report_front octets m
unfolding report_front
front_takes octets n m short takes is = λ f used r.
    let h = r.read in
    let h1 = h.of_second in
    let h2 = h1.of_second in
    let h3 = h2.of_second in
    let h4 = h3.of_second in
    let h5 = h4.of_second in
    let whole : octets ≡ h.of_first.0 ∷ h1.choice ∷ ((h2.front ++ h2.back) ++ r.rest) = rw (r.parts, h.parts, h.of_first.1, h1.parts, h1.of_first, h2.parts) refl in
    let left : drop 2 octets ≡ h2.front ++ (h2.back ++ r.rest) = ap (drop 2) whole ∙ append_assoc h2.front h2.back r.rest in
    let here : n ≡ length h2.front = takes h2.choice (length h2.front) (record { octets = h2.front; rest = h2.back ++ r.rest; parts = left; used_is = refl; read = address_self h2.choice h2.front (h2.back ++ r.rest) (h2.back ++ r.rest) h2.of_first }) in
    let stamp : length h3.front ≡ 7 = ap length h3.of_first.0 ∙ h3.of_first.1 in
    let discharged : length h4.front ≡ 7 = ap length h4.of_first.0 ∙ h4.of_first.1 in
    let status : length h5.front ≡ 1 = ap length h5.of_first in
    let last : length h5.back ≡ 0 = ap length h5.of_second.1 in
    let size : length octets ≡ used + length r.rest = omega (arith, ap length r.parts, length-append r.octets r.rest, r.used_is) in
    omega (arith, is, short, size, here, r.used_is, ap length h.parts, length-append h.front h.back, ap length h.of_first.1, ap length h1.parts, length-append h1.front h1.back, ap length h1.of_first, ap length h2.parts, length-append h2.front h2.back, ap length h3.parts, length-append h3.front h3.back, stamp, ap length h4.parts, length-append h4.front h4.back, discharged, ap length h5.parts, length-append h5.front h5.back, status, last)

-- ---- the parts of a record

padded_at : {V W : Type 0} (field : Field V W) (value : V) (octets rest : List ℕ) (start count : ℕ) → rest ≡ drop start octets → Reads field value (take count rest) count → IsPadding (drop count rest) → LiesPadded field value octets (record { offset = start; length = count })
padded_at field value octets rest start count same read padding =
    let from_start : drop count rest ≡ drop (start + count) octets = ap (drop count) same ∙ drop-drop count start octets in
    record {
      read = subst (λ (l : List ℕ). Reads field value (take count l) count) same read;
      padding = subst IsPadding from_start padding;
    }

taken_at : {V W : Type 0} (field : Field V W) (value : V) (octets rest : List ℕ) (start count : ℕ) → IsSelfContained field → rest ≡ drop start octets → PaddedBy field value rest → TakesOctets field rest count → LiesPadded field value octets (record { offset = start; length = count })
taken_at field value octets rest start count self same p takes =
    let size : count ≡ length p.unit = takes value (length p.unit) (record { octets = p.unit; rest = p.filled; parts = p.parts; used_is = refl; read = p.read }) in
    let front : take count rest ≡ p.unit = ap (take count) p.parts ∙ take_at p.unit p.filled count (sym size) in
    let back : drop count rest ≡ p.filled = ap (drop count) p.parts ∙ drop_at p.unit p.filled count (sym size) in
    padded_at field value octets rest start count same
    (record { octets = p.unit; rest = []; parts = front ∙ sym (append-nil p.unit); used_is = size; read = self value p.unit p.filled [] p.read })
    (subst IsPadding (sym back) p.padding)

unit_at : (r : Record) (octets rest : List ℕ) (start count : ℕ) → rest ≡ drop start octets → UnitStands r rest → UnitTakes r rest count → (r ≡ stored.Free → ⊥) → UnitLies r octets (record { offset = start; length = count })
unit_at stored.Free octets rest start count same stands takes used = absurd (used refl)
unit_at (stored.Received unread centre (received.Deliver d)) octets rest start count same stands takes used = taken_at deliver d octets rest start count deliver_self same stands takes
unit_at (stored.Received unread centre (received.StatusReport r)) octets rest start count same stands takes used = let t = takes r stands in padded_at status_report r octets rest start count same t.0 t.1
unit_at (stored.Originated report centre (originated.Submit s)) octets rest start count same stands takes used = taken_at submit s octets rest start count submit_self same stands takes
unit_at (stored.Originated report centre (originated.Command c)) octets rest start count same stands takes used = taken_at command c octets rest start count command_self same stands takes

centre_at : (address : Option RelayAddressValue) (octets part back : List ℕ) (s : ℕ) (span : Span) → octets ≡ s ∷ (part ++ back) → relay_address.reads address part back → (is_some address ≡ false → span ≡ no_span) → (is_some address ≡ true → span ≡ record { offset = 1; length = length part }) → CentreLies address octets span
centre_at None octets part back s span parts read none some = none refl
centre_at (Some address) octets part back s span parts read none some =
    let span_is : span ≡ record { offset = 1; length = length part } = some refl in
    let lies : Reads relay_address (Some address) (octets_at octets (record { offset = 1; length = length part })) (length part) =
    subst (λ (l : List ℕ). Reads relay_address (Some address) (octets_at l (record { offset = 1; length = length part })) (length part)) (sym parts)
    (lies_at relay_address (Some address) (s ∷ []) part back back (record { offset = 1; length = length part }) relay_address_self read refl refl) in
    (ap (λ (x : Span). x.offset) span_is, subst (λ (x : Span). Reads relay_address (Some address) (octets_at octets x) x.length) (sym span_is) lies)

record IsSpanned (r : Record) (octets : List ℕ) (n start : ℕ) : Type 0 where
  pub used : IsUsed r octets
  pub size : n ≡ length used.centre
  pub at : drop start octets ≡ used.back

spanned : (r : Record) (octets : List ℕ) (n start : ℕ) → length octets < 2 ^ 64 → IsUsed r octets → TakesOctets relay_address (drop 1 octets) n → start ≡ min (n + 1) (2 ^ 64 - 1) → IsSpanned r octets n start
spanned r octets n start short u takes is =
    let left : drop 1 octets ≡ u.centre ++ u.back = ap (drop 1) u.parts in
    let here : n ≡ length u.centre = takes (centre_of r) (length u.centre) (record { octets = u.centre; rest = u.back; parts = left; used_is = refl; read = u.address }) in
    let size : length octets ≡ suc (length u.centre + length u.back) = ap length u.parts ∙ ap suc (length-append u.centre u.back) in
    let place : start ≡ suc (length u.centre) = omega (arith, is, here, size, short) in
    record { used = u; size = here; at = ap (λ (k : ℕ). drop k octets) place ∙ ap (drop (suc (length u.centre))) u.parts ∙ drop_at u.centre u.back (length u.centre) refl }

pub centre_lies : (r : Record) (octets : List ℕ) (n : ℕ) (span : Span) → length octets < 2 ^ 64 → IsRecordIn octets r → TakesOctets relay_address (drop 1 octets) n → (is_some (centre_of r) ≡ false → span ≡ no_span) → (is_some (centre_of r) ≡ true → span ≡ record { offset = 1; length = n }) → CentreLies (centre_of r) octets span
centre_lies r octets n span short is takes none some = go (free_or_used r octets is)
  where
    go : (r ≡ stored.Free) ⊎ IsUsed r octets → CentreLies (centre_of r) octets span
    go (inl free) = subst (λ (a : Option RelayAddressValue). CentreLies a octets span) (sym (ap centre_of free)) (none (ap (λ (x : Record). is_some (centre_of x)) free))
    go (inr u) =
        let s = spanned r octets n (min (n + 1) (2 ^ 64 - 1)) short u takes refl in
        centre_at (centre_of r) octets s.used.centre s.used.back s.used.status span s.used.parts s.used.address none (λ there. some there ∙ ap (λ (k : ℕ). record { offset = 1; length = k }) s.size)

free_unit : (r : Record) (octets : List ℕ) (span : Span) → r ≡ stored.Free → span ≡ no_span → UnitLies r octets span
free_unit r octets span free none = subst (λ (x : Record). UnitLies x octets span) (sym free) none

pub unit_lies : (r : Record) (octets : List ℕ) (n start count : ℕ) → length octets < 2 ^ 64 → IsRecordIn octets r → (r ≡ stored.Free → ⊥) → TakesOctets relay_address (drop 1 octets) n → start ≡ min (n + 1) (2 ^ 64 - 1) → UnitTakes r (drop start octets) count → UnitLies r octets (record { offset = start; length = count })
unit_lies r octets n start count short is used takes at all = go (free_or_used r octets is)
  where
    go : (r ≡ stored.Free) ⊎ IsUsed r octets → UnitLies r octets (record { offset = start; length = count })
    go (inl free) = absurd (used free)
    go (inr u) =
        let s = spanned r octets n start short u takes at in
        unit_at r octets (drop start octets) start count refl (subst (UnitStands r) (sym s.at) s.used.unit) all used

pub not_free : (view : RecordView) → (view ≡ seen.Free → ⊥) → seen_record view ≡ stored.Free → ⊥
not_free seen.Free other same = other refl
not_free (seen.Received unread centre unit) other same = absurd cc
not_free (seen.Originated report centre unit) other same = absurd cc
