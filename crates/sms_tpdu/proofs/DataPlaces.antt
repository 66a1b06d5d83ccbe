-- Where the data of reports and of commands lie, and their addresses.
use Rattle.std.proofs.Common.{◌≡◌, ℕ, Bool, true, false, List, [], ◌∷◌, ◌++◌, length, drop, Option, inl, inr, refl, sym, ap, subst, ◌∙◌, append_assoc}
use Rattle.std.proofs.lemmas.List.{append-nil, drop_at}
use Rattle.sms_field.specs.Address.{address}
use Rattle.sms_field.specs.Inside.AddressLaws.{address_self}
use Rattle.sms_field.specs.Address.Value.{AddressValue}
use Rattle.sms_field.specs.Reading.Lies.{LiesAt, TakesOctets}
use Rattle.sms_field.specs.Inside.Lies.{lies_at}
use Rattle.sms_field.specs.Field.Optional.{part_if}
use Rattle.sms_field.specs.Reading.{Reads}
use Rattle.sms_field.specs.declared.coding.Alphabet.{Alphabet}
use Rattle.sms_field.specs.declared.span.Span.{Span}
use Rattle.sms_tpdu.specs.Command.{CommandValue, command}
use Rattle.sms_tpdu.specs.Command.Spans.{CommandLies}
use Rattle.sms_tpdu.specs.DataSpans.{DataLie, DataLieIf, data_before, data_before_if}
use Rattle.sms_tpdu.specs.Inside.DataSpansLaws.{EndsWith, after, data_lie, DataEnd, after_data, data_lie_if}
use Rattle.sms_tpdu.specs.Report.AnnouncedParts.{Parts, parts, report_data}
use Rattle.sms_tpdu.specs.Report.Octet.{FirstOctet}
use Rattle.sms_tpdu.specs.Report.Kind.{KindPart}
use Rattle.sms_tpdu.specs.Report.{ReportValue, report}
use Rattle.sms_tpdu.specs.Report.Indicated.{indicated_parts, optional_parts}
use Rattle.sms_tpdu.specs.StatusReport.{StatusReportValue, status_report}
use Rattle.sms_tpdu.specs.StatusReport.Spans.{StatusReportLies}
use Rattle.sms_tpdu.specs.declared.command.spans.CommandSpans.{CommandSpans}
use Rattle.sms_tpdu.specs.declared.report.parts.ReportData.{ReportData}
use Rattle.sms_tpdu.specs.declared.report.indicator.Indicator.{Indicator}
use Rattle.sms_tpdu.specs.declared.status_report.spans.StatusReportSpans.{StatusReportSpans}

-- ---- addresses

-- an address after a front
address_lies : (a : AddressValue) (front part back input : List ℕ) (span : Span) → input ≡ front ++ (part ++ back) → address.reads a part back → span.offset ≡ length front → TakesOctets address (drop (length front) input) span.length → LiesAt address a input span
address_lies a front part back input span whole read at takes =
    let left : drop (length front) input ≡ part ++ back = ap (drop (length front)) whole ∙ drop_at front (part ++ back) (length front) refl in
    let size : span.length ≡ length part = takes a (length part) (record { octets = part; rest = back; parts = left; used_is = refl; read = read }) in
    subst (λ (l : List ℕ). LiesAt address a l span) (sym whole) (lies_at address a front part back back span address_self read at size)

target_lies : (c : CommandValue) (input : List ℕ) (used : ℕ) (span : Span) → Reads command c input used → span.offset ≡ 5 → TakesOctets address (drop 5 input) span.length → LiesAt address c.target input span
unfolding command
target_lies c input used span r at takes =
    let o = r.read in
    let p = o.of_second in
    let q = p.of_second in
    let s = q.of_second in
    let t = s.of_second in
    let u = t.of_second in
    let v = u.of_second in
    let w = v.of_second in
    let first : List ℕ = o.of_first.0 ∷ p.choice ∷ q.choice ∷ s.choice ∷ t.choice ∷ [] in
    let whole : input ≡ first ++ (u.front ++ (u.back ++ r.rest)) = rw (r.parts, o.parts, o.of_first.1, p.parts, p.of_first, q.parts, q.of_first, s.parts, s.of_first, t.parts, t.of_first, u.parts) (ap (λ (l : List ℕ). first ++ l) (append_assoc u.front u.back r.rest)) in
    let a = address_lies u.choice first u.front (u.back ++ r.rest) input span whole u.of_first at takes in
    subst (λ (x : AddressValue). LiesAt address x input span) (sym (ap (λ (x : CommandValue). x.target) w.of_second.0)) a

recipient_lies : (x : StatusReportValue) (input : List ℕ) (used : ℕ) (span : Span) → Reads status_report x input used → span.offset ≡ 2 → TakesOctets address (drop 2 input) span.length → LiesAt address x.recipient input span
unfolding status_report
recipient_lies x input used span r at takes =
    let o = r.read in
    let p = o.of_second in
    let q = p.of_second in
    let s = q.of_second in
    let t = s.of_second in
    let u = t.of_second in
    let v = u.of_second in
    let first : List ℕ = o.of_first.0 ∷ p.choice ∷ [] in
    let whole : input ≡ first ++ (q.front ++ (q.back ++ r.rest)) = rw (r.parts, o.parts, o.of_first.1, p.parts, p.of_first, q.parts) (ap (λ (l : List ℕ). first ++ l) (append_assoc q.front q.back r.rest)) in
    let a = address_lies q.choice first q.front (q.back ++ r.rest) input span whole q.of_first at takes in
    subst (λ (y : AddressValue). LiesAt address y input span) (sym (ap (λ (y : StatusReportValue). y.recipient) v.2)) a

-- ---- parts of a report

data_end : (there : Bool) (alphabet : Alphabet) (user : Option ReportData) (octets rest : List ℕ) → (part_if there (report_data alphabet)).reads user octets rest → DataEnd user octets
unfolding report_data
data_end false alphabet user octets rest r = subst (λ (u : Option ReportData). DataEnd u octets) (sym r.0) tt
data_end true alphabet user octets rest r =
    let g = r.of_first in
    let h = g.of_second in
    let d : ReportData = r.choice in
    let last : EndsWith g.back d.octets = ([], h.parts ∙ ap (λ (l : List ℕ). h.front ++ l) h.of_second.1 ∙ append-nil h.front ∙ h.of_first.0 ∙ sym (ap (λ (x : ReportData). x.octets) h.of_second.0)) in
    let whole : octets ≡ r.front = r.parts ∙ ap (λ (l : List ℕ). r.front ++ l) r.of_second.1 ∙ append-nil r.front in
    let e : EndsWith octets d.octets = subst (λ (l : List ℕ). EndsWith l d.octets) (sym whole) (after g.front g.back r.front d.octets g.parts last) in
    subst (λ (u : Option ReportData). DataEnd u octets) (sym r.of_second.0) e

parts_end : (there : Indicator) (those : Parts) (octets rest : List ℕ) → (parts there).reads those octets rest → DataEnd those.user octets
unfolding parts
parts_end there those octets rest a =
    let b = a.of_second in
    let d = b.of_second in
    let whole : b.back ≡ d.front = d.parts ∙ ap (λ (l : List ℕ). d.front ++ l) d.of_second.1 ∙ append-nil d.front in
    let mine : DataEnd d.choice b.back = subst (λ (l : List ℕ). DataEnd d.choice l) (sym whole) (data_end there.user _ d.choice d.front (d.back ++ rest) d.of_first) in
    let last : DataEnd those.user b.back = subst (λ (u : Option ReportData). DataEnd u b.back) (sym (ap (λ (p : Parts). p.user) d.of_second.0)) mine in
    after_data those.user a.front a.back octets a.parts (after_data those.user b.front b.back a.back b.parts last)

optional_parts_end : (those : Parts) (octets rest : List ℕ) → optional_parts.reads those octets rest → DataEnd those.user octets
unfolding indicated_parts
optional_parts_end those octets rest (inl e) = subst (λ (p : Parts). DataEnd p.user octets) (sym e.0) tt
optional_parts_end those octets rest (inr r) = after_data those.user r.front r.back octets r.parts (parts_end r.choice those r.back rest r.of_second)

-- the parts are the last of what is read
last_parts : (there : Indicator) (those : Parts) (user : Option ReportData) (front back octets rest : List ℕ) → octets ≡ front ++ back → back ≡ [] → user ≡ those.user → (parts there).reads those front (back ++ rest) → DataEnd user octets
last_parts there those user front back octets rest parts none same r =
    let whole : octets ≡ front = parts ∙ ap (λ (l : List ℕ). front ++ l) none ∙ append-nil front in
    subst (λ (u : Option ReportData). DataEnd u octets) (sym same)
    (subst (λ (l : List ℕ). DataEnd those.user l) (sym whole) (parts_end there those front (back ++ rest) r))

-- ---- reports

pub report_lies : {C S : Type 0} (first : FirstOctet) (cause : KindPart C) (stamp : KindPart S) (x : ReportValue C S) (input : List ℕ) (used : ℕ) → Reads (report first cause stamp) x input used → DataLieIf x.has_header x.user input used (data_before_if used x.has_header x.user)
unfolding report
report_lies {C} {S} first cause stamp x input used r =
    let o = r.read in
    let k = o.of_second in
    let m = k.of_second in
    let p = m.of_second in
    let q = p.of_second in
    let last : DataEnd x.user p.back = last_parts m.choice q.choice x.user q.front q.back p.back r.rest q.parts q.of_second.1 (ap (λ (y : ReportValue C S). y.user) q.of_second.0) q.of_first in
    let e : DataEnd x.user r.octets = after_data x.user o.front o.back r.octets o.parts (after_data x.user k.front k.back o.back k.parts (after_data x.user m.front m.back k.back m.parts (after_data x.user p.front p.back m.back p.parts last))) in
    data_lie_if x.has_header x.user r.octets r.rest input used r.parts r.used_is e

-- ---- status reports

status_report_data_lie : (x : StatusReportValue) (input : List ℕ) (used : ℕ) → Reads status_report x input used → DataLieIf x.has_header x.user input used (data_before_if used x.has_header x.user)
unfolding status_report
status_report_data_lie x input used r =
    let o = r.read in
    let p = o.of_second in
    let q = p.of_second in
    let s = q.of_second in
    let t = s.of_second in
    let u = t.of_second in
    let v = u.of_second in
    let those : Parts = v.0 in
    let last : DataEnd x.user u.back = subst (λ (k : Option ReportData). DataEnd k u.back) (sym (ap (λ (y : StatusReportValue). y.user) v.2)) (optional_parts_end those u.back r.rest v.1) in
    let e : DataEnd x.user r.octets = after_data x.user o.front o.back r.octets o.parts (after_data x.user p.front p.back o.back p.parts (after_data x.user q.front q.back p.back q.parts (after_data x.user s.front s.back q.back s.parts (after_data x.user t.front t.back s.back t.parts (after_data x.user u.front u.back t.back u.parts last))))) in
    data_lie_if x.has_header x.user r.octets r.rest input used r.parts r.used_is e

pub status_report_lies : (x : StatusReportValue) (input : List ℕ) (used : ℕ) (spans : StatusReportSpans) → Reads status_report x input used → spans.recipient.offset ≡ 2 → TakesOctets address (drop 2 input) spans.recipient.length → spans.user ≡ data_before_if used x.has_header x.user → StatusReportLies x input used spans
status_report_lies x input used spans r at takes user =
    record {
      begins = at;
      recipient = recipient_lies x input used spans.recipient r at takes;
      user = subst (DataLieIf x.has_header x.user input used) (sym user) (status_report_data_lie x input used r);
    }

-- ---- commands

command_data_lie : (c : CommandValue) (input : List ℕ) (used : ℕ) → Reads command c input used → DataLie c.has_header c.octets input used (data_before used c.has_header c.octets)
unfolding command
command_data_lie c input used r =
    let o = r.read in
    let p = o.of_second in
    let q = p.of_second in
    let s = q.of_second in
    let t = s.of_second in
    let u = t.of_second in
    let v = u.of_second in
    let w = v.of_second in
    let last : EndsWith v.back c.octets = ([], w.parts ∙ ap (λ (l : List ℕ). w.front ++ l) w.of_second.1 ∙ append-nil w.front ∙ w.of_first.0 ∙ sym (ap (λ (x : CommandValue). x.octets) w.of_second.0)) in
    let e : EndsWith r.octets c.octets = after o.front o.back r.octets c.octets o.parts (after p.front p.back o.back c.octets p.parts (after q.front q.back p.back c.octets q.parts (after s.front s.back q.back c.octets s.parts (after t.front t.back s.back c.octets t.parts (after u.front u.back t.back c.octets u.parts (after v.front v.back u.back c.octets v.parts last)))))) in
    data_lie c.has_header c.octets r.octets r.rest input used r.parts r.used_is e

pub command_lies : (c : CommandValue) (input : List ℕ) (used : ℕ) (spans : CommandSpans) → Reads command c input used → spans.target.offset ≡ 5 → TakesOctets address (drop 5 input) spans.target.length → spans.«data» ≡ data_before used c.has_header c.octets → CommandLies c input used spans
command_lies c input used spans r at takes same =
    record {
      begins = at;
      target = target_lies c input used spans.target r at takes;
      «data» = subst (DataLie c.has_header c.octets input used) (sym same) (command_data_lie c input used r);
    }
