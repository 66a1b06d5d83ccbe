-- Where the parts of a unit lie in its octets.
use Rattle.std.proofs.Common.{◌≡◌, ℕ, ◌+◌, ◌≤◌, Bool, List, [], ◌∷◌, ◌++◌, length, drop, refl, sym, ap, subst, ◌∙◌, append_assoc, arith, length-append}
use Rattle.std.proofs.lemmas.List.{append-nil, drop_at}
use Rattle.sms_field.specs.Address.{address}
use Rattle.sms_field.specs.Inside.AddressLaws.{address_self}
use Rattle.sms_field.specs.Address.Value.{AddressValue}
use Rattle.sms_field.specs.Reading.Lies.{LiesAt, TakesOctets}
use Rattle.sms_field.specs.Inside.Lies.{lies_at}
use Rattle.sms_field.specs.Reading.{Reads}
use Rattle.sms_field.specs.declared.coding.Alphabet.{Alphabet}
use Rattle.sms_field.specs.declared.span.Span.{Span}
use Rattle.sms_tpdu.specs.Deliver.{Delivery, deliver}
use Rattle.sms_tpdu.specs.Deliver.Spans.{DeliveryLies}
use Rattle.sms_field.specs.Coding.{alphabet_at}
use Rattle.sms_field.specs.declared.validity.Validity.{Validity}
use Rattle.sms_tpdu.specs.Submit.{Submission, submit}
use Rattle.sms_tpdu.specs.Submit.Spans.{SubmissionLies}
use Rattle.sms_tpdu.specs.Submit.ValidityPeriod.{validity, validity_octets}
use Rattle.sms_tpdu.specs.declared.submit.spans.SubmitSpans.{SubmitSpans}
use Rattle.sms_tpdu.specs.declared.submit.validity.ValidityFormat.{ValidityFormat}
use Rattle.sms_tpdu.specs.declared.submit.validity.ValidityFormat.TheVariants.{Absent, Relative, Enhanced, Absolute}
use Rattle.sms_tpdu.specs.UserData.{user_data}
use Rattle.sms_tpdu.specs.Inside.UserDataLaws.{user_data_self}
use Rattle.sms_tpdu.specs.declared.user_data.spans.UserSpans.{UserSpans}
use Rattle.sms_tpdu.specs.UserData.Spans.{UserLies, spans_before}
use Rattle.sms_tpdu.specs.Inside.SpansLaws.{user_data_lie}
use Rattle.sms_tpdu.specs.declared.deliver.spans.DeliverSpans.{DeliverSpans}
use Rattle.sms_tpdu.specs.declared.user_data.UserData.{UserData}

-- an address after a front, and how much it takes
address_lies : (a : AddressValue) (front part back input : List ℕ) (span : Span) → input ≡ front ++ (part ++ back) → address.reads a part back → span.offset ≡ length front → TakesOctets address (drop (length front) input) span.length
    → LiesAt address a input span × (span.length ≡ length part)
address_lies a front part back input span whole read at takes =
    let left : drop (length front) input ≡ part ++ back = ap (drop (length front)) whole ∙ drop_at front (part ++ back) (length front) refl in
    let size : span.length ≡ length part = takes a (length part) (record { octets = part; rest = back; parts = left; used_is = refl; read = read }) in
    (subst (λ (l : List ℕ). LiesAt address a l span) (sym whole) (lies_at address a front part back back span address_self read at size), size)

-- user data after a front, at the end
user_lies : (headed : Bool) (alphabet : Alphabet) (user : UserData) (front part rest input : List ℕ) (place used : ℕ) → input ≡ front ++ (part ++ rest) → (user_data headed alphabet).reads user part rest → place ≡ length front → used ≡ place + length part → UserLies user input place used (spans_before used user)
user_lies headed alphabet user front part rest input place used whole read at is =
    let left : drop place input ≡ part ++ rest = ap (drop place) whole ∙ drop_at front (part ++ rest) place (sym at) in
    subst (λ (n : ℕ). UserLies user input place n (spans_before n user)) (sym is)
    (user_data_lie headed alphabet user input place (length part) (record { octets = part; rest = rest; parts = left; used_is = refl; read = read }))

these_spans : (user other : UserData) (input : List ℕ) (place end : ℕ) (spans : UserSpans) → user ≡ other → spans ≡ spans_before end user → UserLies other input place end (spans_before end other) → UserLies user input place end spans
these_spans user other input place end spans same are lies =
    subst (UserLies user input place end) (sym are)
    (subst (λ (u : UserData). UserLies u input place end (spans_before end u)) (sym same) lies)

parts_in_row : (o : ℕ) (a b c rest : List ℕ) → (o ∷ []) ++ (a ++ ((b ++ c) ++ rest)) ≡ (((o ∷ []) ++ a) ++ b) ++ (c ++ rest)
parts_in_row o a b c rest = ap (λ (l : List ℕ). o ∷ l) (ap (λ (l : List ℕ). a ++ l) (append_assoc b c rest) ∙ sym (append_assoc a b (c ++ rest)))

pub some_octet : (d : Delivery) (input : List ℕ) (used : ℕ) → Reads deliver d input used → 1 ≤ length input
unfolding deliver
some_octet d input used r = omega (arith, ap length r.parts, length-append r.octets r.rest, ap length r.read.parts, length-append r.read.front r.read.back, ap length r.read.of_first.1)

pub delivery_lies : (d : Delivery) (input : List ℕ) (used : ℕ) (spans : DeliverSpans) → Reads deliver d input used → spans.origin.offset ≡ 1 → TakesOctets address (drop 1 input) spans.origin.length → spans.user ≡ spans_before used d.user → DeliveryLies d input used spans
unfolding deliver
delivery_lies d input used spans r at takes user =
    let p = r.read in
    let q = p.of_second in
    let s = q.of_second in
    let t = s.of_second in
    let u = t.of_second in
    let v = u.of_second in
    let first : List ℕ = p.of_first.0 ∷ [] in
    let fixed : List ℕ = s.choice ∷ t.choice ∷ u.choice in
    let whole : input ≡ first ++ (q.front ++ (q.back ++ r.rest)) = rw (r.parts, p.parts, p.of_first.1, q.parts) (ap (λ (l : List ℕ). p.of_first.0 ∷ l) (append_assoc q.front q.back r.rest)) in
    let back : q.back ≡ fixed ++ v.front = rw (s.parts, s.of_first, t.parts, t.of_first, u.parts, u.of_first.0, v.parts, v.of_second.1, append-nil v.front) refl in
    let a = address_lies q.choice first q.front (q.back ++ r.rest) input spans.origin whole q.of_first at takes in
    let front : List ℕ = (first ++ q.front) ++ fixed in
    let both : input ≡ front ++ (v.front ++ r.rest) = whole ∙ ap (λ (l : List ℕ). first ++ (q.front ++ (l ++ r.rest))) back ∙ parts_in_row p.of_first.0 q.front fixed v.front r.rest in
    let fields : length front ≡ 1 + length q.front + 9 = omega (arith, length-append (first ++ q.front) fixed, u.of_first.1) in
    let before : spans.origin.offset + spans.origin.length + 9 ≡ length front = omega (arith, at, a.1, fields) in
    let size : used ≡ spans.origin.offset + spans.origin.length + 9 + length v.front = omega (arith, before, r.used_is, ap length r.parts, ap length both, length-append r.octets r.rest, length-append front (v.front ++ r.rest), length-append v.front r.rest) in
    let data_lie = user_lies p.choice.header (alphabet_at t.choice) v.choice front v.front r.rest input _ used both (user_data_self p.choice.header (alphabet_at t.choice) v.choice v.front (v.back ++ r.rest) r.rest v.of_first) before size in
    record {
      begins = at;
      origin = subst (λ (x : AddressValue). LiesAt address x input spans.origin) (sym (ap (λ (x : Delivery). x.origin) v.of_second.0)) a.0;
      user = these_spans d.user v.choice input _ used spans.user (ap (λ (x : Delivery). x.user) v.of_second.0) user data_lie;
    }

-- ---- submissions

pub two_octets : (x : Submission) (input : List ℕ) (used : ℕ) → Reads submit x input used → 2 ≤ length input
unfolding submit
two_octets x input used r =
    let q = r.read.of_second in
    omega (arith, ap length r.parts, length-append r.octets r.rest, ap length r.read.parts, length-append r.read.front r.read.back, ap length r.read.of_first.1, ap length q.parts, length-append q.front q.back, ap length q.of_first)

validity_size : (format : ValidityFormat) (period : Validity) (octets rest : List ℕ) → (validity format).reads period octets rest → length octets ≡ length (validity_octets period)
unfolding validity
validity_size Absent period octets rest r = rw (r.0, r.1) refl
validity_size Relative period octets rest r = rw (r.parts, r.of_first, r.of_second.0, r.of_second.1) refl
validity_size Enhanced period octets rest r = rw (r.parts, r.of_first.0, r.of_second.0, r.of_second.1, append-nil r.choice) refl
validity_size Absolute period octets rest r = rw (r.parts, r.of_first.0, r.of_second.0, r.of_second.1, append-nil r.choice) refl

pub submission_lies : (x : Submission) (input : List ℕ) (used : ℕ) (spans : SubmitSpans) → Reads submit x input used → spans.target.offset ≡ 2 → TakesOctets address (drop 2 input) spans.target.length → spans.user ≡ spans_before used x.user → SubmissionLies x input used spans
unfolding submit
submission_lies x input used spans r at takes user =
    let o = r.read in
    let p = o.of_second in
    let q = p.of_second in
    let s = q.of_second in
    let t = s.of_second in
    let u = t.of_second in
    let v = u.of_second in
    let first : List ℕ = o.of_first.0 ∷ p.choice ∷ [] in
    let fixed : List ℕ = s.choice ∷ t.choice ∷ u.front in
    let whole : input ≡ first ++ (q.front ++ (q.back ++ r.rest)) = rw (r.parts, o.parts, o.of_first.1, p.parts, p.of_first, q.parts) (ap (λ (l : List ℕ). o.of_first.0 ∷ p.choice ∷ l) (append_assoc q.front q.back r.rest)) in
    let back : q.back ≡ fixed ++ v.front = rw (s.parts, s.of_first, t.parts, t.of_first, u.parts, v.parts, v.of_second.1, append-nil v.front) refl in
    let a = address_lies q.choice first q.front (q.back ++ r.rest) input spans.target whole q.of_first at takes in
    let front : List ℕ = (first ++ q.front) ++ fixed in
    let both : input ≡ front ++ (v.front ++ r.rest) = whole ∙ ap (λ (l : List ℕ). first ++ (q.front ++ (l ++ r.rest))) back ∙ ap (λ (l : List ℕ). o.of_first.0 ∷ l) (parts_in_row p.choice q.front fixed v.front r.rest) in
    let period : length u.front ≡ length (validity_octets x.validity) = validity_size o.choice.format u.choice u.front (u.back ++ r.rest) u.of_first ∙ ap (λ (y : Submission). length (validity_octets y.validity)) (sym v.of_second.0) in
    let fields : length front ≡ 2 + length q.front + 2 + length u.front = omega (arith, length-append (first ++ q.front) fixed) in
    let before : spans.target.offset + spans.target.length + 2 + length (validity_octets x.validity) ≡ length front = omega (arith, at, a.1, fields, period) in
    let size : used ≡ spans.target.offset + spans.target.length + 2 + length (validity_octets x.validity) + length v.front = omega (arith, before, r.used_is, ap length r.parts, ap length both, length-append r.octets r.rest, length-append front (v.front ++ r.rest), length-append v.front r.rest) in
    let data_lie = user_lies o.choice.header (alphabet_at t.choice) v.choice front v.front r.rest input _ used both (user_data_self o.choice.header (alphabet_at t.choice) v.choice v.front (v.back ++ r.rest) r.rest v.of_first) before size in
    record {
      begins = at;
      target = subst (λ (y : AddressValue). LiesAt address y input spans.target) (sym (ap (λ (y : Submission). y.target) v.of_second.0)) a.0;
      user = these_spans x.user v.choice input _ used spans.user (ap (λ (y : Submission). y.user) v.of_second.0) user data_lie;
    }
