-- A reader may pass this by: lemmas, for the proofs of this crate and of those above it.
--
-- User data lie where their spans say.
use Rattle.std.proofs.Common.{◌≡◌, ℕ, suc, ◌+◌, ◌-◌, ◌≤◌, Bool, true, false, cond, leb, List, [], ◌∷◌, ◌++◌, length, take, drop, Option, Some, None, option_map, Ok, Err, refl, sym, ap, subst, ◌∙◌, append_assoc, arith, length-append}
use Rattle.std.proofs.lemmas.Bool.{leb-true}
use Rattle.std.proofs.lemmas.List.{append-nil, take_at, drop_at, drop-drop}
use Rattle.sms_text.specs.Bits.{unpacked}
use Rattle.sms_text.specs.Inside.PackingLaws.{unpacked_septets}
use Rattle.sms_field.specs.declared.coding.Alphabet.{Alphabet}
use Rattle.sms_field.specs.declared.coding.Alphabet.TheVariants.{Gsm7, EightBit, Ucs2, Compressed}
use Rattle.sms_field.specs.Reading.Lies.{octets_at}
use Rattle.sms_field.specs.declared.span.Span.{Span}
use Rattle.sms_tpdu.specs.UserData.Lengths.{octets_of_length, length_of_header, fill_bits}
use Rattle.sms_tpdu.specs.UserData.{header_octets, body_of, header_length, user_data}
use Rattle.sms_tpdu.specs.Inside.UserDataSeen.{user_data_in}
use Rattle.sms_tpdu.specs.declared.user_data.spans.UserSpans.{UserSpans}
use Rattle.sms_tpdu.specs.declared.fault.UnitFault.TheVariants.{HeaderTooLong}
use Rattle.sms_tpdu.specs.declared.user_data.UserData.{UserData}
use Rattle.sms_tpdu.specs.UserData.Spans.{HeaderLies, IsHeldIn, UserLies, span_of, body_size, fill_of, spans_before, UserDataLie}

pub size_is : (alphabet : Alphabet) (taken count : ℕ) (octets : List ℕ) → length_of_header alphabet taken ≤ count → length octets ≡ octets_of_length alphabet count - taken → body_size taken (body_of alphabet taken count octets) ≡ length octets
size_is Gsm7 taken count octets room len = omega (arith, (unpacked_septets (fill_bits taken) (count - length_of_header Gsm7 taken) octets).1, room, len)
size_is EightBit taken count octets room len = refl
size_is Ucs2 taken count octets room len = refl
size_is Compressed taken count octets room len = refl

held : (alphabet : Alphabet) (taken count : ℕ) (octets : List ℕ) → IsHeldIn (body_of alphabet taken count octets) (fill_of taken (body_of alphabet taken count octets)) octets
held Gsm7 taken count octets = ap (λ (n : ℕ). unpacked (fill_bits taken) n octets) (unpacked_septets (fill_bits taken) (count - length_of_header Gsm7 taken) octets).1
held EightBit taken count octets = refl
held Ucs2 taken count octets = refl
held Compressed taken count octets = refl

no_header : (alphabet : Alphabet) (count : ℕ) → length_of_header alphabet 0 ≤ count
no_header Gsm7 count = omega arith
no_header EightBit count = omega arith
no_header Ucs2 count = omega arith
no_header Compressed count = omega arith

has_room : (alphabet : Alphabet) (count octet size : ℕ) → header_length alphabet count octet ≡ Ok size → (octet ≡ size) × (length_of_header alphabet (size + 1) ≤ count)
has_room alphabet count octet size = go (leb (length_of_header alphabet (octet + 1)) count) refl
  where
    go : (b : Bool) → leb (length_of_header alphabet (octet + 1)) count ≡ b → cond b (Ok octet) (Err HeaderTooLong) ≡ Ok size → (octet ≡ size) × (length_of_header alphabet (size + 1) ≤ count)
    go true is e = let same : octet ≡ size = cc in (same, subst (λ (n : ℕ). length_of_header alphabet (n + 1) ≤ count) same (leb-true _ _ is))
    go false is e = absurd cc

-- ---- where the parts lie

part_is : (n : ℕ) (front part rest input : List ℕ) (place offset size : ℕ) → drop place input ≡ (n ∷ front) ++ (part ++ rest) → offset ≡ place + 1 + length front → size ≡ length part → octets_at input (span_of offset size) ≡ part
part_is n front part rest input place offset size whole at is =
    let after : offset ≡ place + (1 + length front) = omega (arith, at) in
    let left : drop (1 + length front) (drop place input) ≡ part ++ rest = ap (drop (1 + length front)) whole ∙ drop_at (n ∷ front) (part ++ rest) (1 + length front) (omega arith) in
    ap (λ (k : ℕ). take size (drop k input)) after ∙ ap (take size) (sym (drop-drop (1 + length front) place input) ∙ left) ∙ take_at part rest size (sym is)

header_lies : (header : Option (List ℕ)) (n : ℕ) (octets rest input : List ℕ) (place start : ℕ) → drop place input ≡ (n ∷ header_octets header) ++ (octets ++ rest) → start ≡ place + 1 + length (header_octets header) → HeaderLies header input (option_map (λ h. span_of (start - length h) (length h)) header)
header_lies None n octets rest input place start whole at = tt
header_lies (Some header) n octets rest input place start whole at = part_is n (length header ∷ []) header (octets ++ rest) input place (start - length header) (length header) whole (omega (arith, at)) refl

lie : (alphabet : Alphabet) (header : Option (List ℕ)) (count n : ℕ) (octets rest input : List ℕ) (place used : ℕ) → length_of_header alphabet (length (header_octets header)) ≤ count → length octets ≡ octets_of_length alphabet count - length (header_octets header)
    → drop place input ≡ (n ∷ header_octets header) ++ (octets ++ rest) → used ≡ 1 + length (header_octets header) + length octets
    → UserLies (user_data_in header alphabet count octets) input place (place + used) (spans_before (place + used) (user_data_in header alphabet count octets))
lie alphabet header count n octets rest input place used room len whole is =
    let taken : ℕ = length (header_octets header) in
    let size : body_size taken (body_of alphabet taken count octets) ≡ length octets = size_is alphabet taken count octets room len in
    let start : place + used - body_size taken (body_of alphabet taken count octets) ≡ place + 1 + taken = omega (arith, size, is) in
    record {
      header = header_lies header n octets rest input place _ whole start;
      body = subst (IsHeldIn (body_of alphabet taken count octets) (fill_of taken (body_of alphabet taken count octets))) (sym (part_is n (header_octets header) octets rest input place _ _ whole start size)) (held alphabet taken count octets);
      begins = start;
      ends = omega (arith, size, is);
    }

lies_as : (user other : UserData) (input : List ℕ) (place end : ℕ) → other ≡ user → UserLies user input place end (spans_before end user) → UserLies other input place end (spans_before end other)
lies_as user other input place end same lies = subst (λ (u : UserData). UserLies u input place end (spans_before end u)) (sym same) lies

pub user_data_lie : UserDataLie
unfolding user_data
user_data_lie false alphabet user input place used r =
    let p = r.read in
    let q = p.of_second in
    let whole : drop place input ≡ (p.of_first.0 ∷ []) ++ (q.choice ++ r.rest) = rw (r.parts, p.parts, p.of_first.1, q.parts, q.of_first.0, q.of_second.1, append-nil q.choice) refl in
    let size : used ≡ 1 + 0 + length q.choice = omega (arith, r.used_is, ap length r.parts, ap length whole, length-append r.octets r.rest, length-append q.choice r.rest) in
    lies_as _ user input place (place + used) q.of_second.0 (lie alphabet None p.choice p.of_first.0 q.choice r.rest input place used (no_header alphabet p.choice) (omega (arith, q.of_first.1)) whole size)
user_data_lie true alphabet user input place used r =
    let p = r.read in
    let q = p.of_second in
    let s = q.of_second in
    let t = s.of_second in
    let whole : drop place input ≡ (p.of_first.0 ∷ q.of_first.0 ∷ s.choice) ++ (t.choice ++ r.rest) = rw (r.parts, p.parts, p.of_first.1, q.parts, q.of_first.1, s.parts, s.of_first.0, t.parts, t.of_first.0, t.of_second.1, append-nil t.choice) (ap (λ (l : List ℕ). p.of_first.0 ∷ q.of_first.0 ∷ l) (append_assoc s.choice t.choice r.rest)) in
    let fits = has_room alphabet p.choice q.of_first.0 q.choice q.of_first.2 in
    let size : q.of_first.0 ≡ length s.choice = omega (arith, s.of_first.1, fits.0) in
    let taken : q.choice + 1 ≡ suc (length s.choice) = omega (arith, s.of_first.1) in
    let room : length_of_header alphabet (suc (length s.choice)) ≤ p.choice = subst (λ (n : ℕ). length_of_header alphabet n ≤ p.choice) taken fits.1 in
    let headed : drop place input ≡ (p.of_first.0 ∷ length s.choice ∷ s.choice) ++ (t.choice ++ r.rest) = whole ∙ ap (λ (n : ℕ). p.of_first.0 ∷ n ∷ (s.choice ++ (t.choice ++ r.rest))) size in
    let many : used ≡ 1 + suc (length s.choice) + length t.choice = omega (arith, r.used_is, ap length r.parts, ap length whole, length-append r.octets r.rest, length-append s.choice (t.choice ++ r.rest), length-append t.choice r.rest) in
    let is : user ≡ user_data_in (Some s.choice) alphabet p.choice t.choice = t.of_second.0 ∙ ap (λ (n : ℕ). let u : UserData = record { header = Some s.choice; body = body_of alphabet n p.choice t.choice } in u) taken in
    lies_as _ user input place (place + used) is (lie alphabet (Some s.choice) p.choice p.of_first.0 t.choice r.rest input place used room (omega (arith, t.of_first.1, s.of_first.1)) headed many)

-- ---- as a view computes them

pub fill_of_other : (alphabet : Alphabet) (taken count : ℕ) (octets : List ℕ) → (alphabet ≡ Gsm7 → ⊥) → fill_of taken (body_of alphabet taken count octets) ≡ 0
fill_of_other Gsm7 taken count octets other = absurd (other refl)
fill_of_other EightBit taken count octets other = refl
fill_of_other Ucs2 taken count octets other = refl
fill_of_other Compressed taken count octets other = refl

pub fill_of_septets : (alphabet : Alphabet) (taken count : ℕ) (octets : List ℕ) → alphabet ≡ Gsm7 → fill_of taken (body_of alphabet taken count octets) ≡ fill_bits taken
fill_of_septets Gsm7 taken count octets is = refl
fill_of_septets EightBit taken count octets is = absurd cc
fill_of_septets Ucs2 taken count octets is = absurd cc
fill_of_septets Compressed taken count octets is = absurd cc

pub spans_are : (header : Option (List ℕ)) (alphabet : Alphabet) (count : ℕ) (octets : List ℕ) (end offset fill : ℕ) (span : Option Span)
    → length_of_header alphabet (length (header_octets header)) ≤ count → length octets ≡ octets_of_length alphabet count - length (header_octets header)
    → span ≡ option_map (λ h. span_of (offset - length h) (length h)) header → offset ≡ end - length octets → fill ≡ fill_of (length (header_octets header)) (body_of alphabet (length (header_octets header)) count octets)
    → (let s : UserSpans = record { header = span; body = span_of offset (length octets); fill = fill } in s) ≡ spans_before end (user_data_in header alphabet count octets)
spans_are header alphabet count octets end offset fill span room len headed at filled =
    rw (size_is alphabet (length (header_octets header)) count octets room len, headed, at, filled) refl
