-- A reader may pass this by: lemmas, for the proofs of this crate and of those above it.
--
-- Fields with one reason for an octet have one refusal of an input.
use Rattle.std.proofs.Common.{◌≡◌, ◌⊎◌, inl, inr, ⊎_elim, ℕ, zero, suc, ◌+◌, ◌-◌, ◌/◌, ◌%◌, ◌<◌, Bool, true, false, List, [], ◌∷◌, ◌++◌, length, take, Result, Ok, Err, refl, sym, ap, ◌∙◌, subst, append_assoc, arith}
use Rattle.std.specs.Prelude.{◌==◌}
use Rattle.std.proofs.lemmas.Bool.{cases_lt}
use Rattle.std.proofs.lemmas.List.{take_at}
use Rattle.sms_text.specs.Octets.{IsOctets}
use Rattle.sms_field.specs.Inside.OctetLists.{octets-append, octets_back, octets_front}
use Rattle.sms_field.specs.Field.{Field, HasReading, CanContinue, IsFault, ◌>>=◌, always, octet, octet_by, octets_of, map_reason, up_to}
use Rattle.sms_field.specs.Inside.ChainLaws.{same_back}
use Rattle.sms_field.specs.Field.Mapped.{mapped}
use Rattle.sms_field.specs.Field.Optional.{part_if, tagged}
use Rattle.sms_field.specs.Reading.OneRefusal.{HasOneRefusal}
use Rattle.sms_field.specs.Inside.OneReason.{HasOneReason, ReadsOneWay, IsKnown}
use Rattle.sms_field.specs.Address.DigitOctets.{low_digit, both_digits, digits}
use Rattle.sms_field.specs.Address.NameOctets.{name}
use Rattle.sms_field.specs.Address.{symbols_by, address}
use Rattle.sms_field.specs.Address.Value.{alphanumeric}
use Rattle.sms_field.specs.RelayAddress.{last_digits, relay_digits, relay_part, relay_address}
use Rattle.sms_field.specs.declared.fault.FieldFault.{FieldFault}
use Rattle.sms_field.specs.declared.fault.FieldFault.TheVariants.{Short, Address}
use Rattle.sms_field.specs.Address.Faults.{too_long}

-- ---- one way of reading

pub one_way_always : {V : Type 0} (W : Type 0) (value : V) → ReadsOneWay (always {V = V} {W = W} value)
one_way_always W value v w xs ys rest left p q e = (q.0 ∙ sym p.0, q.1 ∙ sym p.1)

same_first : (a b : ℕ) (xs ys : List ℕ) → a ∷ xs ≡ b ∷ ys → b ≡ a
same_first a b xs ys e = cc

pub one_way_octet : {W : Type 0} (short : W) → ReadsOneWay (octet short)
one_way_octet short v w xs ys rest left p q e =
    let one : w ≡ v = same_first v w rest left (ap (λ (l : List ℕ). l ++ rest) (sym p) ∙ e ∙ ap (λ (l : List ℕ). l ++ left) q) in
    (one, q ∙ ap (λ (n : ℕ). n ∷ []) one ∙ sym p)

abbrev good : {V W : Type 0} → V → Result V W
good v = Ok v

same_good : {V W : Type 0} (v w : V) → good {V = V} {W = W} v ≡ good w → w ≡ v
same_good v w e = cc

pub one_way_by : {V W : Type 0} (short : W) (meaning : ℕ → Result V W) → ReadsOneWay (octet_by short meaning)
one_way_by {V} {W} short meaning v w xs ys rest left p q e =
    let one : q.0 ≡ p.0 = same_first p.0 q.0 rest left (ap (λ (l : List ℕ). l ++ rest) (sym p.1) ∙ e ∙ ap (λ (l : List ℕ). l ++ left) q.1) in
    let both : good {V = V} {W = W} v ≡ good w = sym p.2 ∙ ap meaning (sym one) ∙ q.2 in
    (same_good v w both, q.1 ∙ ap (λ (n : ℕ). n ∷ []) one ∙ sym p.1)

pub one_way_octets : {W : Type 0} (short : W) (n : ℕ) → ReadsOneWay (octets_of short n)
one_way_octets short n v w xs ys rest left p q e =
    let first : length xs ≡ n = ap length p.0 ∙ p.1 in
    let second : length ys ≡ n = ap length q.0 ∙ q.1 in
    let one : ys ≡ xs = sym (take_at ys left n second) ∙ ap (take n) (sym e) ∙ take_at xs rest n first in
    (sym q.0 ∙ one ∙ p.0, one)

pub one_way_map_reason : {V W X : Type 0} (name : W → X) (f : Field V W) → ReadsOneWay f → ReadsOneWay (map_reason name f)
one_way_map_reason name f one = one

pub one_way_chain : {A B W : Type 0} (first : Field A W) (second : A → Field B W) → ReadsOneWay first → ((a : A) → ReadsOneWay (second a)) → ReadsOneWay (first >>= second)
one_way_chain {A} {B} first second one others v w xs ys rest left p q e =
    let here : xs ++ rest ≡ p.front ++ (p.back ++ rest) = ap (λ (l : List ℕ). l ++ rest) p.parts ∙ append_assoc p.front p.back rest in
    let there : ys ++ left ≡ q.front ++ (q.back ++ left) = ap (λ (l : List ℕ). l ++ left) q.parts ∙ append_assoc q.front q.back left in
    let whole : p.front ++ (p.back ++ rest) ≡ q.front ++ (q.back ++ left) = sym here ∙ e ∙ there in
    let h = one p.choice q.choice p.front q.front (p.back ++ rest) (q.back ++ left) p.of_first q.of_first whole in
    let what_follows : p.back ++ rest ≡ q.back ++ left = same_back p.front (p.back ++ rest) (q.back ++ left) (whole ∙ ap (λ (l : List ℕ). l ++ (q.back ++ left)) h.1) in
    let k = others p.choice v w p.back q.back rest left p.of_second (subst (λ (a : A). (second a).reads w q.back left) h.0 q.of_second) what_follows in
    (k.0, q.parts ∙ ap (λ (l : List ℕ). l ++ q.back) h.1 ∙ ap (λ (l : List ℕ). p.front ++ l) k.1 ∙ sym p.parts)

pub one_way_part : {V W : Type 0} (there : Bool) (part : Field V W) → ReadsOneWay part → ReadsOneWay (part_if there part)
one_way_part {V} {W} false part one = one_way_always W _
one_way_part {V} {W} true part one = one_way_chain _ _ one (λ value. one_way_always W _)

-- ---- one reason

pub one_reason_always : {V : Type 0} (W : Type 0) (value : V) → HasOneReason (always {V = V} {W = W} value)
one_reason_always W value front octet why because p q = absurd p

pub one_reason_octet : {W : Type 0} (short : W) → HasOneReason (octet short)
one_reason_octet short front octet why because p q = absurd p

pub one_reason_octets : {W : Type 0} (short : W) (n : ℕ) → HasOneReason (octets_of short n)
one_reason_octets short n front octet why because p q = absurd p

abbrev bad : (V W : Type 0) → W → Result V W
bad V W why = Err why

same_bad : (V W : Type 0) (why because : W) → bad V W why ≡ bad V W because → because ≡ why
same_bad V W why because e = cc

pub one_reason_by : {V W : Type 0} (short : W) (meaning : ℕ → Result V W) → HasOneReason (octet_by short meaning)
one_reason_by {V} {W} short meaning front octet why because p q = same_bad V W why because (sym p ∙ q)

pub one_reason_map_reason : {V W X : Type 0} (name : W → X) (f : Field V W) → HasOneReason f → HasOneReason (map_reason name f)
one_reason_map_reason name f one front octet why because p q = q.2 ∙ ap name (one front octet p.0 q.0 p.1 q.1) ∙ sym p.2

pub one_reason_mapped : {V X W : Type 0} (make : V → X) (f : Field V W) → HasOneReason f → HasOneReason (mapped make f)
one_reason_mapped make f one = one

one_after_tag : {V W : Type 0} (tag : ℕ) (f : Field V W) → HasOneReason f → (front : List ℕ) (octet : ℕ) (why because : W) → (tagged tag f).reason front octet why → (tagged tag f).reason front octet because → because ≡ why
one_after_tag tag f one [] octet why because p q = absurd p
one_after_tag tag f one (first ∷ front) octet why because p q = one front octet why because p q

pub one_reason_tagged : {V W : Type 0} (tag : ℕ) (f : Field V W) → HasOneReason f → HasOneReason (tagged tag f)
one_reason_tagged tag f one = one_after_tag tag f one

pub one_reason_chain : {A B W : Type 0} (first : Field A W) (second : A → Field B W) → ReadsOneWay first → HasOneReason first → ((a : A) → HasOneReason (second a)) → HasOneReason (first >>= second)
one_reason_chain {A} {B} {W} first second way one others front octet why because (inl p) (inl q) = one front octet why because p.reason q.reason
one_reason_chain {A} {B} {W} first second way one others front octet why because (inl p) (inr q) = absurd (p.none q.reading)
one_reason_chain {A} {B} {W} first second way one others front octet why because (inr p) (inl q) = absurd (q.none p.reading)
one_reason_chain {A} {B} {W} first second way one others front octet why because (inr p) (inr q) =
    let r = p.reading in
    let s = q.reading in
    let whole : r.octets ++ r.rest ≡ s.octets ++ s.rest = sym r.parts ∙ s.parts in
    let h = way r.value s.value r.octets s.octets r.rest s.rest r.read s.read whole in
    let what_follows : s.rest ≡ r.rest = sym (same_back r.octets r.rest s.rest (whole ∙ ap (λ (l : List ℕ). l ++ s.rest) h.1)) in
    let moved : (second r.value).reason r.rest octet because = subst (λ (l : List ℕ). (second r.value).reason l octet because) what_follows (subst (λ (a : A). (second a).reason s.rest octet because) h.0 q.reason) in
    others r.value r.rest octet why because p.reason moved

pub one_reason_part : {V W : Type 0} (there : Bool) (part : Field V W) → ReadsOneWay part → HasOneReason part → HasOneReason (part_if there part)
one_reason_part false part way one = λ front octet why because p q. absurd p
one_reason_part true part way one = one_reason_chain _ _ way one (λ value. λ front octet why because p q. absurd p)

-- ---- one refusal

-- what can continue can do so from each of its fronts
continues_front : {V W : Type 0} (f : Field V W) (front more : List ℕ) → IsOctets more → CanContinue f (front ++ more) → CanContinue f front
continues_front f front more are v = record {
  more = more ++ v.more;
  are_octets = octets-append more v.more are v.are_octets;
  reading = subst (HasReading f) (append_assoc front more v.more) v.reading;
}

-- of two fronts of one list, each with the octet after it, the longer begins with the shorter
longer_front : (xs : List ℕ) (x : ℕ) (ys zs : List ℕ) (z : ℕ) (ws : List ℕ) → xs ++ x ∷ ys ≡ zs ++ z ∷ ws → length xs < length zs → (d : List ℕ) × (zs ≡ xs ++ x ∷ d)
longer_front xs x ys [] z ws e lt = absurd (omega (arith, lt))
longer_front [] x ys (b ∷ zs) z ws e lt =
    let same : x ≡ b = cc in
    (zs, ap (λ (n : ℕ). n ∷ zs) (sym same))
longer_front (a ∷ xs) x ys (b ∷ zs) z ws e lt =
    let head : a ≡ b = cc in
    let tail : xs ++ x ∷ ys ≡ zs ++ z ∷ ws = cc in
    let r = longer_front xs x ys zs z ws tail (omega (arith, lt)) in
    (r.0, ap (λ (n : ℕ). n ∷ zs) (sym head) ∙ ap (λ (l : List ℕ). a ∷ l) r.1)

-- and two of one length are the same, and so are the octets
same_front : (xs : List ℕ) (x : ℕ) (ys zs : List ℕ) (z : ℕ) (ws : List ℕ) → xs ++ x ∷ ys ≡ zs ++ z ∷ ws → length xs ≡ length zs → (zs ≡ xs) × (z ≡ x)
same_front [] x ys [] z ws e l = (refl, let same : z ≡ x = cc in same)
same_front [] x ys (b ∷ zs) z ws e l = absurd (omega (arith, l))
same_front (a ∷ xs) x ys [] z ws e l = absurd (omega (arith, l))
same_front (a ∷ xs) x ys (b ∷ zs) z ws e l =
    let head : b ≡ a = cc in
    let tail : xs ++ x ∷ ys ≡ zs ++ z ∷ ws = cc in
    let r = same_front xs x ys zs z ws tail (omega (arith, l)) in
    (ap (λ (n : ℕ). n ∷ zs) head ∙ ap (λ (l : List ℕ). a ∷ l) r.0, r.1)

module _ {V W : Type 0} (f : Field V W) (input : List ℕ) (are : IsOctets input) where
  -- nothing continues past a fault
  ends_at : (place : ℕ) (why : W) → IsFault f 0 input place why → ¬ CanContinue f input
  ends_at place why b = λ v.
      let whole : (b.front ++ b.octet ∷ []) ++ b.rest ≡ input = append_assoc b.front (b.octet ∷ []) b.rest ∙ sym b.parts in
      b.none_after (continues_front f (b.front ++ b.octet ∷ []) b.rest (octets_back (b.front ++ b.octet ∷ []) b.rest (subst IsOctets (sym whole) are)) (subst (CanContinue f) (sym whole) v))

  not_before : (place other : ℕ) (why because : W) → IsFault f 0 input place why → IsFault f 0 input other because → place < other → ⊥
  not_before place other why because p q lt =
      let d = longer_front p.front p.octet p.rest q.front q.octet q.rest (sym p.parts ∙ q.parts) (omega (arith, lt, p.place_is, q.place_is)) in
      let whole : q.front ≡ (p.front ++ p.octet ∷ []) ++ d.0 = d.1 ∙ sym (append_assoc p.front (p.octet ∷ []) d.0) in
      let front_are : IsOctets ((p.front ++ p.octet ∷ []) ++ d.0) = subst IsOctets whole (octets_front q.front (q.octet ∷ q.rest) (subst IsOctets q.parts are)) in
      p.none_after (continues_front f (p.front ++ p.octet ∷ []) d.0 (octets_back (p.front ++ p.octet ∷ []) d.0 front_are) (subst (CanContinue f) whole q.before))

  same_place : (place other : ℕ) (why because : W) → IsFault f 0 input place why → IsFault f 0 input other because → other ≡ place
  same_place place other why because p q =
      ⊎_elim {C = other ≡ place} (λ lt. absurd (not_before place other why because p q lt))
      (λ le. ⊎_elim {C = other ≡ place} (λ lt. absurd (not_before other place because why q p lt)) (λ ge. omega (arith, le, ge)) (cases_lt other place))
      (cases_lt place other)

  one_fault : HasOneReason f → (place other : ℕ) (why because : W) → IsFault f 0 input place why → IsFault f 0 input other because → (other ≡ place) × (because ≡ why)
  one_fault one place other why because p q =
      let same = same_place place other why because p q in
      let front = same_front p.front p.octet p.rest q.front q.octet q.rest (sym p.parts ∙ q.parts) (omega (arith, same, p.place_is, q.place_is)) in
      (same, one p.front p.octet why because p.reason (subst (λ (o : ℕ). f.reason p.front o because) front.1 (subst (λ (l : List ℕ). f.reason l q.octet because) front.0 q.reason)))

pub one_refusal : {V W : Type 0} (short : W) (f : Field V W) → IsKnown short → HasOneReason f → HasOneRefusal f short
one_refusal {V} {W} short f known one input place other why because are p q = go (known why) (known because)
  where
    go : (why ≡ short) ⊎ (why ≡ short → ⊥) → (because ≡ short) ⊎ (because ≡ short → ⊥) → (other ≡ place) × (because ≡ why)
    go (inl e) (inl g) = ((q.0 g).place_is ∙ sym (p.0 e).place_is, g ∙ sym e)
    go (inl e) (inr g) = absurd (ends_at f input are other because (q.1 g) (p.0 e).some)
    go (inr e) (inl g) = absurd (ends_at f input are place why (p.1 e) (q.0 g).some)
    go (inr e) (inr g) = one_fault f input are one place other why because (p.1 e) (q.1 g)

-- ---- addresses

one_way_digits : (n : ℕ) → ReadsOneWay (digits n)
unfolding digits
one_way_digits zero = one_way_always FieldFault []
one_way_digits (suc zero) = one_way_chain _ _ (one_way_by Short low_digit) (λ digit. one_way_always FieldFault _)
one_way_digits (suc (suc n)) = one_way_chain _ _ (one_way_by Short both_digits) (λ two. one_way_chain _ _ (one_way_digits n) (λ others. one_way_always FieldFault _))

one_reason_digits : (n : ℕ) → HasOneReason (digits n)
unfolding digits
one_reason_digits zero = λ f o w b p q. absurd p
one_reason_digits (suc zero) = one_reason_chain _ _ (one_way_by Short low_digit) (one_reason_by Short low_digit) (λ digit. λ f o w b p q. absurd p)
one_reason_digits (suc (suc n)) =
    one_reason_chain _ _ (one_way_by Short both_digits) (one_reason_by Short both_digits) (λ two.
    one_reason_chain _ _ (one_way_digits n) (one_reason_digits n) (λ others. λ f o w b p q. absurd p))

one_way_name : (count : ℕ) → ReadsOneWay (name count)
unfolding name
one_way_name count = one_way_chain _ _ (one_way_octets Short ((count + 1) / 2)) (λ octets. one_way_always FieldFault _)

one_reason_name : (count : ℕ) → HasOneReason (name count)
unfolding name
one_reason_name count = one_reason_chain _ _ (one_way_octets Short ((count + 1) / 2)) (one_reason_octets Short ((count + 1) / 2)) (λ octets. λ f o w b p q. absurd p)

one_way_symbols : (named : Bool) (count : ℕ) → ReadsOneWay (symbols_by named count)
unfolding symbols_by
one_way_symbols true count = one_way_chain _ _ (one_way_name count) (λ septets. one_way_always FieldFault _)
one_way_symbols false count = one_way_chain _ _ (one_way_digits count) (λ values. one_way_always FieldFault _)

one_reason_symbols : (named : Bool) (count : ℕ) → HasOneReason (symbols_by named count)
unfolding symbols_by
one_reason_symbols true count = one_reason_chain _ _ (one_way_name count) (one_reason_name count) (λ septets. λ f o w b p q. absurd p)
one_reason_symbols false count = one_reason_chain _ _ (one_way_digits count) (one_reason_digits count) (λ values. λ f o w b p q. absurd p)

pub one_way_address : ReadsOneWay address
unfolding address
one_way_address =
    one_way_chain _ _ (one_way_by Short (up_to 20 too_long)) (λ count.
    one_way_chain _ _ (one_way_octet Short) (λ kind.
    one_way_chain _ _ (one_way_symbols (kind / 16 % 8 == alphanumeric) count) (λ symbols. one_way_always FieldFault _)))

pub one_reason_address : HasOneReason address
unfolding address
one_reason_address =
    one_reason_chain _ _ (one_way_by Short (up_to 20 too_long)) (one_reason_by Short (up_to 20 too_long)) (λ count.
    one_reason_chain _ _ (one_way_octet Short) (one_reason_octet Short) (λ kind.
    one_reason_chain _ _ (one_way_symbols (kind / 16 % 8 == alphanumeric) count) (one_reason_symbols (kind / 16 % 8 == alphanumeric) count) (λ symbols. λ f o w b p q. absurd p)))

one_way_relay_digits : (n : ℕ) → ReadsOneWay (relay_digits n)
unfolding relay_digits
one_way_relay_digits zero = one_way_always FieldFault []
one_way_relay_digits (suc zero) = one_way_by Short last_digits
one_way_relay_digits (suc (suc n)) = one_way_chain _ _ (one_way_by Short both_digits) (λ two. one_way_chain _ _ (one_way_relay_digits (suc n)) (λ others. one_way_always FieldFault _))

one_reason_relay_digits : (n : ℕ) → HasOneReason (relay_digits n)
unfolding relay_digits
one_reason_relay_digits zero = λ f o w b p q. absurd p
one_reason_relay_digits (suc zero) = one_reason_by Short last_digits
one_reason_relay_digits (suc (suc n)) =
    one_reason_chain _ _ (one_way_by Short both_digits) (one_reason_by Short both_digits) (λ two.
    one_reason_chain _ _ (one_way_relay_digits (suc n)) (one_reason_relay_digits (suc n)) (λ others. λ f o w b p q. absurd p))

one_way_relay_part : (none : Bool) (count : ℕ) → ReadsOneWay (relay_part none count)
unfolding relay_part
one_way_relay_part true count = one_way_always FieldFault _
one_way_relay_part false count = one_way_chain _ _ (one_way_octet Short) (λ kind. one_way_chain _ _ (one_way_relay_digits count) (λ values. one_way_always FieldFault _))

one_reason_relay_part : (none : Bool) (count : ℕ) → HasOneReason (relay_part none count)
unfolding relay_part
one_reason_relay_part true count = λ f o w b p q. absurd p
one_reason_relay_part false count =
    one_reason_chain _ _ (one_way_octet Short) (one_reason_octet Short) (λ kind.
    one_reason_chain _ _ (one_way_relay_digits count) (one_reason_relay_digits count) (λ values. λ f o w b p q. absurd p))

pub one_way_relay_address : ReadsOneWay relay_address
unfolding relay_address
one_way_relay_address = one_way_chain _ _ (one_way_by Short (up_to 11 too_long)) (λ count. one_way_relay_part (count == 0) (count - 1))

pub one_reason_relay_address : HasOneReason relay_address
unfolding relay_address
one_reason_relay_address =
    one_reason_chain _ _ (one_way_by Short (up_to 11 too_long)) (one_reason_by Short (up_to 11 too_long)) (λ count. one_reason_relay_part (count == 0) (count - 1))

is_short : IsKnown Short
is_short Short = inl refl
is_short (Address why) = inr (λ e. cc)

pub address_refused_once : HasOneRefusal address Short
address_refused_once = one_refusal Short address is_short one_reason_address

pub relay_address_refused_once : HasOneRefusal relay_address Short
relay_address_refused_once = one_refusal Short relay_address is_short one_reason_relay_address
