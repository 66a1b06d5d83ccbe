-- A reader may pass this by: lemmas, for the proofs of this crate and of those above it.
--
-- A part that is there where another octet follows is lawful where the part is, which is no part
-- of no octets; and what is known of the part is known of it.
use Rattle.std.proofs.Common.{◌≡◌, inl, inr, ℕ, List, [], ◌∷◌, ◌++◌, refl, sym, subst, ◌∙◌, arith}
use Rattle.sms_text.specs.Octets.{IsOctets}
use Rattle.sms_field.specs.Field.{Outcome, found, refused, Field, HasReading, CanContinue, IsReading, IsAnswer, IsLawful}
use Rattle.sms_field.specs.Inside.OneReason.{HasOneReason}
use Rattle.sms_field.specs.Reading.Reasons.{Never}
use Rattle.sms_field.specs.Reading.Values.{Has}
use Rattle.sms_tpdu.specs.IfMore.{read_if_more, if_more}

-- there is an octet in front
nonempty : (x : ℕ) (xs octets rest : List ℕ) → x ∷ xs ≡ octets ++ rest → octets ≡ [] → rest ≡ [] → ⊥
nonempty x xs octets rest e p q =
    let none : x ∷ xs ≡ [] ++ rest = subst (λ (l : List ℕ). x ∷ xs ≡ l ++ rest) p e in
    let end : x ∷ xs ≡ [] = none ∙ q in
    cc

nothing_left : (octets rest : List ℕ) → [] ≡ octets ++ rest → octets ≡ []
nothing_left [] rest e = refl
nothing_left (o ∷ octets) rest e = absurd cc

module _ {V W : Type 0} (short : W) (none : V) (part : Field V W) (some : ¬ HasReading part []) (law : IsLawful short part) where
  outer : (xs : List ℕ) → HasReading part xs → HasReading (if_more none part) xs
  outer xs r = record { value = r.value; octets = r.octets; rest = r.rest; parts = r.parts; read = inr r.read }

  inner : (x : ℕ) (xs : List ℕ) → HasReading (if_more none part) (x ∷ xs) → HasReading part (x ∷ xs)
  inner x xs r = go r.value r.octets r.rest r.parts r.read
    where
      go : (v : V) (octets rest : List ℕ) → x ∷ xs ≡ octets ++ rest → (if_more none part).reads v octets rest → HasReading part (x ∷ xs)
      go v octets rest e (inl h) = absurd (nonempty x xs octets rest e h.1 h.2)
      go v octets rest e (inr h) = record { value = v; octets = octets; rest = rest; parts = e; read = h }

  outer_goes_on : (front : List ℕ) → CanContinue part front → CanContinue (if_more none part) front
  outer_goes_on front c = record { more = c.more; are_octets = c.are_octets; reading = outer (front ++ c.more) c.reading }

  inner_goes_on : (front : List ℕ) (octet : ℕ) → CanContinue (if_more none part) (front ++ octet ∷ []) → CanContinue part (front ++ octet ∷ [])
  inner_goes_on [] octet c = record { more = c.more; are_octets = c.are_octets; reading = inner octet c.more c.reading }
  inner_goes_on (x ∷ front) octet c = record { more = c.more; are_octets = c.are_octets; reading = inner x ((front ++ octet ∷ []) ++ c.more) c.reading }

  only_end : (other : V) (others left : List ℕ) → [] ≡ others ++ left → (if_more none part).reads other others left → (other ≡ none) × (others ≡ [])
  only_end other others left e (inl h) = (h.0, h.1)
  only_end other others left e (inr h) = absurd (some (record { value = other; octets = others; rest = left; parts = e; read = h }))

  only_part : (at x : ℕ) (xs : List ℕ) (v : V) (after : ℕ) (rest : List ℕ) (h : IsReading part at (x ∷ xs) v after rest) (other : V) (others left : List ℕ) → x ∷ xs ≡ others ++ left → (if_more none part).reads other others left → (other ≡ v) × (others ≡ h.octets)
  only_part at x xs v after rest h other others left e (inl p) = absurd (nonempty x xs others left e p.1 p.2)
  only_part at x xs v after rest h other others left e (inr p) = h.only other others left e p

  part_answers : (at x : ℕ) (xs : List ℕ) (o : Outcome V W) → IsAnswer short part at (x ∷ xs) o → IsAnswer short (if_more none part) at (x ∷ xs) o
  part_answers at x xs (found v after rest) h = record {
    octets = h.octets;
    parts = h.parts;
    after_is = h.after_is;
    read = inr h.read;
    only = only_part at x xs v after rest h;
  }
  part_answers at x xs (refused place why) (inl h) = inl (record {
    why_is = h.why_is;
    place_is = h.place_is;
    none = λ r. h.none (inner x xs r);
    some = outer_goes_on (x ∷ xs) h.some;
  })
  part_answers at x xs (refused place why) (inr h) = inr (record {
    front = h.front;
    octet = h.octet;
    rest = h.rest;
    parts = h.parts;
    place_is = h.place_is;
    before = outer_goes_on h.front h.before;
    none_after = λ c. h.none_after (inner_goes_on h.front h.octet c);
    reason = h.reason;
  })

  if_more_answers : (at : ℕ) (input : List ℕ) → IsOctets input → IsAnswer short (if_more none part) at input (read_if_more none part at input)
  if_more_answers at [] fits = record { octets = []; parts = refl; after_is = omega arith; read = inl (refl, refl, refl); only = only_end }
  if_more_answers at (x ∷ xs) fits = part_answers at x xs (part.read at (x ∷ xs)) (law.answers at (x ∷ xs) fits)

  pub if_more_lawful : IsLawful short (if_more none part)
  if_more_lawful = record {
    starts = record { more = []; are_octets = tt; reading = record { value = none; octets = []; rest = []; parts = refl; read = inl (refl, refl, refl) } };
    answers = if_more_answers;
    never_short = law.never_short;
  }

-- ---- what is known of it by the part

pub never_if_more : {V W : Type 0} (why : W) (none : V) (part : Field V W) → Never why part → Never why (if_more none part)
never_if_more why none part n = n

pub one_reason_if_more : {V W : Type 0} (none : V) (part : Field V W) → HasOneReason part → HasOneReason (if_more none part)
one_reason_if_more none part one = one

pub has_if_more : {V W : Type 0} (P : V → Type 0) (none : V) (part : Field V W) → P none → Has P part → Has P (if_more none part)
has_if_more {V} {W} P none part known has = go
  where
    go : (value : V) (octets rest : List ℕ) → IsOctets octets → (if_more none part).reads value octets rest → P value
    go value octets rest are (inl h) = subst P (sym h.0) known
    go value octets rest are (inr h) = has value octets rest are h
