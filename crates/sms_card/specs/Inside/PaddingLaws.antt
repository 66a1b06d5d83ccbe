-- A reader may pass this by: lemmas, for the proofs of this crate and of those above it.
--
-- Padding, and any octets, are lawful fields that end where the input does.
use Rattle.std.proofs.Common.{◌≡◌, ℕ, ◌+◌, ◌==◌, Bool, true, false, cond, length, List, [], ◌∷◌, ◌++◌, refl, sym, ap, subst, ◌∙◌, arith, inl, inr}
use Rattle.std.proofs.lemmas.Bool.{eqb-true, eqb-false}
use Rattle.std.proofs.lemmas.List.{append-nil}
use Rattle.sms_text.specs.Octets.{IsOctets}
use Rattle.sms_field.specs.Field.{Outcome, found, refused, Field, HasReading, CanContinue, IsAnswer, IsLawful, IsSelfContained}
use Rattle.sms_field.specs.Inside.ChainLaws.{chain_lawful}
use Rattle.sms_field.specs.Inside.ChainReading.{chained}
use Rattle.sms_field.specs.Field.Mapped.{mapped}
use Rattle.sms_field.specs.Inside.MappedLaws.{mapped_lawful}
use Rattle.sms_card.specs.Padding.{IsPadding, padding_at, padding, anything, padded}
use Rattle.sms_card.specs.declared.fault.RecordFault.{RecordFault}
use Rattle.sms_card.specs.declared.fault.RecordFault.TheVariants.{Short, NotPadding}

nothing_left : (xs ys : List ℕ) → [] ≡ xs ++ ys → xs ≡ []
nothing_left [] ys e = refl
nothing_left (x ∷ xs) ys e = absurd cc

-- what takes all octets takes them
all_taken : (input octets rest : List ℕ) → input ≡ octets ++ rest → rest ≡ [] → octets ≡ input
all_taken input octets rest e end = sym (append-nil octets) ∙ ap (λ (l : List ℕ). octets ++ l) (sym end) ∙ sym e

padding_starts : CanContinue padding []
padding_starts = record { more = []; are_octets = tt; reading = record { value = tt; octets = []; rest = []; parts = refl; read = (tt, refl) } }

-- the octets after one that is padding
inner_by : (o : ℕ) (xs octets rest : List ℕ) → o ∷ xs ≡ octets ++ rest → IsPadding octets → rest ≡ [] → IsPadding xs
inner_by o xs octets rest e p end = go (all_taken (o ∷ xs) octets rest e end) p
  where
    go : octets ≡ o ∷ xs → IsPadding octets → IsPadding xs
    go same are = (subst IsPadding same are).1

first_by : (o : ℕ) (xs octets rest : List ℕ) → o ∷ xs ≡ octets ++ rest → IsPadding octets → rest ≡ [] → o ≡ 255
first_by o xs octets rest e p end = (subst IsPadding (all_taken (o ∷ xs) octets rest e end) p).0

reading_of_padding : (xs : List ℕ) → IsPadding xs → HasReading padding xs
reading_of_padding xs are = record { value = tt; octets = xs; rest = []; parts = sym (append-nil xs); read = (are, refl) }

module _ (o : ℕ) (is : o ≡ 255) where
  inner : (xs : List ℕ) → HasReading padding (o ∷ xs) → HasReading padding xs
  inner xs r = reading_of_padding xs (inner_by o xs r.octets r.rest r.parts r.read.0 r.read.1)

  outer : (xs : List ℕ) → HasReading padding xs → HasReading padding (o ∷ xs)
  outer xs r = reading_of_padding (o ∷ xs) (is, subst IsPadding (all_taken xs r.octets r.rest r.parts r.read.1) r.read.0)

  inner_goes_on : (front : List ℕ) → CanContinue padding (o ∷ front) → CanContinue padding front
  inner_goes_on front c = record { more = c.more; are_octets = c.are_octets; reading = inner (front ++ c.more) c.reading }

  outer_goes_on : (front : List ℕ) → CanContinue padding front → CanContinue padding (o ∷ front)
  outer_goes_on front c = record { more = c.more; are_octets = c.are_octets; reading = outer (front ++ c.more) c.reading }

  after_pad : (at : ℕ) (xs : List ℕ) (out : Outcome (Unit {0}) RecordFault) → IsAnswer Short padding (at + 1) xs out → IsAnswer Short padding at (o ∷ xs) out
  after_pad at xs (found v after rest) h = record {
    octets = o ∷ h.octets;
    parts = ap (λ (l : List ℕ). o ∷ l) h.parts;
    after_is = omega (arith, h.after_is);
    read = ((is, h.read.0), h.read.1);
    only = λ other others left e p.
        (refl, all_taken (o ∷ xs) others left e p.1 ∙ ap (λ (l : List ℕ). o ∷ l) (sym (all_taken xs h.octets rest h.parts h.read.1)));
  }
  after_pad at xs (refused place why) (inl h) = inl (record {
    why_is = h.why_is;
    place_is = omega (arith, h.place_is);
    none = λ r. h.none (inner xs r);
    some = outer_goes_on xs h.some;
  })
  after_pad at xs (refused place why) (inr h) = inr (record {
    front = o ∷ h.front;
    octet = h.octet;
    rest = h.rest;
    parts = ap (λ (l : List ℕ). o ∷ l) h.parts;
    place_is = omega (arith, h.place_is);
    before = outer_goes_on h.front h.before;
    none_after = λ c. h.none_after (inner_goes_on (h.front ++ (h.octet ∷ [])) c);
    reason = h.reason;
  })

first_answers : (at o : ℕ) (xs : List ℕ) (b : Bool) → (o == 255) ≡ b → IsAnswer Short padding (at + 1) xs (padding_at (at + 1) xs) → IsAnswer Short padding at (o ∷ xs) (cond b (padding_at (at + 1) xs) (refused at NotPadding))
first_answers at o xs true is further = after_pad o (eqb-true o 255 is) at xs (padding_at (at + 1) xs) further
first_answers at o xs false is further = inr (record {
  front = [];
  octet = o;
  rest = xs;
  parts = refl;
  place_is = omega arith;
  before = padding_starts;
  none_after = λ c. let r = c.reading in eqb-false o 255 is (first_by o c.more r.octets r.rest r.parts r.read.0 r.read.1);
  reason = refl;
})

padding_answers : (at : ℕ) (input : List ℕ) → IsAnswer Short padding at input (padding_at at input)
padding_answers at [] = record {
  octets = [];
  parts = refl;
  after_is = omega arith;
  read = (tt, refl);
  only = λ other others left e p. (refl, nothing_left others left e);
}
padding_answers at (o ∷ xs) = first_answers at o xs (o == 255) refl (padding_answers (at + 1) xs)

pub padding_lawful : IsLawful Short padding
padding_lawful = record { starts = padding_starts; answers = λ at input fits. padding_answers at input; never_short = λ front octet r. absurd cc }

anything_answers : (at : ℕ) (input : List ℕ) → IsAnswer Short anything at input (found tt (at + length input) [])
anything_answers at input = record {
  octets = input;
  parts = sym (append-nil input);
  after_is = refl;
  read = refl;
  only = λ other others left e p. (refl, all_taken input others left e p);
}

pub anything_lawful : IsLawful Short anything
anything_lawful = record {
  starts = record { more = []; are_octets = tt; reading = record { value = tt; octets = []; rest = []; parts = refl; read = refl } };
  answers = λ at input fits. anything_answers at input;
  never_short = λ front octet r. r;
}

pub padded_lawful : {V X : Type 0} (make : V → X) (unit : Field V RecordFault) → IsSelfContained unit → IsLawful Short unit → IsLawful Short (padded make unit)
padded_lawful make unit self law =
    chain_lawful _ _ Short self law (λ value _ _ _. mapped_lawful Short _ padding padding_lawful)

-- a unit that is padded ends where the input does
pub padded_ends : {V X : Type 0} (make : V → X) (unit : Field V RecordFault) (value : X) (octets rest : List ℕ) → (padded make unit).reads value octets rest → rest ≡ []
padded_ends make unit value octets rest r = r.of_second.1.1

pub ends_nowhere : (octet : ℕ) (rest : List ℕ) → octet ∷ rest ≡ [] → ⊥
ends_nowhere octet rest e = absurd cc

-- what is read as a unit is read as one that is padded
pub padded_again : {V X : Type 0} (make : V → X) (unit : Field V RecordFault) (value : V) (octets filled : List ℕ) → unit.reads value octets (filled ++ []) → IsPadding filled → (padded make unit).reads (make value) (octets ++ filled) []
padded_again make unit value octets filled read are =
    chained unit (λ v. mapped (λ (u : Unit {0}). make v) padding) value (make value) octets filled [] read (tt, (are, refl), refl)

pub padding_octets : (filled : List ℕ) → IsPadding filled → IsOctets filled
padding_octets [] are = tt
padding_octets (o ∷ filled) are = (omega (arith, are.0), padding_octets filled are.1)
