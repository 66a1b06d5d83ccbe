-- A reader may pass this by: lemmas, for the proofs of this crate and of those above it.
--
-- An optional part is lawful where the part is. One after a tag is not self-contained, so it stands
-- last in a unit.
use Rattle.std.proofs.Common.{◌≡◌, ℕ, ◌+◌, ◌<◌, Bool, true, false, cond, List, [], ◌∷◌, ◌++◌, Option, Some, None, refl, sym, ap, subst, ◌∙◌, arith, inl, inr}
use Rattle.std.specs.Prelude.{◌==◌}
use Rattle.std.proofs.lemmas.Bool.{eqb-true, eqb-false}
use Rattle.sms_text.specs.Octets.{IsOctets}
use Rattle.sms_field.specs.Field.{Outcome, found, refused, Field, HasReading, CanContinue, IsReading, IsAnswer, IsSelfContained, IsLawful}
use Rattle.sms_field.specs.Inside.ChainLaws.{chain_lawful, chain_self_contained}
use Rattle.sms_field.specs.Inside.SingleLaws.{always_self, always_lawful}
use Rattle.sms_field.specs.Field.Optional.{part_if, LacksTag, ReadsTagged, some_found, tagged_at, after_tag, tagged}

-- ---- parts that are there or not

pub part_if_self : {V W : Type 0} (there : Bool) (part : Field V W) → IsSelfContained part → IsSelfContained (part_if there part)
part_if_self {V} {W} false part self = always_self W _
part_if_self {V} {W} true part self = chain_self_contained _ _ self (λ value. always_self W _)

pub part_if_lawful : {V W : Type 0} (short : W) (there : Bool) (part : Field V W) → IsSelfContained part → IsLawful short part → IsLawful short (part_if there part)
part_if_lawful short false part self law = always_lawful short _
part_if_lawful short true part self law = chain_lawful _ _ short self law (λ value _ _ _. always_lawful short _)

-- ---- parts after a tag

tag_stands : (tag : ℕ) (xs left : List ℕ) → tag ∷ xs ≡ left → LacksTag tag left → ⊥
tag_stands tag xs [] e q = absurd cc
tag_stands tag xs (y ∷ left) e q = q (let same : y ≡ tag = cc in same)

only_after_tag : {V W : Type 0} (tag : ℕ) (part : Field V W) (at : ℕ) (xs : List ℕ) (v : V) (after : ℕ) (rest : List ℕ) (h : IsReading part at xs v after rest) (other : Option V) (others left : List ℕ) → tag ∷ xs ≡ others ++ left → ReadsTagged tag part other others left → (other ≡ Some v) × (others ≡ tag ∷ h.octets)
only_after_tag tag part at xs v after rest h None others left e p = absurd (tag_stands tag xs left (e ∙ ap (λ (l : List ℕ). l ++ left) p.0) p.1)
only_after_tag tag part at xs v after rest h (Some w) others left e p =
    let whole : tag ∷ xs ≡ tag ∷ (p.0 ++ left) = e ∙ ap (λ (l : List ℕ). l ++ left) p.1 in
    let split : xs ≡ p.0 ++ left = cc in
    let one = h.only w p.0 left split p.2 in
    (ap {B = Option _} Some one.0, p.1 ∙ ap (λ (l : List ℕ). tag ∷ l) one.1)

only_none : {V W : Type 0} (tag : ℕ) (part : Field V W) (input : List ℕ) → LacksTag tag input → (other : Option V) (others left : List ℕ) → input ≡ others ++ left → ReadsTagged tag part other others left → (other ≡ None) × (others ≡ [])
only_none tag part input lacks None others left e p = (refl, p.0)
only_none tag part input lacks (Some w) others left e p = absurd (tag_stands tag (p.0 ++ left) input (sym (e ∙ ap (λ (l : List ℕ). l ++ left) p.1)) lacks)

module _ {V W : Type 0} (short : W) (tag : ℕ) (small : tag < 256) (part : Field V W) (law : IsLawful short part) where
  tagged_starts : CanContinue (tagged tag part) []
  tagged_starts = record { more = []; are_octets = tt; reading = record { value = None; octets = []; rest = []; parts = refl; read = (refl, tt) } }

  -- after the tag a reading is one of the part
  inner : (xs : List ℕ) → HasReading (tagged tag part) (tag ∷ xs) → HasReading part xs
  inner xs r = go r.value r.octets r.rest r.parts r.read
    where
      go : (v : Option V) (octets rest : List ℕ) → tag ∷ xs ≡ octets ++ rest → ReadsTagged tag part v octets rest → HasReading part xs
      go None octets rest e p = absurd (tag_stands tag xs rest (e ∙ ap (λ (l : List ℕ). l ++ rest) p.0) p.1)
      go (Some v) octets rest e p =
          let whole : tag ∷ xs ≡ tag ∷ (p.0 ++ rest) = e ∙ ap (λ (l : List ℕ). l ++ rest) p.1 in
          record { value = v; octets = p.0; rest = rest; parts = cc; read = p.2 }

  outer : (xs : List ℕ) → HasReading part xs → HasReading (tagged tag part) (tag ∷ xs)
  outer xs r = record { value = Some r.value; octets = tag ∷ r.octets; rest = r.rest; parts = ap (λ (l : List ℕ). tag ∷ l) r.parts; read = (r.octets, refl, r.read) }

  inner_goes_on : (front : List ℕ) → CanContinue (tagged tag part) (tag ∷ front) → CanContinue part front
  inner_goes_on front c = record { more = c.more; are_octets = c.are_octets; reading = inner (front ++ c.more) c.reading }

  outer_goes_on : (front : List ℕ) → CanContinue part front → CanContinue (tagged tag part) (tag ∷ front)
  outer_goes_on front c = record { more = c.more; are_octets = c.are_octets; reading = outer (front ++ c.more) c.reading }

  after_tag_answers : (at : ℕ) (xs : List ℕ) (o : Outcome V W) → IsAnswer short part (at + 1) xs o → IsAnswer short (tagged tag part) at (tag ∷ xs) (some_found o)
  after_tag_answers at xs (found v after rest) h = record {
    octets = tag ∷ h.octets;
    parts = ap (λ (l : List ℕ). tag ∷ l) h.parts;
    after_is = omega (arith, h.after_is);
    read = (h.octets, refl, h.read);
    only = only_after_tag tag part (at + 1) xs v after rest h;
  }
  after_tag_answers at xs (refused place why) (inl h) = inl (record {
    why_is = h.why_is;
    place_is = omega (arith, h.place_is);
    none = λ r. h.none (inner xs r);
    some = outer_goes_on xs h.some;
  })
  after_tag_answers at xs (refused place why) (inr h) = inr (record {
    front = tag ∷ h.front;
    octet = h.octet;
    rest = h.rest;
    parts = ap (λ (l : List ℕ). tag ∷ l) h.parts;
    place_is = omega (arith, h.place_is);
    before = outer_goes_on h.front h.before;
    none_after = λ c. h.none_after (inner_goes_on (h.front ++ (h.octet ∷ [])) c);
    reason = h.reason;
  })

  none_answers : (at : ℕ) (input : List ℕ) → LacksTag tag input → IsAnswer short (tagged tag part) at input (found None at input)
  none_answers at input lacks = record { octets = []; parts = refl; after_is = omega arith; read = (refl, lacks); only = only_none tag part input lacks }

  tagged_answers : (at : ℕ) (input : List ℕ) → IsOctets input → IsAnswer short (tagged tag part) at input (tagged_at tag part at input)
  tagged_answers at [] fits = none_answers at [] tt
  tagged_answers at (o ∷ rest) fits = go (o == tag) refl
    where
      go : (b : Bool) → (o == tag) ≡ b → IsAnswer short (tagged tag part) at (o ∷ rest) (cond b (some_found (part.read (at + 1) rest)) (found None at (o ∷ rest)))
      go true is = subst (λ (t : ℕ). IsAnswer short (tagged tag part) at (t ∷ rest) (some_found (part.read (at + 1) rest))) (sym (eqb-true o tag is)) (after_tag_answers at rest (part.read (at + 1) rest) (law.answers (at + 1) rest fits.1))
      go false is = none_answers at (o ∷ rest) (eqb-false o tag is)

  pub tagged_lawful : IsLawful short (tagged tag part)
  tagged_lawful = record { starts = tagged_starts; answers = tagged_answers; never_short = named }
    where
      named : (front : List ℕ) (octet : ℕ) → after_tag tag part front octet short → ⊥
      named [] octet r = r
      named (x ∷ front) octet r = law.never_short front octet r
