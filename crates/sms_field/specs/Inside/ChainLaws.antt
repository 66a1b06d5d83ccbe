-- A reader may pass this by: lemmas, for the proofs of this crate and of those above it.
--
-- What holds of two fields holds of one after the other.
use Rattle.std.proofs.Common.{◌≡◌, ℕ, ◌⊎◌, List, [], ◌∷◌, ◌++◌, length, refl, sym, ap, subst, ◌∙◌, append_assoc, arith, inl, inr, length-append}
use Rattle.sms_text.specs.Octets.{IsOctets}
use Rattle.sms_field.specs.Inside.OctetLists.{octets-append, octets_front, octets_back}
use Rattle.sms_field.specs.Field.{Outcome, found, refused, Field, HasReading, CanContinue, IsReading, IsAnswer, IsSelfContained, IsLawful, read_then, ◌>>=◌}

-- a list has one part after a front
pub same_back : (xs ys zs : List ℕ) → xs ++ ys ≡ xs ++ zs → ys ≡ zs
same_back [] ys zs e = e
same_back (x ∷ xs) ys zs e = same_back xs ys zs cc

-- two readings of one input are one
pub agree : {A W : Type 0} (short : W) (f : Field A W) → IsLawful short f → (a b : A) (xs ys s t : List ℕ) → IsOctets (xs ++ s) → f.reads a xs s → f.reads b ys t → xs ++ s ≡ ys ++ t → (b ≡ a) × (ys ≡ xs)
agree {A} {W} short f law a b xs ys s t fits p q e = go (f.read 0 (xs ++ s)) (law.answers 0 (xs ++ s) fits)
  where
    go : (o : Outcome A W) → IsAnswer short f 0 (xs ++ s) o → (b ≡ a) × (ys ≡ xs)
    go (found v after rest) h =
        let one = h.only a xs s refl p in
        let two = h.only b ys t e q in
        (two.0 ∙ sym one.0, two.1 ∙ sym one.1)
    go (refused place why) (inl h) = absurd (h.none (record { value = a; octets = xs; rest = s; parts = refl; read = p }))
    go (refused place why) (inr h) =
        absurd (h.none_after (record {
          more = h.rest;
          are_octets = (octets_back h.front (h.octet ∷ h.rest) (subst IsOctets h.parts fits)).1;
          reading = record { value = a; octets = xs; rest = s; parts = append_assoc h.front (h.octet ∷ []) h.rest ∙ sym h.parts; read = p };
        }))

-- where one list is cut in two ways, one cut is after the other
pub cuts : (xs ys zs ws : List ℕ) → xs ++ ys ≡ zs ++ ws → ((d : List ℕ) × (zs ≡ xs ++ d) × (ys ≡ d ++ ws)) ⊎ ((d : List ℕ) × (xs ≡ zs ++ d) × (ws ≡ d ++ ys))
cuts [] ys zs ws e = inl (zs, refl, e)
cuts (x ∷ xs) ys [] ws e = inr (x ∷ xs, refl, sym e)
cuts (x ∷ xs) ys (z ∷ zs) ws e =
    let head : x ≡ z = cc in
    let tail : xs ++ ys ≡ zs ++ ws = cc in
    elim (cuts xs ys zs ws tail) [
      | inl (d, p, q) ↦ inl (d, rw (sym head) (ap (λ (l : List ℕ). x ∷ l) p), q)
      | inr (d, p, q) ↦ inr (d, rw head (ap (λ (l : List ℕ). z ∷ l) p), q)
    ]

module _ {A B W : Type 0} (first : Field A W) (second : A → Field B W) (short : W) (self : IsSelfContained first) (law : IsLawful short first) (laws : (a : A) (octets rest : List ℕ) → first.reads a octets rest → IsLawful short (second a)) where
  -- a reading of both begins with one of the first
  first_part : (input : List ℕ) → HasReading (first >>= second) input → HasReading first input
  first_part input r = record {
    value = r.read.choice;
    octets = r.read.front;
    rest = r.read.back ++ r.rest;
    parts = r.parts ∙ ap (λ (l : List ℕ). l ++ r.rest) r.read.parts ∙ append_assoc r.read.front r.read.back r.rest;
    read = r.read.of_first;
  }

  -- and goes on with one of the second
  second_part : (a : A) (xs ys rest : List ℕ) → IsOctets (xs ++ ys) → first.reads a xs rest → HasReading (first >>= second) (xs ++ ys) → HasReading (second a) ys
  unfolding first_part
  second_part a xs ys rest fits p r =
      let whole : xs ++ ys ≡ r.read.front ++ (r.read.back ++ r.rest) = (first_part (xs ++ ys) r).parts in
      let same = agree short first law a r.read.choice xs r.read.front ys (r.read.back ++ r.rest) fits (self a xs rest ys p) r.read.of_first whole in
      let back : ys ≡ r.read.back ++ r.rest = same_back xs ys (r.read.back ++ r.rest) (whole ∙ ap (λ (l : List ℕ). l ++ (r.read.back ++ r.rest)) same.1) in
      record {
        value = r.value;
        octets = r.read.back;
        rest = r.rest;
        parts = back;
        read = subst (λ (c : A). (second c).reads r.value r.read.back r.rest) same.0 r.read.of_second;
      }

  both_parts : (a : A) (xs ys rest : List ℕ) → first.reads a xs rest → HasReading (second a) ys → HasReading (first >>= second) (xs ++ ys)
  both_parts a xs ys rest p r = record {
    value = r.value;
    octets = xs ++ r.octets;
    rest = r.rest;
    parts = ap (λ (l : List ℕ). xs ++ l) r.parts ∙ sym (append_assoc xs r.octets r.rest);
    read = record { choice = a; front = xs; back = r.octets; parts = refl; of_first = self a xs rest (r.octets ++ r.rest) p; of_second = r.read };
  }

  -- inside the first
  goes_on_first : (front : List ℕ) → ¬ HasReading first front → CanContinue first front → CanContinue (first >>= second) front
  goes_on_first front none some =
      let r = some.reading in
      elim (cuts front some.more r.octets r.rest r.parts) [
        | inl (d, p, q) ↦
            let next = (laws r.value r.octets r.rest r.read).starts in
            record {
              more = d ++ next.more;
              are_octets = octets-append d next.more (octets_front d r.rest (subst IsOctets q some.are_octets)) next.are_octets;
              reading = subst (HasReading (first >>= second)) (ap (λ (l : List ℕ). l ++ next.more) p ∙ append_assoc front d next.more) (both_parts r.value r.octets next.more r.rest r.read next.reading);
            }
        | inr (d, p, q) ↦ absurd (none (record { value = r.value; octets = r.octets; rest = d; parts = p; read = self r.value r.octets r.rest d r.read }))
      ]

  stays_first : (front : List ℕ) → ¬ CanContinue first front → ¬ CanContinue (first >>= second) front
  stays_first front none some = none (record { more = some.more; are_octets = some.are_octets; reading = first_part (front ++ some.more) some.reading })

  goes_on_second : (a : A) (xs ys rest : List ℕ) → first.reads a xs rest → CanContinue (second a) ys → CanContinue (first >>= second) (xs ++ ys)
  goes_on_second a xs ys rest p some = record {
    more = some.more;
    are_octets = some.are_octets;
    reading = subst (HasReading (first >>= second)) (sym (append_assoc xs ys some.more)) (both_parts a xs (ys ++ some.more) rest p some.reading);
  }

  stays_second : (a : A) (xs ys rest : List ℕ) → IsOctets (xs ++ ys) → first.reads a xs rest → ¬ CanContinue (second a) ys → ¬ CanContinue (first >>= second) (xs ++ ys)
  stays_second a xs ys rest fits p none some =
      let grouped : (xs ++ ys) ++ some.more ≡ xs ++ (ys ++ some.more) = append_assoc xs ys some.more in
      none (record {
        more = some.more;
        are_octets = some.are_octets;
        reading = second_part a xs (ys ++ some.more) rest (subst IsOctets grouped (octets-append (xs ++ ys) some.more fits some.are_octets)) p (subst (HasReading (first >>= second)) grouped some.reading);
      })

  second_answers : (at : ℕ) (input : List ℕ) → IsOctets input → (a : A) (after : ℕ) (rest : List ℕ) → IsReading first at input a after rest → (o : Outcome B W) → IsAnswer short (second a) after rest o → IsAnswer short (first >>= second) at input o
  second_answers at input fits a after rest h (found value end left) g = record {
    octets = h.octets ++ g.octets;
    parts = h.parts ∙ ap (λ (l : List ℕ). h.octets ++ l) g.parts ∙ sym (append_assoc h.octets g.octets left);
    after_is = omega (arith, h.after_is, g.after_is, length-append h.octets g.octets);
    read = record { choice = a; front = h.octets; back = g.octets; parts = refl; of_first = self a h.octets rest (g.octets ++ left) h.read; of_second = g.read };
    only = λ other others remain e r.
        let whole : input ≡ r.front ++ (r.back ++ remain) = e ∙ ap (λ (l : List ℕ). l ++ remain) r.parts ∙ append_assoc r.front r.back remain in
        let one = h.only r.choice r.front (r.back ++ remain) whole r.of_first in
        let back : rest ≡ r.back ++ remain = same_back h.octets rest (r.back ++ remain) (sym h.parts ∙ whole ∙ ap (λ (l : List ℕ). l ++ (r.back ++ remain)) one.1) in
        let two = g.only other r.back remain back (subst (λ (c : A). (second c).reads other r.back remain) one.0 r.of_second) in
        (two.0, r.parts ∙ ap (λ (l : List ℕ). l ++ r.back) one.1 ∙ ap (λ (l : List ℕ). h.octets ++ l) two.1);
  }
  second_answers at input fits a after rest h (refused place why) (inl g) = inl (record {
    why_is = g.why_is;
    place_is = omega (arith, h.after_is, g.place_is, ap length h.parts, length-append h.octets rest);
    none = λ r. g.none (second_part a h.octets rest rest (subst IsOctets h.parts fits) h.read (subst (HasReading (first >>= second)) h.parts r));
    some = subst (CanContinue (first >>= second)) (sym h.parts) (goes_on_second a h.octets rest rest h.read g.some);
  })
  second_answers at input fits a after rest h (refused place why) (inr g) =
      let whole : input ≡ (h.octets ++ g.front) ++ (g.octet ∷ g.rest) = h.parts ∙ ap (λ (l : List ℕ). h.octets ++ l) g.parts ∙ sym (append_assoc h.octets g.front (g.octet ∷ g.rest)) in
      let grouped : (h.octets ++ g.front) ++ (g.octet ∷ []) ≡ h.octets ++ (g.front ++ (g.octet ∷ [])) = append_assoc h.octets g.front (g.octet ∷ []) in
      let upto : IsOctets (h.octets ++ (g.front ++ (g.octet ∷ []))) = subst IsOctets grouped (octets_front ((h.octets ++ g.front) ++ (g.octet ∷ [])) g.rest (subst IsOctets (whole ∙ sym (append_assoc (h.octets ++ g.front) (g.octet ∷ []) g.rest)) fits)) in
      inr (record {
        front = h.octets ++ g.front;
        octet = g.octet;
        rest = g.rest;
        parts = whole;
        place_is = omega (arith, h.after_is, g.place_is, length-append h.octets g.front);
        before = goes_on_second a h.octets g.front rest h.read g.before;
        none_after = λ some. stays_second a h.octets (g.front ++ (g.octet ∷ [])) rest upto h.read g.none_after (subst (CanContinue (first >>= second)) grouped some);
        reason = inr (record { reading = record { value = a; octets = h.octets; rest = g.front; parts = refl; read = self a h.octets rest g.front h.read }; reason = g.reason });
      })

  first_answers : (at : ℕ) (input : List ℕ) → IsOctets input → (o : Outcome A W) → IsAnswer short first at input o → IsAnswer short (first >>= second) at input (read_then o second)
  first_answers at input fits (found a after rest) h =
      second_answers at input fits a after rest h ((second a).read after rest) ((laws a h.octets rest h.read).answers after rest (octets_back h.octets rest (subst IsOctets h.parts fits)))
  first_answers at input fits (refused place why) (inl h) = inl (record {
    why_is = h.why_is;
    place_is = h.place_is;
    none = λ r. h.none (first_part input r);
    some = goes_on_first input h.none h.some;
  })
  first_answers at input fits (refused place why) (inr h) =
      let none : ¬ HasReading first h.front = λ r. h.none_after (record {
        more = [];
        are_octets = tt;
        reading = record { value = r.value; octets = r.octets; rest = (r.rest ++ (h.octet ∷ [])) ++ []; parts = ap (λ (l : List ℕ). (l ++ (h.octet ∷ [])) ++ []) r.parts ∙ ap (λ (l : List ℕ). l ++ []) (append_assoc r.octets r.rest (h.octet ∷ [])) ∙ append_assoc r.octets (r.rest ++ (h.octet ∷ [])) []; read = self r.value r.octets r.rest ((r.rest ++ (h.octet ∷ [])) ++ []) r.read };
      }) in
      inr (record {
        front = h.front;
        octet = h.octet;
        rest = h.rest;
        parts = h.parts;
        place_is = h.place_is;
        before = goes_on_first h.front none h.before;
        none_after = stays_first (h.front ++ (h.octet ∷ [])) h.none_after;
        reason = inl (record { none = none; reason = h.reason });
      })

  -- THE LAW OF A CHAIN
  pub chain_lawful : IsLawful short (first >>= second)
  chain_lawful =
      let r = law.starts.reading in
      let next = (laws r.value r.octets r.rest r.read).starts in
      record {
        starts = record {
          more = r.octets ++ next.more;
          are_octets = octets-append r.octets next.more (octets_front r.octets r.rest (subst IsOctets r.parts law.starts.are_octets)) next.are_octets;
          reading = both_parts r.value r.octets next.more r.rest r.read next.reading;
        };
        answers = λ at input fits. first_answers at input fits (first.read at input) (law.answers at input fits);
        never_short = λ front octet r. elim r [
          | inl h ↦ law.never_short front octet h.reason
          | inr h ↦ (laws h.reading.value h.reading.octets h.reading.rest h.reading.read).never_short h.reading.rest octet h.reason
        ];
      }

pub chain_self_contained : {A B W : Type 0} (first : Field A W) (second : A → Field B W) → IsSelfContained first → ((a : A) → IsSelfContained (second a)) → IsSelfContained (first >>= second)
chain_self_contained first second p q value octets rest other r = record {
  choice = r.choice;
  front = r.front;
  back = r.back;
  parts = r.parts;
  of_first = p r.choice r.front (r.back ++ rest) (r.back ++ other) r.of_first;
  of_second = q r.choice value r.back rest other r.of_second;
}
