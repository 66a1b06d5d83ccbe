-- A reader may pass this by: lemmas, for the proofs of this crate and of those above it.
--
-- A part whose first octet tells its kind is lawful where each kind is, none of which is no octet
-- where one stands.
use Rattle.std.proofs.Common.{◌≡◌, ℕ, ◌+◌, length, List, [], ◌∷◌, ◌++◌, Result, Ok, Err, refl, sym, ap, subst, ◌∙◌, arith, inl, inr}
use Rattle.sms_text.specs.Octets.{IsOctets}
use Rattle.sms_field.specs.Field.{Outcome, found, refused, Field, HasReading, CanContinue, IsFault, IsAnswer, IsLawful, octet_by, ◌>>=◌}
use Rattle.sms_card.specs.ByFirst.{StartsWith, reason_of, reason_by_first, read_as_kind, read_by_first, by_first}

abbrev good : {K W : Type 0} → K → Result K W
good k = Ok k

abbrev bad : {K W : Type 0} → W → Result K W
bad why = Err why

-- the kind that the first octet of a reading tells is that of the input
starts_of : {K W : Type 0} (kind : ℕ → Result K W) (o : ℕ) (xs : List ℕ) (c : K) (octets rest : List ℕ) → o ∷ xs ≡ octets ++ rest → StartsWith kind c octets → kind o ≡ Ok c
starts_of kind o xs c [] rest e s = absurd s
starts_of kind o xs c (p ∷ others) rest e s = let same : o ≡ p = cc in ap kind same ∙ s

same_kind : {K W : Type 0} (kind : ℕ → Result K W) (o : ℕ) (xs : List ℕ) (c k : K) (octets rest : List ℕ) → o ∷ xs ≡ octets ++ rest → StartsWith kind c octets → kind o ≡ Ok k → c ≡ k
same_kind {K} {W} kind o xs c k octets rest e s is =
    let both : good {K = K} {W = W} c ≡ good k = sym (starts_of kind o xs c octets rest e s) ∙ is in
    cc

nothing_starts : {K W : Type 0} (kind : ℕ → Result K W) (c : K) (octets rest : List ℕ) → [] ≡ octets ++ rest → StartsWith kind c octets → ⊥
nothing_starts kind c [] rest e s = s
nothing_starts kind c (p ∷ others) rest e s = absurd cc

module _ {K V W : Type 0} (short : W) (kind : ℕ → Result K W) (field : K → Field V W) (laws : (k : K) → IsLawful short (field k)) (needs : (k : K) (value : V) (octet : ℕ) (rest : List ℕ) → (field k).reads value [] (octet ∷ rest) → ⊥) (apart : (octet : ℕ) → kind octet ≡ Err short → ⊥) (some : CanContinue (by_first short kind field) []) where
  begins : (o : ℕ) (xs : List ℕ) (k : K) (v : V) (octets rest : List ℕ) → kind o ≡ Ok k → o ∷ xs ≡ octets ++ rest → (field k).reads v octets rest → StartsWith kind k octets
  begins o xs k v [] rest is e read = absurd (needs k v o xs (subst (λ (l : List ℕ). (field k).reads v [] l) (sym e) read))
  begins o xs k v (p ∷ others) rest is e read = let same : p ≡ o = cc in ap kind same ∙ is

  inner : (o : ℕ) (xs : List ℕ) (k : K) → kind o ≡ Ok k → HasReading (by_first short kind field) (o ∷ xs) → HasReading (field k) (o ∷ xs)
  inner o xs k is r = record {
    value = r.value;
    octets = r.octets;
    rest = r.rest;
    parts = r.parts;
    read = subst (λ (c : K). (field c).reads r.value r.octets r.rest) (same_kind kind o xs r.read.chosen k r.octets r.rest r.parts r.read.starts is) r.read.read;
  }

  outer : (o : ℕ) (xs : List ℕ) (k : K) → kind o ≡ Ok k → HasReading (field k) (o ∷ xs) → HasReading (by_first short kind field) (o ∷ xs)
  outer o xs k is r = record {
    value = r.value;
    octets = r.octets;
    rest = r.rest;
    parts = r.parts;
    read = record { chosen = k; starts = begins o xs k r.value r.octets r.rest is r.parts r.read; read = r.read };
  }

  inner_goes_on : (o : ℕ) (front : List ℕ) (k : K) → kind o ≡ Ok k → CanContinue (by_first short kind field) (o ∷ front) → CanContinue (field k) (o ∷ front)
  inner_goes_on o front k is c = record { more = c.more; are_octets = c.are_octets; reading = inner o (front ++ c.more) k is c.reading }

  outer_goes_on : (o : ℕ) (front : List ℕ) (k : K) → kind o ≡ Ok k → CanContinue (field k) (o ∷ front) → CanContinue (by_first short kind field) (o ∷ front)
  outer_goes_on o front k is c = record { more = c.more; are_octets = c.are_octets; reading = outer o (front ++ c.more) k is c.reading }

  fault_at : (at o : ℕ) (xs : List ℕ) (k : K) (place : ℕ) (why : W) → kind o ≡ Ok k → (front : List ℕ) (octet : ℕ) (rest : List ℕ) → o ∷ xs ≡ front ++ octet ∷ rest → (h : IsFault (field k) at (o ∷ xs) place why) → front ≡ h.front → octet ≡ h.octet → rest ≡ h.rest → IsFault (by_first short kind field) at (o ∷ xs) place why
  fault_at at o xs k place why is [] octet rest e h f p q =
      let same : octet ≡ o = cc in
      let it : kind octet ≡ Ok k = ap kind same ∙ is in
      let none : ¬ CanContinue (field k) (octet ∷ []) = λ c. h.none_after (subst (λ (l : List ℕ). CanContinue (field k) l) (ap (λ (l : List ℕ). l ++ (octet ∷ [])) f ∙ ap (λ (n : ℕ). h.front ++ (n ∷ [])) p) c) in
      let why_is : (field k).reason [] octet why = subst (λ (l : List ℕ). (field k).reason l octet why) (sym f) (subst (λ (n : ℕ). (field k).reason h.front n why) (sym p) h.reason) in
      record {
        front = [];
        octet = octet;
        rest = rest;
        parts = e;
        place_is = h.place_is ∙ ap (λ (l : List ℕ). at + length l) (sym f);
        before = some;
        none_after = λ c. none (inner_goes_on octet [] k it c);
        reason = subst (λ (m : Result K W). reason_of m field [] octet why) (sym it) why_is;
      }
  fault_at at o xs k place why is (first ∷ front) octet rest e h f p q =
      let same : first ≡ o = cc in
      let it : kind first ≡ Ok k = ap kind same ∙ is in
      let whole : List ℕ = first ∷ front in
      let none : ¬ CanContinue (field k) (first ∷ (front ++ (octet ∷ []))) = λ c. h.none_after (subst (λ (l : List ℕ). CanContinue (field k) l) (ap (λ (l : List ℕ). l ++ (octet ∷ [])) f ∙ ap (λ (n : ℕ). h.front ++ (n ∷ [])) p) c) in
      let why_is : (field k).reason (first ∷ front) octet why = subst (λ (l : List ℕ). (field k).reason l octet why) (sym f) (subst (λ (n : ℕ). (field k).reason h.front n why) (sym p) h.reason) in
      record {
        front = first ∷ front;
        octet = octet;
        rest = rest;
        parts = e;
        place_is = h.place_is ∙ ap (λ (l : List ℕ). at + length l) (sym f);
        before = outer_goes_on first front k it (subst (λ (l : List ℕ). CanContinue (field k) l) (sym f) h.before);
        none_after = λ c. none (inner_goes_on first (front ++ (octet ∷ [])) k it c);
        reason = subst (λ (m : Result K W). reason_of m field (first ∷ front) octet why) (sym it) why_is;
      }

  kind_answers : (at o : ℕ) (xs : List ℕ) (k : K) → kind o ≡ Ok k → (out : Outcome V W) → IsAnswer short (field k) at (o ∷ xs) out → IsAnswer short (by_first short kind field) at (o ∷ xs) out
  kind_answers at o xs k is (found v after rest) h = record {
    octets = h.octets;
    parts = h.parts;
    after_is = h.after_is;
    read = record { chosen = k; starts = begins o xs k v h.octets rest is h.parts h.read; read = h.read };
    only = λ other others left e p. h.only other others left e (subst (λ (c : K). (field c).reads other others left) (same_kind kind o xs p.chosen k others left e p.starts is) p.read);
  }
  kind_answers at o xs k is (refused place why) (inl h) = inl (record {
    why_is = h.why_is;
    place_is = h.place_is;
    none = λ r. h.none (inner o xs k is r);
    some = outer_goes_on o xs k is h.some;
  })
  kind_answers at o xs k is (refused place why) (inr h) = inr (fault_at at o xs k place why is h.front h.octet h.rest h.parts h refl refl refl)

  first_answers : (at o : ℕ) (xs : List ℕ) (m : Result K W) → kind o ≡ m → IsOctets (o ∷ xs) → IsAnswer short (by_first short kind field) at (o ∷ xs) (read_as_kind m field at (o ∷ xs))
  first_answers at o xs (Ok k) is fits = kind_answers at o xs k is ((field k).read at (o ∷ xs)) ((laws k).answers at (o ∷ xs) fits)
  first_answers at o xs (Err why) is fits = inr (record {
    front = [];
    octet = o;
    rest = xs;
    parts = refl;
    place_is = omega arith;
    before = some;
    none_after = λ c.
        let r = c.reading in
        let both : good {K = K} {W = W} r.read.chosen ≡ bad why = sym (starts_of kind o c.more r.read.chosen r.octets r.rest r.parts r.read.starts) ∙ is in
        absurd cc;
    reason = subst (λ (m : Result K W). reason_of m field [] o why) (sym is) refl;
  })

  by_first_answers : (at : ℕ) (input : List ℕ) → IsOctets input → IsAnswer short (by_first short kind field) at input (read_by_first short kind field at input)
  by_first_answers at [] fits = inl (record {
    why_is = refl;
    place_is = omega arith;
    none = λ r. nothing_starts kind r.read.chosen r.octets r.rest r.parts r.read.starts;
    some = some;
  })
  by_first_answers at (o ∷ xs) fits = first_answers at o xs (kind o) refl fits

  never_short_by : (m : Result K W) (front : List ℕ) (octet : ℕ) → (m ≡ Err short → ⊥) → reason_of m field front octet short → ⊥
  never_short_by (Ok k) front octet other r = (laws k).never_short front octet r
  never_short_by (Err why) front octet other r = other (ap (λ (w : W). bad {K = K} {W = W} w) (sym r))

  never_short_here : (front : List ℕ) (octet : ℕ) → reason_by_first kind field front octet short → ⊥
  never_short_here [] octet r = never_short_by (kind octet) [] octet (apart octet) r
  never_short_here (first ∷ front) octet r = never_short_by (kind first) (first ∷ front) octet (apart first) r

  pub by_first_lawful : IsLawful short (by_first short kind field)
  by_first_lawful = record { starts = some; answers = by_first_answers; never_short = never_short_here }

-- a part whose first octet tells its kind is not read of nothing
pub by_first_unread : {K V W : Type 0} (short : W) (kind : ℕ → Result K W) (field : K → Field V W) → ¬ HasReading (by_first short kind field) []
by_first_unread short kind field r = nothing_starts kind r.read.chosen r.octets r.rest r.parts r.read.starts

-- ---- the first octet of a chain

-- the first octet has a meaning
pub record FirstMeans {A W : Type 0} (meaning : ℕ → Result A W) (octets : List ℕ) : Type 0 where
  pub octet : ℕ
  pub others : List ℕ
  pub value : A
  pub parts : octets ≡ octet ∷ others
  pub means : meaning octet ≡ Ok value

pub first_means : {A B W : Type 0} (short : W) (meaning : ℕ → Result A W) (second : A → Field B W) (v : B) (octets rest : List ℕ) → (octet_by short meaning >>= second).reads v octets rest → FirstMeans meaning octets
first_means short meaning second v octets rest r = record {
  octet = r.of_first.0;
  others = r.back;
  value = r.choice;
  parts = r.parts ∙ ap (λ (l : List ℕ). l ++ r.back) r.of_first.1;
  means = r.of_first.2;
}

pub first_means_before : {A W : Type 0} (meaning : ℕ → Result A W) (front back octets : List ℕ) → octets ≡ front ++ back → FirstMeans meaning front → FirstMeans meaning octets
first_means_before meaning front back octets e f = record {
  octet = f.octet;
  others = f.others ++ back;
  value = f.value;
  parts = e ∙ ap (λ (l : List ℕ). l ++ back) f.parts;
  means = f.means;
}

-- what means something to a unit tells its kind
pub starts_as_kind : {A K W X : Type 0} (meaning : ℕ → Result A W) (kind : ℕ → Result K X) (k : K) (octets : List ℕ) → ((octet : ℕ) (value : A) → meaning octet ≡ Ok value → kind octet ≡ Ok k) → FirstMeans meaning octets → StartsWith kind k octets
starts_as_kind meaning kind k octets tells f = subst (StartsWith kind k) (sym f.parts) (tells f.octet f.value f.means)

pub nothing_means_nothing : {A W : Type 0} (meaning : ℕ → Result A W) → FirstMeans meaning [] → ⊥
nothing_means_nothing meaning f = let none = f.parts in cc
