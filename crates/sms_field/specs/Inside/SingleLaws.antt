-- A reader may pass this by: lemmas, for the proofs of this crate and of those above it.
--
-- The single fields are lawful.
use Rattle.std.proofs.Common.{◌≡◌, ℕ, zero, suc, ◌+◌, ◌-◌, ◌<◌, ◌≤◌, Bool, true, false, cond, ltb, List, [], ◌∷◌, ◌++◌, length, take, drop, replicate, Result, Ok, Err, refl, sym, ap, subst, ◌∙◌, arith, inl, inr, length-append}
use Rattle.std.proofs.lemmas.Bool.{ltb-true, ltb-false}
use Rattle.std.proofs.lemmas.List.{take_at, take-append-drop, length-take, length-replicate, append-nil}
use Rattle.sms_text.specs.Octets.{IsOctets}
use Rattle.sms_field.specs.Field.{Outcome, found, refused, Field, HasReading, CanContinue, IsAnswer, IsSelfContained, IsLawful, always, octet_at, octet, found_if, judged, octet_by, octets_of, map_reason_outcome, map_reason}

nothing_left : (xs ys : List ℕ) → [] ≡ xs ++ ys → xs ≡ []
nothing_left [] ys e = refl
nothing_left (x ∷ xs) ys e = absurd cc

pub always_self : {V : Type 0} (W : Type 0) (value : V) → IsSelfContained (always {V = V} {W = W} value)
always_self W value other octets rest more p = p

pub always_lawful : {V W : Type 0} (short : W) (value : V) → IsLawful short (always {V = V} {W = W} value)
always_lawful short value = record {
  starts = record { more = []; are_octets = tt; reading = record { value = value; octets = []; rest = []; parts = refl; read = (refl, refl) } };
  answers = λ at input fits. record { octets = []; parts = refl; after_is = omega arith; read = (refl, refl); only = λ other others left e p. p };
  never_short = λ front octet r. r;
}

pub octet_self : {W : Type 0} (short : W) → IsSelfContained (octet short)
octet_self short other octets rest more p = p

octet_answers : {W : Type 0} (short : W) (at : ℕ) (input : List ℕ) → IsOctets input → IsAnswer short (octet short) at input (octet_at short at input)
octet_answers short at [] fits = inl (record {
  why_is = refl;
  place_is = omega arith;
  none = λ r. absurd (let e : [] ≡ r.value ∷ r.rest = r.parts ∙ ap (λ (l : List ℕ). l ++ r.rest) r.read in cc);
  some = record { more = 0 ∷ []; are_octets = (omega arith, tt); reading = record { value = 0; octets = 0 ∷ []; rest = []; parts = refl; read = refl } };
})
octet_answers short at (o ∷ rest) fits = record {
  octets = o ∷ [];
  parts = refl;
  after_is = refl;
  read = refl;
  only = λ other others left e p. let whole : o ∷ rest ≡ other ∷ left = e ∙ ap (λ (l : List ℕ). l ++ left) p in (cc, cc);
}

pub octet_lawful : {W : Type 0} (short : W) → IsLawful short (octet short)
octet_lawful short = record {
  starts = record { more = 0 ∷ []; are_octets = (omega arith, tt); reading = record { value = 0; octets = 0 ∷ []; rest = []; parts = refl; read = refl } };
  answers = octet_answers short;
  never_short = λ front octet r. r;
}

pub octet_by_self : {V W : Type 0} (short : W) (meaning : ℕ → Result V W) → IsSelfContained (octet_by short meaning)
octet_by_self short meaning other octets rest more p = p

module _ {V W : Type 0} (short : W) (meaning : ℕ → Result V W) (some : (o : ℕ) × (o < 256) × (v : V) × (meaning o ≡ Ok v)) (apart : (o : ℕ) → meaning o ≡ Err short → ⊥) where
  octet_by_starts : CanContinue (octet_by short meaning) []
  octet_by_starts = record { more = some.0 ∷ []; are_octets = (some.1, tt); reading = record { value = some.2; octets = some.0 ∷ []; rest = []; parts = refl; read = (some.0, refl, some.3) } }

  accepted : (at : ℕ) (o : ℕ) (rest : List ℕ) → (m : Result V W) → meaning o ≡ m → IsAnswer short (octet_by short meaning) at (o ∷ rest) (found_if m at (at + 1) rest)
  accepted at o rest (Err why) is = inr (record {
    front = [];
    octet = o;
    rest = rest;
    parts = refl;
    place_is = omega arith;
    before = octet_by_starts;
    none_after = λ c. absurd (
        let r = c.reading in
        let e : o ∷ c.more ≡ r.read.0 ∷ r.rest = r.parts ∙ ap (λ (l : List ℕ). l ++ r.rest) r.read.1 in
        let same : o ≡ r.read.0 = cc in
        let none : Err why ≡ Ok r.value = sym is ∙ ap meaning same ∙ r.read.2 in
        cc);
    reason = is;
  })
  accepted at o rest (Ok v) is = record {
    octets = o ∷ [];
    parts = refl;
    after_is = refl;
    read = (o, refl, is);
    only = λ other others left e p.
        let whole : o ∷ rest ≡ p.0 ∷ left = e ∙ ap (λ (l : List ℕ). l ++ left) p.1 in
        let same : p.0 ≡ o = cc in
        let both : meaning o ≡ Ok other = ap meaning (sym same) ∙ p.2 in
        (cc, p.1 ∙ ap (λ (n : ℕ). n ∷ []) same);
  }

  octet_by_answers : (at : ℕ) (input : List ℕ) → IsOctets input → IsAnswer short (octet_by short meaning) at input (judged meaning at (octet_at short at input))
  octet_by_answers at [] fits = inl (record {
    why_is = refl;
    place_is = omega arith;
    none = λ r. absurd (let e : [] ≡ r.read.0 ∷ r.rest = r.parts ∙ ap (λ (l : List ℕ). l ++ r.rest) r.read.1 in cc);
    some = octet_by_starts;
  })
  octet_by_answers at (o ∷ rest) fits = accepted at o rest (meaning o) refl

  pub octet_by_lawful : IsLawful short (octet_by short meaning)
  octet_by_lawful = record { starts = octet_by_starts; answers = octet_by_answers; never_short = λ front octet r. apart octet r }

pub octets_of_self : {W : Type 0} (short : W) (n : ℕ) → IsSelfContained (octets_of short n)
octets_of_self short n other octets rest more p = p

zeros_are_octets : (n : ℕ) → IsOctets (replicate n 0)
zeros_are_octets zero = tt
zeros_are_octets (suc n) = (omega arith, zeros_are_octets n)

octets_of_answers : {W : Type 0} (short : W) (n at : ℕ) (input : List ℕ) → (b : Bool) → ltb (length input) n ≡ b → IsAnswer short (octets_of short n) at input (cond b (refused (at + length input) short) (found (take n input) (at + n) (drop n input)))
octets_of_answers short n at input true is =
    let few : length input < n = ltb-true _ _ is in
    let zeros : List ℕ = replicate (n - length input) 0 in
    inl (record {
      why_is = refl;
      place_is = refl;
      none = λ r. absurd (omega (arith, few, ap length r.parts, length-append r.octets r.rest, ap length r.read.0, r.read.1));
      some = record { more = zeros; are_octets = zeros_are_octets (n - length input); reading = record { value = input ++ zeros; octets = input ++ zeros; rest = []; parts = sym (append-nil (input ++ zeros)); read = (refl, omega (arith, few, length-append input zeros, length-replicate {A = ℕ} (n - length input) 0)) } };
    })
octets_of_answers short n at input false is =
    let enough : n ≤ length input = ltb-false _ _ is in
    let len : length (take n input) ≡ n = omega (arith, length-take n input) in
    record {
      octets = take n input;
      parts = sym (take-append-drop n input);
      after_is = ap (λ (k : ℕ). at + k) (sym len);
      read = (refl, len);
      only = λ other others left e p.
          let count : length others ≡ n = ap length p.0 ∙ p.1 in
          let same : others ≡ take n input = sym (ap (take n) e ∙ take_at others left n count) in
          (sym p.0 ∙ same, same);
    }

pub octets_of_lawful : {W : Type 0} (short : W) (n : ℕ) → IsLawful short (octets_of short n)
octets_of_lawful short n = record {
  starts = record { more = replicate n 0; are_octets = zeros_are_octets n; reading = record { value = replicate n 0; octets = replicate n 0; rest = []; parts = sym (append-nil (replicate n 0)); read = (refl, length-replicate {A = ℕ} n 0) } };
  answers = λ at input fits. octets_of_answers short n at input (ltb (length input) n) refl;
  never_short = λ front octet r. r;
}

module _ {V W X : Type 0} (short : W) (name : W → X) (apart : (why : W) → name short ≡ name why → short ≡ why) (f : Field V W) (law : IsLawful short f) where
  map_reason_reading : (input : List ℕ) → HasReading (map_reason name f) input → HasReading f input
  map_reason_reading input r = record { value = r.value; octets = r.octets; rest = r.rest; parts = r.parts; read = r.read }

  reading_map_reason : (input : List ℕ) → HasReading f input → HasReading (map_reason name f) input
  reading_map_reason input r = record { value = r.value; octets = r.octets; rest = r.rest; parts = r.parts; read = r.read }

  map_reason_goes_on : (front : List ℕ) → CanContinue (map_reason name f) front → CanContinue f front
  map_reason_goes_on front c = record { more = c.more; are_octets = c.are_octets; reading = map_reason_reading (front ++ c.more) c.reading }

  goes_on_map_reason : (front : List ℕ) → CanContinue f front → CanContinue (map_reason name f) front
  goes_on_map_reason front c = record { more = c.more; are_octets = c.are_octets; reading = reading_map_reason (front ++ c.more) c.reading }

  map_reason_answers : (at : ℕ) (input : List ℕ) (o : Outcome V W) → IsAnswer short f at input o → IsAnswer (name short) (map_reason name f) at input (map_reason_outcome name o)
  map_reason_answers at input (found value after rest) h = record { octets = h.octets; parts = h.parts; after_is = h.after_is; read = h.read; only = h.only }
  map_reason_answers at input (refused place why) (inl h) = inl (record {
    why_is = ap name h.why_is;
    place_is = h.place_is;
    none = λ r. h.none (map_reason_reading input r);
    some = goes_on_map_reason input h.some;
  })
  map_reason_answers at input (refused place why) (inr h) = inr (record {
    front = h.front;
    octet = h.octet;
    rest = h.rest;
    parts = h.parts;
    place_is = h.place_is;
    before = goes_on_map_reason h.front h.before;
    none_after = λ c. h.none_after (map_reason_goes_on (h.front ++ (h.octet ∷ [])) c);
    reason = (why, h.reason, refl);
  })

  pub map_reason_lawful : IsLawful (name short) (map_reason name f)
  map_reason_lawful = record {
    starts = goes_on_map_reason [] law.starts;
    answers = λ at input fits. map_reason_answers at input (f.read at input) (law.answers at input fits);
    never_short = λ front octet r. law.never_short front octet (subst (λ (w : W). f.reason front octet w) (sym (apart r.0 r.2)) r.1);
  }

-- a test whose refusal is not called short
pub apart_else : {A W : Type 0} (short : W) (b : Bool) (x : A) (why : W) → (why ≡ short → ⊥) → cond b (Ok x) (Err why) ≡ Err short → ⊥
apart_else short true x why other e = absurd cc
apart_else short false x why other e = let same : why ≡ short = cc in other same

pub apart_then : {A W : Type 0} (short : W) (b : Bool) (x : A) (why : W) → (why ≡ short → ⊥) → cond b (Err why) (Ok x) ≡ Err short → ⊥
apart_then short true x why other e = let same : why ≡ short = cc in other same
apart_then short false x why other e = absurd cc
