-- What a field of a transfer unit is, and when it is lawful (octets and their order: 3GPP TS
-- 23.040, 9.1).
use Rattle.std.specs.Prelude.{◌≡◌, ℕ, ◌+◌, ◌⊎◌, List, [], ◌∷◌, ◌++◌, length}
use Rattle.sms_text.specs.Octets.{IsOctets}

-- What reading gives: a value, the place after it and the octets that are left; or the place of a
-- refusal, and why.
pub data Outcome (V W : Type 0) : Type 0 where
  found : V → ℕ → List ℕ → Outcome V W
  refused : ℕ → W → Outcome V W

pub record Field (V W : Type 0) : Type 1 where
  -- reads value octets rest: these octets are read as the value, where the rest follows
  pub reads : V → List ℕ → List ℕ → Type 0
  -- reason front octet why: why an octet that cannot stand after this front is refused
  pub reason : List ℕ → ℕ → W → Type 0
  -- the plain reader: from a place and the octets from there on
  pub read : ℕ → List ℕ → Outcome V W

-- the first octets of the input are read as a value
pub record HasReading {V W : Type 0} (f : Field V W) (input : List ℕ) : Type 0 where
  pub value : V
  pub octets : List ℕ
  pub rest : List ℕ
  pub parts : input ≡ octets ++ rest
  pub read : f.reads value octets rest

-- some continuation of the front by octets has a reading
pub record CanContinue {V W : Type 0} (f : Field V W) (front : List ℕ) : Type 0 where
  pub more : List ℕ
  pub are_octets : IsOctets more
  pub reading : HasReading f (front ++ more)

-- the value is read from the input, which leaves the rest, and nothing else is
pub record IsReading {V W : Type 0} (f : Field V W) (at : ℕ) (input : List ℕ) (value : V)
    (after : ℕ) (rest : List ℕ) : Type 0 where
  pub octets : List ℕ
  pub parts : input ≡ octets ++ rest
  pub after_is : after ≡ at + length octets
  pub read : f.reads value octets rest
  pub only : (other : V) (others left : List ℕ) → input ≡ others ++ left → f.reads other others left
      → (other ≡ value) × (others ≡ octets)

-- octets are missing at the end: no reading yet, and one further on
pub record IsShort {V W : Type 0} (short : W) (f : Field V W) (at : ℕ) (input : List ℕ) (place : ℕ)
    (why : W) : Type 0 where
  pub why_is : why ≡ short
  pub place_is : place ≡ at + length input
  pub none : ¬ HasReading f input
  pub some : CanContinue f input

-- the first octet after which no continuation has a reading
pub record IsFault {V W : Type 0} (f : Field V W) (at : ℕ) (input : List ℕ) (place : ℕ)
    (why : W) : Type 0 where
  pub front : List ℕ
  pub octet : ℕ
  pub rest : List ℕ
  pub parts : input ≡ front ++ octet ∷ rest
  pub place_is : place ≡ at + length front
  pub before : CanContinue f front
  pub none_after : ¬ CanContinue f (front ++ octet ∷ [])
  pub reason : f.reason front octet why

-- what the plain reader may answer: the reading, or the place and the reason of a refusal
abbrev pub IsAnswer : {V W : Type 0} → W → Field V W → ℕ → List ℕ → Outcome V W → Type 0
IsAnswer short f at input (found value after rest) = IsReading f at input value after rest
IsAnswer short f at input (refused place why) =
    IsShort short f at input place why ⊎ IsFault f at input place why

-- whether octets are read does not depend on what follows them
abbrev pub IsSelfContained : {V W : Type 0} → Field V W → Type 0
IsSelfContained {V} f =
    (value : V) (octets rest other : List ℕ) → f.reads value octets rest
    → f.reads value octets other

-- the plain reader answers as the readings say
pub record IsLawful {V W : Type 0} (short : W) (f : Field V W) : Type 0 where
  pub starts : CanContinue f []
  pub answers : (at : ℕ) (input : List ℕ) → IsOctets input
      → IsAnswer short f at input (f.read at input)
  -- a fault is never called short
  pub never_short : (front : List ℕ) (octet : ℕ) → f.reason front octet short → ⊥
