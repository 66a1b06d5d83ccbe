-- One field, and then another that may depend on its value.
use Rattle.std.specs.Prelude.{◌≡◌, ℕ, ◌⊎◌, List, ◌++◌}
use Rattle.sms_field.specs.Field.Lawful.{Outcome, found, refused, Field, HasReading}

-- a front is read by the first field, and what is left by the second
pub record ReadsBoth {A B W : Type 0} (first : Field A W) (second : A → Field B W) (value : B)
    (octets rest : List ℕ) : Type 0 where
  pub choice : A
  pub front : List ℕ
  pub back : List ℕ
  pub parts : octets ≡ front ++ back
  pub of_first : first.reads choice front (back ++ rest)
  pub of_second : (second choice).reads value back rest

-- The reason is that of the field in which the octet stands:
-- the second, where the front already has a reading of the first, else the first.
pub record ReasonInSecond {A B W : Type 0} (first : Field A W) (second : A → Field B W)
    (front : List ℕ) (octet : ℕ) (why : W) : Type 0 where
  pub reading : HasReading first front
  pub reason : (second reading.value).reason reading.rest octet why

pub record ReasonInFirst {A W : Type 0} (first : Field A W) (front : List ℕ) (octet : ℕ)
    (why : W) : Type 0 where
  pub none : ¬ HasReading first front
  pub reason : first.reason front octet why

abbrev pub read_then : {A B W : Type 0} → Outcome A W → (A → Field B W) → Outcome B W
read_then (found value after rest) second = (second value).read after rest
read_then (refused place why) second = refused place why

infixl 10 ◌>>=◌
abbrev pub ◌>>=◌ : {A B W : Type 0} → Field A W → (A → Field B W) → Field B W
first >>= second = record {
  reads = ReadsBoth first second;
  reason =
      λ front octet why. ReasonInFirst first front octet why
      ⊎ ReasonInSecond first second front octet why;
  read = λ at input. read_then (first.read at input) second;
}
