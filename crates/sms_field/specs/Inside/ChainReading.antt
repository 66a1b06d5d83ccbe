-- A reader may pass this by: lemmas, for the proofs of this crate and of those above it.
--
-- What a first field reads, and then a second one, is read by their chain.
use Rattle.std.proofs.Common.{ℕ, List, [], ◌++◌, refl, sym}
use Rattle.std.proofs.lemmas.List.{append-nil}
use Rattle.sms_field.specs.Field.{Field, ReadsBoth}

pub chained : {A B W : Type 0} (first : Field A W) (second : A → Field B W) (a : A) (value : B)
    (front back rest : List ℕ)
    → first.reads a front (back ++ rest) → (second a).reads value back rest
    → ReadsBoth first second value (front ++ back) rest
chained first second a value front back rest p q =
    record { choice = a; front = front; back = back; parts = refl; of_first = p; of_second = q }

-- where no octet is left for the second
pub ended : {A B W : Type 0} (first : Field A W) (second : A → Field B W) (a : A) (value : B)
    (front rest : List ℕ)
    → first.reads a front rest → (second a).reads value [] rest
    → ReadsBoth first second value front rest
ended first second a value front rest p q =
    record {
      choice = a;
      front = front;
      back = [];
      parts = sym (append-nil front);
      of_first = p;
      of_second = q;
    }
