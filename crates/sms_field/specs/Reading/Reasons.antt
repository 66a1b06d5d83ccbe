-- For what reason a field is refused, and that of its first octet.
use Rattle.std.specs.Prelude.{◌≡◌, ℕ, List, [], ◌∷◌, Result, Err}
use Rattle.sms_field.specs.Field.{Field, ◌>>=◌}

-- no octet is refused for this reason
abbrev pub Never : {V W : Type 0} → W → Field V W → Type 0
Never why f = (front : List ℕ) (octet : ℕ) → f.reason front octet why → ⊥

-- what neither of two fields is refused for, their chain is not
abbrev pub ChainNever : {A B W : Type 0} → Field A W → (A → Field B W) → Type 0
ChainNever {A} {B} {W} first second =
    (why : W) → Never why first → ((a : A) → Never why (second a)) → Never why (first >>= second)

-- the first octet is refused for this reason
abbrev pub StartsAs : {V W : Type 0} → (ℕ → Result V W) → W → List ℕ → Type 0
StartsAs meaning why [] = ⊥
StartsAs meaning why (octet ∷ rest) = meaning octet ≡ Err why
