-- No key is remembered twice, and none of a set that is open.
use Rattle.std.specs.Prelude.{◌≡◌, true, false, List, [], ◌∷◌}
use Rattle.sms_join.specs.declared.key.Key.{Key}
use Rattle.sms_join.specs.Joiner.Sets.{is_open}
use Rattle.sms_join.specs.Joiner.{Joiner, is_among}

abbrev pub NoneTwice : List Key → Type 0
NoneTwice [] = Unit {0}
NoneTwice (k ∷ ks) = (is_among ks k ≡ false) × NoneTwice ks

pub record AreDistinct (j : Joiner) : Type 0 where
  pub once : NoneTwice j.finished
  pub closed : (k : Key) → is_open j.kept k ≡ true → is_among j.finished k ≡ false
