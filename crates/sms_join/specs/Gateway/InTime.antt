-- A key is remembered just as long as its last finishing is not forgotten.
use Rattle.std.specs.Prelude.{◌≡◌, ℕ, true, false, List, slice_get, Option, Some}
use Rattle.sms_join.specs.declared.key.Key.{Key}
use Rattle.sms_join.specs.Key.{same_key}
use Rattle.sms_join.specs.Joiner.{is_among}
use Rattle.sms_join.specs.Gateway.Finishings.{is_forgotten, keys_at}

-- One of the keys is this one, and its finishing is not forgotten.
pub record HasInTime (longest : Option ℕ) (now : ℕ) (ks : List Key) (ms : List ℕ)
    (k : Key) : Type 0 where
  pub index : ℕ
  pub own : Key
  pub moment : ℕ
  pub there : slice_get ks index ≡ Some own
  pub same : same_key own k ≡ true
  pub finished : slice_get ms index ≡ Some moment
  pub in_time : is_forgotten longest now moment ≡ false

-- The keys that an aging leaves: each of which a finishing is not forgotten, and no other.
pub record RemembersInTime : Type 0 where
  pub each : (longest : Option ℕ) (now : ℕ) (ks : List Key) (ms : List ℕ) (k : Key)
      → HasInTime longest now ks ms k → is_among (keys_at longest now ks ms) k ≡ true
  pub only : (longest : Option ℕ) (now : ℕ) (ks : List Key) (ms : List ℕ) (k : Key)
      → is_among (keys_at longest now ks ms) k ≡ true → HasInTime longest now ks ms k
