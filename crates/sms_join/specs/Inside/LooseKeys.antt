-- A reader may pass this by: contracts of private functions, and proofs, alone cite it.
--
-- Keys of which the first are linked in chains: the oldest is the first.
use Rattle.std.specs.Prelude.{ℕ, List}
use Rattle.sms_join.specs.declared.hashing.Hashing.{Hashing}
use Rattle.sms_join.specs.declared.key.Key.{Key}

pub record LooseKeysValue : Type 0 where
  pub limit : ℕ
  pub keys : List Key
  pub hashing : Hashing
  -- how many are linked
  pub linked : ℕ
