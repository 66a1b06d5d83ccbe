-- A reader may pass this by: contracts of private functions, and proofs, alone cite it.
--
-- The keys of the last sets that finished, the newest first, and how many of them are remembered.
use Rattle.std.specs.Prelude.{ℕ, List}
use Rattle.sms_join.specs.declared.hashing.Hashing.{Hashing}
use Rattle.sms_join.specs.declared.key.Key.{Key}

pub record LastKeysValue : Type 0 where
  pub limit : ℕ
  pub keys : List Key

-- The same of those that are found by their hashes, and how they are hashed.
pub record HashedKeysValue : Type 0 where
  pub limit : ℕ
  pub keys : List Key
  pub hashing : Hashing
