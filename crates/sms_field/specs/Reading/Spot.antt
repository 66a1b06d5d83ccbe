-- Where a reader stands.
use Rattle.std.specs.Prelude.{ℕ, List}

-- the place of the next octet, and the octets that are left
pub record Spot : Type 0 where
  pub place : ℕ
  pub rest : List ℕ
