-- A reader may pass this by: contracts of private functions, and proofs, alone cite it.
--
-- How many sets there were at most, where some have gone.
use Rattle.std.specs.Prelude.{ℕ, suc, ◌*◌, ◌<◌, ◌≤◌, max}

-- There were no fewer than there are, and fewer than sixteen times as many as there are and one more,
-- where up to sixteen count as sixteen.
pub record Follows (count most : ℕ) : Type 0 where
  pub as_many : count ≤ most
  pub few_times : most < 16 * suc (max count 16)
