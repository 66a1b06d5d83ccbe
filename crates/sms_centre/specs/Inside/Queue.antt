-- A reader may pass this by: contracts of private functions, and proofs, alone cite it.
--
-- How the code keeps a queue: its messages by their stamps, the latest accepted or pushed first.
use Rattle.std.specs.Prelude.{◌≡◌, ℕ, ◌<◌, All, List, map, reverse, nat_eq}
use Rattle.std.specs.List.{IsDistinct}
use Rattle.std.specs.Map.{keys_of}
use Rattle.sms_centre.specs.Centre.Value.{WaitingValue}

-- the messages, in order of their latest acceptance or push
abbrev pub queue_of : List (ℕ × WaitingValue) → List WaitingValue
queue_of entries = reverse (map (λ e. e.1) entries)

-- Each message stands by its own stamp, which no other has and which is not free.
pub record IsQueue (entries : List (ℕ × WaitingValue)) (free : ℕ) : Type 0 where
  pub differ : IsDistinct nat_eq (keys_of entries)
  pub own : All (λ e. e.0 ≡ e.1.stamp) entries
  pub below : All (λ e. e.0 < free) entries
