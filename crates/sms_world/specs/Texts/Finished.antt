-- The texts that have finished at a phone: those of which it has taken every segment, in order of
-- completion, the one that was completed last first.
use Rattle.std.specs.Prelude.{◌≡◌, ℕ, true, false, List, take}
use Rattle.sms_join.specs.Arrivals.{completed, is_listed}
use Rattle.sms_world.specs.Machine.{Machine}
use Rattle.sms_world.specs.Texts.{size_in}

unfoldable pub finished : Machine → ℕ → List ℕ
finished m phone = completed (size_in m.senders.texts) (m.receiver phone).taken

-- The text has finished at the phone.
abbrev pub HasFinished : Machine → ℕ → ℕ → Type 0
HasFinished m phone n = is_listed (finished m phone) n ≡ true

-- It has not.
abbrev pub IsUnfinished : Machine → ℕ → ℕ → Type 0
IsUnfinished m phone n = is_listed (finished m phone) n ≡ false

-- The text is among the last that finished at the phone, as many as it remembers keys.
abbrev pub IsAmongLast : Machine → ℕ → ℕ → Type 0
IsAmongLast m phone n = is_listed (take m.limits.remembered (finished m phone)) n ≡ true
