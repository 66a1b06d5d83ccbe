-- What a phone has taken: the segments of typed texts whose SMS-DELIVER came to it and was answered
-- with an RP-ACK. Segments count from 1. Where an open set is dropped by age, what was taken of its
-- text no longer counts.
use Rattle.std.specs.Prelude.{◌≡◌, ℕ, true, false, List}
use Rattle.sms_join.specs.Arrivals.{has_piece, is_done, has_text, open_texts}
use Rattle.sms_world.specs.Machine.{Machine}
use Rattle.sms_world.specs.Texts.{size_in}

-- The phone has taken this segment of the text.
abbrev pub IsTaken : Machine → ℕ → ℕ → ℕ → Type 0
IsTaken m phone n segment = has_piece (m.receiver phone).taken n segment ≡ true

-- It has taken every segment of the text, from the first to the last.
abbrev pub IsComplete : Machine → ℕ → ℕ → Type 0
IsComplete m phone n = is_done (size_in m.senders.texts) (m.receiver phone).taken n ≡ true

-- It has taken some segment of the text, and not every one: the text is open there.
abbrev pub IsOpen : Machine → ℕ → ℕ → Type 0
IsOpen m phone n =
    (has_text (m.receiver phone).taken n ≡ true)
    × (is_done (size_in m.senders.texts) (m.receiver phone).taken n ≡ false)

-- The texts that are open at the phone.
abbrev pub open_at : Machine → ℕ → List ℕ
open_at m phone =
    open_texts (size_in m.senders.texts) (m.receiver phone).taken (m.receiver phone).taken
