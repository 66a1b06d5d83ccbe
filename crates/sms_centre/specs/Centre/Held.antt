-- Which of the accepted messages the centre holds at a moment: those whose validity has not ended,
-- delivered or not. And the stamp that the next one gets. The lists have the newest acceptance
-- first.
use Rattle.std.specs.Prelude.{ℕ, suc, max, Bool, false, ◌&&◌, ◌||◌, if◌then◌else◌, ◌==◌, nat_lt, List, [], ◌∷◌}
use Rattle.sms_centre.specs.Centre.State.{Acceptance}

abbrev pub unended : List Acceptance → ℕ → List Acceptance
unended [] now = []
unended (a ∷ past) now = if nat_lt now a.ends then a ∷ unended past now else unended past now

-- A message with this originating phone, TP-MR and recipient is held: what tells a duplicate (3GPP
-- TS 23.040, 9.2.3.25).
abbrev pub is_held : List Acceptance → ℕ → ℕ → ℕ → ℕ → Bool
is_held [] phone reference recipient now = false
is_held (a ∷ past) phone reference recipient now =
    (nat_lt now a.ends
    && (a.phone == phone && (a.submission.reference == reference && a.recipient == recipient)))
    || is_held past phone reference recipient now

-- The moment, or one second after the last stamp given to the recipient where that is later: no two
-- messages to one phone have one TP-SCTS.
abbrev pub next_stamp : List Acceptance → ℕ → ℕ → ℕ
next_stamp [] recipient now = now
next_stamp (a ∷ past) recipient now =
    if a.recipient == recipient
    then max (suc a.stamp) (next_stamp past recipient now)
    else next_stamp past recipient now
