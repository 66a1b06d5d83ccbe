-- What the service centre has ever accepted, and what it knows of each recipient. Lists of what was
-- have the newest first.
use Rattle.std.specs.Prelude.{ℕ, List, [], Option, None}
use Rattle.sms_tpdu.specs.Submit.{Submission}
use Rattle.sms_message.specs.Message.{Origin}
use Rattle.sms_message.specs.declared.message.Tag.{Tag}

-- A submission that was accepted from a phone for a recipient, with the stamp that it was given and
-- the end of its validity. Phones and recipients are numbers of phones, from 0.
pub record Acceptance : Type 0 where
  pub phone : ℕ
  pub submission : Submission
  pub recipient : ℕ
  -- the moment of its TP-SCTS, in seconds since the beginning of 2000
  pub stamp : ℕ
  -- the end of its validity, a moment too
  pub ends : ℕ
  pub origin : Option Origin

-- A message that was pushed, and the tag that it was given.
pub record Pushing : Type 0 where
  pub tag : Tag
  pub message : Acceptance

-- What the centre knows of one recipient.
pub record Line : Type 0 where
  -- what is neither delivered nor abandoned, in order of its latest acceptance or push
  pub queue : List Acceptance
  -- how many there were
  pub pushes : ℕ
  -- the latest push, until it is answered
  pub latest : Option Pushing

-- All that was ever accepted: nothing is removed from it. The lines are those of the phones by
-- number.
pub record CentreState : Type 0 where
  pub accepted : List Acceptance
  pub line : ℕ → Line

unfoldable pub new_centre : CentreState
new_centre = record { accepted = []; line = λ _. record { queue = []; pushes = 0; latest = None } }
