-- What was put out, with its destination and with what is kept beside it.
use Rattle.std.specs.Prelude.{ℕ, ◌==◌, if◌then◌else◌, List, [], ◌∷◌, length, Option, Some, None, Result}
use Rattle.sms_message.specs.declared.message.Message.{Message}
use Rattle.sms_message.specs.declared.outcome.Outcome.{Outcome}
use Rattle.sms_message.specs.declared.outcome.Dropped.{Dropped}
use Rattle.sms_message.specs.Message.{Origin}

-- the n-th entry from the oldest on, counted from 0, of a list that has its newest entry first
abbrev pub nth : {X : Type 0} → List X → ℕ → Option X
nth [] n = None
nth (x ∷ xs) n = if n == length xs then Some x else nth xs n

pub data Place : Type 0 where
  -- to the centre, from this phone
  Centre : ℕ → Place
  -- to this phone, from the centre
  Phone : ℕ → Place

-- A message that was put out. Beside it: the segment of a typed text that a submission or delivery
-- is of, and which putting out of its sender, counted from 0, a submission is or an answer answers.
-- Neither is any part of the message.
pub record Sent : Type 0 where
  pub message : Message
  pub to : Place
  pub origin : Option Origin
  pub putting : Option ℕ

-- a message that is of no segment
unfoldable pub bare : Place → Message → Sent
bare to message = record { message = message; to = to; origin = None; putting = None }

-- what a party does: its answer, what it puts out, the first first, and its state afterwards
pub record Sends (S : Type 0) : Type 0 where
  pub answer : Result Outcome Dropped
  pub put : List Sent
  pub after : S

abbrev pub messages_of : List Sent → List Message
messages_of [] = []
messages_of (x ∷ xs) = x.message ∷ messages_of xs
