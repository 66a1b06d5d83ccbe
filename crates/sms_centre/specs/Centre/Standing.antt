-- The states of the machine for which the code of the centre stands.
use Rattle.std.specs.Prelude.{◌≡◌, ℕ, ◌≤◌, ◌<◌, max, List, [], ◌∷◌, All, length, Option, Some, None, slice_get}
use Rattle.sms_field.specs.Address.Value.{AddressValue}
use Rattle.sms_message.specs.Address.{address_of}
use Rattle.sms_message.specs.Message.{tag_of}
use Rattle.sms_centre.specs.Centre.State.{Acceptance, Pushing, Line, CentreState}
use Rattle.sms_centre.specs.Centre.Held.{unended, is_held, next_stamp}
use Rattle.sms_centre.specs.Centre.Value.{WaitingValue, LineValue, HeldValue, CentreValue, phones_of, endings_after}
use Rattle.sms_centre.specs.Centre.Kept.{key_of, is_kept}
use Rattle.sms_centre.specs.declared.centre.waiting.Push.{Push}

-- From this moment on the held messages are those of all that was accepted.
pub record HeldStands (clock : ℕ) (accepted : List Acceptance) (v : HeldValue) : Type 0 where
  -- none that has ended
  pub left : All (λ e. clock < e.end) v.endings
  -- as many as have not ended, at each moment
  pub count : (now : ℕ) → clock ≤ now
      → length (endings_after now v.endings) ≡ length (unended accepted now)
  pub kept : (phone reference recipient now : ℕ) → clock ≤ now
      → is_kept v.last (key_of phone reference recipient) now
      ≡ is_held accepted phone reference recipient now

abbrev pub waiting_of : List AddressValue → Acceptance → WaitingValue
waiting_of phones a =
    record {
      origin = address_of phones a.phone;
      submission = a.submission;
      stamp = a.stamp;
      ends = a.ends;
    }

abbrev pub waiting_in : List AddressValue → List Acceptance → List WaitingValue
waiting_in phones [] = []
waiting_in phones (a ∷ queue) = waiting_of phones a ∷ waiting_in phones queue

abbrev pub push_of : Option Pushing → Option Push
push_of None = None
push_of (Some p) =
    Some (record { tag = p.tag; stamp = p.message.stamp; ends = p.message.ends })

pub record LineStands (phones : List AddressValue) (clock : ℕ) (accepted : List Acceptance)
    (recipient : ℕ) (v : LineValue) (l : Line) : Type 0 where
  pub queue : v.queue ≡ waiting_in phones (unended l.queue clock)
  pub free : (now : ℕ) → next_stamp accepted recipient now ≡ max v.free now
  pub next : v.next ≡ tag_of l.pushes
  pub latest : v.latest ≡ push_of l.latest

-- The centre stands for a state at a moment: its limit and phones are these, it holds the messages
-- that have not ended then, and each line stands for that of its phone.
pub record StandsFor (limit : ℕ) (phones : List AddressValue) (clock : ℕ) (v : CentreValue)
    (c : CentreState) : Type 0 where
  pub limit_is : v.limit ≡ limit
  pub phones_are : phones_of v ≡ phones
  pub held_stand : HeldStands clock c.accepted v.held
  pub lines_stand : (r : ℕ) (line : LineValue) → slice_get v.lines r ≡ Some line
      → LineStands phones clock c.accepted r line (c.line r)
