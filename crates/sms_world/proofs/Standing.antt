-- What the inductions over orderly runs carry. Lists have the newest entry first.
use Rattle.std.specs.Prelude.{◌≡◌, ℕ, ◌≤◌, List, map, take, length, Some}
use Rattle.std.specs.List.{AllByRecursion}
use Rattle.sms_field.specs.Address.Value.{AddressValue}
use Rattle.sms_join.specs.Arrivals.{Arrival, completed, open_pieces, IsOf, OpenApart}
use Rattle.sms_message.specs.Address.{phone_at}
use Rattle.sms_centre.specs.Centre.State.{Acceptance}
use Rattle.sms_party.specs.Sent.{nth}
use Rattle.sms_party.specs.Sender.Texts.{Text}
use Rattle.sms_party.specs.Receiver.State.{ReceiverState}
use Rattle.sms_world.specs.Machine.{Machine}
use Rattle.sms_world.specs.Texts.{size_in}
use Rattle.sms_world.specs.Texts.Keys.{stamp_given, texts_of}
use Rattle.sms_world.specs.Texts.Stands.{entry_in}
use Rattle.sms_world.specs.Claims.Pieces.{EachHasItsPiece}

-- the arrival is of a text that was typed to this phone, and is its piece
pub record ArrivalOf (phones : List AddressValue) (texts : List Text) (accepted : List Acceptance) (phone : ℕ) (a : Arrival) : Type 0 where
  pub text : Text
  pub found : nth texts a.text ≡ Some text
  pub recipient : phone_at phones text.target ≡ Some phone
  pub is_given : length text.pieces ≤ 1 → (moment : ℕ) × (stamp_given accepted (record { text = a.text; segment = 1 }) ≡ Some moment)
  pub is_of : IsOf (texts_of phones texts accepted) a

-- what stands at one phone
pub record ReceiverSound (remembered : ℕ) (phones : List AddressValue) (texts : List Text) (accepted : List Acceptance) (phone : ℕ) (x : ReceiverState) : Type 0 where
  pub taken : AllByRecursion (ArrivalOf phones texts accepted phone) x.taken
  -- the open sets are those of the open texts with just their taken segments
  pub open_sets : x.joiner.kept ≡ open_pieces (size_in texts) x.taken x.taken
  -- no two open texts have one key
  pub apart : OpenApart (texts_of phones texts accepted).key (size_in texts) x.taken
  -- the remembered keys are those of the last finished texts
  pub remembers : x.joiner.finished ≡ map (texts_of phones texts accepted).key (take remembered (completed (size_in texts) x.taken))
  -- the store holds each finished text once, in order
  pub store : x.store ≡ map (λ n. entry_in phones (nth texts n)) (completed (size_in texts) x.taken)

-- the four claims at once
pub record Sound (m : Machine) : Type 0 where
  pub once : EachHasItsPiece m
  pub receivers : (phone : ℕ) →
      ReceiverSound m.limits.remembered m.phones m.senders.texts m.centre.accepted phone (m.receiver phone)
