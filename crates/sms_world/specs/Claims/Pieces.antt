-- Where nothing is injected and repeats ask for rejection in time, every message of a segment has
-- that segment's piece, and each segment is accepted at most once, so that all its deliveries have
-- one stamp. Lists have the newest entry first.
use Rattle.std.specs.Prelude.{◌≡◌, ℕ, ◌<◌, ◌≤◌, Bool, false, List, [], ◌∷◌, length, Option, Some, None}
use Rattle.std.specs.List.{AllByRecursion}
use Rattle.sms_field.specs.Address.Value.{AddressValue}
use Rattle.sms_tpdu.specs.Submit.{Submission}
use Rattle.sms_tpdu.specs.Deliver.{Delivery}
use Rattle.sms_join.specs.UnitsOfText.{IsText}
use Rattle.sms_join.specs.Cut.{IsCut}
use Rattle.sms_message.specs.declared.message.TransferUnit.TheVariants.{Submit, Deliver}
use Rattle.sms_message.specs.declared.message.Relay.TheVariants.{Transfer, Answer}
use Rattle.sms_message.specs.declared.message.Message.{Message}
use Rattle.sms_message.specs.declared.message.Message.TheVariants.{Note, Data}
use Rattle.sms_field.specs.Time.Computed.{stamp_octets}
use Rattle.sms_message.specs.Address.{phone_at, address_of}
use Rattle.sms_message.specs.Message.{Origin}
use Rattle.sms_centre.specs.Centre.State.{Acceptance, CentreState}
use Rattle.sms_party.specs.Sent.{nth, Place, Centre, Phone, Sent}
use Rattle.sms_world.specs.Told.{Told}
use Rattle.sms_party.specs.Sender.Texts.{Text, Sender}
use Rattle.sms_party.specs.Sender.Segments.{submission_of}
use Rattle.sms_world.specs.Machine.{Machine, start}
use Rattle.sms_script.specs.declared.script.limits.Limits.{Limits}
use Rattle.sms_world.specs.Machine.Event.{Event}
use Rattle.sms_world.specs.Machine.Step.{RunWith}
use Rattle.sms_world.specs.Texts.{size_in}
use Rattle.sms_world.specs.Texts.Keys.{stamp_given}
use Rattle.sms_world.specs.Orderly.{SubmissionsAreOrderly}

-- the pieces are the cut of the characters
pub record HasCut (t : Text) : Type 0 where
  pub is_text : IsText t.characters
  pub is_cut : IsCut t.width t.characters t.pieces

pub record IsSegmentOf (texts : List Text) (o : Origin) (t : Text) : Type 0 where
  pub found : nth texts o.text ≡ Some t
  pub from_one : 0 < o.segment
  pub within : o.segment ≤ length t.pieces

pub record SubmissionOf (texts : List Text) (phone : ℕ) (s : Submission) (o : Origin) : Type 0 where
  pub text : Text
  pub segment : IsSegmentOf texts o text
  pub sender : text.phone ≡ phone
  pub reject : Bool
  pub is : s ≡ submission_of text o.segment reject

pub record AcceptanceOf (phones : List AddressValue) (texts : List Text)
    (accepted : List Acceptance) (a : Acceptance) (o : Origin) : Type 0 where
  pub text : Text
  pub segment : IsSegmentOf texts o text
  pub sender : a.phone ≡ text.phone
  pub reject : Bool
  pub is : a.submission ≡ submission_of text o.segment reject
  pub recipient : phone_at phones text.target ≡ Some a.recipient
  pub given : stamp_given accepted o ≡ Some a.stamp

pub record DeliveryOf (phones : List AddressValue) (texts : List Text) (accepted : List Acceptance)
    (phone : ℕ) (d : Delivery) (o : Origin) : Type 0 where
  pub text : Text
  pub segment : IsSegmentOf texts o text
  pub origin : d.origin ≡ address_of phones text.phone
  pub dcs : d.dcs ≡ (submission_of text o.segment false).dcs
  pub user : d.user ≡ (submission_of text o.segment false).user
  pub recipient : phone_at phones text.target ≡ Some phone
  pub moment : ℕ
  pub given : stamp_given accepted o ≡ Some moment
  pub stamp : d.stamp ≡ stamp_octets moment

-- the acceptance is of a segment of a typed text
abbrev pub IsTyped : List AddressValue → List Text → List Acceptance → Acceptance → Type 0
IsTyped phones texts accepted a =
    (o : Origin) × (a.origin ≡ Some o) × AcceptanceOf phones texts accepted a o

-- The message has its piece: a submission or a delivery is of a segment of a typed text, and has
-- that text's piece. A CP-ACK, a CP-ERROR and an answer have none, and no other message is put out.
abbrev pub HasItsPiece : List AddressValue → List Text → List Acceptance → Message → Place
    → Option Origin → Type 0
HasItsPiece phones texts accepted (Note flag value) to origin = Unit {0}
HasItsPiece phones texts accepted (Data _ _ (Answer side cause report)) to origin = Unit {0}
HasItsPiece phones texts accepted (Data _ _ (Transfer _ (Submit s))) (Centre phone) (Some o) =
    SubmissionOf texts phone s o
HasItsPiece phones texts accepted (Data _ _ (Transfer _ (Deliver d))) (Phone phone) (Some o) =
    DeliveryOf phones texts accepted phone d o
HasItsPiece phones texts accepted _ to origin = ⊥

-- what was put out has its piece
abbrev pub IsSentOf : List AddressValue → List Text → List Acceptance → Sent → Type 0
IsSentOf phones texts accepted x = HasItsPiece phones texts accepted x.message x.to x.origin

abbrev pub IsPending : List Text → ℕ → ℕ → Type 0
IsPending texts phone n =
    (t : Text) × (nth texts n ≡ Some t) × (t.phone ≡ phone) × (0 < length t.pieces)

-- how far the first pending text is
abbrev pub IsUnderWay : List Text → List ℕ → ℕ → Type 0
IsUnderWay texts [] accepted = accepted ≡ 0
IsUnderWay texts (n ∷ later) accepted = accepted < size_in texts n

-- no two accepted submissions are of one segment
abbrev pub AcceptedOnce : List Acceptance → Type 0
AcceptedOnce [] = Unit {0}
AcceptedOnce (a ∷ past) =
    ((o : Origin) → a.origin ≡ Some o → stamp_given past o ≡ None) × AcceptedOnce past

pub record SenderSound (texts : List Text) (phone : ℕ) (s : Sender) : Type 0 where
  pub pending : AllByRecursion (IsPending texts phone) s.pending
  pub under_way : IsUnderWay texts s.pending s.accepted

pub record CentreSound (phones : List AddressValue) (texts : List Text)
    (c : CentreState) : Type 0 where
  pub accepted : AllByRecursion (IsTyped phones texts c.accepted) c.accepted
  pub once : AcceptedOnce c.accepted
  pub queued : (r : ℕ)
      → AllByRecursion (λ a. (a.recipient ≡ r) × IsTyped phones texts c.accepted a) (c.line r).queue

-- The pieces of each typed text are its cut; every message of a segment has its text's piece; and
-- each segment is accepted at most once, so that all deliveries of it have one stamp.
pub record EachHasItsPiece (m : Machine) : Type 0 where
  pub texts : AllByRecursion HasCut m.senders.texts
  pub senders : (phone : ℕ) → SenderSound m.senders.texts phone (m.senders.sender phone)
  pub centre : CentreSound m.phones m.senders.texts m.centre
  pub sent : AllByRecursion (IsSentOf m.phones m.senders.texts m.centre.accepted) m.sent

abbrev pub EachMessageHasItsPiece : Type 0
EachMessageHasItsPiece =
    (limits : Limits) (phones : List AddressValue) (past : List (Event × Told)) (m : Machine)
    → RunWith SubmissionsAreOrderly (start limits phones) past m → EachHasItsPiece m
