-- The states for which a sender's value stands, and what its calls answer.
use Rattle.std.specs.Prelude.{◌≡◌, ℕ, suc, ◌+◌, ◌-◌, ◌%◌, ◌<◌, Bool, if◌then◌else◌, List, [], ◌∷◌, ◌++◌, length, Option, Some, Result, Err}
use Rattle.sms_field.specs.Address.Value.{AddressValue}
use Rattle.sms_tpdu.specs.declared.user_data.concat.Width.{Width}
use Rattle.sms_join.specs.declared.units.Units.{Units}
use Rattle.sms_join.specs.Cut.{IsCut}
use Rattle.sms_join.specs.Segments.{AreNumbered}
use Rattle.sms_message.specs.declared.message.Message.{Message}
use Rattle.sms_message.specs.declared.outcome.Step.{Step}
use Rattle.sms_message.specs.declared.outcome.Dropped.{Dropped}
use Rattle.sms_message.specs.declared.outcome.Dropped.TheVariants as dropped
use Rattle.sms_party.specs.declared.sender.Status.{Status}
use Rattle.sms_party.specs.declared.sender.Status.TheVariants.{Accepted, Failed}
use Rattle.sms_message.specs.Message.{tag_of}
use Rattle.sms_message.specs.Message.Reading.{ReadsAs}
use Rattle.sms_party.specs.Sent.{nth, Sends, messages_of}
use Rattle.sms_message.specs.Does.{Does, Answered}
use Rattle.sms_party.specs.Sender.Texts.{Text, Sender, SenderState, new_senders, texts_of_phone, segments_of, sets_of, width_of, size_of}
use Rattle.sms_party.specs.Sender.Calls.{composes}
use Rattle.sms_party.specs.Sender.Answers.{sender_takes}
use Rattle.sms_party.specs.Sender.Value.{TextValue, SenderValue, status_among, all_waiting}

-- What is kept of a text is text n of those typed, which has this number at its phone.
pub record TextIs (phone number : ℕ) (texts : List Text) (v : TextValue) (n : ℕ) : Type 0 where
  pub text : Text
  pub is_there : nth texts n ≡ Some text
  pub phone_is : text.phone ≡ phone
  pub number_is : text.number ≡ number
  pub target_is : v.target ≡ text.target
  pub segments_are : AreNumbered text.pieces v.segments
  pub not_empty : 0 < length text.pieces
  pub reference_is : v.reference ≡ text.first_reference
  pub width_is : v.width ≡ text.width
  pub set_reference_is : v.set_reference ≡ text.set_reference

-- the texts that have not ended; the number says how many have
abbrev pub ArePending : ℕ → ℕ → List Text → List TextValue → List ℕ → Type 0
ArePending phone ended texts [] [] = Unit {0}
ArePending phone ended texts (v ∷ vs) (n ∷ ns) =
    TextIs phone (suc ended) texts v n × ArePending phone (suc ended) texts vs ns
ArePending phone ended texts _ _ = ⊥

-- a segment of the first text waits; where there is no text, none was accepted
abbrev pub IsUnaccepted : List Text → ℕ → List ℕ → Type 0
IsUnaccepted texts accepted [] = accepted ≡ 0
IsUnaccepted texts accepted (n ∷ later) = accepted < size_of (nth texts n)

abbrev pub status_if : Bool → Status
status_if good = if good then Accepted else Failed

-- how the texts that have ended did, the first typed first
abbrev pub statuses_of : List (ℕ × Bool) → List Status
statuses_of [] = []
statuses_of (e ∷ ended) = statuses_of ended ++ status_if e.1 ∷ []

-- the value keeps what is known of the sender, but for how often the waiting segment was put out
pub record Keeps (phone : ℕ) (wide reject : Bool) (texts : List Text) (v : SenderValue)
    (s : Sender) : Type 0 where
  pub width_is : v.width ≡ width_of wide
  pub reject_is : v.reject ≡ reject
  pub pending_are : ArePending phone (length v.ended) texts v.pending s.pending
  pub accepted_is : v.accepted ≡ s.accepted
  pub is_unaccepted : IsUnaccepted texts s.accepted s.pending
  pub ended_are : v.ended ≡ statuses_of s.ended
  pub count : texts_of_phone texts phone ≡ length v.ended + length v.pending
  pub message_reference_is : v.message_reference ≡ segments_of texts phone % 256
  pub set_reference_is : v.set_reference ≡ sets_of texts phone % (if wide then 65536 else 256)
  pub next_is : v.next ≡ tag_of s.outs
  pub latest_is : v.latest ≡ tag_of (s.outs - 1)

-- the waiting segment was put out once more than it was repeated
abbrev pub HasTries : List ℕ → ℕ → ℕ → Type 0
HasTries [] repeats tries = (repeats ≡ 0) × (tries ≡ 0)
HasTries (n ∷ later) repeats tries = tries ≡ suc repeats

-- The value stands for a phone's part of the state.
pub record SenderStands (phone : ℕ) (v : SenderValue) (x : SenderState) : Type 0 where
  pub keeps : Keeps phone x.wide x.reject x.texts v (x.sender phone)
  pub tries_are : HasTries (x.sender phone).pending v.repeats (x.sender phone).tries

-- what is put out, without what is kept beside it
abbrev pub in_messages : Sends SenderState → Does SenderState
in_messages d = record { answer = d.answer; put = messages_of d.put; after = d.after }

-- From each state that the old value stands for, as whichever phone, there is a step to one that
-- the new value stands for.
abbrev pub Steps : (SenderState → ℕ → Sends SenderState) → SenderValue → Result Step Dropped
    → SenderValue → Type 0
Steps does old result new =
    (phone : ℕ) (x : SenderState) → SenderStands phone old x
    → Answered (SenderStands phone new) x (in_messages (does x phone)) result

-- Octets come: they are read as a message, and the sender takes it. Or memory ran out, and nothing
-- has changed.
abbrev pub Receives : List ℕ → SenderValue → Result Step Dropped → SenderValue → Type 0
Receives octets old (Err dropped.Memory) new = new ≡ old
Receives octets old result new =
    (message : Message) × ReadsAs octets message
    × Steps (λ x phone. sender_takes x phone message) old result new

-- A text is typed: it has a cut, and the sender takes its pieces. Where too many texts wait,
-- whatever its pieces are. Or memory ran out, and nothing has changed.
abbrev pub Types : AddressValue → List ℕ → SenderValue → Result Step Dropped → SenderValue → Type 0
Types target text old (Err dropped.Memory) new = new ≡ old
Types target text old (Err dropped.Busy) new =
    (pieces : List Units)
    → Steps (λ x phone. composes x phone target text pieces) old (Err dropped.Busy) new
Types target text old result new =
    (pieces : List Units) × IsCut old.width text pieces
    × Steps (λ x phone. composes x phone target text pieces) old result new

-- Texts end in the order in which they were typed.
abbrev pub status_of : SenderState → ℕ → ℕ → Option Status
status_of x phone number =
    status_among (statuses_of (x.sender phone).ended ++ all_waiting (x.sender phone).pending) number

-- the answer of `status`, in each state that the value stands for
abbrev pub TellsStatus : SenderValue → ℕ → Option Status → Type 0
TellsStatus v number told =
    (phone : ℕ) (x : SenderState) → SenderStands phone v x → told ≡ status_of x phone number

-- the value stands for the phone before any text was typed, whichever phone it is
abbrev pub IsNewSender : Width → Bool → SenderValue → Type 0
IsNewSender width reject v =
    (phone : ℕ) (wide : Bool) → width ≡ width_of wide
    → SenderStands phone v (new_senders wide reject)
