-- What the machine does at an event, where memory is ample: by cases of the event. Each party does
-- what its own definition says (the sender, the centre, the receiver); this file says which of them
-- an event is for, and keeps what is put out. Lists of what was have the newest entry first; what
-- is put out at one event has its first packet first.
use Rattle.std.specs.Prelude.{ℕ, zero, suc, ◌+◌, true, false, if◌then◌else◌, nat_lt, List, [], ◌∷◌, length, Option, Some, None, Ok, Err}
use Rattle.sms_message.specs.Message.{Origin}
use Rattle.sms_message.specs.declared.message.Message.{Message}
use Rattle.sms_message.specs.declared.message.Message.TheVariants.{NotCp, Note, Tiny, Data}
use Rattle.sms_message.specs.declared.outcome.Outcome.TheVariants.{Noted, Ticked}
use Rattle.sms_message.specs.declared.outcome.Dropped.TheVariants as dropped
use Rattle.sms_field.specs.Time.Computed.{end_of_2099}
use Rattle.sms_party.specs.Sent.{nth, Place, Centre, Phone, Sent, Sends, bare}
use Rattle.sms_message.specs.Does.{Does}
use Rattle.sms_party.specs.Sender.Texts.{size_of, SenderState}
use Rattle.sms_party.specs.Sender.Calls.{composes, times_out}
use Rattle.sms_party.specs.Sender.Answers.{sender_receives}
use Rattle.sms_centre.specs.Centre.State.{Pushing, CentreState}
use Rattle.sms_message.specs.Changed.{changed}
use Rattle.sms_centre.specs.Centre.{centre_receives}
use Rattle.sms_centre.specs.Centre.Pushes.{centre_pushes}
use Rattle.sms_party.specs.Receiver.{receiver_opened}
use Rattle.sms_party.specs.Receiver.Aging.{ages}
use Rattle.sms_party.specs.Receiver.State.{ReceiverLimits, limits_of, ReceiverState}
use Rattle.sms_script.specs.declared.script.limits.Limits.{Limits}
use Rattle.sms_world.specs.declared.fault.WorldFault.TheVariants.{NoSuchPacket, NoSuchPhone, ClockEnd, Party}
use Rattle.sms_world.specs.Told.{Told, of_party}
use Rattle.sms_world.specs.Machine.{Machine}
use Rattle.sms_world.specs.Machine.Event.{Act, TypesText, MovesPacket, EndsWait, HandsOver, MovesClock, SlipsIn}

-- a list that has the newest first, with these entered, the first of them first
abbrev pub entered : {X : Type 0} → List X → List X → List X
entered [] xs = xs
entered (y ∷ ys) xs = entered ys (y ∷ xs)

-- The answer, what is put out, the first packet first, and the machine afterwards.
pub record Next : Type 0 where
  pub answer : Told
  pub put : List Sent
  pub after : Machine

-- Nothing changes.
unfoldable pub stays : Machine → Told → Next
stays m told = record { answer = told; put = []; after = m }

-- A sender did this.
unfoldable pub by_sender : Machine → Sends SenderState → Next
by_sender m d =
    record {
      answer = of_party d.answer;
      put = d.put;
      after = record m { sent = entered d.put m.sent; senders = d.after };
    }

-- ---- what the other parties do, with what is kept beside their messages

-- What a receiver puts out goes to the centre, and is of no segment.
abbrev pub to_centre : ℕ → List Message → List Sent
to_centre phone [] = []
to_centre phone (v ∷ vs) = bare (Centre phone) v ∷ to_centre phone vs

abbrev pub receiver_limits : Limits → ReceiverLimits
receiver_limits limits =
    limits_of limits.open_max limits.remembered limits.store

-- The receiver of this phone did this.
unfoldable pub by_receiver : Machine → ℕ → Does ReceiverState → Next
by_receiver m phone d =
    record {
      answer = of_party d.answer;
      put = to_centre phone d.put;
      after = record m {
        sent = entered (to_centre phone d.put) m.sent;
        receiver = changed m.receiver phone d.after;
      };
    }

-- What the centre puts out goes to the phone.
abbrev pub to_phone : ℕ → Option Origin → Option ℕ → List Message → List Sent
to_phone phone origin putting [] = []
to_phone phone origin putting (v ∷ vs) =
    record { message = v; to = Phone phone; origin = origin; putting = putting }
    ∷ to_phone phone origin putting vs

unfoldable pub of_centre : ℕ → Option Origin → Option ℕ → Does CentreState → Sends CentreState
of_centre phone origin putting d =
    record { answer = d.answer; put = to_phone phone origin putting d.put; after = d.after }

-- The centre did this.
unfoldable pub by_centre : Machine → Sends CentreState → Next
by_centre m d =
    record {
      answer = of_party d.answer;
      put = d.put;
      after = record m { sent = entered d.put m.sent; centre = d.after };
    }

-- What is pushed is of the segment that the accepted submission was of.
abbrev pub origin_of : Option Pushing → Option Origin
origin_of None = None
origin_of (Some p) = p.message.origin

unfoldable pub pushed : ℕ → Does CentreState → Sends CentreState
pushed phone d = of_centre phone (origin_of (d.after.line phone).latest) None d

-- ---- a message comes

-- To a phone: flag 1 of the transaction identifier (3GPP TS 24.007, 11.2.3.1.3) says that the phone
-- opened the transaction, so its sender is meant; flag 0 that the centre did, so its receiver is.
unfoldable pub comes_to_phone : Machine → ℕ → Message → Option Origin → Next
comes_to_phone m phone NotCp origin = stays m (Err (Party dropped.NotCp))
comes_to_phone m phone (Note flag value) origin = stays m (Ok Noted)
comes_to_phone m phone (Tiny flag value) origin = stays m (Err (Party dropped.Unmatched))
comes_to_phone m phone (Data true tag relay) origin =
    by_sender m (sender_receives m.senders phone tag relay)
comes_to_phone m phone (Data false tag relay) origin =
    by_receiver m phone
    (receiver_opened (receiver_limits m.limits) (m.receiver phone) m.clock tag relay origin)

unfoldable pub comes : Machine → Place → Message → Option Origin → Option ℕ → Next
comes m (Centre phone) message origin putting =
    by_centre m
    (of_centre phone None putting
    (centre_receives m.limits.held m.phones m.centre m.clock phone message origin))
comes m (Phone phone) message origin putting = comes_to_phone m phone message origin

-- The packet of this number, counted from 1, if as many were put out.
unfoldable pub packet : Machine → ℕ → Option Sent
packet m zero = None
packet m (suc k) = nth m.sent k

unfoldable pub carries : Machine → Option Sent → Next
carries m None = stays m (Err NoSuchPacket)
carries m (Some x) = comes m x.to x.message x.origin x.putting

-- ---- the clock moves

-- At each phone open sets that are old are dropped, and what was taken of their texts no longer
-- counts.
unfoldable pub ticked : Machine → ℕ → Machine
ticked m clock =
    record m {
      clock = clock;
      receiver = λ p. ages (λ n. size_of (nth m.senders.texts n)) clock (m.receiver p);
    }

-- ---- an event

abbrev pub phone_of : Place → ℕ
phone_of (Centre phone) = phone
phone_of (Phone phone) = phone

-- It is for a phone that there is.
abbrev pub at_phone : Machine → ℕ → Next → Next
at_phone m phone does = if nat_lt phone (length m.phones) then does else stays m (Err NoSuchPhone)

unfoldable pub next : Machine → Act → Next
next m (TypesText phone target characters pieces) =
    at_phone m phone (by_sender m (composes m.senders phone target characters pieces))
next m (MovesPacket k) = carries m (packet m k)
next m (EndsWait phone) = at_phone m phone (by_sender m (times_out m.senders phone))
next m (HandsOver phone) =
    at_phone m phone (by_centre m (pushed phone (centre_pushes m.phones m.centre m.clock phone)))
next m (MovesClock seconds) =
    if nat_lt (m.clock + seconds) end_of_2099
    then record { answer = Ok Ticked; put = []; after = ticked m (m.clock + seconds) }
    else stays m (Err ClockEnd)
next m (SlipsIn place message) = at_phone m (phone_of place) (comes m place message None None)
