-- A reader may pass this by: contracts of private functions, and proofs, alone cite it.
--
-- What the calls do at one recipient.
use Rattle.std.specs.Prelude.{◌≡◌, ℕ, zero, suc, ◌+◌, slice_get, Bool, true, false, not, ◌&&◌, ◌||◌, ◌==◌, nat_lt, if◌then◌else◌, List, [], ◌∷◌, ◌++◌, Option, Some, None, Result, Ok, Err}
use Rattle.std.specs.List.{filter}
use Rattle.std.proofs.Math.ListN.{set}
use Rattle.sms_field.specs.Address.Value.{AddressValue}
use Rattle.sms_tpdu.specs.Deliver.{Delivery}
use Rattle.sms_tpdu.specs.Deliver.Front.{Front, delivery_with}
use Rattle.sms_relay.specs.declared.side.Side.TheVariants.{ToPhone}
use Rattle.sms_field.specs.Time.Computed.{stamp_octets}
use Rattle.sms_message.specs.Message.{tag_of, following, same_tag}
use Rattle.sms_message.specs.Does.{packets_of, CarriesEach}
use Rattle.sms_message.specs.More.{is_more}
use Rattle.sms_centre.specs.Centre.Verdicts.{stays, verdict}
use Rattle.sms_centre.specs.Centre.Value.{WaitingValue, LineValue}
use Rattle.sms_message.specs.declared.message.TransferUnit.TheVariants.{Deliver}
use Rattle.sms_message.specs.declared.message.Relay.TheVariants.{Transfer}
use Rattle.sms_message.specs.declared.message.Message.TheVariants.{Note, Data}
use Rattle.sms_message.specs.declared.message.Tag.{Tag}
use Rattle.sms_centre.specs.declared.centre.waiting.Push.{Push}
use Rattle.sms_message.specs.declared.outcome.Step.{Step}
use Rattle.sms_message.specs.declared.outcome.Outcome.TheVariants.{Pushed, NothingWaits}
use Rattle.sms_message.specs.declared.outcome.Dropped.{Dropped}
use Rattle.sms_message.specs.declared.outcome.Dropped.TheVariants as dropped

-- what stands before the user data of a message that waits
abbrev pub front_of : WaitingValue → Bool → Front
front_of m more =
    record {
      more = more;
      looped = false;
      report = false;
      reply = m.submission.reply;
      origin = m.origin;
      pid = m.submission.pid;
      dcs = m.submission.dcs;
      stamp = stamp_octets m.stamp;
    }

-- the delivery of a message that waits
abbrev pub delivery_of : WaitingValue → Bool → Delivery
delivery_of m more = delivery_with (front_of m more) m.submission.user

abbrev pub new_line : AddressValue → LineValue
new_line address =
    record { address = address; queue = []; free = 0; next = tag_of 0; latest = None }

-- ---- a push, at one line

abbrev pub pushed_line : LineValue → WaitingValue → List WaitingValue → LineValue
pushed_line line m others =
    record line {
      queue = others ++ m ∷ [];
      next = following line.next;
      latest = Some (record { tag = line.next; stamp = m.stamp; ends = m.ends });
    }

abbrev pub PushesFrom : LineValue → List WaitingValue → Result Step Dropped → LineValue → Type 0
PushesFrom line [] (Err why) new = ⊥
PushesFrom line [] (Ok step) new =
    (step.outcome ≡ NothingWaits) × (packets_of step ≡ []) × (new ≡ line)
PushesFrom line (m ∷ others) (Err why) new = (why ≡ dropped.Memory) × (new ≡ line)
PushesFrom line (m ∷ others) (Ok step) new =
    (step.outcome ≡ Pushed)
    × CarriesEach (packets_of step)
    (Data false line.next (Transfer ToPhone (Deliver (delivery_of m (is_more others))))
    ∷ [])
    × (new ≡ pushed_line line m others)

abbrev pub LinePushes : LineValue → Result Step Dropped → LineValue → Type 0
LinePushes line result new = PushesFrom line line.queue result new

-- ---- the answer to a push, at one line

abbrev pub left_waiting : List WaitingValue → ℕ → Option ℕ → List WaitingValue
left_waiting queue stamp cause =
    if stays cause then queue else filter (λ m. not (m.stamp == stamp)) queue

abbrev pub is_awaited : ℕ → Tag → Push → Bool
is_awaited now tag p = same_tag tag p.tag && nat_lt now p.ends

abbrev pub awaits_in : ℕ → Tag → Option Push → Bool
awaits_in now tag None = false
awaits_in now tag (Some p) = is_awaited now tag p

abbrev pub HearsFor : ℕ → Tag → Option ℕ → LineValue → Option Push → Result Step Dropped → LineValue
    → Type 0
HearsFor now tag cause line latest (Err dropped.Memory) new = new ≡ line
HearsFor now tag cause line (Some p) (Ok step) new =
    (is_awaited now tag p ≡ true) × (step.outcome ≡ verdict cause)
    × CarriesEach (packets_of step) (Note false tag.value ∷ [])
    × (new ≡ record line { queue = left_waiting line.queue p.stamp cause; latest = None })
HearsFor now tag cause line (Some p) (Err dropped.Unmatched) new =
    (is_awaited now tag p ≡ false) × (new ≡ line)
HearsFor now tag cause line None (Err dropped.Unmatched) new = new ≡ line
HearsFor now tag cause line _ _ new = ⊥

abbrev pub LineHears : ℕ → Tag → Option ℕ → LineValue → Result Step Dropped → LineValue → Type 0
LineHears now tag cause line result new = HearsFor now tag cause line line.latest result new

-- ---- the lines of all phones

-- the latest push to this phone
abbrev pub latest_at : List LineValue → ℕ → Option Push
latest_at [] r = None
latest_at (line ∷ lines) zero = line.latest
latest_at (line ∷ lines) (suc r) = latest_at lines r

-- the line of this phone became another one in this way, and the others stay
pub record ChangesLine (phone : ℕ) (old new : List LineValue)
    (How : LineValue → LineValue → Type 0) : Type 0 where
  pub before : LineValue
  pub after : LineValue
  pub is_there : slice_get old phone ≡ Some before
  pub others_stay : new ≡ set old phone after
  pub how : How before after

-- ---- the end of a message, at one line

-- the message with this stamp is gone, if it has ended
abbrev pub forgetting_line : ℕ → ℕ → LineValue → LineValue
forgetting_line now stamp line =
    record line { queue = filter (λ m. not (m.stamp == stamp) || nat_lt now m.ends) line.queue }

-- ---- an acceptance, at one line

abbrev pub accepting_line : LineValue → WaitingValue → LineValue
accepting_line line m = record line { queue = line.queue ++ m ∷ []; free = m.stamp + 1 }
