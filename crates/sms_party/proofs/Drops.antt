-- What a phone drops puts nothing out.
use Rattle.std.proofs.Common.{ℕ, ◌-◌, Bool, true, false, cond, nat_lt, List, [], ◌∷◌, length, Option, Some, None, refl}
use Rattle.std.specs.Prelude.{nat_le}
use Rattle.sms_field.specs.Address.Value.{AddressValue}
use Rattle.sms_relay.specs.declared.side.Side.TheVariants.{FromPhone, ToPhone}
use Rattle.sms_join.specs.declared.units.Units.{Units}
use Rattle.sms_join.specs.Joiner as joiner
use Rattle.sms_join.specs.Piece.{Piece}
use Rattle.sms_field.specs.Coding.{alphabet_at}
use Rattle.sms_tpdu.specs.Deliver.{Delivery}
use Rattle.sms_message.specs.declared.message.Report.{Report}
use Rattle.sms_message.specs.declared.message.TransferUnit.{TransferUnit}
use Rattle.sms_message.specs.declared.message.TransferUnit.TheVariants.{Submit, Deliver, OtherUnit, BadUnit}
use Rattle.sms_message.specs.declared.message.Relay.{Relay}
use Rattle.sms_message.specs.declared.message.Relay.TheVariants.{Transfer, Answer, UnknownType, Unreadable}
use Rattle.sms_message.specs.declared.message.Message.{Message}
use Rattle.sms_message.specs.declared.message.Message.TheVariants.{NotCp, Note, Tiny, Data}
use Rattle.sms_message.specs.declared.message.Tag.{Tag}
use Rattle.sms_message.specs.declared.outcome.Outcome.{Outcome}
use Rattle.sms_message.specs.declared.outcome.Dropped.{Dropped}
use Rattle.sms_message.specs.Message.{Origin, tag_of, same_tag}
use Rattle.sms_party.specs.Sent.{Sends}
use Rattle.sms_party.specs.Sender.Texts.{Sender, SenderState, new_text}
use Rattle.sms_party.specs.Sender.Putting.{sender_drops, does}
use Rattle.sms_party.specs.Sender.Calls.{typed, composes, repeats, times_out}
use Rattle.sms_party.specs.Sender.Answers.{hears, matches, sender_receives, sender_takes}
use Rattle.sms_party.specs.Receiver.{receiver_takes, receiver_opened, receiver_receives}
use Rattle.sms_party.specs.Receiver.State.{ReceiverLimits, ReceiverState}
use Rattle.sms_join.specs.BodyUnits.{units_of_body}
use Rattle.sms_party.specs.Receiver.Pieces.{piece_in}
use Rattle.sms_party.specs.Receiver.Offers.{settles, is_full_for, receiver_offers, offers_units}
use Rattle.sms_party.specs.Drops.{SendsOrDrops, DropsPutNothingOut}
use Rattle.sms_message.specs.Drops.{DoesOrDrops, not_dropped, either_drops}

-- a test, whichever way it goes
either_sends : {S : Type 0} (b : Bool) (d e : Sends S) → SendsOrDrops d → SendsOrDrops e → SendsOrDrops (cond b d e)
either_sends true d e h k = h
either_sends false d e h k = k

-- ---- the sender

dropped_none : (x : SenderState) (why : Dropped) → SendsOrDrops (sender_drops x why)
unfolding sender_drops
dropped_none x why = λ other e. refl

typed_none : (x : SenderState) (phone : ℕ) (target : AddressValue) (characters : List ℕ) (pieces : List Units) → SendsOrDrops (typed x phone (new_text x.wide x.texts phone target characters pieces))
unfolding typed does
typed_none x phone target characters pieces = λ why e. not_dropped _ why _ e

composes_none : (x : SenderState) (phone : ℕ) (target : AddressValue) (characters : List ℕ) (pieces : List Units) → SendsOrDrops (composes x phone target characters pieces)
unfolding composes
composes_none x phone target characters pieces =
    either_sends (nat_le 1000 (length (x.sender phone).pending)) _ _ (dropped_none x _)
    (either_sends (nat_lt 255 (length pieces)) _ _ (dropped_none x _) (typed_none x phone target characters pieces))

repeats_none : (x : SenderState) (phone : ℕ) (s : Sender) (queue : List ℕ) → SendsOrDrops (repeats x phone s queue)
unfolding repeats does
repeats_none x phone s [] = λ why e. refl
repeats_none x phone s (n ∷ later) = either_sends (nat_lt s.tries 4) _ _ (λ why e. not_dropped _ why _ e) (λ why e. not_dropped _ why _ e)

times_out_none : (x : SenderState) (phone : ℕ) → SendsOrDrops (times_out x phone)
unfolding times_out
times_out_none x phone = repeats_none x phone (x.sender phone) (x.sender phone).pending

heard_none : (x : SenderState) (phone : ℕ) (tag : Tag) (s : Sender) (n : ℕ) (later : List ℕ) (good more : Bool) (word : Outcome) → SendsOrDrops (hears x phone tag s n later good more word)
unfolding hears does
heard_none x phone tag s n later true true word = λ why e. not_dropped _ why _ e
heard_none x phone tag s n later true false word = λ why e. not_dropped _ why _ e
heard_none x phone tag s n later false true word = λ why e. not_dropped _ why _ e
heard_none x phone tag s n later false false word = λ why e. not_dropped _ why _ e

matches_none : (x : SenderState) (phone : ℕ) (tag : Tag) (s : Sender) (queue : List ℕ) (cause : Option ℕ) (report : Option Report) → SendsOrDrops (matches x phone tag s queue cause report)
unfolding matches
matches_none x phone tag s [] cause report = dropped_none x _
matches_none x phone tag s (n ∷ later) cause report =
    either_sends (same_tag tag (tag_of (s.outs - 1))) _ _ (heard_none x phone tag s n later _ _ _) (dropped_none x _)

sender_receives_none : (x : SenderState) (phone : ℕ) (tag : Tag) (relay : Relay) → SendsOrDrops (sender_receives x phone tag relay)
unfolding sender_receives
sender_receives_none x phone tag (Answer ToPhone cause report) = matches_none x phone tag (x.sender phone) (x.sender phone).pending cause report
sender_receives_none x phone tag (Answer FromPhone cause report) = dropped_none x _
sender_receives_none x phone tag (Transfer side unit) = dropped_none x _
sender_receives_none x phone tag UnknownType = dropped_none x _
sender_receives_none x phone tag Unreadable = dropped_none x _

sender_takes_none : (x : SenderState) (phone : ℕ) (message : Message) → SendsOrDrops (sender_takes x phone message)
unfolding sender_takes
sender_takes_none x phone NotCp = dropped_none x _
sender_takes_none x phone (Note flag value) = λ why e. refl
sender_takes_none x phone (Tiny flag value) = dropped_none x _
sender_takes_none x phone (Data true tag relay) = sender_receives_none x phone tag relay
sender_takes_none x phone (Data false tag relay) = dropped_none x _

-- ---- the receiver

settles_none : (limits : ReceiverLimits) (s : ReceiverState) (tag : Tag) (from : AddressValue) (p : Piece) (origin : Option Origin) (given : joiner.Answer) → DoesOrDrops (settles limits s tag from p origin given)
unfolding settles
settles_none limits s tag from p origin joiner.Repeat = λ why e. not_dropped _ why _ e
settles_none limits s tag from p origin joiner.Kept = λ why e. not_dropped _ why _ e
settles_none limits s tag from p origin (joiner.Finished us) = λ why e. not_dropped _ why _ e
settles_none limits s tag from p origin joiner.TooManyOpen = λ why e. not_dropped _ why _ e

offers_none : (limits : ReceiverLimits) (s : ReceiverState) (tag : Tag) (from : AddressValue) (p : Piece) (origin : Option Origin) → DoesOrDrops (receiver_offers limits s tag from p origin)
unfolding receiver_offers
offers_none limits s tag from p origin =
    either_drops (is_full_for limits s p) _ _ (λ why e. not_dropped _ why _ e)
    (settles_none limits s tag from p origin (joiner.answer limits.open_max s.joiner p))

units_none : (limits : ReceiverLimits) (s : ReceiverState) (now : ℕ) (tag : Tag) (d : Delivery) (origin : Option Origin) (units : Option Units) → DoesOrDrops (offers_units limits s now tag d origin units)
units_none limits s now tag d origin None = λ why e. not_dropped _ why _ e
units_none limits s now tag d origin (Some us) = offers_none limits s tag d.origin (piece_in now d us) origin

delivered_none : (limits : ReceiverLimits) (s : ReceiverState) (now : ℕ) (tag : Tag) (unit : TransferUnit) (origin : Option Origin) → DoesOrDrops (receiver_takes limits s now tag unit origin)
unfolding receiver_takes
delivered_none limits s now tag (Deliver d) origin = units_none limits s now tag d origin (units_of_body (alphabet_at d.dcs) d.user.body)
delivered_none limits s now tag (Submit d) origin = λ why e. not_dropped _ why _ e
delivered_none limits s now tag OtherUnit origin = λ why e. not_dropped _ why _ e
delivered_none limits s now tag BadUnit origin = λ why e. not_dropped _ why _ e

receiver_opened_none : (limits : ReceiverLimits) (s : ReceiverState) (now : ℕ) (tag : Tag) (relay : Relay) (origin : Option Origin) → DoesOrDrops (receiver_opened limits s now tag relay origin)
unfolding receiver_opened
receiver_opened_none limits s now tag (Transfer ToPhone unit) origin = delivered_none limits s now tag unit origin
receiver_opened_none limits s now tag (Transfer FromPhone unit) origin = λ why e. refl
receiver_opened_none limits s now tag (Answer side cause report) origin = λ why e. refl
receiver_opened_none limits s now tag UnknownType origin = λ why e. not_dropped _ why _ e
receiver_opened_none limits s now tag Unreadable origin = λ why e. not_dropped _ why _ e

receiver_none : (limits : ReceiverLimits) (s : ReceiverState) (now : ℕ) (message : Message) (origin : Option Origin) → DoesOrDrops (receiver_receives limits s now message origin)
unfolding receiver_receives
receiver_none limits s now NotCp origin = λ why e. refl
receiver_none limits s now (Note flag value) origin = λ why e. refl
receiver_none limits s now (Tiny flag value) origin = λ why e. refl
receiver_none limits s now (Data false tag relay) origin = receiver_opened_none limits s now tag relay origin
receiver_none limits s now (Data true tag relay) origin = λ why e. refl

pub drops_put_nothing_out : DropsPutNothingOut
drops_put_nothing_out =
    record {
      composes = composes_none;
      times_out = times_out_none;
      sender_takes = sender_takes_none;
      sender_receives = sender_receives_none;
      receiver_receives = receiver_none;
      receiver_opened = receiver_opened_none;
    }
