-- What a receiver does with a delivery, in the form in which the inductions use it.
use Rattle.std.proofs.Common.{◌≡◌, ℕ, Bool, true, false, if◌then◌else◌, List, ◌∷◌, refl, subst, sym, Option, Some, None, Ok}
use Rattle.std.proofs.lemmas.Bool.{cond_both}
use Rattle.sms_field.specs.Address.Value.{AddressValue}
use Rattle.sms_field.specs.Coding.{alphabet_at}
use Rattle.sms_tpdu.specs.Deliver.{Delivery}
use Rattle.sms_relay.specs.declared.side.Side.TheVariants.{FromPhone, ToPhone}
use Rattle.sms_join.specs.declared.units.Units.{Units}
use Rattle.sms_join.specs.Piece.{Piece}
use Rattle.sms_join.specs.Reading.{text_of_segments}
use Rattle.sms_join.specs.Joiner as join
use Rattle.sms_join.specs.Joiner.{answer, answered}
use Rattle.sms_message.specs.Message.{Origin}
use Rattle.sms_message.specs.Message.Answers.{answers, plain_ack}
use Rattle.sms_message.specs.Does.{Does, drops, refuses_with}
use Rattle.sms_message.specs.declared.message.TransferUnit.TheVariants.{Submit, Deliver, OtherUnit, BadUnit}
use Rattle.sms_message.specs.declared.message.Report.{Report}
use Rattle.sms_message.specs.declared.message.Relay.{Relay}
use Rattle.sms_message.specs.declared.message.Relay.TheVariants.{Transfer, Answer, UnknownType, Unreadable}
use Rattle.sms_message.specs.declared.message.Tag.{Tag}
use Rattle.sms_message.specs.declared.outcome.Outcome.{Outcome}
use Rattle.sms_message.specs.declared.outcome.Outcome.TheVariants as outcome
use Rattle.sms_message.specs.declared.outcome.Dropped.TheVariants.{Unmatched}
use Rattle.sms_party.specs.Receiver.{receiver_takes, receiver_opened}
use Rattle.sms_party.specs.Receiver.State.{Entry, ReceiverLimits, ReceiverState}
use Rattle.sms_join.specs.BodyUnits.{units_of_body}
use Rattle.sms_party.specs.Receiver.Pieces.{piece_in}
use Rattle.sms_party.specs.Receiver.Offers.{refuses, takes, settles, is_full_for, receiver_offers, offers_units}

-- the units that a delivery brings
unfoldable pub units_in_delivery : Delivery → Option Units
units_in_delivery d = units_of_body (alphabet_at d.dcs) d.user.body

unfoldable pub stored : List Entry → AddressValue → join.Answer → List Entry
stored store origin (join.Finished units) = record { origin = origin; characters = text_of_segments units } ∷ store
stored store origin join.Repeat = store
stored store origin join.Kept = store
stored store origin join.TooManyOpen = store

unfoldable pub word_of : join.Answer → Outcome
word_of (join.Finished units) = outcome.Finished
word_of join.Repeat = outcome.Repeat
word_of join.Kept = outcome.Kept
word_of join.TooManyOpen = outcome.Refused 22 (Some 0xD3)

unfoldable pub is_taken : join.Answer → Bool
is_taken (join.Finished units) = true
is_taken join.Repeat = true
is_taken join.Kept = true
is_taken join.TooManyOpen = false

-- the piece is offered
unfoldable pub offers : ReceiverLimits → ReceiverState → Tag → AddressValue → Piece → Option Origin → join.Answer → Does ReceiverState
offers limits x tag origin p of given =
    if is_taken given
    then record {
      answer = Ok (word_of given);
      put = answers FromPhone tag None (Some plain_ack);
      after = record {
        joiner = answered limits.remembered x.joiner p given;
        store = stored x.store origin given;
        taken = takes x.taken of p;
      };
    }
    else refuses x tag 22 0xD3

settles_offers : (limits : ReceiverLimits) (x : ReceiverState) (tag : Tag) (origin : AddressValue) (p : Piece) (of : Option Origin) (given : join.Answer)
    → settles limits x tag origin p of given ≡ offers limits x tag origin p of given
unfolding settles offers is_taken word_of stored
settles_offers limits x tag origin p of join.Repeat = refl
settles_offers limits x tag origin p of join.Kept = refl
settles_offers limits x tag origin p of (join.Finished us) = refl
settles_offers limits x tag origin p of join.TooManyOpen = refl

-- what holds of a refusal, and of what is done where the store is not full, holds of what is done
pub each_offer : (P : Does ReceiverState → Type 0) (limits : ReceiverLimits) (x : ReceiverState) (now : ℕ) (tag : Tag) (d : Delivery) (of : Option Origin) (units : Option Units)
    → ((cause failure : ℕ) → units ≡ None → P (refuses x tag cause failure))
    → ((us : Units) → units ≡ Some us → is_full_for limits x (piece_in now d us) ≡ true → P (refuses x tag 22 0xD3))
    → ((us : Units) → units ≡ Some us → is_full_for limits x (piece_in now d us) ≡ false
    → P (offers limits x tag d.origin (piece_in now d us) of (answer limits.open_max x.joiner (piece_in now d us))))
    → P (offers_units limits x now tag d of units)
unfolding receiver_offers
each_offer P limits x now tag d of None h full offer = h 111 0x90 refl
each_offer P limits x now tag d of (Some us) h full offer =
    cond_both (is_full_for limits x (piece_in now d us)) _ _ P (full us refl)
    (λ n. subst P (sym (settles_offers limits x tag d.origin (piece_in now d us) of (answer limits.open_max x.joiner (piece_in now d us)))) (offer us refl n))

-- what comes in a transaction that the centre has opened: a delivery, or another thing, which changes nothing
pub each_opened : (P : Does ReceiverState → Type 0) (limits : ReceiverLimits) (x : ReceiverState) (now : ℕ) (tag : Tag) (v : Relay) (of : Option Origin)
    → ((cause : ℕ) (failure : Option ℕ) (report : Option Report) → P (refuses_with x FromPhone tag cause failure report))
    → ((d : Delivery) → v ≡ Transfer ToPhone (Deliver d) → P (offers_units limits x now tag d of (units_in_delivery d)))
    → P (drops x Unmatched)
    → P (receiver_opened limits x now tag v of)
unfolding receiver_opened receiver_takes units_in_delivery
each_opened P limits x now tag (Transfer ToPhone (Deliver d)) of r o u = o d refl
each_opened P limits x now tag (Transfer ToPhone (Submit s)) of r o u = r _ _ _
each_opened P limits x now tag (Transfer ToPhone OtherUnit) of r o u = r _ _ _
each_opened P limits x now tag (Transfer ToPhone BadUnit) of r o u = r _ _ _
each_opened P limits x now tag (Transfer FromPhone unit) of r o u = u
each_opened P limits x now tag UnknownType of r o u = r _ _ _
each_opened P limits x now tag Unreadable of r o u = r _ _ _
each_opened P limits x now tag (Answer side cause report) of r o u = u
