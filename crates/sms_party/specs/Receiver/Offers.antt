-- The text of a delivery is offered to the joiner of a phone, and goes to its store when it is
-- whole.
use Rattle.std.specs.Prelude.{ℕ, Bool, ◌&&◌, if◌then◌else◌, nat_le, List, ◌∷◌, length, Option, Some, None, Ok}
use Rattle.sms_field.specs.Address.Value.{AddressValue}
use Rattle.sms_tpdu.specs.Deliver.{Delivery}
use Rattle.sms_relay.specs.declared.side.Side.TheVariants.{FromPhone}
use Rattle.sms_join.specs.declared.units.Units.{Units}
use Rattle.sms_join.specs.Piece.{Piece}
use Rattle.sms_join.specs.Reading.{text_of_segments}
use Rattle.sms_join.specs.Joiner as joiner
use Rattle.sms_join.specs.Joiner.{Answer, answer, answered}
use Rattle.sms_join.specs.Joiner.Finishing.{would_finish}
use Rattle.sms_join.specs.Arrivals.{Arrival}
use Rattle.sms_message.specs.Message.{Origin}
use Rattle.sms_message.specs.Message.Answers.{answers, plain_ack, deliver_error_of}
use Rattle.sms_message.specs.Does.{Does, refuses_with, turns_away}
use Rattle.sms_party.specs.Receiver.State.{Entry, ReceiverLimits, ReceiverState}
use Rattle.sms_party.specs.Receiver.Pieces.{piece_in}
use Rattle.sms_message.specs.declared.message.Tag.{Tag}
use Rattle.sms_message.specs.declared.outcome.Outcome.{Outcome}
use Rattle.sms_message.specs.declared.outcome.Outcome.TheVariants as outcome
use Rattle.sms_message.specs.declared.request.NotTaken.{NotTaken}

-- an RP-ERROR with an SMS-DELIVER-REPORT
abbrev pub refuses : ReceiverState → Tag → ℕ → ℕ → Does ReceiverState
refuses s tag cause failure =
    refuses_with s FromPhone tag cause (Some failure) (Some (deliver_error_of failure))

-- what is not taken is dropped, or refused so
abbrev pub turned_away : ReceiverState → Tag → NotTaken → Does ReceiverState
turned_away s tag why = turns_away s FromPhone tag deliver_error_of why

-- an RP-ACK with an SMS-DELIVER-REPORT
abbrev pub accepts : Tag → Outcome → ReceiverState → Does ReceiverState
accepts tag word after =
    record { answer = Ok word; put = answers FromPhone tag None (Some plain_ack); after = after }

-- the taken pieces with one more, where it is of a typed text
abbrev pub takes : List Arrival → Option Origin → Piece → List Arrival
takes taken None p = taken
takes taken (Some origin) p = record { text = origin.text; piece = p } ∷ taken

-- the phone when its joiner has answered the piece so, and its store is this
abbrev pub after_piece : ReceiverLimits → ReceiverState → Piece → Option Origin → Answer
    → List Entry → ReceiverState
after_piece limits s p origin given store =
    record {
      joiner = answered limits.remembered s.joiner p given;
      store = store;
      taken = takes s.taken origin p;
    }

-- The joiner answers a piece from this address. A repeat and a piece that is kept are acknowledged;
-- a message that is whole goes to the store as its text. Too many open sets: D3, memory capacity
-- exceeded, with RP-Cause 22, memory capacity exceeded (3GPP TS 24.011, 8.2.5.4; TS 23.040,
-- 9.2.3.22).
unfoldable pub settles : ReceiverLimits → ReceiverState → Tag → AddressValue → Piece → Option Origin
    → Answer → Does ReceiverState
settles limits s tag from p origin joiner.Repeat =
    accepts tag outcome.Repeat (after_piece limits s p origin joiner.Repeat s.store)
settles limits s tag from p origin joiner.Kept =
    accepts tag outcome.Kept (after_piece limits s p origin joiner.Kept s.store)
settles limits s tag from p origin (joiner.Finished us) =
    accepts tag outcome.Finished (after_piece limits s p origin (joiner.Finished us)
    (record { origin = from; characters = text_of_segments us } ∷ s.store))
settles limits s tag from p origin joiner.TooManyOpen = refuses s tag 22 0xD3

-- The store is full, and the piece would make its message whole.
abbrev pub is_full_for : ReceiverLimits → ReceiverState → Piece → Bool
is_full_for limits s p = nat_le limits.store (length s.store) && would_finish s.joiner p

-- The store is asked before the joiner is. A store that is full is answered like too many open
-- sets.
unfoldable pub receiver_offers : ReceiverLimits → ReceiverState → Tag → AddressValue → Piece
    → Option Origin → Does ReceiverState
receiver_offers limits s tag from p origin =
    if is_full_for limits s p
    then refuses s tag 22 0xD3
    else settles limits s tag from p origin (answer limits.open_max s.joiner p)

-- A body that is no text's: 90, data coding scheme (alphabet) not supported, with RP-Cause 111,
-- protocol error (3GPP TS 24.011, 8.2.5.4; TS 23.040, 9.2.3.22).
abbrev pub offers_units : ReceiverLimits → ReceiverState → ℕ → Tag → Delivery → Option Origin
    → Option Units → Does ReceiverState
offers_units limits s now tag d origin None = refuses s tag 111 0x90
offers_units limits s now tag d origin (Some us) =
    receiver_offers limits s tag d.origin (piece_in now d us) origin
