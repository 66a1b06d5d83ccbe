-- Worked examples of the definitions: headers, and what a receiving phone does.
use Rattle.std.proofs.Common.{◌≡◌, ℕ, false, List, [], ◌∷◌, Option, Some, None, Ok, Err, refl}
use Rattle.sms_field.specs.Address.Value.{AddressValue}
use Rattle.sms_field.specs.Coding.{alphabet_at}
use Rattle.sms_field.specs.declared.symbols.Symbols.TheVariants.{Digits}
use Rattle.sms_text.specs.Tables.{character_of}
use Rattle.sms_text.specs.TextOfSeptets.{text_of_septets}
use Rattle.sms_tpdu.specs.declared.user_data.concat.Width.TheVariants.{Eight, Sixteen}
use Rattle.sms_tpdu.specs.Deliver.{Delivery}
use Rattle.sms_tpdu.specs.declared.user_data.body.Body.{Body}
use Rattle.sms_tpdu.specs.declared.user_data.body.Body.TheVariants.{Septets, Octets}
use Rattle.sms_relay.specs.declared.side.Side.TheVariants.{FromPhone, ToPhone}
use Rattle.sms_field.specs.Address.Same.{same_address}
use Rattle.sms_join.specs.Key.{same_width, same_key}
use Rattle.sms_join.specs.Reading.{text_of_segments}
use Rattle.sms_join.specs.Joiner.{new_joiner, is_repeat, is_whole, has_room, decided, answer, answered}
use Rattle.sms_message.specs.declared.message.Tag.{Tag}
use Rattle.sms_message.specs.declared.message.TransferUnit.TheVariants.{Deliver, OtherUnit, BadUnit}
use Rattle.sms_message.specs.declared.message.Relay.TheVariants.{Transfer}
use Rattle.sms_message.specs.declared.message.Message.{Message}
use Rattle.sms_message.specs.declared.message.Message.TheVariants.{Data}
use Rattle.sms_message.specs.declared.outcome.Outcome.TheVariants.{Kept, Repeat, Refused}
use Rattle.sms_message.specs.declared.outcome.Dropped.TheVariants as dropped
use Rattle.sms_tpdu.specs.UserData.ConcatenationFound.{concat_of_header}
use Rattle.sms_party.specs.Receiver.State.{ReceiverLimits, ReceiverState, new_receiver}
use Rattle.sms_message.specs.Message.Answers.{answers, deliver_error_of}
use Rattle.sms_party.specs.Receiver.Offers.{settles, receiver_offers}
use Rattle.sms_party.specs.Receiver.{receiver_takes, receiver_opened, receiver_receives}

one_element : concat_of_header (Some (0 ∷ 3 ∷ 7 ∷ 2 ∷ 1 ∷ [])) ≡ Some (record { width = Eight; reference = 7; maximum = 2; sequence = 1 })
one_element = refl

wide_element : concat_of_header (Some (8 ∷ 4 ∷ 1 ∷ 2 ∷ 3 ∷ 3 ∷ [])) ≡ Some (record { width = Sixteen; reference = 258; maximum = 3; sequence = 3 })
wide_element = refl

-- sequence 3 of 2
out_of_order : concat_of_header (Some (0 ∷ 3 ∷ 0x0A ∷ 2 ∷ 3 ∷ [])) ≡ None
out_of_order = refl

cut_element : concat_of_header (Some (0 ∷ 3 ∷ 0x0A ∷ 2 ∷ [])) ≡ None
cut_element = refl

-- of several the last that tells a place counts
last_counts : concat_of_header (Some (0 ∷ 3 ∷ 1 ∷ 2 ∷ 1 ∷ 5 ∷ 0 ∷ 0 ∷ 3 ∷ 9 ∷ 2 ∷ 2 ∷ 0 ∷ 3 ∷ 4 ∷ 0 ∷ 0 ∷ [])) ≡ Some (record { width = Eight; reference = 9; maximum = 2; sequence = 2 })
last_counts = refl

-- ---- a phone with room for one text, one open set and one key

abbrev number : ℕ → AddressValue
number n = record { kind = 1; plan = 1; symbols = Digits (1 ∷ 0 ∷ 0 ∷ n ∷ []) }

abbrev few : ReceiverLimits
few = record { open_max = 1; remembered = 1; store = 1 }

abbrev delivery : Option (List ℕ) → ℕ → Body → Delivery
delivery header dcs body =
    record {
      more = false;
      looped = false;
      report = false;
      reply = false;
      origin = number 1;
      pid = 0;
      dcs = dcs;
      stamp = 0 ∷ 0x10 ∷ 0x10 ∷ 0 ∷ 0 ∷ 0 ∷ 0 ∷ [];
      user = record { header = header; body = body };
    }

abbrev first_tag : Tag
first_tag = record { value = 0; reference = 0 }

abbrev comes : Delivery → Message
comes d = Data false first_tag (Transfer ToPhone (Deliver d))

-- one `a`, segment s of two of reference r
abbrev segment : ℕ → ℕ → Message
segment r s = comes (delivery (Some (0 ∷ 3 ∷ r ∷ 2 ∷ s ∷ [])) 0 (Septets (0x61 ∷ [])))

abbrev after : ReceiverState → Message → ReceiverState
after s m = (receiver_receives few s 0 m None).after

eight_bit : (receiver_receives few new_receiver 0 (comes (delivery None 4 (Octets (0x41 ∷ [])))) None).put ≡ answers FromPhone first_tag (Some 111) (Some (deliver_error_of 0x90))
unfolding receiver_receives receiver_opened receiver_takes alphabet_at
eight_bit = refl

compressed : (receiver_receives few new_receiver 0 (comes (delivery None 0x20 (Octets (0x41 ∷ [])))) None).answer ≡ Ok (Refused 111 (Some 0x90))
unfolding receiver_receives receiver_opened receiver_takes alphabet_at
compressed = refl

no_delivery : (receiver_receives few new_receiver 0 (Data false first_tag (Transfer ToPhone OtherUnit)) None).answer ≡ Ok (Refused 111 (Some 0xB0))
unfolding receiver_receives receiver_opened receiver_takes
no_delivery = refl

bad_delivery : (receiver_receives few new_receiver 0 (Data false first_tag (Transfer ToPhone BadUnit)) None).answer ≡ Ok (Refused 111 (Some 0xFF))
unfolding receiver_receives receiver_opened receiver_takes
bad_delivery = refl

own_side : (receiver_receives few new_receiver 0 (Data false first_tag (Transfer FromPhone BadUnit)) None).answer ≡ Err dropped.Unmatched
unfolding receiver_receives receiver_opened
own_side = refl

kept : (receiver_receives few new_receiver 0 (segment 0 2) None).answer ≡ Ok Kept
unfolding receiver_receives receiver_opened receiver_takes receiver_offers settles alphabet_at new_receiver new_joiner answer answered decided is_repeat is_whole has_room same_key same_address same_width
kept = refl

again : (receiver_receives few (after new_receiver (segment 0 2)) 0 (segment 0 2) None).answer ≡ Ok Repeat
unfolding receiver_receives receiver_opened receiver_takes receiver_offers settles alphabet_at new_receiver new_joiner answer answered decided is_repeat is_whole has_room same_key same_address same_width
again = refl

one_too_many : (receiver_receives few (after new_receiver (segment 0 2)) 0 (segment 1 1) None).answer ≡ Ok (Refused 22 (Some 0xD3))
unfolding receiver_receives receiver_opened receiver_takes receiver_offers settles alphabet_at new_receiver new_joiner answer answered decided is_repeat is_whole has_room same_key same_address same_width
one_too_many = refl

stored : (after (after new_receiver (segment 0 2)) (segment 0 1)).store ≡ record { origin = number 1; characters = 0x61 ∷ 0x61 ∷ [] } ∷ []
unfolding receiver_receives receiver_opened receiver_takes receiver_offers settles alphabet_at new_receiver new_joiner answer answered decided is_repeat is_whole has_room same_key same_address same_width text_of_segments text_of_septets character_of
stored = refl

-- the store is full: a further piece is kept, the one that would finish its text is refused, and a repeat is none
no_room : (receiver_receives few (after (after (after new_receiver (segment 0 2)) (segment 0 1)) (segment 1 1)) 0 (segment 1 2) None).answer ≡ Ok (Refused 22 (Some 0xD3))
unfolding receiver_receives receiver_opened receiver_takes receiver_offers settles alphabet_at new_receiver new_joiner answer answered decided is_repeat is_whole has_room same_key same_address same_width text_of_segments text_of_septets character_of
no_room = refl
