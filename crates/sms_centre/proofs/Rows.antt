-- Worked examples of the definitions: stamps, moments, and what the centre does.
use Rattle.std.proofs.Common.{◌≡◌, ℕ, Bool, true, false, List, [], ◌∷◌, Some, None, Ok, Err, refl}
use Rattle.jiff_core.specs.Calendar.{day_count, days_of_years, days_of_months}
use Rattle.sms_field.specs.Address.Value.{AddressValue}
use Rattle.sms_field.specs.declared.symbols.Symbols.TheVariants.{Digits}
use Rattle.sms_field.specs.declared.validity.Validity.{Validity}
use Rattle.sms_field.specs.declared.validity.Validity.TheVariants.{Absent, Enhanced, Absolute}
use Rattle.sms_tpdu.specs.Submit.{Submission}
use Rattle.sms_tpdu.specs.declared.user_data.UserData.{UserData}
use Rattle.sms_tpdu.specs.declared.user_data.body.Body.TheVariants.{Septets}
use Rattle.sms_relay.specs.declared.side.Side.TheVariants.{FromPhone, ToPhone}
use Rattle.sms_message.specs.declared.message.Tag.{Tag}
use Rattle.sms_message.specs.declared.message.TransferUnit.TheVariants.{Submit, OtherUnit, BadUnit}
use Rattle.sms_message.specs.declared.message.Relay.TheVariants.{Transfer, Answer, UnknownType, Unreadable}
use Rattle.sms_message.specs.declared.message.Message.TheVariants.{Tiny, Data}
use Rattle.sms_message.specs.declared.outcome.Outcome.TheVariants.{Held, Refused, NothingWaits}
use Rattle.sms_message.specs.declared.outcome.Dropped.TheVariants as dropped
use Rattle.sms_field.specs.Time.Computed.{stamp_octets, moment_of}
use Rattle.sms_field.specs.Address.Same.{same_address}
use Rattle.sms_centre.specs.Centre.State.{CentreState, new_centre}
use Rattle.sms_message.specs.Does.{Does}
use Rattle.sms_centre.specs.Centre.Checks.{checked_by}
use Rattle.sms_centre.specs.Centre.Submissions.{checked, centre_takes}
use Rattle.sms_centre.specs.Centre.Pushes.{pushes_first, centre_pushes}
use Rattle.sms_centre.specs.Centre.Verdicts.{settled, centre_hears}
use Rattle.sms_centre.specs.Centre.{centre_opened, centre_answered, centre_receives}
use Rattle.sms_message.specs.Message.Answers.{answers, submit_error_of, submit_ack_of}

first_stamp : stamp_octets 0 ≡ 0x00 ∷ 0x10 ∷ 0x10 ∷ 0x00 ∷ 0x00 ∷ 0x00 ∷ 0x00 ∷ []
unfolding stamp_octets
first_stamp = refl

last_stamp : stamp_octets 3155759999 ≡ 0x99 ∷ 0x21 ∷ 0x13 ∷ 0x32 ∷ 0x95 ∷ 0x95 ∷ 0x00 ∷ []
unfolding stamp_octets
last_stamp = refl

moment_of_date : moment_of (0x99 ∷ 0x30 ∷ 0x92 ∷ 0x51 ∷ 0x61 ∷ 0x95 ∷ 0x80 ∷ []) ≡ Some 3131788619
unfolding moment_of day_count days_of_years days_of_months
moment_of_date = refl

moment_to_the_west : moment_of (0x00 ∷ 0x10 ∷ 0x10 ∷ 0x00 ∷ 0x00 ∷ 0x00 ∷ 0x2B ∷ []) ≡ Some 28800
unfolding moment_of day_count days_of_years days_of_months
moment_to_the_west = refl

no_moment_of_zeros : moment_of (0 ∷ 0 ∷ 0 ∷ 0 ∷ 0 ∷ 0 ∷ 0 ∷ []) ≡ None
unfolding moment_of day_count days_of_years days_of_months
no_moment_of_zeros = refl

-- ---- the centre with the phones +1001, +1002, +1003

abbrev number : ℕ → AddressValue
number n = record { kind = 1; plan = 1; symbols = Digits (1 ∷ 0 ∷ 0 ∷ n ∷ []) }

abbrev phones : List AddressValue
phones = number 1 ∷ number 2 ∷ number 3 ∷ []

abbrev hi : UserData
hi = record { header = None; body = Septets (104 ∷ 105 ∷ []) }

abbrev submission : Bool → ℕ → ℕ → Validity → Submission
submission reject reference target validity =
    record { reject = reject; validity = validity; report = false; reply = false; reference = reference; target = number target; pid = 0; dcs = 0; user = hi }

abbrev tag : ℕ → Tag
tag n = record { value = n; reference = n }

-- a comes with a submission
abbrev comes : CentreState → ℕ → ℕ → Submission → Does CentreState
comes c now n s = centre_receives 1000 phones c now 0 (Data false (tag n) (Transfer FromPhone (Submit s))) None

enhanced : (comes new_centre 0 1 (submission false 0 2 (Enhanced (0 ∷ 0 ∷ 0 ∷ 0 ∷ 0 ∷ 0 ∷ 0 ∷ [])))).answer ≡ Ok (Refused 21 (Some 0xC6))
unfolding new_centre checked_by checked centre_takes centre_opened centre_receives
enhanced = refl

ended : (comes new_centre 0 1 (submission false 0 2 (Absolute (0x00 ∷ 0x10 ∷ 0x10 ∷ 0 ∷ 0 ∷ 0 ∷ 0 ∷ [])))).answer ≡ Ok (Refused 21 (Some 0xC7))
unfolding new_centre checked_by checked centre_takes centre_opened centre_receives moment_of day_count days_of_years days_of_months
ended = refl

unknown : (comes new_centre 0 1 (submission false 0 9 Absent)).answer ≡ Ok (Refused 1 (Some 0xC3))
unfolding new_centre checked_by checked centre_takes centre_opened centre_receives same_address
unknown = refl

other_unit : (centre_receives 1000 phones new_centre 0 0 (Data false (tag 1) (Transfer FromPhone OtherUnit)) None).answer ≡ Ok (Refused 21 (Some 0xB0))
unfolding centre_takes centre_opened centre_receives
other_unit = refl

bad_unit : (centre_receives 1000 phones new_centre 0 0 (Data false (tag 1) (Transfer FromPhone BadUnit)) None).answer ≡ Ok (Refused 21 (Some 0xFF))
unfolding centre_takes centre_opened centre_receives
bad_unit = refl

unknown_type : (centre_receives 1000 phones new_centre 0 0 (Data false (tag 1) UnknownType) None).answer ≡ Ok (Refused 97 None)
unfolding centre_opened centre_receives
unknown_type = refl

unreadable : (centre_receives 1000 phones new_centre 0 0 (Data false (tag 1) Unreadable) None).answer ≡ Ok (Refused 96 None)
unfolding centre_opened centre_receives
unreadable = refl

tiny : (centre_receives 1000 phones new_centre 0 0 (Tiny false 0) None).answer ≡ Err dropped.Unmatched
unfolding centre_receives
tiny = refl

-- without rejection the same submission is held twice, with stamps one second apart
held_twice : (comes (comes new_centre 0 0 (submission false 0 2 Absent)).after 0 0 (submission false 0 2 Absent)).put ≡ answers ToPhone (tag 0) None (Some (submit_ack_of 1))
unfolding new_centre checked_by checked centre_takes centre_opened centre_receives same_address
held_twice = refl

-- with it a repeat is refused while the first is held, and not another reference; when it has ended it is held again
repeated : (comes (comes new_centre 0 0 (submission false 0 2 Absent)).after 0 1 (submission true 0 2 Absent)).answer ≡ Ok (Refused 21 (Some 0xC5))
unfolding new_centre checked_by checked centre_takes centre_opened centre_receives same_address
repeated = refl

not_repeated : (comes (comes new_centre 0 0 (submission false 0 2 Absent)).after 0 1 (submission true 1 2 Absent)).answer ≡ Ok Held
unfolding new_centre checked_by checked centre_takes centre_opened centre_receives same_address
not_repeated = refl

held_again : (comes (comes new_centre 0 0 (submission false 0 2 Absent)).after 172800 1 (submission true 0 2 Absent)).answer ≡ Ok Held
unfolding new_centre checked_by checked centre_takes centre_opened centre_receives same_address
held_again = refl

-- the last stamp is given once
after_the_last : (comes (comes new_centre 3155759999 0 (submission false 0 2 Absent)).after 3155759999 1 (submission false 1 2 Absent)).put ≡ answers ToPhone (tag 1) (Some 38) (Some (submit_error_of 0xC2 3155759999))
unfolding new_centre checked_by checked centre_takes centre_opened centre_receives same_address
after_the_last = refl

-- a push is delivered, and then nothing waits
delivered : (centre_pushes phones (centre_receives 1000 phones (centre_pushes phones (comes new_centre 0 0 (submission false 0 2 Absent)).after 0 1).after 0 1 (Data true (tag 0) (Answer FromPhone None None)) None).after 0 1).answer ≡ Ok NothingWaits
unfolding new_centre checked_by checked centre_takes centre_opened centre_answered centre_hears settled centre_receives pushes_first centre_pushes same_address
delivered = refl
