-- What becomes of a submission: the checks in their order, and the causes of a refusal. The first
-- number is the RP-Cause (3GPP TS 24.011, 8.2.5.4), the second the TP-Failure-Cause (3GPP TS
-- 23.040, 9.2.3.22).
use Rattle.std.specs.Prelude.{ℕ, Bool, ◌&&◌, if◌then◌else◌, nat_lt, nat_le, List, length, Option, Some, None, Result, Ok, Err}
use Rattle.sms_field.specs.Address.Value.{AddressValue}
use Rattle.sms_field.specs.declared.validity.ValidityFault.{ValidityFault}
use Rattle.sms_field.specs.declared.validity.ValidityFault.TheVariants.{EnhancedValidity, NoMoment}
use Rattle.sms_tpdu.specs.Submit.{Submission}
use Rattle.sms_field.specs.Time.Computed.{end_of, end_of_2099}
use Rattle.sms_message.specs.Address.{phone_at}
use Rattle.sms_centre.specs.Centre.State.{Acceptance}
use Rattle.sms_centre.specs.Centre.Held.{unended, is_held, next_stamp}
use Rattle.sms_centre.specs.declared.centre.check.Check.{Check}
use Rattle.sms_centre.specs.declared.centre.check.Check.TheVariants.{Refuse, Accept}

-- What a submission is checked against: whether a message with its phone, its TP-MR and this
-- recipient is held, how many messages are held, and the next stamp of a recipient.
pub record Books : Type 0 where
  pub is_held : (recipient : ℕ) → Bool
  pub count : ℕ
  pub stamp : (recipient : ℕ) → ℕ

abbrev pub books_of : List Acceptance → ℕ → ℕ → Submission → Books
books_of accepted now phone s =
    record {
      is_held = λ recipient. is_held accepted phone s.reference recipient now;
      count = length (unended accepted now);
      stamp = λ recipient. next_stamp accepted recipient now;
    }

-- TP-RD is set and a message with the same phone, reference and recipient is held: C5, SM rejected,
-- duplicate SM. As many are held as can be: C0, SC busy. No stamp is left for the recipient: C2, SC
-- system failure.
abbrev pub check_space : ℕ → Books → Submission → ℕ → ℕ → Check
check_space limit books s ends recipient =
    if s.reject && books.is_held recipient then Refuse 21 0xC5
    else (if nat_le limit books.count then Refuse 42 0xC0
    else (if nat_le end_of_2099 (books.stamp recipient) then Refuse 38 0xC2
    else Accept recipient ends (books.stamp recipient)))

-- No phone has the address TP-DA: C3, invalid SME address.
abbrev pub check_recipient : ℕ → Books → Submission → ℕ → Option ℕ → Check
check_recipient limit books s ends None = Refuse 1 0xC3
check_recipient limit books s ends (Some recipient) = check_space limit books s ends recipient

-- The enhanced format of TP-VP: C6, VPF not supported. An absolute one that has no moment, or one
-- that is not after now: C7, VP not supported.
abbrev pub check_validity : ℕ → List AddressValue → Books → ℕ → Submission → Result ℕ ValidityFault
    → Check
check_validity limit phones books now s (Err EnhancedValidity) = Refuse 21 0xC6
check_validity limit phones books now s (Err NoMoment) = Refuse 21 0xC7
check_validity limit phones books now s (Ok ends) =
    if nat_lt now ends
    then check_recipient limit books s ends (phone_at phones s.target)
    else Refuse 21 0xC7

unfoldable pub checked_by : ℕ → List AddressValue → Books → ℕ → Submission → Check
checked_by limit phones books now s =
    check_validity limit phones books now s (end_of s.validity now)
