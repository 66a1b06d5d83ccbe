-- The unit of an RP-DATA from a phone comes to the centre (3GPP TS 23.040, 9.2.2.2 and 9.2.2.2a).
use Rattle.std.specs.Prelude.{ℕ, List, [], ◌∷◌, ◌++◌, Option, Some, None, Result, Ok, Err}
use Rattle.sms_field.specs.Address.Value.{AddressValue}
use Rattle.sms_tpdu.specs.Submit.{Submission}
use Rattle.sms_relay.specs.declared.side.Side.TheVariants.{ToPhone}
use Rattle.sms_message.specs.Message.{Origin}
use Rattle.sms_message.specs.Message.Answers.{answers, submit_ack_of, submit_error_of}
use Rattle.sms_message.specs.Message.Request.{submission_from}
use Rattle.sms_message.specs.Does.{Does, refuses_with, turns_away}
use Rattle.sms_centre.specs.Centre.State.{Acceptance, Line, CentreState}
use Rattle.sms_message.specs.Changed.{changed}
use Rattle.sms_centre.specs.Centre.Checks.{books_of, checked_by}
use Rattle.sms_message.specs.declared.message.TransferUnit.{TransferUnit}
use Rattle.sms_message.specs.declared.message.Tag.{Tag}
use Rattle.sms_message.specs.declared.request.NotTaken.{NotTaken}
use Rattle.sms_centre.specs.declared.centre.check.Check.{Check}
use Rattle.sms_centre.specs.declared.centre.check.Check.TheVariants.{Refuse, Accept}
use Rattle.sms_message.specs.declared.outcome.Outcome.TheVariants.{Held}

-- an RP-ERROR with an SMS-SUBMIT-REPORT, whose stamp is that of now
abbrev pub refuses : CentreState → ℕ → Tag → ℕ → ℕ → Does CentreState
refuses c now tag cause failure =
    refuses_with c ToPhone tag cause (Some failure) (Some (submit_error_of failure now))

-- what is not taken is dropped, or refused so
abbrev pub turned_away : CentreState → ℕ → Tag → NotTaken → Does CentreState
turned_away c now tag why = turns_away c ToPhone tag (λ failure. submit_error_of failure now) why

-- the message goes to the end of its recipient's queue
abbrev pub after_acceptance : Line → Acceptance → Line
after_acceptance l a = record { queue = l.queue ++ a ∷ []; pushes = l.pushes; latest = l.latest }

abbrev pub accept : CentreState → Acceptance → CentreState
accept c a =
    record {
      accepted = a ∷ c.accepted;
      line = changed c.line a.recipient (after_acceptance (c.line a.recipient) a);
    }

-- A submission is answered as it was checked. What is accepted is held from now on to the end of
-- its validity; its report has the stamp that it was given.
unfoldable pub checked : CentreState → ℕ → ℕ → Tag → Submission → Option Origin → Check
    → Does CentreState
checked c now phone tag s origin (Refuse cause failure) = refuses c now tag cause failure
checked c now phone tag s origin (Accept recipient ends stamp) =
    record {
      answer = Ok Held;
      put = answers ToPhone tag None (Some (submit_ack_of stamp));
      after = accept c (record {
        phone = phone;
        submission = s;
        recipient = recipient;
        stamp = stamp;
        ends = ends;
        origin = origin;
      });
    }

abbrev pub submitted : ℕ → List AddressValue → CentreState → ℕ → ℕ → Tag → Option Origin
    → Result Submission NotTaken → Does CentreState
submitted limit phones c now phone tag origin (Ok s) =
    checked c now phone tag s origin
    (checked_by limit phones (books_of c.accepted now phone s) now s)
submitted limit phones c now phone tag origin (Err why) = turned_away c now tag why

-- An SMS-SUBMIT is checked. What is none is refused with RP-Cause 21, short message transfer
-- rejected (3GPP TS 24.011, 8.2.5.4).
unfoldable pub centre_takes : ℕ → List AddressValue → CentreState → ℕ → ℕ → Tag → TransferUnit
    → Option Origin → Does CentreState
centre_takes limit phones c now phone tag unit origin =
    submitted limit phones c now phone tag origin (submission_from 21 unit)
