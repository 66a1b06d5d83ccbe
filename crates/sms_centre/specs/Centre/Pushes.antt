-- The centre puts out a message to a phone: an SMS-DELIVER (3GPP TS 23.040, 9.2.2.1).
use Rattle.std.specs.Prelude.{ℕ, suc, Bool, false, List, [], ◌∷◌, ◌++◌, Some, Ok}
use Rattle.sms_field.specs.Address.Value.{AddressValue}
use Rattle.sms_tpdu.specs.Deliver.{Delivery}
use Rattle.sms_relay.specs.declared.side.Side.TheVariants.{ToPhone}
use Rattle.sms_field.specs.Time.Computed.{stamp_octets}
use Rattle.sms_message.specs.Address.{address_of}
use Rattle.sms_message.specs.Message.{tag_of}
use Rattle.sms_message.specs.Does.{Does}
use Rattle.sms_centre.specs.Centre.State.{Acceptance, Line, CentreState}
use Rattle.sms_message.specs.Changed.{changed}
use Rattle.sms_message.specs.More.{is_more}
use Rattle.sms_centre.specs.Centre.Held.{unended}
use Rattle.sms_message.specs.declared.message.TransferUnit.TheVariants.{Deliver}
use Rattle.sms_message.specs.declared.message.Relay.TheVariants.{Transfer}
use Rattle.sms_message.specs.declared.message.Message.TheVariants.{Data}
use Rattle.sms_message.specs.declared.outcome.Outcome.TheVariants.{Pushed, NothingWaits}

-- TP-OA is the address of the phone that submitted, TP-SCTS the stamp that the message was given;
-- TP-RP, TP-PID, TP-DCS and TP-UD are the submission's. TP-MMS says whether another message waits.
-- There is no loop prevention and no status report.
abbrev pub delivery : List AddressValue → Acceptance → Bool → Delivery
delivery phones a more =
    record {
      more = more;
      looped = false;
      report = false;
      reply = a.submission.reply;
      origin = address_of phones a.phone;
      pid = a.submission.pid;
      dcs = a.submission.dcs;
      stamp = stamp_octets a.stamp;
      user = a.submission.user;
    }

-- the message goes to the end of the queue, and is the latest push
abbrev pub after_push : Line → Acceptance → List Acceptance → Line
after_push l a others =
    record {
      queue = others ++ a ∷ [];
      pushes = suc l.pushes;
      latest = Some (record { tag = tag_of l.pushes; message = a });
    }

-- The first of the messages that wait is put out, with the next tag of its phone, flag 0.
unfoldable pub pushes_first : List AddressValue → CentreState → ℕ → List Acceptance
    → Does CentreState
pushes_first phones c phone [] = record { answer = Ok NothingWaits; put = []; after = c }
pushes_first phones c phone (a ∷ others) =
    record {
      answer = Ok Pushed;
      put =
          Data false (tag_of (c.line phone).pushes)
          (Transfer ToPhone (Deliver (delivery phones a (is_more others))))
          ∷ [];
      after = record {
        accepted = c.accepted;
        line = changed c.line phone (after_push (c.line phone) a others);
      };
    }

-- Those messages wait that are neither delivered nor abandoned, and whose validity has not ended.
unfoldable pub centre_pushes : List AddressValue → CentreState → ℕ → ℕ → Does CentreState
centre_pushes phones c now phone = pushes_first phones c phone (unended (c.line phone).queue now)
