-- A waiting segment is put out.
use Rattle.std.specs.Prelude.{ℕ, suc, Bool, false, List, [], ◌∷◌, ◌++◌, Option, Some, None, Ok, Err}
use Rattle.sms_relay.specs.declared.side.Side.TheVariants.{FromPhone}
use Rattle.sms_message.specs.declared.message.TransferUnit.TheVariants.{Submit}
use Rattle.sms_message.specs.declared.message.Relay.TheVariants.{Transfer}
use Rattle.sms_message.specs.declared.message.Message.TheVariants.{Data}
use Rattle.sms_message.specs.declared.outcome.Outcome.{Outcome}
use Rattle.sms_message.specs.declared.outcome.Dropped.{Dropped}
use Rattle.sms_message.specs.Message.{tag_of}
use Rattle.sms_message.specs.Changed.{changed}
use Rattle.sms_party.specs.Sent.{nth, Centre, Sent, Sends}
use Rattle.sms_party.specs.Sender.Texts.{Text, Sender, SenderState}
use Rattle.sms_party.specs.Sender.Segments.{submission_of}

-- what is put out, and the sender afterwards
pub record Puts : Type 0 where
  pub sent : List Sent
  pub sender : Sender

unfoldable pub puts_text : ℕ → Sender → ℕ → Bool → Option Text → Puts
puts_text phone s n reject None = record { sent = []; sender = s }
puts_text phone s n reject (Some t) =
    record {
      sent = record {
        message =
            Data false (tag_of s.outs)
            (Transfer FromPhone (Submit (submission_of t (suc s.accepted) reject)));
        to = Centre phone;
        origin = Some (record { text = n; segment = suc s.accepted });
        putting = Some s.outs;
      } ∷ [];
      sender = record {
        pending = s.pending;
        accepted = s.accepted;
        tries = suc s.tries;
        outs = suc s.outs;
        ended = s.ended;
      };
    }

unfoldable pub puts_first : List Text → ℕ → Sender → Bool → List ℕ → Puts
puts_first texts phone s reject [] = record { sent = []; sender = s }
puts_first texts phone s reject (n ∷ later) = puts_text phone s n reject (nth texts n)

-- the waiting segment is the first unaccepted one of the first text that has not ended
unfoldable pub puts : List Text → ℕ → Sender → Bool → Puts
puts texts phone s reject = puts_first texts phone s reject s.pending

-- ---- what a sender does

unfoldable pub with_sender : SenderState → ℕ → Sender → SenderState
with_sender x phone s =
    record { wide = x.wide; reject = x.reject; texts = x.texts; sender = changed x.sender phone s }

unfoldable pub sender_drops : SenderState → Dropped → Sends SenderState
sender_drops x why = record { answer = Err why; put = []; after = x }

-- the outcome, and what is put out before the segment
unfoldable pub does : SenderState → ℕ → Outcome → List Sent → Puts → Sends SenderState
does x phone outcome first p =
    record { answer = Ok outcome; put = first ++ p.sent; after = with_sender x phone p.sender }
