-- A text is typed, or an answer does not come in time.
use Rattle.std.specs.Prelude.{ℕ, Bool, true, false, if◌then◌else◌, ◌==◌, nat_lt, nat_le, List, [], ◌∷◌, ◌++◌, length, Ok}
use Rattle.sms_field.specs.Address.Value.{AddressValue}
use Rattle.sms_join.specs.declared.cut.TheConstants.{SEGMENTS_MAX}
use Rattle.sms_join.specs.declared.units.Units.{Units}
use Rattle.sms_message.specs.declared.outcome.Outcome.TheVariants.{Typed, Repeated, GaveUp, Idle}
use Rattle.sms_message.specs.declared.outcome.Dropped.TheVariants.{Busy, TooManySegments}
use Rattle.sms_party.specs.declared.sender.TheConstants.{PENDING_MAX}
use Rattle.sms_party.specs.Sent.{nth, Sends}
use Rattle.sms_party.specs.Sender.Texts.{Text, Sender, SenderState, new_text, number_of}
use Rattle.sms_party.specs.Sender.Putting.{puts, sender_drops, does}

unfoldable pub appended : Sender → ℕ → Sender
appended s n =
    record {
      pending = s.pending ++ n ∷ [];
      accepted = s.accepted;
      tries = s.tries;
      outs = s.outs;
      ended = s.ended;
    }

-- a segment is put out only where no text waited
unfoldable pub typed : SenderState → ℕ → Text → Sends SenderState
typed x phone t =
    does (record { wide = x.wide; reject = x.reject; texts = t ∷ x.texts; sender = x.sender }) phone
    (Typed t.number) []
    (if length (x.sender phone).pending == 0
    then puts (t ∷ x.texts) phone (appended (x.sender phone) (length x.texts)) x.reject
    else record { sent = []; sender = appended (x.sender phone) (length x.texts) })

-- Too many texts wait, or the text has too many segments; else it is one more.
unfoldable pub composes : SenderState → ℕ → AddressValue → List ℕ → List Units → Sends SenderState
composes x phone target characters pieces =
    if nat_le PENDING_MAX (length (x.sender phone).pending) then sender_drops x Busy
    else (if nat_lt SEGMENTS_MAX (length pieces) then sender_drops x TooManySegments
    else typed x phone (new_text x.wide x.texts phone target characters pieces))

-- the first text has ended
unfoldable pub ends : Sender → ℕ → List ℕ → Bool → Sender
ends s n later good =
    record { pending = later; accepted = 0; tries = 0; outs = s.outs; ended = (n, good) ∷ s.ended }

-- put out fewer than four times: once more, duplicates to be rejected; else the text has failed
unfoldable pub repeats : SenderState → ℕ → Sender → List ℕ → Sends SenderState
repeats x phone s [] = record { answer = Ok Idle; put = []; after = x }
repeats x phone s (n ∷ later) =
    if nat_lt s.tries 4
    then does x phone (Repeated (number_of (nth x.texts n))) [] (puts x.texts phone s true)
    else does x phone (GaveUp (number_of (nth x.texts n))) []
    (puts x.texts phone (ends s n later false) x.reject)

unfoldable pub times_out : SenderState → ℕ → Sends SenderState
times_out x phone = repeats x phone (x.sender phone) (x.sender phone).pending
