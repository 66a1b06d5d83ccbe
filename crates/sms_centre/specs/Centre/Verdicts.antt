-- The answer to a push: an RP-ACK, or an RP-ERROR with a cause (3GPP TS 24.011, 7.3.3 and 7.3.4).
use Rattle.std.specs.Prelude.{ℕ, Bool, false, ◌&&◌, if◌then◌else◌, ◌==◌, nat_lt, List, [], ◌∷◌, Option, Some, None, Ok}
use Rattle.sms_message.specs.Message.{same_tag}
use Rattle.sms_message.specs.Does.{Does, drops}
use Rattle.sms_centre.specs.Centre.State.{Acceptance, Pushing, Line, CentreState}
use Rattle.sms_message.specs.Changed.{changed}
use Rattle.sms_message.specs.declared.message.Message.TheVariants.{Note}
use Rattle.sms_message.specs.declared.message.Tag.{Tag}
use Rattle.sms_message.specs.declared.outcome.Outcome.{Outcome}
use Rattle.sms_message.specs.declared.outcome.Outcome.TheVariants.{Delivered, Returned, Abandoned}
use Rattle.sms_message.specs.declared.outcome.Dropped.TheVariants as dropped

-- the messages of the queue but those with this stamp
abbrev pub unqueued : List Acceptance → ℕ → List Acceptance
unqueued [] stamp = []
unqueued (a ∷ queue) stamp =
    if a.stamp == stamp then unqueued queue stamp else a ∷ unqueued queue stamp

-- With cause 22, memory capacity exceeded, the message waits on.
abbrev pub stays : Option ℕ → Bool
stays None = false
stays (Some cause) = cause == 22

-- what is left of the queue
abbrev pub left_in : List Acceptance → ℕ → Option ℕ → List Acceptance
left_in queue stamp cause = if stays cause then queue else unqueued queue stamp

abbrev pub verdict : Option ℕ → Outcome
verdict None = Delivered
verdict (Some cause) = if cause == 22 then Returned else Abandoned

abbrev pub after_answer : Line → Acceptance → Option ℕ → Line
after_answer l a cause =
    record { queue = left_in l.queue a.stamp cause; pushes = l.pushes; latest = None }

-- The push of this message is answered: the centre puts out a CP-ACK.
unfoldable pub settled : CentreState → ℕ → Tag → Acceptance → Option ℕ → Does CentreState
settled c phone tag a cause =
    record {
      answer = Ok (verdict cause);
      put = Note false tag.value ∷ [];
      after = record {
        accepted = c.accepted;
        line = changed c.line phone (after_answer (c.line phone) a cause);
      };
    }

-- An answer counts where it has the tag of the latest push to the phone, which was not answered yet
-- and whose message is still held.
unfoldable pub centre_hears : CentreState → ℕ → ℕ → Tag → Option ℕ → Option Pushing
    → Does CentreState
centre_hears c now phone tag cause None = drops c dropped.Unmatched
centre_hears c now phone tag cause (Some p) =
    if same_tag tag p.tag && nat_lt now p.message.ends
    then settled c phone tag p.message cause
    else drops c dropped.Unmatched
