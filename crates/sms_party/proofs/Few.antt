-- How much a phone puts out.
use Rattle.std.proofs.Common.{◌≡◌, ℕ, ◌-◌, Bool, true, false, cond, nat_lt, List, [], ◌∷◌, length, Option, Some, None, refl, arith}
use Rattle.std.specs.Prelude.{nat_le, ◌==◌}
use Rattle.sms_field.specs.Address.Value.{AddressValue}
use Rattle.sms_field.specs.Coding.{alphabet_at}
use Rattle.sms_tpdu.specs.Deliver.{Delivery}
use Rattle.sms_relay.specs.declared.side.Side.TheVariants.{FromPhone, ToPhone}
use Rattle.sms_join.specs.declared.units.Units.{Units}
use Rattle.sms_join.specs.Piece.{Piece}
use Rattle.sms_join.specs.Joiner as joiner
use Rattle.sms_message.specs.declared.message.Report.{Report}
use Rattle.sms_message.specs.declared.message.TransferUnit.{TransferUnit}
use Rattle.sms_message.specs.declared.message.TransferUnit.TheVariants.{Submit, Deliver, OtherUnit, BadUnit}
use Rattle.sms_message.specs.declared.message.Relay.{Relay}
use Rattle.sms_message.specs.declared.message.Relay.TheVariants.{Transfer, Answer, UnknownType, Unreadable}
use Rattle.sms_message.specs.declared.message.Message.{Message}
use Rattle.sms_message.specs.declared.message.Message.TheVariants.{NotCp, Note, Tiny, Data}
use Rattle.sms_message.specs.declared.message.Tag.{Tag}
use Rattle.sms_message.specs.declared.outcome.Outcome.{Outcome}
use Rattle.sms_message.specs.declared.outcome.Dropped.{Dropped}
use Rattle.sms_message.specs.Message.{Origin, tag_of, same_tag}
use Rattle.sms_party.specs.Sent.{nth, Place, Centre, Sent, Sends, bare}
use Rattle.sms_message.specs.Few.{PutsFew, few_either}
use Rattle.sms_party.specs.Few.{AreFewTo, FewArePutOut}
use Rattle.sms_party.specs.Receiver.{receiver_takes, receiver_opened, receiver_receives}
use Rattle.sms_party.specs.Receiver.State.{ReceiverLimits, ReceiverState}
use Rattle.sms_join.specs.BodyUnits.{units_of_body}
use Rattle.sms_party.specs.Receiver.Offers.{settles, is_full_for, receiver_offers, offers_units}
use Rattle.sms_party.specs.Sender.Texts.{Text, Sender, SenderState}
use Rattle.sms_party.specs.Sender.Putting.{Puts, puts_text, puts_first, puts, sender_drops, does}
use Rattle.sms_party.specs.Sender.Calls.{appended, typed, composes, repeats, times_out}
use Rattle.sms_party.specs.Sender.Answers.{noted, hears, matches, sender_receives, sender_takes}

-- ---- a sender

-- one packet at most
abbrev IsOneTo : Place → List Sent → Type 0
IsOneTo place [] = Unit {0}
IsOneTo place (x ∷ []) = x.to ≡ place
IsOneTo place _ = ⊥

one_is_few : (place : Place) (put : List Sent) → IsOneTo place put → AreFewTo place put
one_is_few place [] h = record { two = omega arith; there = tt }
one_is_few place (x ∷ []) h = record { two = omega arith; there = (h, tt) }
one_is_few place (x ∷ y ∷ put) h = absurd h

module _ (phone : ℕ) where
  none : AreFewTo (Centre phone) []
  none = record { two = omega arith; there = tt }

  text_put : (s : Sender) (n : ℕ) (reject : Bool) (t : Option Text) → IsOneTo (Centre phone) (puts_text phone s n reject t).sent
  unfolding puts_text
  text_put s n reject None = tt
  text_put s n reject (Some t) = refl

  first_put : (texts : List Text) (s : Sender) (reject : Bool) (pending : List ℕ) → IsOneTo (Centre phone) (puts_first texts phone s reject pending).sent
  unfolding puts_first
  first_put texts s reject [] = tt
  first_put texts s reject (n ∷ later) = text_put s n reject (nth texts n)

  segment_put : (texts : List Text) (s : Sender) (reject : Bool) → IsOneTo (Centre phone) (puts texts phone s reject).sent
  unfolding puts
  segment_put texts s reject = first_put texts s reject s.pending

  -- a note, and one packet at most after it
  noted_few : (tag : Tag) (put : List Sent) → IsOneTo (Centre phone) put → AreFewTo (Centre phone) (bare (Centre phone) (Note false tag.value) ∷ put)
  unfolding bare
  noted_few tag [] h = record { two = omega arith; there = (refl, tt) }
  noted_few tag (x ∷ []) h = record { two = omega arith; there = (refl, (h, tt)) }
  noted_few tag (x ∷ y ∷ put) h = absurd h

  done : (x : SenderState) (word : Outcome) (p : Puts) → IsOneTo (Centre phone) p.sent → AreFewTo (Centre phone) (does x phone word [] p).put
  unfolding does
  done x word p h = one_is_few (Centre phone) p.sent h

  done_noted : (x : SenderState) (word : Outcome) (tag : Tag) (p : Puts) → IsOneTo (Centre phone) p.sent → AreFewTo (Centre phone) (does x phone word (noted phone tag) p).put
  unfolding does
  done_noted x word tag p h = noted_few tag p.sent h

  dropped : (x : SenderState) (why : Dropped) → AreFewTo (Centre phone) (sender_drops x why).put
  unfolding sender_drops
  dropped x why = none

  -- a test, whichever way it goes
  whichever : (b : Bool) (d e : Sends SenderState) → AreFewTo (Centre phone) d.put → AreFewTo (Centre phone) e.put → AreFewTo (Centre phone) (cond b d e).put
  whichever true d e h k = h
  whichever false d e h k = k

  one_or_none : (b : Bool) (p : Puts) (s : Sender) → IsOneTo (Centre phone) p.sent → IsOneTo (Centre phone) (cond b p (record { sent = []; sender = s })).sent
  one_or_none true p s h = h
  one_or_none false p s h = tt

  types : (x : SenderState) (t : Text) → AreFewTo (Centre phone) (typed x phone t).put
  unfolding typed
  types x t =
      done (record { wide = x.wide; reject = x.reject; texts = t ∷ x.texts; sender = x.sender }) _ _
      (one_or_none (length (x.sender phone).pending == 0) _ _ (segment_put (t ∷ x.texts) (appended (x.sender phone) (length x.texts)) x.reject))

  composed : (x : SenderState) (target : AddressValue) (characters : List ℕ) (pieces : List Units) → AreFewTo (Centre phone) (composes x phone target characters pieces).put
  unfolding composes
  composed x target characters pieces =
      whichever (nat_le 1000 (length (x.sender phone).pending)) _ _ (dropped x _)
      (whichever (nat_lt 255 (length pieces)) _ _ (dropped x _) (types x _))

  late_by : (x : SenderState) (s : Sender) (q : List ℕ) → AreFewTo (Centre phone) (repeats x phone s q).put
  unfolding repeats
  late_by x s [] = none
  late_by x s (n ∷ ns) = whichever (nat_lt s.tries 4) _ _ (done x _ _ (segment_put x.texts s true)) (done x _ _ (segment_put x.texts _ x.reject))

  late : (x : SenderState) → AreFewTo (Centre phone) (times_out x phone).put
  unfolding times_out
  late x = late_by x (x.sender phone) (x.sender phone).pending

  heard_by : (x : SenderState) (tag : Tag) (s : Sender) (n : ℕ) (ns : List ℕ) (good more : Bool) (failed : Outcome) → AreFewTo (Centre phone) (hears x phone tag s n ns good more failed).put
  unfolding hears
  heard_by x tag s n ns true true failed = done_noted x _ tag _ (segment_put x.texts _ x.reject)
  heard_by x tag s n ns true false failed = done_noted x _ tag _ (segment_put x.texts _ x.reject)
  heard_by x tag s n ns false more failed = done_noted x _ tag _ (segment_put x.texts _ x.reject)

  matched : (x : SenderState) (tag : Tag) (s : Sender) (q : List ℕ) (cause : Option ℕ) (report : Option Report) → AreFewTo (Centre phone) (matches x phone tag s q cause report).put
  unfolding matches
  matched x tag s [] cause report = dropped x _
  matched x tag s (n ∷ ns) cause report = whichever (same_tag tag (tag_of (s.outs - 1))) _ _ (heard_by x tag s n ns _ _ _) (dropped x _)

  received : (x : SenderState) (tag : Tag) (relay : Relay) → AreFewTo (Centre phone) (sender_receives x phone tag relay).put
  unfolding sender_receives
  received x tag (Answer ToPhone cause report) = matched x tag (x.sender phone) (x.sender phone).pending cause report
  received x tag (Answer FromPhone cause report) = dropped x _
  received x tag (Transfer side unit) = dropped x _
  received x tag UnknownType = dropped x _
  received x tag Unreadable = dropped x _

  taken : (x : SenderState) (message : Message) → AreFewTo (Centre phone) (sender_takes x phone message).put
  unfolding sender_takes
  taken x NotCp = dropped x _
  taken x (Note flag value) = none
  taken x (Tiny flag value) = dropped x _
  taken x (Data true tag relay) = received x tag relay
  taken x (Data false tag relay) = dropped x _

-- ---- a receiver

is_answered : (limits : ReceiverLimits) (s : ReceiverState) (tag : Tag) (from : AddressValue) (p : Piece) (origin : Option Origin) (given : joiner.Answer) → PutsFew (settles limits s tag from p origin given)
unfolding settles
is_answered limits s tag from p origin joiner.Repeat = omega arith
is_answered limits s tag from p origin joiner.Kept = omega arith
is_answered limits s tag from p origin (joiner.Finished us) = omega arith
is_answered limits s tag from p origin joiner.TooManyOpen = omega arith

is_offered : (limits : ReceiverLimits) (s : ReceiverState) (tag : Tag) (from : AddressValue) (p : Piece) (origin : Option Origin) → PutsFew (receiver_offers limits s tag from p origin)
unfolding receiver_offers
is_offered limits s tag from p origin = few_either (is_full_for limits s p) _ _ (omega arith) (is_answered limits s tag from p origin _)

units_offered : (limits : ReceiverLimits) (s : ReceiverState) (now : ℕ) (tag : Tag) (d : Delivery) (origin : Option Origin) (units : Option Units) → PutsFew (offers_units limits s now tag d origin units)
units_offered limits s now tag d origin None = omega arith
units_offered limits s now tag d origin (Some us) = is_offered limits s tag d.origin _ origin

delivery_taken : (limits : ReceiverLimits) (s : ReceiverState) (now : ℕ) (tag : Tag) (unit : TransferUnit) (origin : Option Origin) → PutsFew (receiver_takes limits s now tag unit origin)
unfolding receiver_takes
delivery_taken limits s now tag (Deliver d) origin = units_offered limits s now tag d origin (units_of_body (alphabet_at d.dcs) d.user.body)
delivery_taken limits s now tag (Submit u) origin = omega arith
delivery_taken limits s now tag OtherUnit origin = omega arith
delivery_taken limits s now tag BadUnit origin = omega arith

down_opened : (limits : ReceiverLimits) (s : ReceiverState) (now : ℕ) (tag : Tag) (relay : Relay) (origin : Option Origin) → PutsFew (receiver_opened limits s now tag relay origin)
unfolding receiver_opened
down_opened limits s now tag (Transfer ToPhone unit) origin = delivery_taken limits s now tag unit origin
down_opened limits s now tag (Transfer FromPhone unit) origin = omega arith
down_opened limits s now tag (Answer side cause report) origin = omega arith
down_opened limits s now tag UnknownType origin = omega arith
down_opened limits s now tag Unreadable origin = omega arith

receiver_few : (limits : ReceiverLimits) (s : ReceiverState) (now : ℕ) (message : Message) (origin : Option Origin) → PutsFew (receiver_receives limits s now message origin)
unfolding receiver_receives
receiver_few limits s now NotCp origin = omega arith
receiver_few limits s now (Note flag value) origin = omega arith
receiver_few limits s now (Tiny flag value) origin = omega arith
receiver_few limits s now (Data false tag relay) origin = down_opened limits s now tag relay origin
receiver_few limits s now (Data true tag relay) origin = omega arith

pub few_are_put_out : FewArePutOut
few_are_put_out =
    record {
      when_typed = λ x phone target characters pieces. composed phone x target characters pieces;
      when_late = λ x phone. late phone x;
      when_heard = λ x phone message. taken phone x message;
      by_receiver = receiver_few;
    }
