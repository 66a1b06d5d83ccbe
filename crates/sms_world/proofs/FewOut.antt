-- At most two packets are put out at an event, and none where it comes to a fault.
use Rattle.std.proofs.Common.{◌≡◌, ℕ, zero, suc, ◌+◌, ◌≤◌, Bool, true, false, cond, ltb, List, [], ◌∷◌, length, Option, Some, None, Err, inl, inr, refl, sym, ap, ◌∙◌, subst, arith}
use Rattle.std.proofs.lemmas.Bool.{cond_both}
use Rattle.sms_field.specs.Time.Computed.{end_of_2099}
use Rattle.sms_message.specs.declared.message.Message.{Message}
use Rattle.sms_message.specs.declared.message.Message.TheVariants.{NotCp, Note, Tiny, Data}
use Rattle.sms_message.specs.Message.{Origin}
use Rattle.sms_centre.specs.Centre.{centre_receives}
use Rattle.sms_centre.specs.Centre.Pushes.{centre_pushes}
use Rattle.sms_party.specs.Few.{AreFewTo}
use Rattle.sms_party.specs.Receiver.{receiver_receives}
use Rattle.sms_party.specs.Sender.Answers.{sender_takes}
use Rattle.sms_party.specs.Sent.{Place, Centre, Phone, Sent}
use Rattle.sms_world.specs.Inside.Below.{Below}
use Rattle.sms_world.specs.Told.{Told}
use Rattle.sms_world.specs.Machine.{Machine}
use Rattle.sms_world.specs.Machine.Event.{Event, Act, TypesText, MovesPacket, EndsWait, HandsOver, MovesClock, SlipsIn}
use Rattle.sms_world.specs.Machine.Next.{Next, next, stays, by_sender, by_receiver, by_centre, of_centre, origin_of, pushed, to_phone, to_centre, comes, comes_to_phone, carries, packet, phone_of, receiver_limits}
use Rattle.sms_world.specs.Machine.Step.{Acts, Step}

up_as_many : (phone : ℕ) (vs : List Message) → length (to_centre phone vs) ≡ length vs
up_as_many phone [] = refl
up_as_many phone (v ∷ vs) = ap suc (up_as_many phone vs)

down_as_many : (phone : ℕ) (origin : Option Origin) (putting : Option ℕ) (vs : List Message) → length (to_phone phone origin putting vs) ≡ length vs
down_as_many phone origin putting [] = refl
down_as_many phone origin putting (v ∷ vs) = ap suc (down_as_many phone origin putting vs)

module _ (law : Below) (m : Machine) where
  abbrev Few : Next → Type 0
  Few r = length r.put ≤ 2

  stays_few : (told : Told) → Few (stays m told)
  unfolding stays
  stays_few told = omega arith

  comes_few : (to : Place) (v : Message) (origin : Option Origin) (putting : Option ℕ) → Few (comes m to v origin putting)
  unfolding comes comes_to_phone by_sender by_centre by_receiver of_centre sender_takes receiver_receives
  comes_few (Centre phone) v origin putting =
      subst (λ n. n ≤ 2) (sym (down_as_many phone None putting (centre_receives m.limits.held m.phones m.centre m.clock phone v origin).put))
      (law.centre_few.when_received m.limits.held m.phones m.centre m.clock phone v origin)
  comes_few (Phone phone) NotCp origin putting = stays_few _
  comes_few (Phone phone) (Note flag value) origin putting = stays_few _
  comes_few (Phone phone) (Tiny flag value) origin putting = stays_few _
  comes_few (Phone phone) (Data true tag relay) origin putting = (law.few_put.when_heard m.senders phone (Data true tag relay)).two
  comes_few (Phone phone) (Data false tag relay) origin putting =
      let few = law.few_put.by_receiver (receiver_limits m.limits) (m.receiver phone) m.clock (Data false tag relay) origin in
      subst (λ n. n ≤ 2) (sym (up_as_many phone (receiver_receives (receiver_limits m.limits) (m.receiver phone) m.clock (Data false tag relay) origin).put)) few

  carries_few : (x : Option Sent) → Few (carries m x)
  unfolding carries
  carries_few None = stays_few _
  carries_few (Some x) = comes_few x.to x.message x.origin x.putting

  next_few : (act : Act) → Few (next m act)
  unfolding next by_sender by_centre pushed of_centre
  next_few (TypesText phone target characters pieces) =
      cond_both (ltb phone (length m.phones)) _ _ Few (λ _. (law.few_put.when_typed m.senders phone target characters pieces).two) (λ _. stays_few _)
  next_few (MovesPacket k) = carries_few (packet m k)
  next_few (EndsWait phone) = cond_both (ltb phone (length m.phones)) _ _ Few (λ _. (law.few_put.when_late m.senders phone).two) (λ _. stays_few _)
  next_few (HandsOver phone) =
      cond_both (ltb phone (length m.phones)) _ _ Few
      (λ _. subst (λ n. n ≤ 2) (sym (down_as_many phone (origin_of ((centre_pushes m.phones m.centre m.clock phone).after.line phone).latest) None (centre_pushes m.phones m.centre m.clock phone).put))
      (law.centre_few.when_pushed m.phones m.centre m.clock phone)) (λ _. stays_few _)
  next_few (MovesClock seconds) = cond_both (ltb (m.clock + seconds) end_of_2099) _ _ Few (λ _. omega arith) (λ _. stays_few _)
  next_few (SlipsIn place message) =
      cond_both (ltb (phone_of place) (length m.phones)) _ _ Few (λ _. comes_few place message None None) (λ _. stays_few _)

  pub step_few : (event : Event) (told : Told) (put : List Sent) (n : Machine) → Step m event told put n → length put ≤ 2
  step_few event told put n step = go step.2
    where
      go : Acts m step.0 told put n → length put ≤ 2
      go (inl s) = subst (λ l. length l ≤ 2) s.1 (next_few step.0)
      go (inr s) = subst (λ l. length l ≤ 2) s.2 (omega arith)
