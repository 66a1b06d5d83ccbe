-- That a text was typed is answered to typing alone.
use Rattle.std.proofs.Common.{◌≡◌, ℕ, ◌-◌, Bool, true, false, ltb, List, [], ◌∷◌, Option, Ok}
use Rattle.std.proofs.lemmas.Bool.{cond_both}
use Rattle.sms_relay.specs.declared.side.Side.TheVariants.{FromPhone, ToPhone}
use Rattle.sms_message.specs.declared.message.Relay.{Relay}
use Rattle.sms_message.specs.declared.message.Relay.TheVariants.{Transfer, Answer, UnknownType, Unreadable}
use Rattle.sms_message.specs.declared.message.Report.{Report}
use Rattle.sms_message.specs.declared.message.Tag.{Tag}
use Rattle.sms_message.specs.declared.outcome.Outcome.TheVariants as outcome
use Rattle.sms_message.specs.Message.{tag_of, same_tag}
use Rattle.sms_party.specs.Sent.{Sends}
use Rattle.sms_party.specs.Sender.Texts.{Sender, SenderState}
use Rattle.sms_party.specs.Sender.Putting.{sender_drops, does}
use Rattle.sms_party.specs.Sender.Calls.{repeats, times_out}
use Rattle.sms_party.specs.Sender.Answers.{matches, hears, sender_receives}
use Rattle.sms_world.specs.Told.{of_party}

module _ (x : SenderState) (phone : ℕ) where
  abbrev Untyped : Sends SenderState → Type 0
  Untyped d = (number : ℕ) → of_party d.answer ≡ Ok (outcome.Typed number) → ⊥

  repeats_untyped : (ns : List ℕ) → Untyped (repeats x phone (x.sender phone) ns)
  unfolding repeats does
  repeats_untyped [] = λ number e. cc
  repeats_untyped (n ∷ later) = cond_both (ltb (x.sender phone).tries 4) _ _ Untyped (λ _ number e. cc) (λ _ number e. cc)

  pub late_untyped : Untyped (times_out x phone)
  unfolding times_out
  late_untyped = repeats_untyped (x.sender phone).pending

  hears_untyped : (tag : Tag) (n : ℕ) (later : List ℕ) (good more : Bool) (text cause : ℕ) (failure : Option ℕ)
      → Untyped (hears x phone tag (x.sender phone) n later good more (outcome.Failed text cause failure))
  unfolding hears does
  hears_untyped tag n later true true text cause failure = λ number e. cc
  hears_untyped tag n later true false text cause failure = λ number e. cc
  hears_untyped tag n later false more text cause failure = λ number e. cc

  matches_untyped : (tag : Tag) (ns : List ℕ) (cause : Option ℕ) (report : Option Report) → Untyped (matches x phone tag (x.sender phone) ns cause report)
  unfolding matches sender_drops
  matches_untyped tag [] cause report = λ number e. cc
  matches_untyped tag (n ∷ later) cause report =
      cond_both (same_tag tag (tag_of ((x.sender phone).outs - 1))) _ _ Untyped (λ _. hears_untyped tag n later _ _ _ _ _) (λ _ number e. cc)

  pub answers_untyped : (tag : Tag) (v : Relay) → Untyped (sender_receives x phone tag v)
  unfolding sender_receives sender_drops
  answers_untyped tag (Answer ToPhone cause report) = matches_untyped tag (x.sender phone).pending cause report
  answers_untyped tag (Answer FromPhone cause report) = λ number e. cc
  answers_untyped tag (Transfer side unit) = λ number e. cc
  answers_untyped tag UnknownType = λ number e. cc
  answers_untyped tag Unreadable = λ number e. cc
