-- Where the new notes of a sender are counted, its answer could come.
use Rattle.std.proofs.Common.{◌≡◌, ℕ, suc, ◌-◌, ◌^◌, ◌<◌, ◌≤◌, ◌⊎◌, inl, inr, Bool, true, List, length, Option, Some, Ok, refl, sym, ap, ◌∙◌, subst, arith}
use Rattle.std.specs.List.{slice_get}
use Rattle.sms_message.specs.Changed.{changed}
use Rattle.sms_message.specs.declared.outcome.Outcome.{Outcome}
use Rattle.sms_message.specs.declared.outcome.Outcome.TheVariants as outcome
use Rattle.sms_world.specs.declared.notes.sender.SenderNotes.{SenderNotes}
use Rattle.sms_field.specs.Address.Value.{AddressValue}
use Rattle.sms_world.specs.Ledger.{Mark, mark_at, SenderNote, called, Ledger, AreAlike}
use Rattle.sms_world.specs.Machine.Event.{Event, Compose, Carry, Timeout, Push, Tick, Inject}
use Rattle.sms_world.specs.Noted.{Facts, sender_noted, carry_noted, push_noted, noted}
use Rattle.sms_world.specs.Told.{Told}
use Rattle.sms_world.specs.Inside.NotesValue.{sender_note, sender_at, is_ending, MayCome, IsCounted, IsMarkFor, IsFor}
use Rattle.sms_party.specs.Sent.{Place}
use Rattle.sms_world.proofs.Fronts.{accepted_alike}
use Rattle.sms_world.proofs.Replaced.{changed_here}

may_end : (n : ℕ) (note : SenderNote) (o : Outcome) → IsCounted (called n note (Ok o)) → is_ending o ≡ true → note.ended < length note.typed
may_end n note (outcome.Typed number) c e = cc
may_end n note (outcome.Segment number segment) c e = cc
may_end n note (outcome.Accepted number) c e = let l = c.0 in omega (arith, l)
may_end n note (outcome.Failed number cause failure) c e = let l = c.0 in omega (arith, l)
may_end n note (outcome.GaveUp number) c e = let l = c.0 in omega (arith, l)
may_end n note (outcome.Repeated number) c e = cc
may_end n note outcome.Idle c e = cc
may_end n note outcome.Held c e = cc
may_end n note (outcome.Refused cause failure) c e = cc
may_end n note outcome.Pushed c e = cc
may_end n note outcome.NothingWaits c e = cc
may_end n note outcome.Delivered c e = cc
may_end n note outcome.Returned c e = cc
may_end n note outcome.Abandoned c e = cc
may_end n note outcome.Finished c e = cc
may_end n note outcome.Kept c e = cc
may_end n note outcome.Repeat c e = cc
may_end n note outcome.Ticked c e = cc
may_end n note outcome.Noted c e = cc

may_come : (n : ℕ) (s : SenderNotes) (o : Outcome) → IsCounted (called n (sender_note s) (Ok o)) → MayCome s o
may_come n s o c = (may_end n (sender_note s) o c, subst (λ k. k < 2 ^ 64 - 1) (accepted_alike n (sender_note s) o) c.1)

pub may_call : (senders : List SenderNotes) (n phone : ℕ) (o : Outcome)
    → IsCounted (changed (λ p. sender_at (slice_get senders p)) phone (called n (sender_at (slice_get senders phone)) (Ok o)) phone)
    → (s : SenderNotes) → slice_get senders phone ≡ Some s → MayCome s o
may_call senders n phone o c s there =
    may_come n s o
    (subst (λ v. IsCounted (called n (sender_at v) (Ok o))) there
    (subst IsCounted (changed_here (λ p. sender_at (slice_get senders p)) phone (called n (sender_at (slice_get senders phone)) (Ok o))) c))

-- ---- a sender's call

pub either : {A B P : Type 0} → A ⊎ B → (A → P) → (B → P) → P
either (inl a) f g = f a
either (inr b) f g = g b

module _ (l k : Ledger) (reject : Bool) (now phone : ℕ) (f : Facts) (told : Told)
    (alike : IsCounted ((sender_noted l reject phone f.text told).sender phone) → AreAlike (sender_noted l reject phone f.text told) k) where
  at_phone : (p : ℕ) → p ≡ phone → IsCounted ((sender_noted l reject p f.text told).sender phone) → AreAlike (sender_noted l reject p f.text told) k
  at_phone p e c = subst (λ q. AreAlike (sender_noted l reject q f.text told) k) (sym e) (alike (subst (λ q. IsCounted ((sender_noted l reject q f.text told).sender phone)) e c))

  abbrev IsNoted : Event → Type 0
  IsNoted e = IsFor l e phone → IsCounted ((noted l reject now e told f).sender phone) → AreAlike (noted l reject now e told f) k

  pub when_typed : (event : Event) (p : ℕ) (target : AddressValue) (characters : List ℕ) → event ≡ Compose p target characters → IsNoted event
  when_typed event p target characters e = subst IsNoted (sym e) (unfold noted in λ for c. at_phone p for c)

  pub when_late : (event : Event) (p : ℕ) → event ≡ Timeout p → IsNoted event
  when_late event p e = subst IsNoted (sym e) (unfold noted in λ for c. at_phone p for c)

-- ---- the other events

module _ (l k : Ledger) (reject : Bool) (now phone : ℕ) (f : Facts) (told : Told) where
  abbrev pub IsNotedSo : Event → Type 0
  IsNotedSo e = IsFor l e phone → IsCounted ((noted l reject now e told f).sender phone) → AreAlike (noted l reject now e told f) k

  pub when_carried : (event : Event) (i : ℕ) (mark : Option Mark) → event ≡ Carry i → mark ≡ mark_at l.marks i
      → (IsMarkFor mark phone → IsCounted ((carry_noted l reject now f told mark).sender phone) → AreAlike (carry_noted l reject now f told mark) k) → IsNotedSo event
  when_carried event i mark e m h =
      subst IsNotedSo (sym e)
      (unfold noted in subst (λ v. IsMarkFor v phone → IsCounted ((carry_noted l reject now f told v).sender phone) → AreAlike (carry_noted l reject now f told v) k) m h)

  pub when_pushed : (event : Event) (p : ℕ) → event ≡ Push p → AreAlike (push_noted l phone f.stamp told) k → IsNotedSo event
  when_pushed event p e h = subst IsNotedSo (sym e) (unfold noted in λ for c. subst (λ q. AreAlike (push_noted l q f.stamp told) k) (sym for) h)

  pub when_ticked : (event : Event) (seconds : ℕ) → event ≡ Tick seconds → AreAlike l k → IsNotedSo event
  when_ticked event seconds e h = subst IsNotedSo (sym e) (unfold noted in λ for c. h)

  pub when_injected : (event : Event) (place : Place) (octets : List ℕ) → event ≡ Inject place octets → AreAlike l k → IsNotedSo event
  when_injected event place octets e h = subst IsNotedSo (sym e) (unfold noted in λ for c. h)
