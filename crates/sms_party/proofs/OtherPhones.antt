-- What one phone does leaves the sender of another as it is.
use Rattle.std.proofs.Common.{◌≡◌, ◌≢◌, ℕ, ◌-◌, ◌<◌, ◌==◌, Bool, true, false, cond, nat_lt, List, [], ◌∷◌, length, Option, refl, sym, subst, arith}
use Rattle.std.specs.Prelude.{nat_le}
use Rattle.std.proofs.lemmas.Bool.Decides.{nat_tests}
use Rattle.sms_field.specs.Address.Value.{AddressValue}
use Rattle.sms_relay.specs.declared.side.Side.TheVariants.{FromPhone, ToPhone}
use Rattle.sms_join.specs.declared.units.Units.{Units}
use Rattle.sms_message.specs.declared.message.Report.{Report}
use Rattle.sms_message.specs.declared.message.Relay.{Relay}
use Rattle.sms_message.specs.declared.message.Relay.TheVariants.{Transfer, Answer, UnknownType, Unreadable}
use Rattle.sms_message.specs.declared.message.Message.{Message}
use Rattle.sms_message.specs.declared.message.Message.TheVariants.{NotCp, Note, Tiny, Data}
use Rattle.sms_message.specs.declared.message.Tag.{Tag}
use Rattle.sms_message.specs.declared.outcome.Outcome.{Outcome}
use Rattle.sms_message.specs.declared.outcome.Dropped.{Dropped}
use Rattle.sms_message.specs.Message.{tag_of, same_tag}
use Rattle.sms_message.specs.Changed.{changed}
use Rattle.sms_party.specs.Sent.{Sent, Sends}
use Rattle.sms_party.specs.Sender.Texts.{Text, Sender, SenderState, new_text, size_of}
use Rattle.sms_party.specs.Sender.Putting.{Puts, with_sender, sender_drops, does}
use Rattle.sms_party.specs.Sender.Calls.{typed, composes, repeats, times_out}
use Rattle.sms_party.specs.Sender.Answers.{hears, matches, sender_receives, sender_takes}
use Rattle.sms_party.specs.Sender.Value.{TextValue, SenderValue}
use Rattle.sms_party.specs.Sender.Stands.{ArePending, IsUnaccepted, Keeps, HasTries, SenderStands}
use Rattle.sms_party.specs.Sender.Others.{OthersLeaveSender}
use Rattle.sms_party.proofs.Waiting.{nth_more, pending_more}

elsewhere : {X : Type 0} (f : ℕ → X) (n i : ℕ) (x : X) → i ≢ n → f i ≡ changed f n x i
elsewhere f n i x apart = let e : (i == n) ≡ false = grind (arith, nat_tests) in rw e refl

-- one more text of another phone
unaccepted_after : (phone ended : ℕ) (texts : List Text) (t : Text) (accepted : ℕ) (p : List TextValue) (q : List ℕ) → ArePending phone ended texts p q → IsUnaccepted texts accepted q → IsUnaccepted (t ∷ texts) accepted q
unaccepted_after phone ended texts t accepted [] [] a u = u
unaccepted_after phone ended texts t accepted [] (n ∷ ns) a u = absurd a
unaccepted_after phone ended texts t accepted (v ∷ vs) [] a u = absurd a
unaccepted_after phone ended texts t accepted (v ∷ vs) (n ∷ ns) a u =
    let h = a.0 in
    subst (λ (o : Option Text). accepted < size_of o) (sym (nth_more texts n h.text t h.is_there)) (subst (λ (o : Option Text). accepted < size_of o) h.is_there u)

kept : (phone : ℕ) (wide reject : Bool) (texts : List Text) (v : SenderValue) (s : Sender) (t : Text) → t.phone ≢ phone → Keeps phone wide reject texts v s → Keeps phone wide reject (t ∷ texts) v s
kept phone wide reject texts v s t apart k =
    let e : (t.phone == phone) ≡ false = grind (arith, nat_tests) in
    record {
      width_is = k.width_is;
      reject_is = k.reject_is;
      pending_are = pending_more phone (length v.ended) texts t v.pending s.pending k.pending_are;
      accepted_is = k.accepted_is;
      is_unaccepted = unaccepted_after phone (length v.ended) texts t s.accepted v.pending s.pending k.pending_are k.is_unaccepted;
      ended_are = k.ended_are;
      count = rw e k.count;
      message_reference_is = rw e k.message_reference_is;
      set_reference_is = rw e k.set_reference_is;
      next_is = k.next_is;
      latest_is = k.latest_is;
    }

module _ (phone other : ℕ) (v : SenderValue) (apart : phone ≢ other) where
  with_other : (x : SenderState) (s : Sender) → SenderStands phone v x → SenderStands phone v (with_sender x other s)
  unfolding with_sender
  with_other x s h =
      let e = elsewhere x.sender other phone s apart in
      record {
        keeps = subst (λ (u : Sender). Keeps phone x.wide x.reject x.texts v u) e h.keeps;
        tries_are = subst (λ (u : Sender). HasTries u.pending v.repeats u.tries) e h.tries_are;
      }

  done : (x : SenderState) (word : Outcome) (first : List Sent) (p : Puts) → SenderStands phone v x → SenderStands phone v (does x other word first p).after
  unfolding does
  done x word first p h = with_other x p.sender h

  dropped : (x : SenderState) (why : Dropped) → SenderStands phone v x → SenderStands phone v (sender_drops x why).after
  unfolding sender_drops
  dropped x why h = h

  -- a test, whichever way it goes
  whichever : (b : Bool) (d e : Sends SenderState) → SenderStands phone v d.after → SenderStands phone v e.after → SenderStands phone v (cond b d e).after
  whichever true d e h k = h
  whichever false d e h k = k

  more : (x : SenderState) (t : Text) → t.phone ≢ phone → SenderStands phone v x → SenderStands phone v (record { wide = x.wide; reject = x.reject; texts = t ∷ x.texts; sender = x.sender })
  more x t apart h = record { keeps = kept phone x.wide x.reject x.texts v (x.sender phone) t apart h.keeps; tries_are = h.tries_are }

  types : (x : SenderState) (t : Text) → t.phone ≢ phone → SenderStands phone v x → SenderStands phone v (typed x other t).after
  unfolding typed
  types x t far h = done (record { wide = x.wide; reject = x.reject; texts = t ∷ x.texts; sender = x.sender }) _ _ _ (more x t far h)

  new_apart : (x : SenderState) (target : AddressValue) (characters : List ℕ) (pieces : List Units) → (new_text x.wide x.texts other target characters pieces).phone ≢ phone
  unfolding new_text
  new_apart x target characters pieces e = apart (sym e)

  composed : (x : SenderState) (target : AddressValue) (characters : List ℕ) (pieces : List Units) → SenderStands phone v x → SenderStands phone v (composes x other target characters pieces).after
  unfolding composes
  composed x target characters pieces h =
      whichever (nat_le 1000 (length (x.sender other).pending)) _ _ (dropped x _ h)
      (whichever (nat_lt 255 (length pieces)) _ _ (dropped x _ h) (types x _ (new_apart x target characters pieces) h))

  late_by : (x : SenderState) (s : Sender) (q : List ℕ) → SenderStands phone v x → SenderStands phone v (repeats x other s q).after
  unfolding repeats
  late_by x s [] h = h
  late_by x s (n ∷ ns) h = whichever (nat_lt s.tries 4) _ _ (done x _ _ _ h) (done x _ _ _ h)

  late : (x : SenderState) → SenderStands phone v x → SenderStands phone v (times_out x other).after
  unfolding times_out
  late x h = late_by x (x.sender other) (x.sender other).pending h

  heard_by : (x : SenderState) (tag : Tag) (s : Sender) (n : ℕ) (ns : List ℕ) (good more : Bool) (failed : Outcome) → SenderStands phone v x → SenderStands phone v (hears x other tag s n ns good more failed).after
  unfolding hears
  heard_by x tag s n ns true true failed h = done x _ _ _ h
  heard_by x tag s n ns true false failed h = done x _ _ _ h
  heard_by x tag s n ns false true failed h = done x _ _ _ h
  heard_by x tag s n ns false false failed h = done x _ _ _ h

  matched : (x : SenderState) (tag : Tag) (s : Sender) (q : List ℕ) (cause : Option ℕ) (report : Option Report) → SenderStands phone v x → SenderStands phone v (matches x other tag s q cause report).after
  unfolding matches
  matched x tag s [] cause report h = dropped x _ h
  matched x tag s (n ∷ ns) cause report h = whichever (same_tag tag (tag_of (s.outs - 1))) _ _ (heard_by x tag s n ns _ _ _ h) (dropped x _ h)

  received : (x : SenderState) (tag : Tag) (relay : Relay) → SenderStands phone v x → SenderStands phone v (sender_receives x other tag relay).after
  unfolding sender_receives
  received x tag (Answer ToPhone cause report) h = matched x tag (x.sender other) (x.sender other).pending cause report h
  received x tag (Answer FromPhone cause report) h = dropped x _ h
  received x tag (Transfer side unit) h = dropped x _ h
  received x tag UnknownType h = dropped x _ h
  received x tag Unreadable h = dropped x _ h

  taken : (x : SenderState) (message : Message) → SenderStands phone v x → SenderStands phone v (sender_takes x other message).after
  unfolding sender_takes
  taken x NotCp h = dropped x _ h
  taken x (Note flag value) h = h
  taken x (Tiny flag value) h = dropped x _ h
  taken x (Data true tag relay) h = received x tag relay h
  taken x (Data false tag relay) h = dropped x _ h

pub others_leave : OthersLeaveSender
others_leave phone other v x apart h = (
  λ target characters pieces. composed phone other v apart x target characters pieces h,
  late phone other v apart x h,
  λ message. taken phone other v apart x message h,
)
