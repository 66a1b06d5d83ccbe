-- The senders put out segments of their texts alone.
use Rattle.std.proofs.Common.{◌≡◌, ℕ, suc, ◌-◌, ◌<◌, Bool, true, false, cond, eqb, ltb, leb, List, [], ◌∷◌, ◌++◌, length, refl, subst, arith, Option, ◌⊎◌, inl, inr}
use Rattle.std.specs.List.{AllByRecursion}
use Rattle.std.proofs.lemmas.Bool.{ltb-true, cond_both}
use Rattle.sms_field.specs.Address.Value.{AddressValue}
use Rattle.sms_relay.specs.declared.side.Side.TheVariants.{FromPhone, ToPhone}
use Rattle.sms_join.specs.declared.units.Units.{Units}
use Rattle.sms_join.specs.UnitsOfText.{IsText}
use Rattle.sms_join.specs.Cut.{IsCut}
use Rattle.sms_message.specs.declared.message.Report.{Report}
use Rattle.sms_message.specs.declared.message.Relay.{Relay}
use Rattle.sms_message.specs.declared.message.Relay.TheVariants.{Transfer, Answer, UnknownType, Unreadable}
use Rattle.sms_message.specs.declared.message.Tag.{Tag}
use Rattle.sms_message.specs.Message.{tag_of, same_tag}
use Rattle.sms_centre.specs.Centre.State.{Acceptance}
use Rattle.sms_party.specs.Sent.{Sent, bare, Sends}
use Rattle.sms_message.specs.declared.outcome.Outcome.{Outcome}
use Rattle.sms_message.specs.declared.outcome.Outcome.TheVariants.{Typed}
use Rattle.sms_message.specs.declared.outcome.Dropped.{Dropped}
use Rattle.sms_party.specs.Sender.Texts.{Text, Sender, SenderState, width_of, new_text}
use Rattle.sms_party.specs.Sender.Putting.{Puts, puts, puts_first, puts_text, with_sender, sender_drops, does}
use Rattle.sms_party.specs.Sender.Calls.{appended, typed, composes, ends, repeats, times_out}
use Rattle.sms_party.specs.Sender.Answers.{advanced, noted, hears, matches, sender_receives, accepts}
use Rattle.sms_world.specs.Texts.{size_in}
use Rattle.sms_world.specs.Claims.Pieces.{HasCut, IsSentOf, IsPending, IsUnderWay, SenderSound}
use Rattle.sms_world.proofs.Growing.{each_append, nth_newest, sender_more, changed_each}
use Rattle.sms_world.proofs.Pieces.{some_piece}

-- all senders, and what one call of a sender puts out
abbrev pub SendersSound : SenderState → Type 0
SendersSound x = (phone : ℕ) → SenderSound x.texts phone (x.sender phone)

pub record Good (phones : List AddressValue) (accepted : List Acceptance) (texts : List Text) (d : Sends SenderState) : Type 0 where
  pub senders : SendersSound d.after
  pub put : AllByRecursion (IsSentOf phones d.after.texts accepted) d.put
  -- at most one more text
  pub grown : (d.after.texts ≡ texts) ⊎ ((t : Text) × (d.after.texts ≡ t ∷ texts) × HasCut t)

record GoodPuts (phones : List AddressValue) (accepted : List Acceptance) (texts : List Text) (phone : ℕ) (p : Puts) : Type 0 where
  sender : SenderSound texts phone p.sender
  put : AllByRecursion (IsSentOf phones texts accepted) p.sent

puts_good : (phones : List AddressValue) (accepted : List Acceptance) (texts : List Text) (phone : ℕ) (s : Sender) (reject : Bool)
    → SenderSound texts phone s → GoodPuts phones accepted texts phone (puts texts phone s reject)
unfolding puts puts_first puts_text
puts_good phones accepted texts phone s reject h = go s.pending h.pending h.under_way h
  where
    go : (ns : List ℕ) → AllByRecursion (IsPending texts phone) ns → IsUnderWay texts ns s.accepted → SenderSound texts phone s
        → GoodPuts phones accepted texts phone (puts_first texts phone s reject ns)
    go [] e u h = record { sender = h; put = tt }
    go (n ∷ later) e u h =
        let f = e.0.1 in
        let u' : s.accepted < length e.0.0.pieces = rw f at u in
        rw f (record {
          sender = record { pending = h.pending; under_way = h.under_way };
          put = (
            record {
              text = e.0.0;
              segment = record { found = f; from_one = omega arith; within = u' };
              sender = e.0.2;
              reject = reject;
              is = refl;
            },
            tt,
          );
        })

does_good : (phones : List AddressValue) (accepted : List Acceptance) (x : SenderState) (phone : ℕ) (o : Outcome) (first : List Sent) (p : Puts)
    → SendersSound x → GoodPuts phones accepted x.texts phone p → AllByRecursion (IsSentOf phones x.texts accepted) first
    → Good phones accepted x.texts (does x phone o first p)
unfolding does with_sender
does_good phones accepted x phone o first p h g f =
    record {
      senders = changed_each (SenderSound x.texts) x.sender phone p.sender g.sender h;
      put = each_append (IsSentOf phones x.texts accepted) first p.sent f g.put;
      grown = inl refl;
    }

drops_good : (phones : List AddressValue) (accepted : List Acceptance) (x : SenderState) (o : Dropped)
    → SendersSound x → Good phones accepted x.texts (sender_drops x o)
unfolding sender_drops
drops_good phones accepted x o h = record { senders = h; put = tt; grown = inl refl }

-- a text that has ended
pub ends_sound : (texts : List Text) (phone : ℕ) (s : Sender) (n : ℕ) (later : List ℕ) (good : Bool)
    → AllByRecursion (IsPending texts phone) later → SenderSound texts phone (ends s n later good)
unfolding ends
ends_sound texts phone s n [] good h = record { pending = h; under_way = refl }
ends_sound texts phone s n (k ∷ later) good h =
    let f = h.0.1 in
    record { pending = h; under_way = rw f h.0.3 }

-- a text that is typed
pub appended_sound : (texts : List Text) (phone : ℕ) (s : Sender) (n : ℕ) → IsPending texts phone n
    → SenderSound texts phone s → SenderSound texts phone (appended s n)
unfolding appended
appended_sound texts phone s n p h =
    record {
      pending = each_append (IsPending texts phone) s.pending (n ∷ []) h.pending (p, tt);
      under_way = go s.pending h.under_way;
    }
  where
    go : (ns : List ℕ) → IsUnderWay texts ns s.accepted → IsUnderWay texts (ns ++ n ∷ []) s.accepted
    go [] u = let f = p.1 in rw (f, u) p.3
    go (k ∷ ns) u = u

typed_good : (phones : List AddressValue) (accepted : List Acceptance) (x : SenderState) (phone : ℕ) (t : Text)
    → t.phone ≡ phone → 0 < length t.pieces → HasCut t → SendersSound x → Good phones accepted x.texts (typed x phone t)
unfolding typed does with_sender
typed_good phones accepted x phone t own some cut h =
    record { senders = g.senders; put = g.put; grown = inr (t, refl, cut) }
  where
    now : SenderSound (t ∷ x.texts) phone (appended (x.sender phone) (length x.texts))
    now = appended_sound (t ∷ x.texts) phone (x.sender phone) (length x.texts) (t, nth_newest t x.texts, own, some)
        (sender_more t x.texts phone (x.sender phone) (h phone))

    g : Good phones accepted (t ∷ x.texts) (typed x phone t)
    g =
        does_good phones accepted (record { wide = x.wide; reject = x.reject; texts = t ∷ x.texts; sender = x.sender }) phone (Typed t.number) []
        (cond (eqb (length (x.sender phone).pending) 0)
        (puts (t ∷ x.texts) phone (appended (x.sender phone) (length x.texts)) x.reject)
        (record { sent = []; sender = appended (x.sender phone) (length x.texts) }))
        (λ p. sender_more t x.texts p (x.sender p) (h p))
        (cond_both (eqb (length (x.sender phone).pending) 0) _ _ (GoodPuts phones accepted (t ∷ x.texts) phone)
        (λ _. puts_good phones accepted (t ∷ x.texts) phone (appended (x.sender phone) (length x.texts)) x.reject now)
        (λ _. record { sender = now; put = tt }))
        tt

pub composes_good : (phones : List AddressValue) (accepted : List Acceptance) (x : SenderState) (phone : ℕ) (target : AddressValue) (characters : List ℕ) (pieces : List Units)
    → IsText characters → IsCut (width_of x.wide) characters pieces
    → SendersSound x → Good phones accepted x.texts (composes x phone target characters pieces)
unfolding composes new_text
composes_good phones accepted x phone target characters pieces is_text is_cut h =
    cond_both (leb 1000 (length (x.sender phone).pending)) _ _ (Good phones accepted x.texts) (λ _. drops_good phones accepted x _ h)
    (λ _. cond_both (ltb 255 (length pieces)) _ _ (Good phones accepted x.texts) (λ _. drops_good phones accepted x _ h)
    (λ _. typed_good phones accepted x phone (new_text x.wide x.texts phone target characters pieces) refl (some_piece (width_of x.wide) characters pieces is_cut)
    (record { is_text = is_text; is_cut = is_cut }) h))

repeats_good : (phones : List AddressValue) (accepted : List Acceptance) (x : SenderState) (phone : ℕ) (ns : List ℕ)
    → AllByRecursion (IsPending x.texts phone) ns
    → SendersSound x → Good phones accepted x.texts (repeats x phone (x.sender phone) ns)
unfolding repeats
repeats_good phones accepted x phone [] e h = record { senders = h; put = tt; grown = inl refl }
repeats_good phones accepted x phone (n ∷ later) e h =
    cond_both (ltb (x.sender phone).tries 4) _ _ (Good phones accepted x.texts)
    (λ _. does_good phones accepted x phone _ [] (puts x.texts phone (x.sender phone) true) h
    (puts_good phones accepted x.texts phone (x.sender phone) true (h phone)) tt)
    (λ _. does_good phones accepted x phone _ [] (puts x.texts phone (ends (x.sender phone) n later false) x.reject) h
    (puts_good phones accepted x.texts phone (ends (x.sender phone) n later false) x.reject
    (ends_sound x.texts phone (x.sender phone) n later false e.1)) tt)

pub times_out_good : (phones : List AddressValue) (accepted : List Acceptance) (x : SenderState) (phone : ℕ)
    → SendersSound x → Good phones accepted x.texts (times_out x phone)
unfolding times_out
times_out_good phones accepted x phone h = repeats_good phones accepted x phone (x.sender phone).pending (h phone).pending h

acknowledged : (phones : List AddressValue) (texts : List Text) (accepted : List Acceptance) (phone : ℕ) (tag : Tag)
    → AllByRecursion (IsSentOf phones texts accepted) (noted phone tag)
unfolding bare
acknowledged phones texts accepted phone tag = (tt, tt)

hears_good : (phones : List AddressValue) (accepted : List Acceptance) (x : SenderState) (phone : ℕ) (tag : Tag) (n : ℕ) (later : List ℕ)
    (good more : Bool) (failed : Outcome) → (x.sender phone).pending ≡ n ∷ later → AllByRecursion (IsPending x.texts phone) (n ∷ later)
    → (more ≡ true → suc (x.sender phone).accepted < size_in x.texts n)
    → SendersSound x → Good phones accepted x.texts (hears x phone tag (x.sender phone) n later good more failed)
unfolding hears advanced
hears_good phones accepted x phone tag n later true true failed p e m h =
    does_good phones accepted x phone _ _ (puts x.texts phone (advanced (x.sender phone)) x.reject) h
    (puts_good phones accepted x.texts phone (advanced (x.sender phone)) x.reject
    (record { pending = (h phone).pending; under_way = rw p (m refl) }))
    (acknowledged phones x.texts accepted phone tag)
hears_good phones accepted x phone tag n later true false failed p e m h =
    does_good phones accepted x phone _ _ (puts x.texts phone (ends (x.sender phone) n later true) x.reject) h
    (puts_good phones accepted x.texts phone (ends (x.sender phone) n later true) x.reject (ends_sound x.texts phone (x.sender phone) n later true e.1))
    (acknowledged phones x.texts accepted phone tag)
hears_good phones accepted x phone tag n later false more failed p e m h =
    does_good phones accepted x phone _ _ (puts x.texts phone (ends (x.sender phone) n later false) x.reject) h
    (puts_good phones accepted x.texts phone (ends (x.sender phone) n later false) x.reject (ends_sound x.texts phone (x.sender phone) n later false e.1))
    (acknowledged phones x.texts accepted phone tag)

matches_good : (phones : List AddressValue) (accepted : List Acceptance) (x : SenderState) (phone : ℕ) (tag : Tag) (ns : List ℕ) (v : Option ℕ) (r : Option Report)
    → (x.sender phone).pending ≡ ns → SendersSound x → Good phones accepted x.texts (matches x phone tag (x.sender phone) ns v r)
unfolding matches
matches_good phones accepted x phone tag [] v r p h = drops_good phones accepted x _ h
matches_good phones accepted x phone tag (n ∷ later) v r p h =
    cond_both (same_tag tag (tag_of ((x.sender phone).outs - 1))) _ _ (Good phones accepted x.texts)
    (λ _. hears_good phones accepted x phone tag n later (accepts v r) (ltb (suc (x.sender phone).accepted) (size_in x.texts n)) _
    p (subst (AllByRecursion (IsPending x.texts phone)) p (h phone).pending) (λ q. ltb-true _ _ q) h)
    (λ _. drops_good phones accepted x _ h)

pub sender_receives_good : (phones : List AddressValue) (accepted : List Acceptance) (x : SenderState) (phone : ℕ) (tag : Tag) (v : Relay)
    → SendersSound x → Good phones accepted x.texts (sender_receives x phone tag v)
unfolding sender_receives
sender_receives_good phones accepted x phone tag (Answer ToPhone cause report) h =
    matches_good phones accepted x phone tag (x.sender phone).pending cause report refl h
sender_receives_good phones accepted x phone tag (Answer FromPhone cause report) h = drops_good phones accepted x _ h
sender_receives_good phones accepted x phone tag (Transfer side unit) h = drops_good phones accepted x _ h
sender_receives_good phones accepted x phone tag UnknownType h = drops_good phones accepted x _ h
sender_receives_good phones accepted x phone tag Unreadable h = drops_good phones accepted x _ h
