-- What comes to a receiving phone is what a state takes.
use Rattle.std.proofs.Common.{◌≡◌, ℕ, Bool, true, false, cond, ◌&&◌, List, [], ◌∷◌, ◌++◌, length, Option, Some, None, Result, Ok, Err, refl, sym, ap, ◌∙◌, subst}
use Rattle.std.specs.Prelude.{nat_le, reverse}
use Rattle.std.proofs.lemmas.List.{length-reverse, reverse-append}
use Rattle.std.specs.Str.{chars}
use Rattle.std.specs.String.{string_bytes}
use Rattle.sms_field.specs.Address.Value.{AddressValue}
use Rattle.sms_join.specs.declared.units.Units.{Units}
use Rattle.sms_join.specs.declared.offer.Offer.TheVariants as offers
use Rattle.sms_join.specs.declared.offer.OfferFault.TheVariants as faults
use Rattle.sms_tpdu.specs.declared.user_data.concat.Concat.{Concat}
use Rattle.sms_tpdu.specs.Deliver.{Delivery}
use Rattle.sms_join.specs.Piece.{Piece, piece_of}
use Rattle.sms_tpdu.specs.UserData.ConcatenationFound.{concat_of_header}
use Rattle.sms_join.specs.Reading.{text_of_segments}
use Rattle.sms_join.specs.Joiner.{Joiner, new_joiner, Answer, Repeat, Kept, Finished, TooManyOpen, answer, answered, offered}
use Rattle.sms_join.specs.Joiner.Value.{JoinerValue, SameLimits}
use Rattle.sms_join.specs.Joiner.Same.{IsSame}
use Rattle.sms_join.specs.Joiner.Offering.{SaysAnswer, Says}
use Rattle.sms_join.specs.Joiner.Finishing.{would_finish, is_finished, SameIsEquivalence}
use Rattle.sms_join.specs.Joiner.Aging.{AgesAlike, aged}
use Rattle.sms_relay.specs.declared.side.Side.TheVariants.{FromPhone}
use Rattle.sms_message.specs.declared.message.Message.{Message}
use Rattle.sms_message.specs.declared.message.Tag.{Tag}
use Rattle.sms_message.specs.declared.outcome.Step.{Step}
use Rattle.sms_message.specs.declared.outcome.Outcome.{Outcome}
use Rattle.sms_message.specs.declared.outcome.Outcome.TheVariants as outcome
use Rattle.sms_message.specs.declared.outcome.Dropped.{Dropped}
use Rattle.sms_message.specs.declared.outcome.Dropped.TheVariants.{NotCp, Unmatched, Busy, Memory, TooManySegments}
use Rattle.sms_message.specs.Message.Reading.{ReadsAs}
use Rattle.sms_message.specs.Message.{Origin}
use Rattle.sms_message.specs.Does.{Puts, packets_of, CarriesEach, drops, notes}
use Rattle.sms_party.specs.Receiver.State.{Entry, ReceiverLimits, ReceiverState, new_receiver}
use Rattle.sms_message.specs.Message.Answers.{answers, plain_ack}
use Rattle.sms_party.specs.Receiver.Offers.{refuses, settles, is_full_for, offers_units, receiver_offers}
use Rattle.sms_party.specs.Receiver.{receiver_receives}
use Rattle.sms_party.specs.Receiver.Aging.{ages}
use Rattle.sms_party.specs.Receiver.Standing.{ReceiverValue, StandsFor, ReceiverAnswers, Steps, ReceivesAs}
use Rattle.sms_party.specs.Inside.JoinerLaws.{JoinerLaws}

-- an answer that changes nothing
pub puts_answer : (limits : ReceiverLimits) (v : ReceiverValue) (s : ReceiverState) (word : Outcome) (messages : List Message) (r : Result Step Dropped)
    → StandsFor limits v s → Puts word messages r → ReceiverAnswers limits s (record { answer = Ok word; put = messages; after = s }) r v
puts_answer limits v s word messages (Ok step) h p = (ap Ok (sym p.0), p.1, h)
puts_answer limits v s word messages (Err NotCp) h p = absurd (let e : NotCp ≡ Memory = p in cc)
puts_answer limits v s word messages (Err Unmatched) h p = absurd (let e : Unmatched ≡ Memory = p in cc)
puts_answer limits v s word messages (Err Busy) h p = absurd (let e : Busy ≡ Memory = p in cc)
puts_answer limits v s word messages (Err TooManySegments) h p = absurd (let e : TooManySegments ≡ Memory = p in cc)
puts_answer limits v s word messages (Err Memory) h p = h

pub nothing_comes : (limits : ReceiverLimits) (v : ReceiverValue) (s : ReceiverState) → StandsFor limits v s → ReceiverAnswers limits s (drops s Unmatched) (Err Unmatched) v
nothing_comes limits v s h = (refl, h)

pub nothing_read : (limits : ReceiverLimits) (v : ReceiverValue) (s : ReceiverState) → StandsFor limits v s → ReceiverAnswers limits s (drops s NotCp) (Err NotCp) v
nothing_read limits v s h = (refl, h)

pub noted : (limits : ReceiverLimits) (v : ReceiverValue) (s : ReceiverState) (step : Step) → step.outcome ≡ outcome.Noted → packets_of step ≡ [] → StandsFor limits v s → ReceiverAnswers limits s (notes s) (Ok step) v
noted limits v s step e f h = (ap Ok (sym e), subst (λ (l : List (List ℕ)). CarriesEach l []) (sym f) tt, h)

-- ---- what the joiner's answer says

pub says_repeat : (a : Answer) (first : Bool) → SaysAnswer a first (Ok offers.Repeat) → a ≡ Repeat
says_repeat Repeat first h = refl
says_repeat Kept first h = absurd h
says_repeat (Finished us) first h = absurd h
says_repeat TooManyOpen first h = absurd h

pub says_kept : (a : Answer) (first : Bool) → SaysAnswer a first (Ok offers.Kept) → a ≡ Kept
says_kept Repeat first h = absurd h
says_kept Kept first h = refl
says_kept (Finished us) first h = absurd h
says_kept TooManyOpen first h = absurd h

pub says_too_many : (a : Answer) (first : Bool) → SaysAnswer a first (Err faults.TooManyOpen) → a ≡ TooManyOpen
says_too_many Repeat first h = absurd h
says_too_many Kept first h = absurd h
says_too_many (Finished us) first h = absurd h
says_too_many TooManyOpen first h = refl

pub record IsText (a : Answer) (text : List ℕ) : Type 0 where
  pub units : List Units
  pub is : a ≡ Finished units
  pub reads : text ≡ text_of_segments units

pub says_text : (a : Answer) (first : Bool) (text : _) → SaysAnswer a first (Ok (offers.Finished text)) → IsText a (chars (string_bytes text))
says_text Repeat first text h = absurd h
says_text Kept first text h = absurd h
says_text (Finished us) first text h = record { units = us; is = refl; reads = h }
says_text TooManyOpen first text h = absurd h

-- ---- the code's joiner and store, and those of the state

-- the store has room, or the piece would not finish its set
abbrev pub Room : ReceiverValue → Piece → Type 0
Room v p = (nat_le v.limit (length v.store) && would_finish v.joiner.holds p) ≡ false

finish_alike : (laws : JoinerLaws) (i j : Joiner) (p : Piece) → IsSame i j → would_finish i p ≡ would_finish j p
finish_alike laws i j p h = sym (laws.finishes 0 i p) ∙ (ap is_finished (laws.alike 0 0 i j p h).0 ∙ laws.finishes 0 j p)

module _ (laws : JoinerLaws) (limits : ReceiverLimits) (v : ReceiverValue) (s : ReceiverState) (h : StandsFor limits v s) (p : Piece) where
  pub full_alike : (nat_le v.limit (length v.store) && would_finish v.joiner.holds p) ≡ is_full_for limits s p
  full_alike =
      let count : length v.store ≡ length s.store = ap (λ (l : List Entry). length l) h.store_is ∙ length-reverse s.store in
      ap (λ n. nat_le n (length v.store) && would_finish v.joiner.holds p) h.limit_is
      ∙ (ap (λ n. nat_le limits.store n && would_finish v.joiner.holds p) count
      ∙ ap (λ b. nat_le limits.store (length s.store) && b) (finish_alike laws v.joiner.holds s.joiner p h.same))

  pub answer_alike : answer v.joiner.open_max v.joiner.holds p ≡ answer limits.open_max s.joiner p
  answer_alike =
      ap (λ n. answer n v.joiner.holds p) h.open_max_is ∙ (laws.alike limits.open_max limits.remembered v.joiner.holds s.joiner p h.same).0

  module _ (tag : Tag) (from : AddressValue) (origin : Option Origin) where
    -- the store is full
    pub is_refused : (r : Result Step Dropped) → (nat_le v.limit (length v.store) && would_finish v.joiner.holds p) ≡ true
        → Puts (outcome.Refused 22 (Some 0xD3)) (refuses s tag 22 0xD3).put r → ReceiverAnswers limits s (receiver_offers limits s tag from p origin) r v
    unfolding receiver_offers
    is_refused r e puts =
        let full : is_full_for limits s p ≡ true = sym full_alike ∙ e in
        subst (λ (b : Bool). ReceiverAnswers limits s (cond b (refuses s tag 22 0xD3) (settles limits s tag from p origin (answer limits.open_max s.joiner p))) r v) (sym full)
        (puts_answer limits v s _ _ r h puts)

    module _ (e : (nat_le v.limit (length v.store) && would_finish v.joiner.holds p) ≡ false) (new : ReceiverValue) where
      by_answer : (r : Result Step Dropped) (a : Answer) → answer v.joiner.open_max v.joiner.holds p ≡ a
          → ReceiverAnswers limits s (settles limits s tag from p origin a) r new → ReceiverAnswers limits s (receiver_offers limits s tag from p origin) r new
      unfolding receiver_offers
      by_answer r a f k =
          let room : is_full_for limits s p ≡ false = sym full_alike ∙ e in
          subst (λ (b : Bool). ReceiverAnswers limits s (cond b (refuses s tag 22 0xD3) (settles limits s tag from p origin (answer limits.open_max s.joiner p))) r new) (sym room)
          (subst (λ (x : Answer). ReceiverAnswers limits s (settles limits s tag from p origin x) r new) (sym f ∙ answer_alike) k)

      -- too many sets are open
      pub is_over : (r : Result Step Dropped) → Says v.joiner.open_max v.joiner.holds p (Err faults.TooManyOpen) → new ≡ v
          → Puts (outcome.Refused 22 (Some 0xD3)) (refuses s tag 22 0xD3).put r → ReceiverAnswers limits s (receiver_offers limits s tag from p origin) r new
      unfolding settles
      is_over r says same puts =
          by_answer r TooManyOpen (says_too_many _ _ says) (puts_answer limits new s _ _ r (subst (λ (w : ReceiverValue). StandsFor limits w s) (sym same) h) puts)

      module _ (limit : new.limit ≡ v.limit) (kept : SameLimits new.joiner v.joiner)
          (holds : IsSame new.joiner.holds (offered v.joiner.open_max v.joiner.remembered v.joiner.holds p)) where
        same_after : (a : Answer) → answer v.joiner.open_max v.joiner.holds p ≡ a → IsSame new.joiner.holds (answered limits.remembered s.joiner p a)
        unfolding offered
        same_after a f =
            let then : IsSame new.joiner.holds (offered limits.open_max limits.remembered v.joiner.holds p) =
            subst (λ n. IsSame new.joiner.holds (offered limits.open_max n v.joiner.holds p)) h.remembered_is
            (subst (λ n. IsSame new.joiner.holds (offered n v.joiner.remembered v.joiner.holds p)) h.open_max_is holds) in
            subst (λ (x : Answer). IsSame new.joiner.holds (answered limits.remembered s.joiner p x)) (sym answer_alike ∙ f)
            (laws.same.2 _ _ _ then (laws.alike limits.open_max limits.remembered v.joiner.holds s.joiner p h.same).1)

        after_is : (a : Answer) (t : ReceiverState) → answer v.joiner.open_max v.joiner.holds p ≡ a
            → t.joiner ≡ answered limits.remembered s.joiner p a → new.store ≡ reverse t.store → StandsFor limits new t
        after_is a t f j k =
            record {
              limit_is = limit ∙ h.limit_is;
              open_max_is = kept.open_max ∙ h.open_max_is;
              remembered_is = kept.remembered ∙ h.remembered_is;
              same = subst (λ (x : Joiner). IsSame new.joiner.holds x) (sym j) (same_after a f);
              store_is = k;
            }

        pub is_repeated : (step : Step) → step.outcome ≡ outcome.Repeat → CarriesEach (packets_of step) (answers FromPhone tag None (Some plain_ack)) → new.store ≡ v.store
            → Says v.joiner.open_max v.joiner.holds p (Ok offers.Repeat) → ReceiverAnswers limits s (receiver_offers limits s tag from p origin) (Ok step) new
        unfolding settles
        is_repeated step word carries store says =
            let f = says_repeat _ _ says in
            by_answer (Ok step) Repeat f (ap Ok (sym word), carries, after_is Repeat _ f refl (store ∙ h.store_is))

        pub is_kept : (step : Step) → step.outcome ≡ outcome.Kept → CarriesEach (packets_of step) (answers FromPhone tag None (Some plain_ack)) → new.store ≡ v.store
            → Says v.joiner.open_max v.joiner.holds p (Ok offers.Kept) → ReceiverAnswers limits s (receiver_offers limits s tag from p origin) (Ok step) new
        unfolding settles
        is_kept step word carries store says =
            let f = says_kept _ _ says in
            by_answer (Ok step) Kept f (ap Ok (sym word), carries, after_is Kept _ f refl (store ∙ h.store_is))

        pub is_stored : (step : Step) (text : _) → step.outcome ≡ outcome.Finished → CarriesEach (packets_of step) (answers FromPhone tag None (Some plain_ack))
            → new.store ≡ v.store ++ record { origin = from; characters = chars (string_bytes text) } ∷ []
            → Says v.joiner.open_max v.joiner.holds p (Ok (offers.Finished text)) → ReceiverAnswers limits s (receiver_offers limits s tag from p origin) (Ok step) new
        unfolding settles
        is_stored step text word carries store says =
            let t = says_text _ _ text says in
            by_answer (Ok step) (Finished t.units) t.is (
              ap Ok (sym word),
              carries,
              after_is (Finished t.units) _ t.is refl
                  (store ∙ (ap (λ (l : List Entry). l ++ record { origin = from; characters = chars (string_bytes text) } ∷ []) h.store_is
                  ∙ ap (λ (x : List ℕ). reverse s.store ++ record { origin = from; characters = x } ∷ []) t.reads ∙ sym (reverse-append (record { origin = from; characters = text_of_segments t.units } ∷ []) s.store))),
            )

pub same_value : (limit : ℕ) (i j : JoinerValue) (xs ys : List Entry) → i ≡ j → xs ≡ ys
    → ◌≡◌ {A = ReceiverValue} (record { limit = limit; joiner = i; store = xs }) (record { limit = limit; joiner = j; store = ys })
same_value limit i j xs ys e f =
    ap (λ (x : JoinerValue). let r : ReceiverValue = record { limit = limit; joiner = x; store = xs } in r) e
    ∙ ap (λ (l : List Entry). let r : ReceiverValue = record { limit = limit; joiner = j; store = l } in r) f

-- what a delivery offers
pub units_offered : (limits : ReceiverLimits) (s : ReceiverState) (now : ℕ) (tag : Tag) (d : Delivery) (origin : Option Origin) (found : Option Units) (us : Units) (concat : Option Concat) (r : Result Step Dropped) (new : ReceiverValue)
    → found ≡ Some us → concat ≡ concat_of_header d.user.header
    → ReceiverAnswers limits s (receiver_offers limits s tag d.origin (piece_of now d.origin d.stamp concat us) origin) r new
    → ReceiverAnswers limits s (offers_units limits s now tag d origin found) r new
units_offered limits s now tag d origin found us concat r new e f h =
    subst (λ (o : Option Units). ReceiverAnswers limits s (offers_units limits s now tag d origin o) r new) (sym e)
    (subst (λ (o : Option Concat). ReceiverAnswers limits s (receiver_offers limits s tag d.origin (piece_of now d.origin d.stamp o us) origin) r new) f h)

-- ---- the whole

module _ (now : ℕ) (octets : List ℕ) (old new : ReceiverValue) (message : Message) (read : ReadsAs octets message) where
  by_result : (r : Result Step Dropped) → Steps (λ limits s origin. receiver_receives limits s now message origin) old r new → ReceivesAs now octets old r new
  by_result (Ok step) h = (message, read, h)
  by_result (Err NotCp) h = (message, read, h)
  by_result (Err Unmatched) h = (message, read, h)
  by_result (Err Busy) h = (message, read, h)
  by_result (Err TooManySegments) h = (message, read, h)
  by_result (Err Memory) h = λ limits s stands. h limits s None stands

pub receives : (now : ℕ) (octets : List ℕ) (old new : ReceiverValue) (message : Message) (r : Result Step Dropped)
    → ReadsAs octets message → Steps (λ limits s origin. receiver_receives limits s now message origin) old r new → ReceivesAs now octets old r new
receives now octets old new message r read h = by_result now octets old new message read r h

pub new_stands : SameIsEquivalence → (limit open_max remembered : ℕ) (joiner : JoinerValue) (store : List Entry) → joiner ≡ record { open_max = open_max; remembered = remembered; holds = new_joiner; told = [] } → store ≡ []
    → StandsFor (record { store = limit; open_max = open_max; remembered = remembered }) (record { limit = limit; joiner = joiner; store = store }) new_receiver
unfolding new_receiver
new_stands equivalence limit open_max remembered joiner store e f =
    record {
      limit_is = refl;
      open_max_is = ap (λ (j : JoinerValue). j.open_max) e;
      remembered_is = ap (λ (j : JoinerValue). j.remembered) e;
      same = subst (λ (j : JoinerValue). IsSame j.holds new_joiner) (sym e) (equivalence.0 new_joiner);
      store_is = f;
    }

-- the sets that are old are dropped
pub ages_to : AgesAlike → SameIsEquivalence → (limits : ReceiverLimits) (v : ReceiverValue) (s : ReceiverState) (now : ℕ) (size : ℕ → ℕ) (joiner : JoinerValue)
    → IsSame joiner.holds (aged now v.joiner.holds) → SameLimits joiner v.joiner → StandsFor limits v s
    → StandsFor limits (record { limit = v.limit; joiner = joiner; store = v.store }) (ages size now s)
unfolding ages
ages_to alike equivalence limits v s now size joiner same kept h =
    record {
      limit_is = h.limit_is;
      open_max_is = kept.open_max ∙ h.open_max_is;
      remembered_is = kept.remembered ∙ h.remembered_is;
      same = equivalence.2 _ _ _ same (alike now v.joiner.holds s.joiner h.same);
      store_is = h.store_is;
    }
