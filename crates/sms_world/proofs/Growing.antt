-- What was typed and accepted stays.
use Rattle.std.proofs.Common.{◌≡◌, ℕ, suc, ◌<◌, Bool, true, false, cond, ◌&&◌, eqb, List, [], ◌∷◌, ◌++◌, length, refl, sym, ◌∙◌, subst, arith, Some, None, Option}
use Rattle.std.specs.List.{AllByRecursion}
use Rattle.std.proofs.lemmas.Bool.{eqb-true, ne_eqb, eq-eqb, and_parts}
use Rattle.sms_field.specs.Address.Value.{AddressValue}
use Rattle.sms_message.specs.declared.message.TransferUnit.TheVariants.{Submit, Deliver, OtherUnit, BadUnit}
use Rattle.sms_message.specs.declared.message.Relay.TheVariants.{Transfer, Answer, UnknownType, Unreadable}
use Rattle.sms_message.specs.declared.message.Message.{Message}
use Rattle.sms_message.specs.declared.message.Message.TheVariants.{NotCp, Note, Tiny, Data}
use Rattle.sms_message.specs.Message.{Origin}
use Rattle.sms_centre.specs.Centre.State.{CentreState, Acceptance}
use Rattle.sms_message.specs.Changed.{changed}
use Rattle.sms_party.specs.Sent.{nth, Place, Centre, Phone, Sent}
use Rattle.sms_world.specs.Machine.Next.{entered}
use Rattle.sms_party.specs.Sender.Texts.{Text, Sender}
use Rattle.sms_world.specs.Texts.Keys.{is_from, stamp_given}
use Rattle.sms_world.specs.Claims.Pieces.{IsSegmentOf, IsTyped, HasItsPiece, IsSentOf, IsPending, IsUnderWay, SenderSound, CentreSound}

pub each_weaker : {X : Type 0} (P Q : X → Type 0) (xs : List X) → ((x : X) → P x → Q x) → AllByRecursion P xs → AllByRecursion Q xs
each_weaker P Q [] f h = tt
each_weaker P Q (x ∷ xs) f h = (f x h.0, each_weaker P Q xs f h.1)

pub each_append : {X : Type 0} (P : X → Type 0) (xs ys : List X) → AllByRecursion P xs → AllByRecursion P ys → AllByRecursion P (xs ++ ys)
each_append P [] ys h g = g
each_append P (x ∷ xs) ys h g = (h.0, each_append P xs ys h.1 g)

pub each_entered : {X : Type 0} (P : X → Type 0) (ys xs : List X) → AllByRecursion P ys → AllByRecursion P xs → AllByRecursion P (entered ys xs)
each_entered P [] xs h g = g
each_entered P (y ∷ ys) xs h g = each_entered P ys (y ∷ xs) h.1 (h.0, g)

pub nth_below : {X : Type 0} (xs : List X) (n : ℕ) (x : X) → nth xs n ≡ Some x → n < length xs
nth_below [] n x h = cc
nth_below (y ∷ xs) n x h = go (eqb n (length xs)) refl h (nth_below xs n x)
  where
    go : (b : Bool) → eqb n (length xs) ≡ b → cond b (Some y) (nth xs n) ≡ Some x → (nth xs n ≡ Some x → n < length xs) → n < suc (length xs)
    go true e h ih = let f = eqb-true n (length xs) e in omega arith
    go false e h ih = let f = ih h in omega arith

pub each_nth : {X : Type 0} (P : X → Type 0) (xs : List X) (n : ℕ) (x : X) → nth xs n ≡ Some x → AllByRecursion P xs → P x
each_nth P [] n x h e = cc
each_nth P (y ∷ xs) n x h e = go (eqb n (length xs)) h (λ f. each_nth P xs n x f e.1)
  where
    go : (b : Bool) → cond b (Some y) (nth xs n) ≡ Some x → (nth xs n ≡ Some x → P x) → P x
    go true h ih = let f : y ≡ x = cc in subst P f e.0
    go false h ih = ih h

-- one more text is typed
pub nth_more : {X : Type 0} (y : X) (xs : List X) (n : ℕ) (x : X) → nth xs n ≡ Some x → nth (y ∷ xs) n ≡ Some x
nth_more y xs n x h =
    let l = nth_below xs n x h in
    let e : eqb n (length xs) ≡ false = ne_eqb n (length xs) (λ f. omega arith) in
    rw e h

pub nth_newest : {X : Type 0} (y : X) (xs : List X) → nth (y ∷ xs) (length xs) ≡ Some y
nth_newest y xs = rw (eq-eqb (length xs) (length xs) refl) refl

module _ (u : Text) (texts : List Text) where
  pub segment_more : (o : Origin) (t : Text) → IsSegmentOf texts o t → IsSegmentOf (u ∷ texts) o t
  segment_more o t h = record { found = nth_more u texts o.text t h.found; from_one = h.from_one; within = h.within }

  pub typed_more : (phones : List AddressValue) (accepted : List Acceptance) (a : Acceptance) → IsTyped phones texts accepted a → IsTyped phones (u ∷ texts) accepted a
  typed_more phones accepted a h = (
    h.0,
    h.1,
    record {
      text = h.2.text;
      segment = segment_more h.0 h.2.text h.2.segment;
      sender = h.2.sender;
      reject = h.2.reject;
      is = h.2.is;
      recipient = h.2.recipient;
      given = h.2.given;
    },
  )

  message_more : (phones : List AddressValue) (accepted : List Acceptance) (v : Message) (to : Place) (origin : Option Origin)
      → HasItsPiece phones texts accepted v to origin → HasItsPiece phones (u ∷ texts) accepted v to origin
  message_more phones accepted (Note flag value) to origin h = h
  message_more phones accepted (Data flag tag (Answer side cause report)) to origin h = h
  message_more phones accepted (Data flag tag (Transfer side (Submit s))) (Centre phone) (Some o) h =
      record { text = h.text; segment = segment_more o h.text h.segment; sender = h.sender; reject = h.reject; is = h.is }
  message_more phones accepted (Data flag tag (Transfer side (Submit s))) (Centre phone) None h = h
  message_more phones accepted (Data flag tag (Transfer side (Submit s))) (Phone phone) origin h = h
  message_more phones accepted (Data flag tag (Transfer side (Deliver d))) (Phone phone) (Some o) h =
      record {
        text = h.text;
        segment = segment_more o h.text h.segment;
        origin = h.origin;
        dcs = h.dcs;
        user = h.user;
        recipient = h.recipient;
        moment = h.moment;
        given = h.given;
        stamp = h.stamp;
      }
  message_more phones accepted (Data flag tag (Transfer side (Deliver d))) (Phone phone) None h = h
  message_more phones accepted (Data flag tag (Transfer side (Deliver d))) (Centre phone) origin h = h
  message_more phones accepted (Data flag tag (Transfer side OtherUnit)) to origin h = h
  message_more phones accepted (Data flag tag (Transfer side BadUnit)) to origin h = h
  message_more phones accepted (Data flag tag UnknownType) to origin h = h
  message_more phones accepted (Data flag tag Unreadable) to origin h = h
  message_more phones accepted NotCp to origin h = h
  message_more phones accepted (Tiny flag value) to origin h = h

  pub sent_more : (phones : List AddressValue) (accepted : List Acceptance) (x : Sent) → IsSentOf phones texts accepted x → IsSentOf phones (u ∷ texts) accepted x
  sent_more phones accepted x h = message_more phones accepted x.message x.to x.origin h

  pub pending_more : (phone n : ℕ) → IsPending texts phone n → IsPending (u ∷ texts) phone n
  pending_more phone n h = (h.0, nth_more u texts n h.0 h.1, h.2, h.3)

  under_way_more : (phone : ℕ) (ns : List ℕ) (k : ℕ) → AllByRecursion (IsPending texts phone) ns → IsUnderWay texts ns k → IsUnderWay (u ∷ texts) ns k
  under_way_more phone [] k e h = h
  under_way_more phone (n ∷ ns) k e h =
      let f = nth_more u texts n e.0.0 e.0.1 in
      let g = e.0.1 in
      let h' : k < length e.0.0.pieces = rw g at h in
      rw f h'

  pub sender_more : (phone : ℕ) (s : Sender) → SenderSound texts phone s → SenderSound (u ∷ texts) phone s
  sender_more phone s h =
      record {
        pending = each_weaker (IsPending texts phone) (IsPending (u ∷ texts) phone) s.pending (pending_more phone) h.pending;
        under_way = under_way_more phone s.pending s.accepted h.pending h.under_way;
      }

  pub centre_more : (phones : List AddressValue) (c : CentreState) → CentreSound phones texts c → CentreSound phones (u ∷ texts) c
  centre_more phones c h =
      record {
        accepted = each_weaker (IsTyped phones texts c.accepted) (IsTyped phones (u ∷ texts) c.accepted) c.accepted (typed_more phones c.accepted) h.accepted;
        once = h.once;
        queued = λ r. each_weaker (λ a. (a.recipient ≡ r) × IsTyped phones texts c.accepted a)
            (λ a. (a.recipient ≡ r) × IsTyped phones (u ∷ texts) c.accepted a) (c.line r).queue
            (λ a p. (p.0, typed_more phones c.accepted a p.1)) (h.queued r);
      }

-- one more segment is accepted, for the first time
pub given_more : (a : Acceptance) (accepted : List Acceptance) (o : Origin) (n : ℕ)
    → ((p : Origin) → a.origin ≡ Some p → stamp_given accepted p ≡ None)
    → stamp_given accepted o ≡ Some n → stamp_given (a ∷ accepted) o ≡ Some n
given_more a accepted o n new h = go a.origin refl
  where
    go : (q : Option Origin) → a.origin ≡ q → cond (is_from q o) (Some a.stamp) (stamp_given accepted o) ≡ Some n
    go None e = h
    go (Some p) e = which (eqb p.text o.text && eqb p.segment o.segment) refl
      where
        which : (b : Bool) → (eqb p.text o.text && eqb p.segment o.segment) ≡ b
            → cond b (Some a.stamp) (stamp_given accepted o) ≡ Some n
        which false f = h
        which true f =
            let r = and_parts (eqb p.text o.text) (eqb p.segment o.segment) f in
            let x : p.text ≡ o.text = eqb-true _ _ r.0 in
            let y : p.segment ≡ o.segment = eqb-true _ _ r.1 in
            let same : p ≡ o = λ i. record { text = x i; segment = y i } in
            let none : stamp_given accepted o ≡ None = subst (λ v. stamp_given accepted v ≡ None) same (new p e) in
            let z : Some n ≡ None = sym h ∙ none in
            cc

module _ (a : Acceptance) (accepted : List Acceptance) (new : (p : Origin) → a.origin ≡ Some p → stamp_given accepted p ≡ None) where
  pub typed_accepts : (phones : List AddressValue) (texts : List Text) (b : Acceptance) → IsTyped phones texts accepted b → IsTyped phones texts (a ∷ accepted) b
  typed_accepts phones texts b h = (
    h.0,
    h.1,
    record {
      text = h.2.text;
      segment = h.2.segment;
      sender = h.2.sender;
      reject = h.2.reject;
      is = h.2.is;
      recipient = h.2.recipient;
      given = given_more a accepted h.0 b.stamp new h.2.given;
    },
  )

  message_accepts : (phones : List AddressValue) (texts : List Text) (v : Message) (to : Place) (origin : Option Origin)
      → HasItsPiece phones texts accepted v to origin → HasItsPiece phones texts (a ∷ accepted) v to origin
  message_accepts phones texts (Note flag value) to origin h = h
  message_accepts phones texts (Data flag tag (Answer side cause report)) to origin h = h
  message_accepts phones texts (Data flag tag (Transfer side (Submit s))) (Centre phone) (Some o) h = h
  message_accepts phones texts (Data flag tag (Transfer side (Submit s))) (Centre phone) None h = h
  message_accepts phones texts (Data flag tag (Transfer side (Submit s))) (Phone phone) origin h = h
  message_accepts phones texts (Data flag tag (Transfer side (Deliver d))) (Phone phone) (Some o) h =
      record {
        text = h.text;
        segment = h.segment;
        origin = h.origin;
        dcs = h.dcs;
        user = h.user;
        recipient = h.recipient;
        moment = h.moment;
        given = given_more a accepted o h.moment new h.given;
        stamp = h.stamp;
      }
  message_accepts phones texts (Data flag tag (Transfer side (Deliver d))) (Phone phone) None h = h
  message_accepts phones texts (Data flag tag (Transfer side (Deliver d))) (Centre phone) origin h = h
  message_accepts phones texts (Data flag tag (Transfer side OtherUnit)) to origin h = h
  message_accepts phones texts (Data flag tag (Transfer side BadUnit)) to origin h = h
  message_accepts phones texts (Data flag tag UnknownType) to origin h = h
  message_accepts phones texts (Data flag tag Unreadable) to origin h = h
  message_accepts phones texts NotCp to origin h = h
  message_accepts phones texts (Tiny flag value) to origin h = h

  pub sent_accepts : (phones : List AddressValue) (texts : List Text) (x : Sent) → IsSentOf phones texts accepted x → IsSentOf phones texts (a ∷ accepted) x
  sent_accepts phones texts x h = message_accepts phones texts x.message x.to x.origin h

-- one of many is changed
pub changed_each : {X : Type 0} (P : ℕ → X → Type 0) (f : ℕ → X) (n : ℕ) (x : X) → P n x → ((i : ℕ) → P i (f i)) → (i : ℕ) → P i (changed f n x i)
changed_each P f n x h g i = go (eqb i n) refl
  where
    go : (b : Bool) → eqb i n ≡ b → P i (cond b x (f i))
    go true e = subst (λ k. P k x) (sym (eqb-true i n e)) h
    go false e = g i
