-- A recipient that all pieces share tells nothing.
use Rattle.std.proofs.Common.{◌≡◌, ℕ, zero, suc, Bool, true, false, cond, ◌&&◌, List, [], ◌∷◌, map, take, Option, Some, None, refl, sym, ap, ◌∙◌}
use Rattle.std.proofs.lemmas.List.{take-map}
use Rattle.std.specs.List.{filter, AllByRecursion}
use Rattle.sms_field.specs.Address.Value.{AddressValue}
use Rattle.sms_field.specs.Address.Same.{same_address}
use Rattle.sms_field.specs.Inside.SameAddressLaws.{same_address_refl, same_address_true}
use Rattle.sms_join.specs.declared.key.Key.{Key}
use Rattle.sms_join.specs.declared.key.Key.TheVariants.{Single, Segmented, SingleTo, SegmentedTo}
use Rattle.sms_join.specs.Key.{same_key, same_recipient, recipient_of, is_for}
use Rattle.sms_join.specs.Piece.{Piece}
use Rattle.sms_join.specs.Joiner.Sets.{has, has_all, units_at, units_upto, is_open, opened_at, open_sets, without}
use Rattle.sms_join.specs.Joiner.{Joiner, Answer, Repeat, Kept, Finished, TooManyOpen, new_joiner, is_among, is_repeat, is_whole, has_room, answer, answered, offered}
use Rattle.sms_join.specs.Joiner.Acts.{Act, Brings, Ages, acted_all}
use Rattle.sms_join.specs.Joiner.Aging.{is_old_after, young, aged, aged_after}
use Rattle.sms_join.specs.declared.gateway_limits.Alone.{Alone}
use Rattle.sms_join.specs.declared.gateway_limits.Alone.TheVariants.{Remembered, Passed}
use Rattle.sms_join.specs.Gateway.Value.{LimitsValue}
use Rattle.sms_join.specs.Gateway.Answers.{is_passed, gateway_holds}
use Rattle.sms_join.specs.Gateway.WithoutRecipient.{key_alone, piece_alone, joiner_alone, PieceIsAlone, IsAllFor, AnswersAlone, RemembersAsJoiner}
use Rattle.sms_join.proofs.KeptAged.{week_aged}
use Rattle.sms_join.proofs.SameKeys.{and_false}

pub piece_is_alone : PieceIsAlone
piece_is_alone now None origin stamp None units = refl
piece_is_alone now None origin stamp (Some c) units = refl
piece_is_alone now (Some r) origin stamp None units = refl
piece_is_alone now (Some r) origin stamp (Some c) units = refl

-- ---- keys

recipients_true : (q r : Option AddressValue) → same_recipient q r ≡ true → q ≡ r
unfolding same_recipient
recipients_true None None h = refl
recipients_true (Some q) (Some r) h = ap Some (same_address_true q r h)
recipients_true None (Some r) h = cc
recipients_true (Some q) None h = cc

recipients_refl : (r : Option AddressValue) → same_recipient r r ≡ true
unfolding same_recipient
recipients_refl None = refl
recipients_refl (Some r) = same_address_refl r

-- the recipients are the same, and so are the keys without them
in_parts : (k l : Key) → same_key k l ≡ (same_recipient (recipient_of k) (recipient_of l) && same_key (key_alone k) (key_alone l))
unfolding same_key same_recipient
in_parts (Single a s) (Single b t) = refl
in_parts (Segmented a w r m) (Segmented b v q n) = refl
in_parts (SingleTo x a s) (SegmentedTo y b v q n) = sym (and_false (same_address x y))
in_parts (SegmentedTo x a w r m) (SingleTo y b t) = sym (and_false (same_address x y))
in_parts _ _ = refl

module _ (r : Option AddressValue) where
  keys_alone : (k l : Key) → is_for r k ≡ true → is_for r l ≡ true → same_key (key_alone k) (key_alone l) ≡ same_key k l
  keys_alone k l t u =
      let e : recipient_of k ≡ recipient_of l = recipients_true (recipient_of k) r t ∙ sym (recipients_true (recipient_of l) r u) in
      let same : same_recipient (recipient_of k) (recipient_of l) ≡ true = ap (same_recipient (recipient_of k)) (sym e) ∙ recipients_refl (recipient_of k) in
      sym (in_parts k l ∙ ap (λ (b : Bool). b && same_key (key_alone k) (key_alone l)) same)

  -- ---- pieces

  abbrev pub AllFor : List Piece → Type 0
  AllFor ps = AllByRecursion (λ p. is_for r p.key ≡ true) ps

  abbrev pub KeysFor : List Key → Type 0
  KeysFor ks = AllByRecursion (λ k. is_for r k ≡ true) ks

  has-alone : (ps : List Piece) (k : Key) (n : ℕ) → AllFor ps → is_for r k ≡ true → has (map piece_alone ps) (key_alone k) n ≡ has ps k n
  has-alone [] k n h t = refl
  has-alone (p ∷ ps) k n h t = rw (keys_alone p.key k h.0 t, has-alone ps k n h.1 t) refl

  has_all-alone : (ps : List Piece) (k : Key) (n : ℕ) → AllFor ps → is_for r k ≡ true → has_all (map piece_alone ps) (key_alone k) n ≡ has_all ps k n
  has_all-alone ps k zero h t = refl
  has_all-alone ps k (suc n) h t = rw (has-alone ps k (suc n) h t, has_all-alone ps k n h t) refl

  open-alone : (ps : List Piece) (k : Key) → AllFor ps → is_for r k ≡ true → is_open (map piece_alone ps) (key_alone k) ≡ is_open ps k
  open-alone [] k h t = refl
  open-alone (p ∷ ps) k h t = rw (keys_alone p.key k h.0 t, open-alone ps k h.1 t) refl

  units-alone : (ps : List Piece) (k : Key) (n : ℕ) → AllFor ps → is_for r k ≡ true → units_at (map piece_alone ps) (key_alone k) n ≡ units_at ps k n
  units-alone [] k n h t = refl
  units-alone (p ∷ ps) k n h t = rw (keys_alone p.key k h.0 t, units-alone ps k n h.1 t) refl

  upto-alone : (ps : List Piece) (k : Key) (n : ℕ) → AllFor ps → is_for r k ≡ true → units_upto (map piece_alone ps) (key_alone k) n ≡ units_upto ps k n
  upto-alone ps k zero h t = refl
  upto-alone ps k (suc n) h t = rw (upto-alone ps k n h t, units-alone ps k (suc n) h t) refl

  opened-alone : (ps : List Piece) (k : Key) → AllFor ps → is_for r k ≡ true → opened_at (map piece_alone ps) (key_alone k) ≡ opened_at ps k
  opened-alone [] k h t = refl
  opened-alone (p ∷ ps) k h t = rw (keys_alone p.key k h.0 t, open-alone ps k h.1 t, opened-alone ps k h.1 t) refl

  sets-alone : (ps : List Piece) → AllFor ps → open_sets (map piece_alone ps) ≡ open_sets ps
  sets-alone [] h = refl
  sets-alone (p ∷ ps) h = rw (open-alone ps p.key h.1 h.0, sets-alone ps h.1) refl

  among-alone : (ks : List Key) (k : Key) → KeysFor ks → is_for r k ≡ true → is_among (map key_alone ks) (key_alone k) ≡ is_among ks k
  among-alone [] k h t = refl
  among-alone (x ∷ ks) k h t = rw (keys_alone x k h.0 t, among-alone ks k h.1 t) refl

  without-alone : (ps : List Piece) (k : Key) → AllFor ps → is_for r k ≡ true → map piece_alone (without ps k) ≡ without (map piece_alone ps) (key_alone k)
  without-alone [] k h t = refl
  without-alone (p ∷ ps) k h t = rw (keys_alone p.key k h.0 t) (go (same_key p.key k) (without-alone ps k h.1 t))
    where
      go : (b : Bool) → map piece_alone (without ps k) ≡ without (map piece_alone ps) (key_alone k)
          → map piece_alone (cond b (without ps k) (p ∷ without ps k))
          ≡ cond b (without (map piece_alone ps) (key_alone k)) (piece_alone p ∷ without (map piece_alone ps) (key_alone k))
      go true ih = ih
      go false ih = ap (λ (l : List Piece). piece_alone p ∷ l) ih

  young-alone : (old new : Key → Bool) → ((k : Key) → is_for r k ≡ true → new (key_alone k) ≡ old k) → (ps : List Piece) → AllFor ps
      → map piece_alone (young old ps) ≡ young new (map piece_alone ps)
  young-alone old new same [] h = refl
  young-alone old new same (p ∷ ps) h = rw (same p.key h.0) (go (old p.key) (young-alone old new same ps h.1))
    where
      go : (b : Bool) → map piece_alone (young old ps) ≡ young new (map piece_alone ps)
          → map piece_alone (cond b (young old ps) (p ∷ young old ps)) ≡ cond b (young new (map piece_alone ps)) (piece_alone p ∷ young new (map piece_alone ps))
      go true ih = ih
      go false ih = ap (λ (l : List Piece). piece_alone p ∷ l) ih

  -- ---- an offer

  module _ (j : Joiner) (all : IsAllFor r j) where
    pub aged-alone : (longest now : ℕ) → joiner_alone (aged_after longest now j) ≡ aged_after longest now (joiner_alone j)
    unfolding aged_after
    aged-alone longest now =
        ap (λ (ps : List Piece). record { kept = ps; finished = map key_alone j.finished })
        (young-alone (is_old_after longest now j.kept) (is_old_after longest now (map piece_alone j.kept))
        (λ k t. rw (open-alone j.kept k all.kept t, opened-alone j.kept k all.kept t) refl) j.kept all.kept)

    answer-alone : (open_max : ℕ) (p : Piece) → is_for r p.key ≡ true → answer open_max j p ≡ answer open_max (joiner_alone j) (piece_alone p)
    unfolding answer is_repeat is_whole has_room
    answer-alone open_max p t =
        rw (
          among-alone j.finished p.key all.finished t,
          has-alone j.kept p.key p.sequence all.kept t,
          has_all-alone (p ∷ j.kept) p.key p.maximum (t, all.kept) t,
          open-alone j.kept p.key all.kept t,
          sets-alone j.kept all.kept,
          upto-alone (p ∷ j.kept) p.key p.maximum (t, all.kept) t,
        ) refl

    answered-alone : (remembered : ℕ) (p : Piece) (a : Answer) → is_for r p.key ≡ true
        → joiner_alone (answered remembered j p a) ≡ answered remembered (joiner_alone j) (piece_alone p) a
    unfolding answered
    answered-alone remembered p Repeat t = refl
    answered-alone remembered p Kept t = refl
    answered-alone remembered p (Finished us) t =
        let gone : map piece_alone (without j.kept p.key) ≡ without (map piece_alone j.kept) (key_alone p.key) = without-alone j.kept p.key all.kept t in
        let keys : map key_alone (take remembered (p.key ∷ j.finished)) ≡ take remembered (key_alone p.key ∷ map key_alone j.finished) = sym (take-map key_alone remembered (p.key ∷ j.finished)) in
        λ i. record { kept = gone i; finished = keys i }
    answered-alone remembered p TooManyOpen t = refl

  -- ---- the part of the recipient

  pub pieces_are_own : (ps : List Piece) → AllFor (filter (λ p. is_for r p.key) ps)
  pieces_are_own [] = tt
  pieces_are_own (p ∷ ps) = go (is_for r p.key) refl (pieces_are_own ps)
    where
      go : (b : Bool) → is_for r p.key ≡ b → AllFor (filter (λ p. is_for r p.key) ps) → AllFor (cond b (p ∷ filter (λ p. is_for r p.key) ps) (filter (λ p. is_for r p.key) ps))
      go true e ih = (e, ih)
      go false e ih = ih

passed_alone : (a : Alone) (k : Key) → is_passed a (key_alone k) ≡ is_passed a k
passed_alone Remembered k = refl
passed_alone Passed (Single a s) = refl
passed_alone Passed (SingleTo r a s) = refl
passed_alone Passed (Segmented a w r m) = refl
passed_alone Passed (SegmentedTo q a w r m) = refl

module _ (limits : LimitsValue) (j : Joiner) (p : Piece) (r : Option AddressValue) (all : IsAllFor r j) (t : is_for r p.key ≡ true) where
  same : answer limits.open_max j p ≡ answer limits.open_max (joiner_alone j) (piece_alone p)
  same = answer-alone r j all limits.open_max p t

  offered_alone : joiner_alone (offered limits.open_max limits.remembered j p) ≡ offered limits.open_max limits.remembered (joiner_alone j) (piece_alone p)
  unfolding offered
  offered_alone =
      answered-alone r j all limits.remembered p (answer limits.open_max j p) t
      ∙ ap (answered limits.remembered (joiner_alone j) (piece_alone p)) same

  alone_by : (b : Bool)
      → (cond b (Finished (p.units ∷ [])) (answer limits.open_max j p) ≡ cond b (Finished (p.units ∷ [])) (answer limits.open_max (joiner_alone j) (piece_alone p)))
      × (joiner_alone (cond b j (offered limits.open_max limits.remembered j p))
      ≡ cond b (joiner_alone j) (offered limits.open_max limits.remembered (joiner_alone j) (piece_alone p)))
  alone_by true = (refl, refl)
  alone_by false = (same, offered_alone)

pub answers_alone : AnswersAlone
answers_alone limits j p r all t = rw (passed_alone limits.alone p.key) (alone_by limits j p r all t (is_passed limits.alone p.key))

-- ---- where messages in one piece are remembered

none_passed : (a : Alone) (k : Key) → a ≡ Remembered → is_passed a k ≡ false
none_passed a k e = ap (λ (b : Alone). is_passed b k) e

holds_as : (limits : LimitsValue) (acts : List (Act Piece)) → limits.alone ≡ Remembered → limits.open_for ≡ 604800
    → gateway_holds limits acts ≡ acted_all limits.open_max limits.remembered new_joiner acts
holds_as limits [] e w = refl
holds_as limits (Brings p ∷ acts) e w =
    rw (none_passed limits.alone p.key e) (ap (λ (j : Joiner). offered limits.open_max limits.remembered j p) (holds_as limits acts e w))
holds_as limits (Ages now ∷ acts) e w =
    ap (λ n. aged_after n now (gateway_holds limits acts)) w
    ∙ (week_aged now (gateway_holds limits acts) ∙ ap (aged now) (holds_as limits acts e w))

pub remembers_as_joiner : RemembersAsJoiner
remembers_as_joiner limits acts p e w = (
  holds_as limits acts e w,
  rw (none_passed limits.alone p.key e) (ap (λ (j : Joiner). answer limits.open_max j p) (holds_as limits acts e w)),
)
