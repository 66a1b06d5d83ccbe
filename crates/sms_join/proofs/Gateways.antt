-- What a joiner for many recipients answers, and that what is passed changes no set.
use Rattle.std.proofs.Common.{◌≡◌, ℕ, zero, suc, ◌<◌, Bool, true, false, cond, ◌||◌, List, [], ◌∷◌, take, length, Option, Result, Ok, Err, refl, sym, ap, ◌∙◌, subst, arith}
use Rattle.std.proofs.lemmas.Bool.{false_from_ne_true}
use Rattle.std.specs.Result.{IfOk, OnOk, OnErr}
use Rattle.sms_join.specs.declared.gateway_limits.Alone.{Alone}
use Rattle.sms_join.specs.declared.gateway_limits.Alone.TheVariants.{Remembered, Passed}
use Rattle.sms_join.specs.declared.key.Key.{Key}
use Rattle.sms_join.specs.declared.key.Key.TheVariants.{Single, Segmented, SingleTo, SegmentedTo}
use Rattle.sms_join.specs.declared.offer.Offer.{Offer}
use Rattle.sms_join.specs.declared.offer.Offer.TheVariants as offers
use Rattle.sms_join.specs.declared.offer.OfferFault.{OfferFault}
use Rattle.sms_join.specs.declared.units.Units.{Units}
use Rattle.sms_join.specs.Key.{same_key, maximum_of}
use Rattle.sms_join.specs.Piece.{Piece}
use Rattle.sms_join.specs.Joiner.{Joiner, Answer, Repeat, Kept, Finished, TooManyOpen, answer, answered, offered}
use Rattle.sms_join.specs.Joiner.Value.{JoinerValue, SameLimits}
use Rattle.sms_join.specs.Joiner.Finishing.{would_finish}
use Rattle.sms_join.specs.Joiner.Offering.{is_first, SaysAnswer}
use Rattle.sms_join.specs.Joiner.Same.{IsSame}
use Rattle.sms_join.specs.OpenSets.{SetValue, IsOpen, AreOpen, all_pieces}
use Rattle.sms_join.specs.OpenSets.Offered.{without_set, TellsOffer}
use Rattle.sms_join.specs.Gateway.Value.{LimitsValue}
use Rattle.sms_join.specs.Gateway.Finishings.{not_before, Fall, finishings_after, finishings_at, keys_at}
use Rattle.sms_join.specs.Inside.Gateways.{AreTimed, gateway_of, noted_by}
use Rattle.sms_join.specs.Inside.Ages.{young_of}
use Rattle.sms_join.specs.Inside.Keeping.{IsKept, in_order}
use Rattle.sms_join.specs.Inside.Turns.{arranged}
use Rattle.sms_join.specs.Joiner.Aging.{aged_after}
use Rattle.sms_join.proofs.FallingMoments.{fall_noted, fall_forgotten, keys_by, many_by}
use Rattle.sms_join.specs.Gateway.Distinct.{AreDistinct}
use Rattle.sms_join.specs.Joiner.Aging.{is_old_after}
use Rattle.sms_join.proofs.DistinctKeys.{same_distinct, aged_distinct}
use Rattle.sms_join.proofs.Finishing.{same_is_equivalence}
use Rattle.sms_join.proofs.Keeping.{kept_same}
use Rattle.sms_join.proofs.KeptAged.{kept_aged}
use Rattle.sms_join.specs.Gateway.Answers.{is_alone, is_passed, gateway_aged, gateway_answer, gateway_finishings, gateway_offered, gateway_would_finish}
use Rattle.sms_join.proofs.SameKeys.{same_key_true}

-- ---- a message that is passed

alone_if_passed : (a : Alone) (k : Key) → is_passed a k ≡ true → is_alone k ≡ true
alone_if_passed Remembered k h = absurd cc
alone_if_passed Passed k h = h

one_if_alone : (k : Key) → is_alone k ≡ true → maximum_of k ≡ 1
one_if_alone (Single a s) h = refl
one_if_alone (SingleTo r a s) h = refl
one_if_alone (Segmented a w r m) h = absurd cc
one_if_alone (SegmentedTo q a w r m) h = absurd cc

-- no set of its key is open
not_open : (s : SetValue) (k : Key) → IsOpen s → maximum_of k ≡ 1 → same_key s.key k ≡ false
not_open s k o one = false_from_ne_true _ (λ t.
    let e : maximum_of s.key ≡ 1 = ap maximum_of (same_key_true s.key k t) ∙ one in
    omega (arith, o.some, o.part, e))

without_none : (ss : List SetValue) (k : Key) → AreOpen ss → maximum_of k ≡ 1 → without_set k ss ≡ ss
without_none [] k o one = refl
without_none (s ∷ ss) k o one =
    rw (not_open s k o.0 one) (ap (λ (l : List SetValue). s ∷ l) (without_none ss k o.2 one))

pub passed_tells : (a : Alone) (told : List SetValue) (p : Piece) (us : List Units) (result : Result Offer OfferFault) → AreOpen told → is_passed a p.key ≡ true
    → SaysAnswer (Finished us) true result → IfOk result (TellsOffer told told p)
passed_tells a told p us (Ok offers.Repeat) o passed says = refl
passed_tells a told p us (Ok offers.Kept) o passed says = absurd says
passed_tells a told p us (Ok (offers.Finished text)) o passed says =
    sym (without_none told p.key o (one_if_alone p.key (alone_if_passed a p.key passed)))
passed_tells a told p us (Err e) o passed says = tt

module _ (limits : LimitsValue) (j : Joiner) (p : Piece) where
  pub passed_says : (result : Result Offer OfferFault) → is_passed limits.alone p.key ≡ true → ((first : Bool) → SaysAnswer (Finished (p.units ∷ [])) first result)
      → SaysAnswer (gateway_answer limits j p) (is_first j p) result
  passed_says result passed says =
      subst (λ (b : Bool). SaysAnswer (cond b (Finished (p.units ∷ [])) (answer limits.open_max j p)) (is_first j p) result) (sym passed) (says (is_first j p))

  -- ---- one that is not

  pub taken_says : (result : Result Offer OfferFault) → is_passed limits.alone p.key ≡ false → SaysAnswer (answer limits.open_max j p) (is_first j p) result
      → SaysAnswer (gateway_answer limits j p) (is_first j p) result
  taken_says result taken says =
      subst (λ (b : Bool). SaysAnswer (cond b (Finished (p.units ∷ [])) (answer limits.open_max j p)) (is_first j p) result) (sym taken) says

  pub taken_holds : (i : Joiner) → is_passed limits.alone p.key ≡ false → IsSame i (offered limits.open_max limits.remembered j p) → IsSame i (gateway_offered limits j p)
  taken_holds i taken same =
      subst (λ (b : Bool). IsSame i (cond b j (offered limits.open_max limits.remembered j p))) (sym taken) same

  pub taken_finishes : (b : Bool) → is_passed limits.alone p.key ≡ false → b ≡ would_finish j p → b ≡ gateway_would_finish limits j p
  taken_finishes b taken h = h ∙ sym (ap (λ (c : Bool). c || would_finish j p) taken)

-- ---- the moments of the finishings

noted_answer : (remembered : ℕ) (ms : List ℕ) (now : ℕ) (a : Answer) (first : Bool) (result : Result Offer OfferFault) → SaysAnswer a first result
    → OnOk result (noted_by remembered ms now result ≡ finishings_after remembered ms now a)
noted_answer remembered ms now Repeat first (Ok offers.Repeat) says = refl
noted_answer remembered ms now Kept first (Ok offers.Kept) says = refl
noted_answer remembered ms now (Finished us) first (Ok (offers.Finished text)) says = refl
noted_answer remembered ms now a first (Err e) says = tt
noted_answer remembered ms now Repeat first (Ok offers.Kept) says = absurd says
noted_answer remembered ms now Repeat first (Ok (offers.Finished text)) says = absurd says
noted_answer remembered ms now Kept first (Ok offers.Repeat) says = absurd says
noted_answer remembered ms now Kept first (Ok (offers.Finished text)) says = absurd says
noted_answer remembered ms now (Finished us) first (Ok offers.Repeat) says = absurd says
noted_answer remembered ms now (Finished us) first (Ok offers.Kept) says = absurd says
noted_answer remembered ms now TooManyOpen first (Ok offers.Repeat) says = absurd says
noted_answer remembered ms now TooManyOpen first (Ok offers.Kept) says = absurd says
noted_answer remembered ms now TooManyOpen first (Ok (offers.Finished text)) says = absurd says

pub taken_noted : (limits : LimitsValue) (j : Joiner) (p : Piece) (ms : List ℕ) (result : Result Offer OfferFault) → is_passed limits.alone p.key ≡ false
    → SaysAnswer (answer limits.open_max j p) (is_first j p) result → OnOk result (noted_by limits.remembered ms p.moment result ≡ gateway_finishings limits j ms p)
taken_noted limits j p ms result taken says =
    subst (λ (b : Bool). OnOk result (noted_by limits.remembered ms p.moment result ≡ cond b ms (finishings_after limits.remembered ms p.moment (answer limits.open_max j p)))) (sym taken)
    (noted_answer limits.remembered ms p.moment (answer limits.open_max j p) (is_first j p) result says)

-- as many as keys
pub taken_many : (remembered : ℕ) (ms : List ℕ) (ks : List Key) (m : ℕ) (k : Key) → length ms ≡ length ks → length (take remembered (m ∷ ms)) ≡ length (take remembered (k ∷ ks))
taken_many zero ms ks m k e = refl
taken_many (suc n) ms ks m k e = ap suc (go n ms ks e)
  where
    go : (n : ℕ) (ms : List ℕ) (ks : List Key) → length ms ≡ length ks → length (take n ms) ≡ length (take n ks)
    go zero ms ks e = refl
    go (suc n) [] [] e = refl
    go (suc n) [] (k ∷ ks) e = absurd (omega (arith, e))
    go (suc n) (m ∷ ms) [] e = absurd (omega (arith, e))
    go (suc n) (m ∷ ms) (k ∷ ks) e = ap suc (go n ms ks (omega (arith, e)))

many_noted : (remembered : ℕ) (j : Joiner) (p : Piece) (ms : List ℕ) (a : Answer) → length ms ≡ length j.finished
    → length (finishings_after remembered ms p.moment a) ≡ length (answered remembered j p a).finished
unfolding answered
many_noted remembered j p ms Repeat e = e
many_noted remembered j p ms Kept e = e
many_noted remembered j p ms (Finished us) e = taken_many remembered ms j.finished (not_before ms p.moment) p.key e
many_noted remembered j p ms TooManyOpen e = e

fall_by : (room : ℕ) (ms : List ℕ) (now : ℕ) (result : Result Offer OfferFault) → Fall ms → Fall (noted_by room ms now result)
fall_by room ms now (Ok offers.Repeat) h = h
fall_by room ms now (Ok offers.Kept) h = h
fall_by room ms now (Ok (offers.Finished text)) h = fall_noted room now ms h
fall_by room ms now (Err e) h = h

pub some_after : {m n : ℕ} → m ≡ n → 0 < n → 0 < m
some_after e h = omega (arith, e, h)

-- each key has its moment after an offer
pub timed_offer : (v w : JoinerValue) (p : Piece) (ms : List ℕ) (room : ℕ) (result : Result Offer OfferFault) → AreTimed v ms room
    → SaysAnswer (answer v.open_max v.holds p) (is_first v.holds p) result → OnOk result (IsSame w.holds (offered v.open_max v.remembered v.holds p))
    → SameLimits w v → OnErr result (w ≡ v) → AreTimed w (noted_by room ms p.moment result) room
unfolding offered
timed_offer v w p ms room result timed says same limits none =
    record { sets = some_after limits.open_max timed.sets; keys = some_after limits.remembered timed.keys; room = timed.room ∙ sym limits.remembered; as_many = many result says same none; fall = fall_by room ms p.moment result timed.fall }
  where
    offered_many : length (finishings_after v.remembered ms p.moment (answer v.open_max v.holds p)) ≡ length (offered v.open_max v.remembered v.holds p).finished
    offered_many = many_noted v.remembered v.holds p ms (answer v.open_max v.holds p) timed.as_many

    many : (result : Result Offer OfferFault) → SaysAnswer (answer v.open_max v.holds p) (is_first v.holds p) result
        → OnOk result (IsSame w.holds (offered v.open_max v.remembered v.holds p)) → OnErr result (w ≡ v) → length (noted_by room ms p.moment result) ≡ length w.holds.finished
    many (Err e) says same none = timed.as_many ∙ ap (λ (u : JoinerValue). length u.holds.finished) (sym none)
    many (Ok o) says same none =
        ap (λ n. length (noted_by n ms p.moment (Ok o))) timed.room
        ∙ (ap (λ (l : List ℕ). length l) (noted_answer v.remembered ms p.moment (answer v.open_max v.holds p) (is_first v.holds p) (Ok o) says)
        ∙ (offered_many ∙ ap (λ (l : List Key). length l) (sym same.finished)))

-- ---- after an aging

-- the joiner inside, of which so many keys are kept
abbrev keeps : JoinerValue → ℕ → JoinerValue
keeps w n =
    record {
      open_max = w.open_max;
      remembered = w.remembered;
      holds = record { kept = w.holds.kept; finished = take n w.holds.finished };
      told = w.told;
    }

module _ (longest : Option ℕ) (now : ℕ) (v w u : JoinerValue) (ms ns : List ℕ) (room room' n : ℕ) (timed : AreTimed v ms room)
    (limits : SameLimits w v) (same : w.holds.finished ≡ v.holds.finished) (left : ns ≡ finishings_at longest now ms) (as_large : room' ≡ room)
    (count : n ≡ length ns) (is : u ≡ keeps w n) where
  keys_left : u.holds.finished ≡ keys_at longest now v.holds.finished ms
  keys_left =
      ap (λ (x : JoinerValue). x.holds.finished) is
      ∙ (ap (λ (l : List Key). take n l) same
      ∙ (ap (λ m. take m v.holds.finished) (count ∙ ap (λ (l : List ℕ). length l) left) ∙ keys_by longest now v.holds.finished ms timed.as_many timed.fall))

  -- each key has its moment
  pub timed_age : AreTimed u ns room'
  timed_age =
      record {
        sets = some_after (ap (λ (x : JoinerValue). x.open_max) is ∙ limits.open_max) timed.sets;
        keys = some_after (ap (λ (x : JoinerValue). x.remembered) is ∙ limits.remembered) timed.keys;
        room = as_large ∙ (timed.room ∙ (sym limits.remembered ∙ ap (λ (x : JoinerValue). x.remembered) (sym is)));
        as_many = ap (λ (l : List ℕ). length l) left ∙ (many_by longest now v.holds.finished ms timed.as_many ∙ ap (λ (l : List Key). length l) (sym keys_left));
        fall = subst Fall (sym left) (fall_forgotten longest now ms timed.fall);
      }

  -- the pieces of the young sets are kept, in their order
  pub holds_age : (alone : Alone) (open_for : ℕ) → AreOpen v.told → arranged w.told ≡ young_of (record { now = now; longest = open_for }) (arranged v.told)
      → (in_order u).holds ≡ gateway_aged (gateway_of alone open_for longest (in_order v) ms) now
  holds_age alone open_for o told =
      let ps : all_pieces (arranged u.told) ≡ (aged_after open_for now (in_order v).holds).kept =
      ap (λ (x : JoinerValue). all_pieces (arranged x.told)) is
      ∙ ap (λ (j : Joiner). j.kept) (kept_aged (record { now = now; longest = open_for }) v w o told same) in
      λ i. record { kept = ps i; finished = keys_left i }

  -- no key is remembered twice
  pub distinct_age : (alone : Alone) (open_for : ℕ) → IsKept v → IsKept u → arranged w.told ≡ young_of (record { now = now; longest = open_for }) (arranged v.told)
      → AreDistinct v.holds → AreDistinct u.holds
  unfolding aged_after
  distinct_age alone open_for before after told d =
      let holds = holds_age alone open_for before.are_open told in
      same_distinct u.holds (in_order u).holds (same_is_equivalence.1 (in_order u).holds u.holds (kept_same u after))
      (aged_distinct (is_old_after open_for now (in_order v).holds.kept) (in_order u).holds (in_order v).holds n (ap (λ (j : Joiner). j.kept) holds)
      (ap (λ (x : JoinerValue). x.holds.finished) is ∙ ap (λ (l : List Key). take n l) same)
      (same_distinct (in_order v).holds v.holds (kept_same v before) d))
