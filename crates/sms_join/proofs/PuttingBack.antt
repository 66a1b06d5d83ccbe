-- A gateway's joiner to which a set is put back, or a key that it remembered.
use Rattle.std.proofs.Common.{◌≡◌, ℕ, Bool, true, false, ◌||◌, List, [], ◌∷◌, ◌++◌, take, length, Option, Result, Ok, Err, refl, sym, ap, ◌∙◌, subst}
use Rattle.std.specs.Result.{OnOk, OnErr}
use Rattle.sms_join.specs.declared.key.Key.{Key}
use Rattle.sms_join.specs.declared.units.Units.{Units}
use Rattle.sms_join.specs.Key.{same_key}
use Rattle.sms_join.specs.Piece.{Piece}
use Rattle.sms_join.specs.Joiner.{is_among}
use Rattle.sms_join.specs.Joiner.Sets.{is_open}
use Rattle.sms_join.specs.Joiner.Value.{JoinerValue, SameLimits}
use Rattle.sms_join.specs.OpenSets.{SetValue, all_pieces, has_set}
use Rattle.sms_join.specs.OpenSets.Places.{set_by}
use Rattle.sms_join.specs.Gateway.Distinct.{NoneTwice, AreDistinct}
use Rattle.sms_join.specs.Gateway.Finishings.{not_before}
use Rattle.sms_join.specs.Inside.Gateways.{AreTimed}
use Rattle.sms_join.specs.Inside.Keeping.{IsKept, in_order, with_key}
use Rattle.sms_join.specs.Inside.Turns.{arranged}
use Rattle.sms_join.proofs.Arranged.{has_arranged}
use Rattle.sms_join.proofs.DistinctKeys.{same_distinct, twice_taken}
use Rattle.sms_join.proofs.FallingMoments.{fall_noted}
use Rattle.sms_join.proofs.Finishing.{same_is_equivalence}
use Rattle.sms_join.proofs.Gateways.{some_after, taken_many}
use Rattle.sms_join.proofs.Keeping.{kept_same}
use Rattle.sms_join.proofs.Places.{among_taken}
use Rattle.sms_join.proofs.SameKeys.{same_key_true}
use Rattle.sms_join.proofs.SetPieces.{all-append, open-append, others_closed}

-- ---- a set

-- each key has its moment
pub timed_stays : (v w : JoinerValue) (ms : List ℕ) (room : ℕ) → AreTimed v ms room → SameLimits w v → w.holds.finished ≡ v.holds.finished → AreTimed w ms room
timed_stays v w ms room timed limits same =
    record {
      sets = some_after limits.open_max timed.sets;
      keys = some_after limits.remembered timed.keys;
      room = timed.room ∙ sym limits.remembered;
      as_many = timed.as_many ∙ ap (λ (l : List Key). length l) (sym same);
      fall = timed.fall;
    }

-- the sets that are open then
more_open : (ss : List SetValue) (s : SetValue) (k : Key) → same_key s.key k ≡ false → is_open (all_pieces (ss ++ s ∷ [])) k ≡ true → is_open (all_pieces ss) k ≡ true
more_open ss s k other e =
    let none : is_open (all_pieces (s ∷ [])) k ≡ false = others_closed (s ∷ []) k (ap (λ (b : Bool). b || false) other) in
    go (is_open (all_pieces ss) k)
    (ap (λ (b : Bool). is_open (all_pieces ss) k || b) (sym none)
    ∙ (sym (open-append (all_pieces ss) (all_pieces (s ∷ [])) k) ∙ (ap (λ (ps : List Piece). is_open ps k) (sym (all-append ss (s ∷ []))) ∙ e)))
  where
    go : (b : Bool) → (b || false) ≡ true → b ≡ true
    go true h = refl
    go false h = h

-- no key is remembered twice, nor one of an open set
pub distinct_back : {X Y : Type 0} (v w : JoinerValue) (key : Key) (moment : ℕ) (ps : List (Option Units)) (r : Result X Y)
    → OnOk r ((turn : ℕ) × (arranged w.told ≡ arranged v.told ++ set_by key moment turn ps ∷ [])) → OnErr r (w ≡ v)
    → w.holds.finished ≡ v.holds.finished → IsKept v → IsKept w → is_among v.holds.finished key ≡ false → AreDistinct v.holds → AreDistinct w.holds
distinct_back v w key moment ps (Err e) ok err same before after fresh d = subst (λ (u : JoinerValue). AreDistinct u.holds) (sym err) d
distinct_back v w key moment ps (Ok x) ok err same before after fresh d =
    same_distinct w.holds (in_order w).holds (same_is_equivalence.1 (in_order w).holds w.holds (kept_same w after))
    (record {
      once = subst NoneTwice (sym same) d.once;
      closed = λ k e. ap (λ (ks : List Key). is_among ks k) same ∙ go k (same_key key k) refl (ap (λ (ss : List SetValue). is_open (all_pieces ss) k) (sym ok.1) ∙ e);
    })
  where
    own : AreDistinct (in_order v).holds
    own = same_distinct (in_order v).holds v.holds (kept_same v before) d

    go : (k : Key) (b : Bool) → same_key key k ≡ b → is_open (all_pieces (arranged v.told ++ set_by key moment ok.0 ps ∷ [])) k ≡ true → is_among v.holds.finished k ≡ false
    go k true s e = ap (is_among v.holds.finished) (sym (same_key_true key k s)) ∙ fresh
    go k false s e = own.closed k (more_open (arranged v.told) (set_by key moment ok.0 ps) k s e)

-- ---- a key

pub timed_more : (v : JoinerValue) (key : Key) (now : ℕ) (ms : List ℕ) (room : ℕ) → AreTimed v ms room → AreTimed (with_key v key) (take room (not_before ms now ∷ ms)) room
timed_more v key now ms room timed =
    record {
      sets = timed.sets;
      keys = timed.keys;
      room = timed.room;
      as_many = ap (λ n. length (take n (not_before ms now ∷ ms))) timed.room ∙ taken_many v.remembered ms v.holds.finished (not_before ms now) key timed.as_many;
      fall = fall_noted room now ms timed.fall;
    }

pub distinct_more : (v : JoinerValue) (key : Key) → IsKept v → has_set (arranged v.told) key ≡ false → is_among v.holds.finished key ≡ false → AreDistinct v.holds
    → AreDistinct (with_key v key).holds
distinct_more v key kept closed fresh d =
    record {
      once = twice_taken v.remembered (key ∷ v.holds.finished) (fresh, d.once);
      closed = λ k e. among_taken v.remembered (key ∷ v.holds.finished) k (go k (same_key key k) refl e);
    }
  where
    none : is_open v.holds.kept key ≡ false
    none = ap (λ (ps : List Piece). is_open ps key) kept.pieces ∙ others_closed v.told key (sym (has_arranged v.told key) ∙ closed)

    go : (k : Key) (b : Bool) → same_key key k ≡ b → is_open v.holds.kept k ≡ true → (same_key key k || is_among v.holds.finished k) ≡ false
    go k true s e =
        let z : true ≡ false = sym e ∙ (ap (is_open v.holds.kept) (sym (same_key_true key k s)) ∙ none) in
        cc
    go k false s e = ap (λ (b : Bool). b || is_among v.holds.finished k) s ∙ d.closed k e
