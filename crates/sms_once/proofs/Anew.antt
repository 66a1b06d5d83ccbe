-- A key whose finishing is forgotten joins anew.
use Rattle.std.proofs.Common.{◌≡◌, ℕ, zero, suc, Bool, true, false, cond, ◌||◌, List, [], ◌∷◌, ◌++◌, map, slice_get, Option, Some, refl, sym, ap, ◌∙◌, subst}
use Rattle.std.proofs.lemmas.Bool.{false_from_ne_true, or_right}
use Rattle.sms_join.specs.declared.key.Key.{Key}
use Rattle.sms_join.specs.declared.units.Units.{Units}
use Rattle.sms_join.specs.Key.{same_key}
use Rattle.sms_join.specs.Piece.{Piece}
use Rattle.sms_join.specs.Joiner.Sets.{is_open}
use Rattle.sms_join.specs.Joiner.{is_among}
use Rattle.sms_join.specs.Joiner.Aging.{is_old_after, aged_after}
use Rattle.sms_join.specs.Joiner.Acts.{Act, Brings, Ages}
use Rattle.sms_join.specs.Gateway.Distinct.{NoneTwice}
use Rattle.sms_join.specs.Gateway.Finishings.{is_forgotten, keys_at}
use Rattle.sms_join.specs.Gateway.Value.{LimitsValue}
use Rattle.sms_once.specs.Run.{Held, finishing_by, held_aged, run}
use Rattle.sms_once.specs.Repeats.{others_finished}
use Rattle.sms_once.specs.Once.{IsNew, finishes}
use Rattle.sms_once.specs.Sound.{IsSound}
use Rattle.sms_once.specs.Anew.{Forgotten, FinishInTurn, IsForgotten, AreForgotten, KeysJoinAnew, acts_of}
use Rattle.sms_once.proofs.Keys.{same_key_refl, same_key_true}
use Rattle.sms_once.proofs.Sets.{among_both}
use Rattle.sms_once.proofs.Aged.{among_aged, closed_aged, keys_go}
use Rattle.sms_once.proofs.Lasting.{Lasts}
use Rattle.sms_once.proofs.Once.{finishes-append, just_once, lasting_after, run-append}
use Rattle.sms_once.proofs.Sound.{runs_stay_sound}

some_same : {X : Type 0} (x y : X) → Some x ≡ Some y → x ≡ y
some_same x y e = cc

pub among_at : (ks : List Key) (i : ℕ) (k : Key) → slice_get ks i ≡ Some k → is_among ks k ≡ true
among_at [] zero k e = absurd cc
among_at [] (suc i) k e = absurd cc
among_at (x ∷ ks) zero k e =
    let s : same_key x k ≡ true = ap (λ l. same_key l k) (some_same x k e) ∙ same_key_refl k in
    rw s refl
among_at (x ∷ ks) (suc i) k e = or_right (same_key x k) (is_among ks k) (among_at ks i k e)

-- the key of a finishing that is forgotten goes, where it is remembered once
module _ (longest : Option ℕ) (now : ℕ) (k : Key) (m : ℕ) (gone : is_forgotten longest now m ≡ true) where
  goes_at : (ks : List Key) (ms : List ℕ) (i : ℕ) → NoneTwice ks → slice_get ks i ≡ Some k → slice_get ms i ≡ Some m → is_among (keys_at longest now ks ms) k ≡ false
  goes_at [] ms zero h e f = absurd cc
  goes_at [] ms (suc i) h e f = absurd cc
  goes_at (x ∷ ks) [] zero h e f = absurd cc
  goes_at (x ∷ ks) [] (suc i) h e f = absurd cc
  goes_at (x ∷ ks) (n ∷ ms) zero h e f =
      let old : is_forgotten longest now n ≡ true = ap (is_forgotten longest now) (some_same n m f) ∙ gone in
      let none : is_among ks k ≡ false = ap (is_among ks) (sym (some_same x k e)) ∙ h.0 in
      ap (λ b. is_among (cond b (keys_at longest now ks ms) (x ∷ keys_at longest now ks ms)) k) old ∙ among_aged longest now ks ms k none
  goes_at (x ∷ ks) (n ∷ ms) (suc i) h e f = go (is_forgotten longest now n) (goes_at ks ms i h.1 e f)
    where
      other : same_key x k ≡ false
      other = false_from_ne_true _ (λ s.
          let none : is_among ks k ≡ false = ap (is_among ks) (sym (same_key_true x k s)) ∙ h.0 in
          let z : true ≡ false = sym (among_at ks i k e) ∙ none in cc)

      go : (b : Bool) → is_among (keys_at longest now ks ms) k ≡ false → is_among (cond b (keys_at longest now ks ms) (x ∷ keys_at longest now ks ms)) k ≡ false
      go true ih = ih
      go false ih = ap (λ b. b || is_among (keys_at longest now ks ms) k) other ∙ ih

new_by : (limits : LimitsValue) (h : Held) (now : ℕ) (k : Key) → is_open h.holds.kept k ≡ false
    → is_among (keys_at limits.remember_for now h.holds.finished h.finishings) k ≡ false → IsNew (held_aged limits h now).holds k
unfolding aged_after
new_by limits h now k closed gone = record { not_open = closed_aged (is_old_after limits.open_for now h.holds.kept) h.holds.kept k closed; not_remembered = gone }

pub keys_join_anew : KeysJoinAnew
keys_join_anew limits h acts k m now s at f =
    new_by limits (run limits h acts) now k
    (false_from_ne_true _ (λ o. let z : true ≡ false = sym (among_at (run limits h acts).holds.finished at.index k at.key) ∙ now_sound.distinct.closed k o in cc))
    (goes_at limits.remember_for now k m f (run limits h acts).holds.finished (run limits h acts).finishings at.index now_sound.distinct.once at.key at.moment)
  where
    now_sound : IsSound (run limits h acts)
    now_sound = runs_stay_sound.stays limits h acts s

module _ (limits : LimitsValue) (h : Held) (k : Key) (m : Forgotten) (new : IsNew h.holds k) (f : IsForgotten limits h k m) where
  lasts : Lasts (run limits (run limits h (Brings m.last ∷ m.before)) m.after).holds (run limits (run limits h (Brings m.last ∷ m.before)) m.after).finishings k (finishing_by (run limits h m.before) m.last)
      (others_finished limits (run limits h (Brings m.last ∷ m.before)) k m.after)
  lasts = (lasting_after limits h k m.pieces m.after m.last m.before new f.comes).lasts

  new_after : IsNew (run limits (run limits h (Brings m.last ∷ m.before)) (Ages m.forgotten_at ∷ m.after)).holds k
  new_after =
      new_by limits (run limits (run limits h (Brings m.last ∷ m.before)) m.after) m.forgotten_at k lasts.closed
      (ap (λ l. is_among l k)
      (ap (λ ks. keys_at limits.remember_for m.forgotten_at ks (run limits (run limits h (Brings m.last ∷ m.before)) m.after).finishings) lasts.keys
      ∙ (ap (keys_at limits.remember_for m.forgotten_at (lasts.later ++ k ∷ lasts.earlier)) lasts.moments
      ∙ keys_go limits.remember_for m.forgotten_at lasts.later lasts.later_at k (finishing_by (run limits h m.before) m.last) lasts.earlier lasts.earlier_at lasts.as_many f.late))
      ∙ among_both (keys_at limits.remember_for m.forgotten_at lasts.later lasts.later_at) (keys_at limits.remember_for m.forgotten_at lasts.earlier lasts.earlier_at) k
      (among_aged limits.remember_for m.forgotten_at lasts.later lasts.later_at k lasts.none_later)
      (among_aged limits.remember_for m.forgotten_at lasts.earlier lasts.earlier_at k lasts.none_earlier))

  new_then : IsNew (run limits h (Ages m.forgotten_at ∷ m.after ++ Brings m.last ∷ m.before)).holds k
  new_then = subst (λ (i : Held). IsNew i.holds k) (sym (run-append limits h (Ages m.forgotten_at ∷ m.after) (Brings m.last ∷ m.before))) new_after

-- more acts after those of the messages so far
more : (limits : LimitsValue) (h : Held) (k : Key) (ms : List Forgotten) (us : List Units) (acts : List (Act Piece))
    → finishes limits h k (acts_of ms) ≡ map (λ (m : Forgotten). m.pieces) ms
    → finishes limits (run limits h (acts_of ms)) k acts ≡ us ∷ []
    → finishes limits h k (acts ++ acts_of ms) ≡ us ∷ map (λ (m : Forgotten). m.pieces) ms
more limits h k ms us acts e f =
    finishes-append limits h k acts (acts_of ms)
    ∙ (ap (λ l. l ++ finishes limits h k (acts_of ms)) f ∙ ap (λ l. (us ∷ []) ++ l) e)

in_turn : (limits : LimitsValue) (h : Held) (k : Key) (ms : List Forgotten) → IsNew h.holds k → AreForgotten limits h k ms
    → IsNew (run limits h (acts_of ms)).holds k × (finishes limits h k (acts_of ms) ≡ map (λ (m : Forgotten). m.pieces) ms)
in_turn limits h k [] new f = (new, refl)
in_turn limits h k (m ∷ ms) new f =
    let ih = in_turn limits h k ms new f.1 in
    let i : Held = run limits h (acts_of ms) in (
      subst (λ (l : Held). IsNew l.holds k) (sym (run-append limits h (Ages m.forgotten_at ∷ m.after ++ Brings m.last ∷ m.before) (acts_of ms)))
          (new_then limits i k m ih.0 f.0),
      more limits h k ms m.pieces (Ages m.forgotten_at ∷ m.after ++ Brings m.last ∷ m.before) ih.1
          (just_once limits i k m.pieces m.after m.last m.before ih.0 f.0.comes),
    )

pub finish_in_turn : FinishInTurn
finish_in_turn limits h k ms new f =
    let r = in_turn limits h k ms new f in
    record {
      is_new = r.0;
      each_once = r.1;
      one_more = λ us after o before come.
          more limits h k ms us (after ++ Brings o ∷ before) r.1 (just_once limits (run limits h (acts_of ms)) k us after o before r.0 come);
    }
