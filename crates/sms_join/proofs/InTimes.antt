-- Which keys an aging leaves.
use Rattle.std.proofs.Common.{◌≡◌, ℕ, zero, suc, Bool, true, false, cond, ◌||◌, List, [], ◌∷◌, slice_get, Option, Some, refl, ap, ◌∙◌}
use Rattle.sms_join.specs.declared.key.Key.{Key}
use Rattle.sms_join.specs.Key.{same_key}
use Rattle.sms_join.specs.Joiner.{is_among}
use Rattle.sms_join.specs.Gateway.Finishings.{is_forgotten, keys_at}
use Rattle.sms_join.specs.Gateway.InTime.{HasInTime, RemembersInTime}

some_same : {X : Type 0} (x y : X) → Some x ≡ Some y → x ≡ y
some_same x y e = cc

or_true : (b : Bool) → (b || true) ≡ true
or_true true = refl
or_true false = refl

module _ (longest : Option ℕ) (now : ℕ) (k : Key) where
  each_at : (ks : List Key) (ms : List ℕ) (i : ℕ) (own : Key) (m : ℕ) → slice_get ks i ≡ Some own → same_key own k ≡ true → slice_get ms i ≡ Some m
      → is_forgotten longest now m ≡ false → is_among (keys_at longest now ks ms) k ≡ true
  each_at [] ms zero own m e s f t = absurd cc
  each_at [] ms (suc i) own m e s f t = absurd cc
  each_at (x ∷ ks) [] zero own m e s f t = absurd cc
  each_at (x ∷ ks) [] (suc i) own m e s f t = absurd cc
  each_at (x ∷ ks) (n ∷ ms) zero own m e s f t =
      let young : is_forgotten longest now n ≡ false = ap (is_forgotten longest now) (some_same n m f) ∙ t in
      let same : same_key x k ≡ true = ap (λ (l : Key). same_key l k) (some_same x own e) ∙ s in
      ap (λ b. is_among (cond b (keys_at longest now ks ms) (x ∷ keys_at longest now ks ms)) k) young
      ∙ ap (λ b. b || is_among (keys_at longest now ks ms) k) same
  each_at (x ∷ ks) (n ∷ ms) (suc i) own m e s f t = go (is_forgotten longest now n) (each_at ks ms i own m e s f t)
    where
      go : (b : Bool) → is_among (keys_at longest now ks ms) k ≡ true → is_among (cond b (keys_at longest now ks ms) (x ∷ keys_at longest now ks ms)) k ≡ true
      go true ih = ih
      go false ih = ap (λ b. same_key x k || b) ih ∙ or_true (same_key x k)

  later : (x : Key) (ks : List Key) (n : ℕ) (ms : List ℕ) → HasInTime longest now ks ms k → HasInTime longest now (x ∷ ks) (n ∷ ms) k
  later x ks n ms h =
      record { index = suc h.index; own = h.own; moment = h.moment; there = h.there; same = h.same; finished = h.finished; in_time = h.in_time }

  only_at : (ks : List Key) (ms : List ℕ) → is_among (keys_at longest now ks ms) k ≡ true → HasInTime longest now ks ms k
  only_at [] ms e = absurd cc
  only_at (x ∷ ks) [] e = absurd cc
  only_at (x ∷ ks) (n ∷ ms) e = go (is_forgotten longest now n) refl e (only_at ks ms)
    where
      go : (b : Bool) → is_forgotten longest now n ≡ b → is_among (cond b (keys_at longest now ks ms) (x ∷ keys_at longest now ks ms)) k ≡ true
          → (is_among (keys_at longest now ks ms) k ≡ true → HasInTime longest now ks ms k) → HasInTime longest now (x ∷ ks) (n ∷ ms) k
      go true f e ih = later x ks n ms (ih e)
      go false f e ih = which (same_key x k) refl e
        where
          which : (c : Bool) → same_key x k ≡ c → (c || is_among (keys_at longest now ks ms) k) ≡ true → HasInTime longest now (x ∷ ks) (n ∷ ms) k
          which true s e = record { index = 0; own = x; moment = n; there = refl; same = s; finished = refl; in_time = f }
          which false s e = later x ks n ms (ih e)

pub remembers_in_time : RemembersInTime
remembers_in_time =
    record {
      each = λ longest now ks ms k h. each_at longest now k ks ms h.index h.own h.moment h.there h.same h.finished h.in_time;
      only = λ longest now ks ms k e. only_at longest now k ks ms e;
    }
