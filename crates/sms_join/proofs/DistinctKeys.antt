-- No key is remembered twice, whatever is offered and whatever ages.
use Rattle.std.proofs.Common.{◌≡◌, ℕ, zero, suc, Bool, true, false, ◌||◌, List, [], ◌∷◌, take, Result, Ok, Err, refl, sym, ap, ◌∙◌, subst}
use Rattle.std.proofs.lemmas.Bool.{or_parts}
use Rattle.std.specs.Result.{OnOk, OnErr}
use Rattle.sms_join.specs.declared.key.Key.{Key}
use Rattle.sms_join.specs.declared.offer.Offer.{Offer}
use Rattle.sms_join.specs.declared.offer.OfferFault.{OfferFault}
use Rattle.sms_join.specs.Key.{same_key}
use Rattle.sms_join.specs.Piece.{Piece}
use Rattle.sms_join.specs.Joiner.Sets.{has, is_open, units_upto, without}
use Rattle.sms_join.specs.Joiner.{Joiner, new_joiner, is_among, is_repeat, is_whole, has_room, decided, answer, answered, offered}
use Rattle.sms_join.specs.Joiner.Aging.{young}
use Rattle.sms_join.specs.Joiner.Same.{IsSame}
use Rattle.sms_join.specs.Joiner.Value.{JoinerValue}
use Rattle.sms_join.specs.Gateway.Distinct.{NoneTwice, AreDistinct}
use Rattle.sms_join.proofs.SameKeys.{same_key_true}
use Rattle.sms_join.proofs.Places.{among_taken}
use Rattle.sms_join.proofs.Same.{open-without_same}
use Rattle.sms_join.proofs.ForRecipients.{open_before, open_young}

pub twice_taken : (n : ℕ) (ks : List Key) → NoneTwice ks → NoneTwice (take n ks)
twice_taken zero ks h = tt
twice_taken (suc n) [] h = tt
twice_taken (suc n) (k ∷ ks) h = (among_taken n ks k h.0, twice_taken n ks h.1)

pub new_distinct : AreDistinct new_joiner
unfolding new_joiner
new_distinct = record { once = tt; closed = λ k e. refl }

-- of two that hold the same
pub same_distinct : (i j : Joiner) → IsSame i j → AreDistinct j → AreDistinct i
same_distinct i j s d =
    record {
      once = subst NoneTwice (sym s.finished) d.once;
      closed = λ k e. ap (λ ks. is_among ks k) s.finished ∙ d.closed k (sym (s.opened k) ∙ e);
    }

fresh : (j : Joiner) (p : Piece) → is_repeat j p ≡ false → is_among j.finished p.key ≡ false
unfolding is_repeat
fresh j p e = (or_parts (is_among j.finished p.key) (has j.kept p.key p.sequence) e).0

finished_distinct : (remembered : ℕ) (j : Joiner) (p : Piece) → is_among j.finished p.key ≡ false → AreDistinct j
    → AreDistinct (record { kept = without j.kept p.key; finished = take remembered (p.key ∷ j.finished) })
finished_distinct remembered j p f d =
    record {
      once = twice_taken remembered (p.key ∷ j.finished) (f, d.once);
      closed = λ k e. among_taken remembered (p.key ∷ j.finished) k (go k (same_key p.key k) refl e);
    }
  where
    go : (k : Key) (b : Bool) → same_key p.key k ≡ b → is_open (without j.kept p.key) k ≡ true → (same_key p.key k || is_among j.finished k) ≡ false
    go k true s e =
        let gone : is_open (without j.kept p.key) k ≡ false = subst (λ (m : Key). is_open (without j.kept p.key) m ≡ false) (same_key_true p.key k s) (open-without_same j.kept p.key) in
        let z : true ≡ false = sym e ∙ gone in
        cc
    go k false s e = ap (λ b. b || is_among j.finished k) s ∙ d.closed k (open_before j.kept p.key k e)

kept_distinct : (j : Joiner) (p : Piece) → is_among j.finished p.key ≡ false → AreDistinct j → AreDistinct (record { kept = p ∷ j.kept; finished = j.finished })
kept_distinct j p f d = record { once = d.once; closed = λ k e. go k (same_key p.key k) refl e }
  where
    go : (k : Key) (b : Bool) → same_key p.key k ≡ b → (b || is_open j.kept k) ≡ true → is_among j.finished k ≡ false
    go k true s e = ap (is_among j.finished) (sym (same_key_true p.key k s)) ∙ f
    go k false s e = d.closed k e

-- after an offer
offered_distinct : (open_max remembered : ℕ) (j : Joiner) (p : Piece) → AreDistinct j → AreDistinct (offered open_max remembered j p)
unfolding offered answer answered decided
offered_distinct open_max remembered j p d = go (is_repeat j p) refl (is_whole j p) (has_room open_max j p)
  where
    go : (a : Bool) → is_repeat j p ≡ a → (b c : Bool) → AreDistinct (answered remembered j p (decided a b c (units_upto (p ∷ j.kept) p.key p.maximum)))
    go true e b c = d
    go false e true c = finished_distinct remembered j p (fresh j p e) d
    go false e false true = kept_distinct j p (fresh j p e) d
    go false e false false = d

-- whether it was taken or not
pub offer_distinct : (v w : JoinerValue) (p : Piece) (result : Result Offer OfferFault) → OnOk result (IsSame w.holds (offered v.open_max v.remembered v.holds p)) → OnErr result (w ≡ v)
    → AreDistinct v.holds → AreDistinct w.holds
offer_distinct v w p (Ok o) same none d = same_distinct w.holds (offered v.open_max v.remembered v.holds p) same (offered_distinct v.open_max v.remembered v.holds p d)
offer_distinct v w p (Err e) same none d = subst (λ (u : JoinerValue). AreDistinct u.holds) (sym none) d

-- after an aging
pub aged_distinct : (old : Key → Bool) (i j : Joiner) (n : ℕ) → i.kept ≡ young old j.kept → i.finished ≡ take n j.finished → AreDistinct j → AreDistinct i
aged_distinct old i j n kept finished d =
    record {
      once = subst NoneTwice (sym finished) (twice_taken n j.finished d.once);
      closed = λ k e. ap (λ ks. is_among ks k) finished ∙ among_taken n j.finished k (d.closed k (open_young old j.kept k (ap (λ ps. is_open ps k) (sym kept) ∙ e)));
    }
