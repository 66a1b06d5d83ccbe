-- For whom open sets are.
use Rattle.std.proofs.Common.{◌≡◌, ℕ, Bool, true, false, ◌||◌, List, [], ◌∷◌, Option, None, Some, Result, Ok, Err, refl, sym, ap, ◌∙◌, subst}
use Rattle.std.proofs.lemmas.Bool.{or_right}
use Rattle.std.specs.Result.{OnOk, OnErr}
use Rattle.sms_field.specs.Address.Value.{AddressValue}
use Rattle.sms_tpdu.specs.declared.user_data.concat.Concat.{Concat}
use Rattle.sms_join.specs.declared.key.Key.{Key}
use Rattle.sms_join.specs.declared.offer.Offer.{Offer}
use Rattle.sms_join.specs.declared.offer.OfferFault.{OfferFault}
use Rattle.sms_join.specs.Key.{same_key, recipient_of}
use Rattle.sms_join.specs.Piece.{Piece, key_of}
use Rattle.sms_join.specs.Joiner.Sets.{is_open, without}
use Rattle.sms_join.specs.Joiner.{Joiner, Answer, Repeat, Kept, Finished, TooManyOpen, answer, answered, offered}
use Rattle.sms_join.specs.Joiner.Aging.{is_old, young, aged}
use Rattle.sms_join.specs.Joiner.Same.{IsSame}
use Rattle.sms_join.specs.Joiner.Value.{JoinerValue}
use Rattle.sms_join.specs.OpenSets.{SetValue, AreOpen, all_pieces, pieces_in}
use Rattle.sms_join.specs.OpenSets.Told.{AreFor}
use Rattle.sms_join.specs.Inside.Keeping.{IsKept, AreKeptFor, in_order}
use Rattle.sms_join.specs.Inside.Turns.{arranged}
use Rattle.sms_join.proofs.SameKeys.{same_key_true}
use Rattle.sms_join.proofs.Same.{open-without, open-without_same}
use Rattle.sms_join.proofs.SetPieces.{open-append}
use Rattle.sms_join.proofs.OneSet.{open_of}
use Rattle.sms_join.proofs.Young.{open-young, open-gone}
use Rattle.sms_join.proofs.Arranged.{arranged_open}
use Rattle.sms_join.proofs.Keeping.{kept_same}

pub key_for_none : (origin : AddressValue) (stamp : List ℕ) (concat : Option Concat) → recipient_of (key_of origin stamp concat) ≡ None
key_for_none origin stamp None = refl
key_for_none origin stamp (Some c) = refl

pub open_before : (ps : List Piece) (k l : Key) → is_open (without ps k) l ≡ true → is_open ps l ≡ true
open_before ps k l t = go (same_key k l) refl
  where
    go : (b : Bool) → same_key k l ≡ b → is_open ps l ≡ true
    go false e = sym (open-without ps k l e) ∙ t
    go true e =
        let f : is_open (without ps k) l ≡ false = subst (λ (m : Key). is_open (without ps k) m ≡ false) (same_key_true k l e) (open-without_same ps k) in
        let z : true ≡ false = sym t ∙ f in cc

pub open_young : (old : Key → Bool) (ps : List Piece) (k : Key) → is_open (young old ps) k ≡ true → is_open ps k ≡ true
open_young old ps k t = go (old k) refl
  where
    go : (b : Bool) → old k ≡ b → is_open ps k ≡ true
    go false e = sym (open-young old k ps e) ∙ t
    go true e = let z : true ≡ false = sym t ∙ open-gone old k ps e in cc

module _ (r : Option AddressValue) where
  -- after an offer
  answered_for : (remembered : ℕ) (j : Joiner) (p : Piece) (a : Answer) → recipient_of p.key ≡ r → AreKeptFor r j.kept → AreKeptFor r (answered remembered j p a).kept
  unfolding answered
  answered_for remembered j p Repeat own h = h
  answered_for remembered j p Kept own h = λ k. go k (same_key p.key k) refl
    where
      go : (k : Key) (b : Bool) → same_key p.key k ≡ b → (b || is_open j.kept k) ≡ true → recipient_of k ≡ r
      go k true e t = ap recipient_of (sym (same_key_true p.key k e)) ∙ own
      go k false e t = h k t
  answered_for remembered j p (Finished us) own h = λ k t. h k (open_before j.kept p.key k t)
  answered_for remembered j p TooManyOpen own h = h

  same_for : (i j : Joiner) → IsSame i j → AreKeptFor r j.kept → AreKeptFor r i.kept
  same_for i j same h = λ k t. h k (sym (same.opened k) ∙ t)

  offered_for : (open_max remembered : ℕ) (i j : Joiner) (p : Piece) → IsSame i (offered open_max remembered j p) → recipient_of p.key ≡ r
      → AreKeptFor r j.kept → AreKeptFor r i.kept
  unfolding offered
  offered_for open_max remembered i j p same own h =
      same_for i (answered remembered j p (answer open_max j p)) same (answered_for remembered j p (answer open_max j p) own h)

  -- whether it was taken or not
  pub offer_for : (open_max remembered : ℕ) (v w : JoinerValue) (p : Piece) (result : Result Offer OfferFault)
      → OnOk result (IsSame w.holds (offered open_max remembered v.holds p)) → OnErr result (w ≡ v) → recipient_of p.key ≡ r
      → AreKeptFor r v.holds.kept → AreKeptFor r w.holds.kept
  offer_for open_max remembered v w p (Ok o) same none own h = offered_for open_max remembered w.holds v.holds p same own h
  offer_for open_max remembered v w p (Err e) same none own h = subst (λ (u : JoinerValue). AreKeptFor r u.holds.kept) (sym none) h

  -- in the order of opening
  in_turn_for : (v : JoinerValue) → IsKept v → AreKeptFor r v.holds.kept → AreKeptFor r (in_order v).holds.kept
  in_turn_for v kept h = same_for (in_order v).holds v.holds (kept_same v kept) h

  -- after an aging
  pub age_for : (now : ℕ) (v w : JoinerValue) → IsKept v → IsKept w → (in_order w).holds ≡ aged now (in_order v).holds
      → AreKeptFor r v.holds.kept → AreKeptFor r w.holds.kept
  unfolding aged
  age_for now v w before after aged h = λ k t.
      in_turn_for v before h k
      (open_young (is_old now (in_order v).holds.kept) (in_order v).holds.kept k
      (ap (λ (j : Joiner). is_open j.kept k) (sym aged) ∙ ((kept_same w after).opened k ∙ t)))

  -- the sets of the pieces
  sets_for : (ss : List SetValue) → AreOpen ss → AreKeptFor r (all_pieces ss) → AreFor r ss
  sets_for [] o h = tt
  sets_for (s ∷ ss) o h = (
    h s.key (open_of [] s ss o.0.is_set.as_many o.0.some),
    sets_for ss o.2 (λ k t. h k (open-append (pieces_in s) (all_pieces ss) k ∙ or_right (is_open (pieces_in s) k) (is_open (all_pieces ss) k) t)),
  )

  pub told_for : (v : JoinerValue) → IsKept v → AreKeptFor r v.holds.kept → AreFor r (arranged v.told)
  told_for v kept h = sets_for (arranged v.told) (arranged_open v.told kept.are_open) (in_turn_for v kept h)
