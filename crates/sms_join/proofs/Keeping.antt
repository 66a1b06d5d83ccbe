-- What a joiner holds is the same in the order of opening.
use Rattle.std.proofs.Common.{◌≡◌, ℕ, Bool, not, List, Result, Ok, Err, sym, ap, ◌∙◌, subst}
use Rattle.std.specs.Result.{OnOk}
use Rattle.sms_join.specs.declared.offer.Offer.{Offer}
use Rattle.sms_join.specs.declared.offer.OfferFault.{OfferFault}
use Rattle.sms_join.specs.Piece.{Piece}
use Rattle.sms_join.specs.Joiner.{Joiner, Answer, answer, offered}
use Rattle.sms_join.specs.Joiner.Aging.{aged}
use Rattle.sms_join.specs.Joiner.Same.{IsSame}
use Rattle.sms_join.specs.Joiner.Finishing.{would_finish, is_finished}
use Rattle.sms_join.specs.Joiner.Offering.{is_first, SaysAnswer, Says}
use Rattle.sms_join.specs.Joiner.Value.{JoinerValue}
use Rattle.sms_join.specs.Inside.Keeping.{IsKept, in_order}
use Rattle.sms_join.proofs.Same.{same_trans, answers_alike}
use Rattle.sms_join.proofs.Young.{ages_alike}
use Rattle.sms_join.proofs.Finishing.{answer_finishes, same_is_equivalence}
use Rattle.sms_join.proofs.Arranged.{same_arranged}

pub kept_same : (k : JoinerValue) → IsKept k → IsSame (in_order k).holds k.holds
kept_same k h =
    subst (λ (ps : List Piece). IsSame (in_order k).holds (record { kept = ps; finished = k.holds.finished })) (sym h.pieces)
    (same_arranged k.told k.holds.finished h.are_open)

pub says_kept : (m : ℕ) (i j : Joiner) (p : Piece) (r : Result Offer OfferFault) → IsSame i j → Says m j p r → Says m i p r
says_kept m i j p r same h =
    subst (λ (a : Answer). SaysAnswer a (is_first i p) r) (sym (answers_alike m 0 i j p same).0)
    (subst (λ (b : Bool). SaysAnswer (answer m j p) b r) (ap not (sym (same.opened p.key))) h)

pub offered_kept : (m remembered : ℕ) (i j x y : Joiner) (p : Piece) → IsSame i j → IsSame x y → IsSame y (offered m remembered j p) → IsSame x (offered m remembered i p)
offered_kept m remembered i j x y p same new h =
    same_trans x y (offered m remembered i p) new
    (same_trans y (offered m remembered j p) (offered m remembered i p) h
    (same_is_equivalence.1 (offered m remembered i p) (offered m remembered j p) (answers_alike m remembered i j p same).1))

pub aged_kept : (now : ℕ) (i j x y : Joiner) → IsSame i j → IsSame x y → IsSame y (aged now j) → IsSame x (aged now i)
aged_kept now i j x y same new h =
    same_trans x y (aged now i) new
    (same_trans y (aged now j) (aged now i) h (same_is_equivalence.1 (aged now i) (aged now j) (ages_alike now i j same)))

pub finish_kept : (i j : Joiner) (p : Piece) → IsSame i j → would_finish j p ≡ would_finish i p
finish_kept i j p same =
    sym (answer_finishes 0 j p) ∙ (ap is_finished (sym (answers_alike 0 0 i j p same).0) ∙ answer_finishes 0 i p)

pub on_ok : {X Y : Type 0} {A B : Type 0} (r : Result X Y) → (A → B) → OnOk r A → OnOk r B
on_ok (Ok x) f a = f a
on_ok (Err e) f a = a
