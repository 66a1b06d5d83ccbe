-- Which pieces make their set whole, and that holding the same is an equivalence.
use Rattle.std.proofs.Common.{◌≡◌, ℕ, suc, Bool, true, false, not, ◌&&◌, eqb, List, [], ◌∷◌, length, refl, sym, ap, ◌∙◌, arith}
use Rattle.std.proofs.lemmas.Bool.{eqb-true, eqb-false, ne_eqb}
use Rattle.sms_join.specs.declared.key.Key.{Key}
use Rattle.sms_join.specs.declared.units.Units.{Units}
use Rattle.sms_join.specs.Key.{maximum_of}
use Rattle.sms_join.specs.Piece.{Piece}
use Rattle.sms_join.specs.Joiner.{Joiner, Answer, Repeat, Kept, Finished, TooManyOpen, is_repeat, is_whole, decided, answer, is_among}
use Rattle.sms_join.specs.Joiner.Same.{IsSame}
use Rattle.sms_join.specs.OpenSets.{SetValue, AreOpen, is_in, has_set, with_piece}
use Rattle.sms_join.specs.Joiner.Finishing.{would_finish, is_finished, AnswerFinishes, SameIsEquivalence}
use Rattle.sms_join.proofs.Outcomes.{joiner_of, InPlace, finishes_alone, too_many}
use Rattle.sms_join.specs.Inside.LastKeys.{LastKeysValue}
use Rattle.sms_join.specs.Inside.Slots.{At}
use Rattle.sms_join.proofs.Same.{same_refl, same_trans}
use Rattle.sms_join.proofs.Offers.{Found, Knows, come, last, set_repeats, set_keeps, set_finishes}

told : (repeat whole room : Bool) (units : List Units) → is_finished (decided repeat whole room units) ≡ (not repeat && whole)
unfolding decided
told true whole room units = refl
told false true room units = refl
told false false true units = refl
told false false false units = refl

pub answer_finishes : AnswerFinishes
unfolding answer
answer_finishes open_max j p = told (is_repeat j p) (is_whole j p) _ _

same_sym : (i j : Joiner) → IsSame i j → IsSame j i
same_sym i j h =
    record {
      pieces = λ k n. sym (h.pieces k n);
      units = λ k n t. sym (h.units k n (h.pieces k n ∙ t));
      opened = λ k. sym (h.opened k);
      moments = λ k. sym (h.moments k);
      sets = sym h.sets;
      finished = sym h.finished;
    }

pub same_is_equivalence : SameIsEquivalence
same_is_equivalence = (same_refl, same_sym, same_trans)

-- from the answer
pub finishes_by : (j : Joiner) (p : Piece) (a : Answer) → answer 0 j p ≡ a → is_finished a ≡ would_finish j p
finishes_by j p a e = ap is_finished (sym e) ∙ answer_finishes 0 j p

pub repeat_finishes_none : (j : Joiner) (p : Piece) → is_repeat j p ≡ true → false ≡ would_finish j p
repeat_finishes_none j p h = rw h refl

-- no set of the key is open
pub alone_finishes : (ss : List SetValue) (ks : List Key) (p : Piece) → InPlace p → AreOpen ss → is_among ks p.key ≡ false → has_set ss p.key ≡ false
    → (n : ℕ) → n ≡ maximum_of p.key → (b : Bool) → eqb n 1 ≡ b → b ≡ would_finish (joiner_of ss ks) p
alone_finishes ss ks p i o fresh none n m true e =
    finishes_by (joiner_of ss ks) p (Finished (p.units ∷ [])) (finishes_alone ss ks p i fresh none 0 0 (sym m ∙ eqb-true n 1 e)).0
alone_finishes ss ks p i o fresh none n m false e =
    finishes_by (joiner_of ss ks) p TooManyOpen (too_many ss ks p i fresh none 0 o (ne_eqb 1 (maximum_of p.key) (λ h. eqb-false n 1 e (m ∙ sym h))) (omega arith))

-- a set of the key is open
module _ (ss : List SetValue) (ks : List Key) (i : ℕ) (s : SetValue) (p : Piece) (o : AreOpen ss) (f : Found ss p.key i s) (place : InPlace p) (fresh : is_among ks p.key ≡ false) where
  pub set_would_finish : (b c : Bool) → is_in p.sequence s.sequences ≡ b → eqb (suc (length s.sequences)) (maximum_of s.key) ≡ c → (not b && c) ≡ would_finish (joiner_of ss ks) p
  set_would_finish true c e g = finishes_by (joiner_of ss ks) p Repeat (set_repeats 0 0 ss ks i s p o f place fresh e).0
  set_would_finish false true e g = finishes_by (joiner_of ss ks) p (Finished (with_piece s p.sequence p.units).units) (set_finishes 0 0 ss ks i s p o f place fresh e g).0
  set_would_finish false false e g = finishes_by (joiner_of ss ks) p Kept (set_keeps 0 0 ss ks i s p o f place fresh e g).1

-- what is told of the set
module _ (m : ℕ) (l : LastKeysValue) (ss : List SetValue) (p : Piece) (i n : ℕ) (h : Knows l ss p i n) (b : Bool) (has : At ss i (λ s. b ≡ is_in n s.sequences)) where
  pub known_lack : (c : Bool) → At ss i (λ s. c ≡ eqb (suc (length s.sequences)) (maximum_of s.key)) → b ≡ false → c ≡ would_finish (joiner_of ss l.keys) p
  known_lack c one e =
      set_would_finish ss l.keys i h.own p h.are_open h.found h.place h.fresh false c (come m l ss p i n h b false has e) (last m l ss p i n h c c one refl)

  pub known_come : b ≡ true → false ≡ would_finish (joiner_of ss l.keys) p
  known_come e =
      set_would_finish ss l.keys i h.own p h.are_open h.found h.place h.fresh true _ (come m l ss p i n h b true has e) refl
