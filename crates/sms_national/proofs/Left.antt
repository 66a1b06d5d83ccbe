-- The septets that are left to be cut.
use Rattle.std.proofs.Common.{◌≡◌, ℕ, zero, suc, ◌+◌, ◌≤◌, true, List, [], ◌∷◌, ◌++◌, length, take, drop, refl, sym, subst, arith, append_assoc, length-append, length-drop}
use Rattle.std.proofs.lemmas.List.{append-nil, take-append-drop, length-take-le}
use Rattle.sms_text.specs.Bits.{AreSeptets}
use Rattle.sms_language.specs.TextUnder.{ends_whole}
use Rattle.sms_national.specs.Cut.{IsPiece, ArePieces}
use Rattle.sms_national.specs.Inside.Escapes.{stand_apart}
use Rattle.sms_national.proofs.Whole.{whole_drop, apart_drop}

-- they are as all are, and their pieces go on to be those of all
pub record IsLeft (room : ℕ) (all : List ℕ) (pieces : List (List ℕ)) (left : List ℕ) : Type 0 where
  pub whole : ends_whole left ≡ true
  pub apart : stand_apart left ≡ true
  pub goes_on : (others : List (List ℕ)) → ArePieces room others left → ArePieces room (pieces ++ others) all

pub all_left : (room : ℕ) (all : List ℕ) → ends_whole all ≡ true → stand_apart all ≡ true → IsLeft room all [] all
all_left room all whole apart = record { whole = whole; apart = apart; goes_on = λ others are. are }

pub less_left : (room n : ℕ) (all left : List ℕ) (pieces : List (List ℕ)) → IsPiece room (take n left) (drop n left) → IsLeft room all pieces left → IsLeft room all (pieces ++ take n left ∷ []) (drop n left)
less_left room n all left pieces is h = record {
  whole = whole_drop n left is.whole h.whole;
  apart = apart_drop n left h.apart;
  goes_on = λ others are.
      subst (λ (l : List (List ℕ)). ArePieces room l all) (sym (append_assoc pieces (take n left ∷ []) others))
      (h.goes_on (take n left ∷ others) (drop n left, take-append-drop n left, is, are));
}

pub nothing_left : (room : ℕ) (all left : List ℕ) (pieces : List (List ℕ)) → left ≡ [] → IsLeft room all pieces left → ArePieces room pieces all
nothing_left room all left pieces e h = subst (λ (l : List (List ℕ)). ArePieces room l all) (append-nil pieces) (h.goes_on [] e)

-- as many as counted
pub record IsCounted (room : ℕ) (all left : List ℕ) (count : ℕ) : Type 0 where
  pub pieces : List (List ℕ)
  pub is_left : IsLeft room all pieces left
  pub many : count ≡ length pieces
  pub few : count + length left ≤ length all

pub none_counted : (room : ℕ) (all : List ℕ) → ends_whole all ≡ true → stand_apart all ≡ true → IsCounted room all all 0
none_counted room all whole apart = record { pieces = []; is_left = all_left room all whole apart; many = refl; few = omega arith }

pub one_counted_more : (room n count : ℕ) (all left : List ℕ) → n ≤ length left → IsPiece room (take n left) (drop n left) → IsCounted room all left count → IsCounted room all (drop n left) (count + 1)
one_counted_more room n count all left within is h = record {
  pieces = h.pieces ++ take n left ∷ [];
  is_left = less_left room n all left h.pieces is h.is_left;
  many = omega (arith, h.many, length-append h.pieces (take n left ∷ []));
  few = omega (arith, h.few, is.some, length-take-le n left within, length-drop n left);
}

pub all_counted : (room count : ℕ) (all left : List ℕ) → left ≡ [] → IsCounted room all left count → (pieces : List (List ℕ)) × ArePieces room pieces all × (count ≡ length pieces)
all_counted room count all left e h = (h.pieces, nothing_left room all left h.pieces e h.is_left, h.many)

pub none_left : (left : List ℕ) → length left ≤ 0 → left ≡ []
none_left [] few = refl
none_left (x ∷ left) few = absurd (omega (arith, few))

pub septets_drop : (n : ℕ) (septets : List ℕ) → AreSeptets septets → AreSeptets (drop n septets)
septets_drop zero septets h = h
septets_drop (suc n) [] h = tt
septets_drop (suc n) (x ∷ septets) h = septets_drop n septets h.1
