-- The piece at the front of septets.
use Rattle.std.proofs.Common.{◌≡◌, ◌≢◌, ◌⊎◌, inl, inr, eq-eqb, ℕ, suc, ◌+◌, ◌-◌, ◌<◌, ◌≤◌, true, false, not, List, [], ◌∷◌, ◌++◌, length, take, drop, get_or, sym, ap, ◌∙◌, arith, length-append}
use Rattle.std.specs.Prelude.{◌==◌}
use Rattle.std.proofs.lemmas.Bool.Decides.{eqb_tells}
use Rattle.std.proofs.lemmas.List.{take_all, drop_all, length-take-le, get_or-drop}
use Rattle.sms_text.specs.Tables.{escape}
use Rattle.sms_language.specs.TextUnder.{ends_whole}
use Rattle.sms_national.specs.Cut.{IsPiece}
use Rattle.sms_national.specs.Inside.Escapes.{stand_apart}
use Rattle.sms_national.proofs.Whole.{apart_before, whole_front, whole_after, one_whole}

pub is_escape : (code : ℕ) → code ≡ 27 → (code == escape) ≡ true
is_escape code e = eq-eqb code 27 e

pub no_escape : (code : ℕ) → code ≢ 27 → (code == escape) ≡ false
no_escape code ne = go (eqb_tells code 27)
  where
    go : (((code == 27) ≡ true) × (code ≡ 27)) ⊎ (((code == 27) ≡ false) × (code ≢ 27)) → (code == escape) ≡ false
    go (inl e) = absurd (ne e.1)
    go (inr e) = e.0

-- all septets that there are
pub all_are_piece : (room n : ℕ) (septets : List ℕ) → n ≡ length septets → 0 < length septets → length septets ≤ room → ends_whole septets ≡ true → IsPiece room (take n septets) (drop n septets)
all_are_piece room n septets e some fits whole =
    let is : take n septets ≡ septets = take_all n septets (omega (arith, e)) in
    let nothing : drop n septets ≡ [] = drop_all n septets (omega (arith, e)) in
    record {
      some = omega (arith, some, ap length is);
      fits = omega (arith, fits, ap length is);
      whole = ap ends_whole is ∙ whole;
      full = λ more rest parts more_some ends. absurd (omega (arith, more_some, ap length (parts ∙ nothing), length-append more rest));
    }

-- as many as there is room for, where the last is no escape
pub room_is_piece : (room n : ℕ) (septets : List ℕ) → n ≡ room → 2 ≤ room → room < length septets → stand_apart septets ≡ true → (get_or septets (room - 1) 0 == escape) ≡ false → IsPiece room (take n septets) (drop n septets)
room_is_piece room n septets e wide more_than apart last =
    let size : length (take n septets) ≡ n = length-take-le n septets (omega (arith, e, more_than)) in
    let k : n ≡ suc (room - 1) = omega (arith, e, wide) in
    record {
      some = omega (arith, size, e, wide);
      fits = omega (arith, size, e);
      whole = ap (λ (m : ℕ). ends_whole (take m septets)) k ∙ whole_front septets (room - 1) apart (omega (arith, more_than, wide)) ∙ ap not last;
      full = λ more rest parts more_some ends. omega (arith, more_some, size, e);
    }

-- one fewer, where that one would be an escape
longer_by_one : (room n : ℕ) (septets more rest : List ℕ) → (get_or septets n 0 == escape) ≡ true → more ++ rest ≡ drop n septets → 0 < length more → ends_whole more ≡ true → 1 < length more
longer_by_one room n septets [] rest last parts some ends = absurd (omega (arith, some))
longer_by_one room n septets (code ∷ []) rest last parts some ends =
    let place : get_or septets (n + 0) 0 ≡ get_or septets n 0 = ap (λ (k : ℕ). get_or septets k 0) (omega arith) in
    let here : code ≡ get_or septets n 0 = ap (λ (l : List ℕ). get_or l 0 0) parts ∙ get_or-drop n septets 0 0 ∙ place in
    let is : (code == escape) ≡ true = ap (λ (x : ℕ). x == escape) here ∙ last in
    let not_so : false ≡ true = ap not (sym is) ∙ sym (one_whole code) ∙ ends in
    absurd cc
longer_by_one room n septets (code ∷ next ∷ more) rest last parts some ends = omega arith

pub fewer_are_piece : (room n : ℕ) (septets : List ℕ) → n ≡ room - 1 → 2 ≤ room → room < length septets → stand_apart septets ≡ true → (get_or septets (room - 1) 0 == escape) ≡ true → IsPiece room (take n septets) (drop n septets)
fewer_are_piece room n septets e wide more_than apart last =
    let size : length (take n septets) ≡ n = length-take-le n septets (omega (arith, e, more_than)) in
    let k : n ≡ suc (n - 1) = omega (arith, e, wide) in
    let here : (get_or septets n 0 == escape) ≡ true = ap (λ (m : ℕ). get_or septets m 0 == escape) e ∙ last in
    let before : (get_or septets (n - 1) 0 == escape) ≡ false = apart_before septets (n - 1) apart (omega (arith, e, wide, more_than)) (ap (λ (m : ℕ). get_or septets m 0 == escape) (sym k) ∙ here) in
    let whole : ends_whole (take n septets) ≡ true = ap (λ (m : ℕ). ends_whole (take m septets)) k ∙ whole_front septets (n - 1) apart (omega (arith, e, more_than, wide)) ∙ ap not before in
    record {
      some = omega (arith, size, e, wide);
      fits = omega (arith, size, e);
      whole = whole;
      full = λ more rest parts more_some ends.
          let longer : 1 < length more = longer_by_one room n septets more rest here parts more_some (sym (whole_after (take n septets) more whole) ∙ ends) in
          omega (arith, longer, size, e, wide);
    }
