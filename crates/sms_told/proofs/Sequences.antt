-- Sequences, one after another.
use Rattle.std.proofs.Common.{◌≡◌, ℕ, zero, suc, ◌+◌, Bool, true, not, if◌then◌else◌, List, [], ◌∷◌, ◌++◌, refl, ap, sym, ◌∙◌, arith}
use Rattle.std.specs.List.{flat_map, filter}
use Rattle.std.proofs.lemmas.Grind.{flat_map-append}
use Rattle.std.proofs.lemmas.List.Elements.{filter-append}
use Rattle.sms_join.specs.OpenSets.{is_in}
use Rattle.sms_told.specs.Sets.{sequences_from, those_missing}

sequences_more : (first n : ℕ) → sequences_from first n ++ (first + n) ∷ [] ≡ sequences_from first (suc n)
sequences_more first zero = ap (λ (m : ℕ). m ∷ []) (omega arith)
sequences_more first (suc n) =
    ap (λ (m : ℕ). (first ∷ sequences_from (suc first) n) ++ m ∷ []) (omega arith)
    ∙ ap (λ (l : List ℕ). first ∷ l) (sequences_more (suc first) n)

-- what is told of one more sequence
pub told_more : {A : Type 0} (text : ℕ → List A) (come : List ℕ) (n : ℕ)
    → flat_map text (those_missing come (sequences_from 1 n)) ++ flat_map text (those_missing come ((n + 1) ∷ []))
    ≡ flat_map text (those_missing come (sequences_from 1 (n + 1)))
told_more text come n =
    let told = sequences_from 1 n in
    let sum : n + 1 ≡ 1 + n = omega arith in
    let more : suc n ≡ n + 1 = omega arith in
    sym (flat_map-append text (those_missing come told) (those_missing come ((n + 1) ∷ [])))
    ∙ ap (flat_map text) (sym (filter-append (λ (m : ℕ). not (is_in m come)) told ((n + 1) ∷ [])))
    ∙ ap (λ (m : ℕ). flat_map text (those_missing come (told ++ m ∷ []))) sum
    ∙ ap (λ (l : List ℕ). flat_map text (those_missing come l)) (sequences_more 1 n ∙ ap (sequences_from 1) more)

-- nothing is told of a sequence that has come
pub told_none : {A : Type 0} (text : ℕ → List A) (come : List ℕ) (n : ℕ) → is_in n come ≡ true → [] ≡ flat_map text (those_missing come (n ∷ []))
told_none text come n e = ap (λ (b : Bool). flat_map text (if not b then n ∷ [] else [])) (sym e)
