-- A walk over the elements of a header.
use Rattle.std.proofs.Common.{◌≡◌, inl, inr, ℕ, ◌<◌, ◌≤◌, List, [], ◌∷◌, ◌++◌, length, take, drop, get_or, refl, sym, ap, ◌∙◌, append_assoc, arith, length-append}
use Rattle.std.specs.List.{flat_map}
use Rattle.std.proofs.lemmas.List.{append-nil, drop_at, take-append-drop, length-take}
use Rattle.std.proofs.lemmas.Grind.{flat_map-append}
use Rattle.sms_tpdu.specs.UserData.Elements.{Element, element_octets, Spells, AreWhole, StartsAt}
use Rattle.sms_tpdu.proofs.ElementLaws.{follows, two_first, from_third, short_of}

-- some elements were passed
pub record Passed (header rest : List ℕ) : Type 0 where
  pub front : List Element
  pub parts : header ≡ flat_map element_octets front ++ rest

pub passed_none : (header : List ℕ) → Passed header header
passed_none header = record { front = []; parts = refl }

pub passed_on : (header rest others : List ℕ) → 2 ≤ length rest → get_or rest 1 0 ≤ length (from_third rest) → others ≡ drop (get_or rest 1 0) (from_third rest) → Passed header rest → Passed header others
passed_on header rest others two enough l r =
    let size : ℕ = get_or rest 1 0 in
    let octets : List ℕ = take size (from_third rest) in
    let e : Element = record { identifier = get_or rest 0 0; octets = octets } in
    let len : length octets ≡ size = omega (arith, length-take size (from_third rest)) in
    let rest_is : rest ≡ element_octets e ++ others =
    two_first rest two ∙ ap (λ (k : List ℕ). get_or rest 0 0 ∷ size ∷ k) (sym (take-append-drop size (from_third rest))) ∙ ap (λ (n : ℕ). get_or rest 0 0 ∷ n ∷ (take size (from_third rest) ++ drop size (from_third rest))) (sym len) ∙ ap (λ (k : List ℕ). element_octets e ++ k) (sym l) in
    record {
      front = r.front ++ e ∷ [];
      parts = r.parts ∙ ap (λ (k : List ℕ). flat_map element_octets r.front ++ k) rest_is ∙ sym (append_assoc (flat_map element_octets r.front) (element_octets e) others) ∙ ap (λ (k : List ℕ). k ++ others) (sym (flat_map-append element_octets r.front (e ∷ []) ∙ ap (λ (k : List ℕ). flat_map element_octets r.front ++ k) (append-nil (element_octets e))));
    }

pub whole_passed : (header rest : List ℕ) → length rest ≡ 0 → Passed header rest → AreWhole header
whole_passed header [] e r = record { elements = r.front; spelled = sym (r.parts ∙ append-nil (flat_map element_octets r.front)) }
whole_passed header (x ∷ rest) e r = absurd (omega arith)

pub starts : (header rest : List ℕ) → length rest ≡ 0 → Passed header rest → StartsAt header header
starts header rest e r = let w = whole_passed header rest e r in record { elements = w.elements; are = inl w.spelled; spelled = w.spelled }

pub nothing_whole : AreWhole []
nothing_whole = record { elements = []; spelled = refl }

starts_cut : (header rest : List ℕ) → ((more : List Element) → Spells more rest → ⊥) → Passed header rest → StartsAt header []
starts_cut header rest none r = record { elements = []; are = inr (refl, (λ others s. let h = follows r.front others rest (s ∙ r.parts) in none h.0 h.1)); spelled = refl }

pub starts_cut_after : (header rest : List ℕ) → 2 ≤ length rest → length (from_third rest) < get_or rest 1 0 → Passed header rest → StartsAt header []
starts_cut_after header rest two few r = starts_cut header rest (λ more s. short_of (get_or rest 0 0) (get_or rest 1 0) (from_third rest) few more (s ∙ two_first rest two)) r

one_left : (xs : List ℕ) → 1 ≤ length xs → length xs < 2 → (more : List Element) → Spells more xs → ⊥
one_left xs some few [] s = omega (arith, ap length s)
one_left xs some few (e ∷ more) s = omega (arith, ap length s)

pub starts_cut_before : (header rest : List ℕ) → 1 ≤ length rest → length rest < 2 → Passed header rest → StartsAt header []
starts_cut_before header rest some few r = starts_cut header rest (one_left rest some few) r

-- ---- one step over whole elements

pub whole_end : (left : List ℕ) → length left < 2 → AreWhole left → left ≡ []
whole_end [] few w = refl
whole_end (x ∷ left) few w = absurd (one_left (x ∷ left) (omega arith) few w.elements w.spelled)

whole_parts : (left : List ℕ) (elements : List Element) → Spells elements left → 2 ≤ length left → (get_or left 1 0 ≤ length (from_third left)) × AreWhole (drop (get_or left 1 0) (from_third left))
whole_parts left [] s two = absurd (omega (arith, ap length s))
whole_parts left (e ∷ more) s two =
    let whole : e.identifier ∷ length e.octets ∷ (e.octets ++ flat_map element_octets more) ≡ get_or left 0 0 ∷ get_or left 1 0 ∷ from_third left = s ∙ two_first left two in
    let size : length e.octets ≡ get_or left 1 0 = cc in
    let rest : e.octets ++ flat_map element_octets more ≡ from_third left = cc in
    (omega (arith, size, ap length rest, length-append e.octets (flat_map element_octets more)), record { elements = more; spelled = sym (ap (drop (get_or left 1 0)) (sym rest) ∙ drop_at e.octets (flat_map element_octets more) (get_or left 1 0) size) })

pub whole_next : (left : List ℕ) → AreWhole left → 2 ≤ length left → (get_or left 1 0 ≤ length (from_third left)) × AreWhole (drop (get_or left 1 0) (from_third left))
whole_next left w two = whole_parts left w.elements w.spelled two

pub next_is : (left octets rest : List ℕ) → 2 ≤ length left → get_or left 1 0 ≤ length (from_third left) → octets ≡ take (get_or left 1 0) (from_third left) → rest ≡ drop (get_or left 1 0) (from_third left)
    → left ≡ element_octets (record { identifier = get_or left 0 0; octets = octets }) ++ rest
next_is left octets rest two enough o l =
    let size : ℕ = get_or left 1 0 in
    let len : length octets ≡ size = omega (arith, ap length o, length-take size (from_third left)) in
    two_first left two ∙ ap (λ (k : List ℕ). get_or left 0 0 ∷ size ∷ k) (sym (take-append-drop size (from_third left)) ∙ ap (λ (k : List ℕ). k ++ drop size (from_third left)) (sym o) ∙ ap (λ (k : List ℕ). octets ++ k) (sym l)) ∙ ap (λ (n : ℕ). get_or left 0 0 ∷ n ∷ (octets ++ rest)) (sym len)
