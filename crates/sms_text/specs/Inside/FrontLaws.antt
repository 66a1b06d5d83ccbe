-- A reader may pass this by: lemmas, for the proofs of this crate and of those above it.
--
-- The text of septets by what stands at the front.
use Rattle.std.proofs.Common.{◌≡◌, ◌≢◌, ℕ, ◌-◌, ◌<◌, ◌≤◌, Bool, false, cond, List, [], ◌∷◌, length, take, drop, get_or, refl, sym, ap, ◌∙◌, arith, length-drop}
use Rattle.std.specs.Prelude.{◌==◌}
use Rattle.std.proofs.lemmas.Bool.{ne_eqb}
use Rattle.std.proofs.lemmas.List.{take_all, length-take}
use Rattle.sms_text.specs.Tables.{escape, space}
use Rattle.sms_text.specs.TextOfSeptets.{plain_character, escaped_character, text_of_septets}

pub text_after_escape : (code : ℕ) (others : List ℕ) → text_of_septets (escape ∷ code ∷ others) ≡ escaped_character code ∷ text_of_septets others
unfolding text_of_septets
text_after_escape code others = refl

pub text_from_plain : (code : ℕ) (others : List ℕ) → (code == escape) ≡ false → text_of_septets (code ∷ others) ≡ plain_character code ∷ text_of_septets others
unfolding text_of_septets
text_from_plain code [] e = ap (λ (b : Bool). cond b space (plain_character code) ∷ []) e
text_from_plain code (next ∷ others) e = ap (λ (b : Bool). cond b (escaped_character next ∷ text_of_septets others) (plain_character code ∷ text_of_septets (next ∷ others))) e

pub last_escape : (septets : List ℕ) → 1 ≤ length septets → length septets < 2 → get_or septets 0 0 ≡ escape → text_of_septets septets ≡ space ∷ text_of_septets []
unfolding text_of_septets
last_escape [] some few is = absurd (omega arith)
last_escape (code ∷ []) some few is = rw is refl
last_escape (code ∷ next ∷ others) some few is = absurd (omega arith)

pub escape_first : (septets : List ℕ) → 2 ≤ length septets → get_or septets 0 0 ≡ escape → text_of_septets septets ≡ escaped_character (get_or septets 1 0) ∷ text_of_septets (take (length septets - 2) (drop 2 septets))
escape_first [] many is = absurd (omega arith)
escape_first (code ∷ []) many is = absurd (omega arith)
escape_first (code ∷ next ∷ others) many is =
    ap (λ (n : ℕ). text_of_septets (n ∷ next ∷ others)) is ∙ text_after_escape next others ∙ ap (λ (l : List ℕ). escaped_character next ∷ text_of_septets l) (sym (take_all _ others (omega arith)))

pub plain_first : (septets : List ℕ) → 1 ≤ length septets → get_or septets 0 0 ≢ escape → text_of_septets septets ≡ plain_character (get_or septets 0 0) ∷ text_of_septets (take (length septets - 1) (drop 1 septets))
plain_first [] some other = absurd (omega arith)
plain_first (code ∷ others) some other =
    text_from_plain code others (ne_eqb code escape other) ∙ ap (λ (l : List ℕ). plain_character code ∷ text_of_septets l) (sym (take_all _ others (omega arith)))

pub shorter : (k : ℕ) (septets : List ℕ) → 1 ≤ k → 1 ≤ length septets → length (take (length septets - k) (drop k septets)) < length septets
shorter k septets taken some = omega (arith, taken, some, length-take (length septets - k) (drop k septets), length-drop k septets)
