-- The units of a text as the alphabets give them.
use Rattle.std.proofs.Common.{◌≡◌, ℕ, ◌≤◌, true, List, [], ◌∷◌, length, Some, None, refl, sym, ap, ◌∙◌, subst, arith}
use Rattle.std.specs.List.{flat_map}
use Rattle.std.proofs.Math.Utf8.{scalar, scalars}
use Rattle.sms_text.specs.SeptetsOfText.{septets_of_text}
use Rattle.sms_text.specs.Utf16.{utf16_units}
use Rattle.sms_tpdu.specs.declared.user_data.concat.Width.{Width}
use Rattle.sms_join.specs.declared.units.Units.{Units}
use Rattle.sms_join.specs.declared.units.Units.TheVariants.{Gsm, Ucs2}
use Rattle.sms_join.specs.UnitsOfText.{IsText, alphabet_of, alphabet_in, numbers, alphabet_by, units_of_character, units_of_text, units_in}
use Rattle.sms_join.specs.Cut.{IsCut, room_alone}
use Rattle.sms_join.proofs.CutPlaces.{alphabet-in}
use Rattle.sms_join.proofs.GroupLaws.{both, septet_groups}

pub text_is : (text : List ℕ) → scalars text ≡ true → IsText text
text_is [] e = tt
text_is (c ∷ text) e = let h = both (scalar c) (scalars text) e in (h.0, text_is text h.1)

pub units_by_septets : (text septets : List ℕ) → septets_of_text text ≡ Some septets → Gsm septets ≡ units_of_text text
units_by_septets text septets e =
    ap Gsm (sym (septet_groups text septets e).1) ∙ ap (λ o. units_in (alphabet_by o) (flat_map (units_of_character (alphabet_by o)) text)) (sym e)

pub units_by_utf16 : (text : List ℕ) → septets_of_text text ≡ None → Ucs2 (utf16_units text) ≡ units_of_text text
unfolding utf16_units
units_by_utf16 text e = ap (λ o. units_in (alphabet_by o) (flat_map (units_of_character (alphabet_by o)) text)) (sym e)

-- a text with room for all its units is one piece
pub cut_alone : (width : Width) (text : List ℕ) (units : Units) → units ≡ units_of_text text → length (numbers units) ≤ room_alone (alphabet_in units)
    → (pieces : List Units) × IsCut width text pieces × (1 ≡ length pieces)
cut_alone width text units e fits =
    (units_of_text text ∷ [], record { alone = λ _. refl; parted = λ more. absurd (omega (arith, more, room)) }, refl)
  where
    room : length (numbers (units_of_text text)) ≤ room_alone (alphabet_of text)
    room =
        subst (λ a. length (numbers (units_of_text text)) ≤ room_alone a) (alphabet-in (alphabet_of text) (flat_map (units_of_character (alphabet_of text)) text))
        (subst (λ u. length (numbers u) ≤ room_alone (alphabet_in u)) e fits)
