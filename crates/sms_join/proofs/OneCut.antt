-- Each text has a cut, and no other.
use Rattle.std.proofs.Common.{◌≡◌, ℕ, ◌<◌, ◌≤◌, ◌⊎◌, inl, inr, List, [], ◌∷◌, length, map, refl, sym, ap, ◌∙◌, arith}
use Rattle.std.proofs.lemmas.Bool.{cases_lt}
use Rattle.std.specs.List.{AllByRecursion}
use Rattle.sms_tpdu.specs.declared.user_data.concat.Width.{Width}
use Rattle.sms_tpdu.specs.declared.user_data.concat.Width.TheVariants.{Eight, Sixteen}
use Rattle.sms_join.specs.declared.units.Units.{Units}
use Rattle.sms_join.specs.UnitsOfText.{begins_pair, IsText, Alphabet, Default, Wide, alphabet_of, units_of_character, units_of_text, units_in, numbers}
use Rattle.sms_join.specs.Cut.{room_alone, room_beside, IsCutBy, IsParted, IsCut}
use Rattle.sms_join.proofs.CutLaws.{IsShort, steps_of, cut_of_steps, same_steps, steps_exist}
use Rattle.sms_join.proofs.GroupLaws.{text_groups, short_groups}

pub short_text : (text : List ℕ) → IsText text → AllByRecursion (IsShort (units_of_character (alphabet_of text))) text
short_text text is = short_groups (begins_pair (alphabet_of text)) (units_of_character (alphabet_of text)) text (text_groups text is)

pub room_enough : (width : Width) (alphabet : Alphabet) → 2 ≤ room_beside width alphabet
room_enough Eight Default = omega arith
room_enough Eight Wide = omega arith
room_enough Sixteen Default = omega arith
room_enough Sixteen Wide = omega arith

same_lists : (own : ℕ → List ℕ) (room : ℕ) (text : List ℕ) (p q : List (List ℕ)) → AllByRecursion (IsShort own) text → IsCutBy own room text p → IsCutBy own room text q → q ≡ p
same_lists own room text p q short a b = same_steps own room p q text short (steps_of own room p text short a) (steps_of own room q text short b)

same_parts : (room : ℕ) (text : List ℕ) (p q : List Units) → IsText text → IsParted room text p → IsParted room text q → q ≡ p
same_parts room text p q is a b =
    b.in_alphabet ∙ ap (map (units_in (alphabet_of text))) (same_lists (units_of_character (alphabet_of text)) room text a.lists b.lists (short_text text is) a.cut b.cut) ∙ sym a.in_alphabet

pub same_cut : (width : Width) (text : List ℕ) (p q : List Units) → IsText text → IsCut width text p → IsCut width text q → q ≡ p
same_cut width text p q is a b = go (cases_lt (room_alone (alphabet_of text)) (length (numbers (units_of_text text))))
  where
    go : (room_alone (alphabet_of text) < length (numbers (units_of_text text))) ⊎ (length (numbers (units_of_text text)) ≤ room_alone (alphabet_of text)) → q ≡ p
    go (inl more) = same_parts (room_beside width (alphabet_of text)) text p q is (a.parted more) (b.parted more)
    go (inr fits) = b.alone fits ∙ sym (a.alone fits)

pub cut_exists : (width : Width) (text : List ℕ) → IsText text → (pieces : List Units) × IsCut width text pieces
cut_exists width text is = go (cases_lt (room_alone (alphabet_of text)) (length (numbers (units_of_text text))))
  where
    go : (room_alone (alphabet_of text) < length (numbers (units_of_text text))) ⊎ (length (numbers (units_of_text text)) ≤ room_alone (alphabet_of text)) → (pieces : List Units) × IsCut width text pieces
    go (inl more) =
        let own = units_of_character (alphabet_of text) in
        let room = room_beside width (alphabet_of text) in
        let s = steps_exist own room text (room_enough width (alphabet_of text)) (short_text text is) in (
          map (units_in (alphabet_of text)) s.0,
          record {
            alone = λ fits. absurd (omega (arith, more, fits));
            parted = λ _. record { lists = s.0; in_alphabet = refl; cut = cut_of_steps own room s.0 text (short_text text is) s.1 };
          },
        )
    go (inr fits) = (units_of_text text ∷ [], record { alone = λ _. refl; parted = λ more. absurd (omega (arith, more, fits)) })

-- as many pieces as a cut has
pub as_many_pieces : (width : Width) (text : List ℕ) (pieces : List Units) (n : ℕ) → IsText text → IsCut width text pieces
    → (others : List Units) × IsCut width text others × (n ≡ length others) → length pieces ≡ n
as_many_pieces width text pieces n is cut counted =
    ap (λ (l : List Units). length l) (same_cut width text counted.0 pieces is counted.1 cut) ∙ sym counted.2
