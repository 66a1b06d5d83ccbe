-- The cut of a text has a piece.
use Rattle.std.proofs.Common.{◌≡◌, ℕ, ◌<◌, ◌≤◌, List, [], ◌∷◌, length, map, refl, sym, ap, ◌∙◌, arith, ◌⊎◌, inl, inr}
use Rattle.std.proofs.lemmas.Bool.{cases_lt}
use Rattle.std.specs.List.{concat, flat_map}
use Rattle.sms_tpdu.specs.declared.user_data.concat.Width.{Width}
use Rattle.sms_join.specs.declared.units.Units.{Units}
use Rattle.sms_join.specs.UnitsOfText.{Alphabet, Default, Wide, alphabet_of, units_of_character, units_of_text, units_in, numbers}
use Rattle.sms_join.specs.Cut.{IsCut, room_alone}

numbers_in : (a : Alphabet) (us : List ℕ) → numbers (units_in a us) ≡ us
numbers_in Default us = refl
numbers_in Wide us = refl

some_by : (text : List ℕ) (pieces : List Units) (lists : List (List ℕ)) → pieces ≡ map (units_in (alphabet_of text)) lists
    → concat lists ≡ flat_map (units_of_character (alphabet_of text)) text
    → room_alone (alphabet_of text) < length (numbers (units_of_text text)) → 0 < length pieces
some_by text pieces [] e j l =
    let n : length (numbers (units_of_text text)) ≡ 0 = ap length (numbers_in (alphabet_of text) (flat_map (units_of_character (alphabet_of text)) text) ∙ sym j) in
    absurd (omega arith)
some_by text pieces (x ∷ lists) e j l = let n = ap length e in omega arith

pub some_piece : (width : Width) (text : List ℕ) (pieces : List Units) → IsCut width text pieces → 0 < length pieces
some_piece width text pieces h = go (cases_lt (room_alone (alphabet_of text)) (length (numbers (units_of_text text))))
  where
    go : (room_alone (alphabet_of text) < length (numbers (units_of_text text))) ⊎ (length (numbers (units_of_text text)) ≤ room_alone (alphabet_of text)) → 0 < length pieces
    go (inr s) = let n = ap length (h.alone s) in omega arith
    go (inl l) = let p = h.parted l in some_by text pieces p.lists p.in_alphabet p.cut.joined l
