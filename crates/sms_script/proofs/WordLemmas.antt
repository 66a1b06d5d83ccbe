-- Words, one by one.
use Rattle.std.proofs.Common.{◌≡◌, ◌==◌, ℕ, ◌<◌, List, [], ◌∷◌, length, refl, arith, Bool, true, false}
use Rattle.std.specs.List.{onto_first, position_or_len, before_first, after_first}
use Rattle.std.proofs.lemmas.List.Splits.{slice_split_first, slice_split_none}
use Rattle.std.proofs.lemmas.List.Sums.{fails_before_first}
use Rattle.std.proofs.lemmas.Bool.{eqb-true}
use Rattle.std.proofs.lemmas.List.Splits.{length-slice_split}
use Rattle.sms_script.specs.Words.{space, words, text_of_words}

pub words-cut : (line : List ℕ) → position_or_len (λ o. o == space) line < length line → words line ≡ before_first (λ o. o == space) line ∷ words (after_first (λ o. o == space) line)
words-cut line h = slice_split_first (λ o. o == space) line 0 h

pub words-whole : (line : List ℕ) → position_or_len (λ o. o == space) line ≡ length line → words line ≡ line ∷ []
words-whole line h = slice_split_none (λ o. o == space) line (λ k d at. fails_before_first (λ o. o == space) line k d (rw h at))

pub text_of_words-onto : (o : ℕ) (ws : List (List ℕ)) → text_of_words (onto_first o ws) ≡ o ∷ text_of_words ws
text_of_words-onto o [] = refl
text_of_words-onto o (w ∷ []) = refl
text_of_words-onto o (w ∷ next ∷ more) = refl

pub text_of_words-empty_word : (o : ℕ) (line : List ℕ) → text_of_words ([] ∷ words line) ≡ space ∷ text_of_words (words line)
text_of_words-empty_word o line = by_words (words line) (omega (arith, length-slice_split (λ o. o == space) line))
  where
    by_words : (ws : List (List ℕ)) → 0 < length ws → text_of_words ([] ∷ ws) ≡ space ∷ text_of_words ws
    by_words [] h = absurd (omega arith)
    by_words (w ∷ ws) h = refl

-- the words of a line, with a space between each two, are the line
pub text_of_words-words : (line : List ℕ) → text_of_words (words line) ≡ line
text_of_words-words [] = refl
text_of_words-words (o ∷ line) = by_test (o == space) refl (text_of_words-words line)
  where
    by_test : (b : Bool) → (o == space) ≡ b → text_of_words (words line) ≡ line → text_of_words (words (o ∷ line)) ≡ o ∷ line
    by_test true e h = rw (e, text_of_words-empty_word o line, h, eqb-true _ _ e) refl
    by_test false e h = rw (e, text_of_words-onto o (words line), h) refl
