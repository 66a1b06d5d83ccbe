-- The words of a line.
pub mod Numbers
pub mod Names
pub mod Addresses
pub mod Hexadecimal
use Rattle.std.specs.Prelude.{ℕ, List, [], ◌∷◌, ◌++◌, ◌==◌, Option, Some, None, Result, Ok, Err}
use denote.Ref.{Bor}
use Rattle.std.specs.List.{slice_split}
use Rattle.sms_script.specs.declared.fault.ScriptFault.{ScriptFault}
use Rattle.sms_script.specs.declared.fault.ScriptFault.TheVariants.{BadWords}

abbrev pub space : ℕ
space = 32

-- words are separated by one space; so a word may be empty
abbrev pub words : List ℕ → List (List ℕ)
words line = slice_split (λ octet. octet == space) line

-- the words of what is left of a line, which may have ended
abbrev pub left : Option (Bor (List ℕ)) → List (List ℕ)
left None = []
left (Some rest) = words rest.now

-- all that stands from the first of these words to the end of the line; nothing, where there is no
-- word
abbrev pub text_of_words : List (List ℕ) → List ℕ
text_of_words [] = []
text_of_words (word ∷ []) = word
text_of_words (word ∷ next ∷ more) = word ++ space ∷ text_of_words (next ∷ more)

-- as many words as there must be
abbrev pub no_word : List (List ℕ) → Result (Unit {0}) ScriptFault
no_word [] = Ok tt
no_word _ = Err BadWords

abbrev pub one_word : List (List ℕ) → Result (List ℕ) ScriptFault
one_word (word ∷ []) = Ok word
one_word _ = Err BadWords

abbrev pub two_words : List (List ℕ) → Result (List ℕ × List ℕ) ScriptFault
two_words (word ∷ next ∷ []) = Ok (word, next)
two_words _ = Err BadWords

-- two words, and the text after them
abbrev pub two_words_and_text : List (List ℕ) → Result (List ℕ × List ℕ × List ℕ) ScriptFault
two_words_and_text (word ∷ next ∷ more) = Ok (word, next, text_of_words more)
two_words_and_text _ = Err BadWords
