-- Names, octet by octet.
use Rattle.std.proofs.Common.{◌≡◌, ℕ, List, [], ◌∷◌, Some, ap}
use Rattle.std.specs.List.{slice_get}
use Rattle.sms_script.specs.Words.Names.{is_letter, begins_with_letter}

pub first_letter : (word : List ℕ) (first : ℕ) → slice_get word 0 ≡ Some first → begins_with_letter word ≡ is_letter first
first_letter [] first e = cc
first_letter (c ∷ more) first e = let h : c ≡ first = cc in ap is_letter h
