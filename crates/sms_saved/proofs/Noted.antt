-- What was noted of sets and keys.
use Rattle.std.proofs.Common.{◌≡◌, ℕ, List, [], ◌∷◌, ◌++◌, refl, sym, ◌∙◌}
use Rattle.std.proofs.lemmas.List.{map_push}
use Rattle.sms_saved.specs.declared.state.Remembered.{Remembered}
use Rattle.sms_saved.specs.Value.{SetValue}
use Rattle.sms_saved.specs.Fits.{set_keys, remembered_keys}
use Rattle.sms_saved.specs.Spelling.{key}
use Rattle.sms_saved.specs.Reading.Lists.{above, first_of, judge_opening, judge_text, judge_set, judge_key}
use Rattle.sms_saved.proofs.Passed.{key_push}

pub set_judged : (next : ℕ) (before : List SetValue) (s : SetValue) (low : ℕ) (seen : List (List ℕ)) (k : List ℕ) → low ≡ above 0 before → seen ≡ set_keys before → k ≡ key s.key
    → first_of (judge_opening low next s.opening) (judge_text seen k) ≡ judge_set next before s
set_judged next before s low seen k is_low is_seen is_key = rw (is_low, is_seen, is_key) refl

pub set_noted : (before : List SetValue) (s : SetValue) (later seen : List (List ℕ)) (k : List ℕ) → later ≡ seen ++ k ∷ [] → seen ≡ set_keys before → k ≡ key s.key → later ≡ set_keys (before ++ s ∷ [])
set_noted before s later seen k e is_seen is_key = e ∙ rw (is_seen, is_key) (sym (map_push _ before s))

pub key_judged : (of_sets : List (List ℕ)) (before : List Remembered) (r : Remembered) (seen : List (List ℕ)) (k : List ℕ) → seen ≡ of_sets ++ remembered_keys before → k ≡ key r.key → judge_text seen k ≡ judge_key of_sets before r
key_judged of_sets before r seen k is_seen is_key = rw (is_seen, is_key) refl

pub key_noted : (of_sets : List (List ℕ)) (before : List Remembered) (r : Remembered) (later seen : List (List ℕ)) (k : List ℕ) → later ≡ seen ++ k ∷ [] → seen ≡ of_sets ++ remembered_keys before → k ≡ key r.key
    → later ≡ of_sets ++ remembered_keys (before ++ r ∷ [])
key_noted of_sets before r later seen k e is_seen is_key = e ∙ rw (is_seen, is_key) (sym (key_push of_sets before r))
