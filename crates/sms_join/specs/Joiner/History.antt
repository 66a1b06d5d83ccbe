-- Which offers of any list of offers and agings finish their set, in what order, and which are
-- turned away: told by the offers and the moments of the agings alone. All lists have the newest
-- entry first.
use Rattle.std.specs.Prelude.{◌≡◌, ℕ, suc, Bool, not, ◌&&◌, ◌||◌, if◌then◌else◌, nat_lt, List, [], ◌∷◌, take}
use Rattle.sms_join.specs.declared.key.Key.{Key}
use Rattle.sms_join.specs.Key.{same_key}
use Rattle.sms_join.specs.Piece.{Piece}
use Rattle.sms_join.specs.Joiner.Sets.{has, has_all, is_open, units_upto}
use Rattle.sms_join.specs.Joiner.{Answer, Repeat, Kept, Finished, TooManyOpen, decided, is_among, answer, new_joiner}
use Rattle.sms_join.specs.Joiner.Aging.{is_old}
use Rattle.sms_join.specs.Joiner.Finishing.{is_finished}
use Rattle.sms_join.specs.Joiner.Acts.{Act, Brings, Ages, acted_all}

-- ---- what offers with their answers, and agings, leave

abbrev pub since : Answer → Piece → List Piece → List Piece
since Repeat p ps = ps
since Kept p ps = p ∷ ps
since (Finished units) p ps = []
since TooManyOpen p ps = ps

-- The pieces under the key that were kept since it last finished or was dropped.
abbrev pub kept_since : List (Act (Piece × Answer)) → Key → List Piece
kept_since [] k = []
kept_since (Brings e ∷ h) k =
    if same_key e.0.key k then since e.1 e.0 (kept_since h k) else kept_since h k
kept_since (Ages now ∷ h) k = if is_old now (kept_since h k) k then [] else kept_since h k

abbrev pub after_finish : Answer → Key → List Key → List Key
after_finish Repeat k ks = ks
after_finish Kept k ks = ks
after_finish (Finished units) k ks = k ∷ ks
after_finish TooManyOpen k ks = ks

-- The keys that finished, each time.
abbrev pub finished_keys : List (Act (Piece × Answer)) → List Key
finished_keys [] = []
finished_keys (Brings e ∷ h) = after_finish e.1 e.0.key (finished_keys h)
finished_keys (Ages now ∷ h) = finished_keys h

-- The keys that were offered, each once.
abbrev pub offered_keys : List (Act (Piece × Answer)) → List Key
offered_keys [] = []
offered_keys (Brings e ∷ h) =
    if is_among (offered_keys h) e.0.key then offered_keys h else e.0.key ∷ offered_keys h
offered_keys (Ages now ∷ h) = offered_keys h

-- How many of these keys have pieces.
abbrev pub open_among : List (Act (Piece × Answer)) → List Key → ℕ
open_among h [] = 0
open_among h (k ∷ ks) =
    if is_open (kept_since h k) k then suc (open_among h ks) else open_among h ks

-- ---- the next offer

-- Its key is among the last that finished, or its sequence was kept since the key last finished or
-- was dropped.
abbrev pub comes_again : ℕ → List (Act (Piece × Answer)) → Piece → Bool
comes_again remembered h p =
    is_among (take remembered (finished_keys h)) p.key
    || has (kept_since h p.key) p.key p.sequence

-- With it each sequence from 1 to the maximum was.
abbrev pub is_last : List (Act (Piece × Answer)) → Piece → Bool
is_last h p = has_all (p ∷ kept_since h p.key) p.key p.maximum

-- Its key has pieces, or fewer keys have than sets may be open.
abbrev pub finds_room : ℕ → List (Act (Piece × Answer)) → Piece → Bool
finds_room open_max h p =
    is_open (kept_since h p.key) p.key || nat_lt (open_among h (offered_keys h)) open_max

-- So it is answered: a repeat where it comes again; else, where it is the last, its set is whole;
-- else it is kept where it finds room, and else turned away.
abbrev pub answer_told : ℕ → ℕ → List (Act (Piece × Answer)) → Piece → Answer
answer_told open_max remembered h p =
    decided (comes_again remembered h p) (is_last h p) (finds_room open_max h p)
    (units_upto (p ∷ kept_since h p.key) p.key p.maximum)

-- ---- a list of offers and agings

-- Each offer with the answer that those before it tell.
abbrev pub told : ℕ → ℕ → List (Act Piece) → List (Act (Piece × Answer))
told open_max remembered [] = []
told open_max remembered (Brings p ∷ acts) =
    Brings (p, answer_told open_max remembered (told open_max remembered acts) p)
    ∷ told open_max remembered acts
told open_max remembered (Ages now ∷ acts) = Ages now ∷ told open_max remembered acts

-- Each offer with what the joiner answers that was new at first.
abbrev pub history : ℕ → ℕ → List (Act Piece) → List (Act (Piece × Answer))
history open_max remembered [] = []
history open_max remembered (Brings p ∷ acts) =
    Brings (p, answer open_max (acted_all open_max remembered new_joiner acts) p)
    ∷ history open_max remembered acts
history open_max remembered (Ages now ∷ acts) = Ages now ∷ history open_max remembered acts

-- The joiner answers each offer as the offers and agings before it tell. So they tell too which
-- keys finish, and in what order: it remembers the last of them.
pub record OffersTell (open_max remembered : ℕ) (acts : List (Act Piece)) : Type 0 where
  pub answers : history open_max remembered acts ≡ told open_max remembered acts
  pub keys : finished_keys (history open_max remembered acts)
      ≡ finished_keys (told open_max remembered acts)
  pub last_keys : (acted_all open_max remembered new_joiner acts).finished
      ≡ take remembered (finished_keys (told open_max remembered acts))

abbrev pub OffersTellAnswers : Type 0
OffersTellAnswers =
    (open_max remembered : ℕ) (acts : List (Act Piece)) → OffersTell open_max remembered acts

-- An offer finishes its set just where it does not come again and is the last.
abbrev pub FinishesByHistory : Type 0
FinishesByHistory =
    (open_max remembered : ℕ) (acts : List (Act Piece)) (p : Piece)
    → is_finished (answer open_max (acted_all open_max remembered new_joiner acts) p)
    ≡ (not (comes_again remembered (told open_max remembered acts) p)
    && is_last (told open_max remembered acts) p)
