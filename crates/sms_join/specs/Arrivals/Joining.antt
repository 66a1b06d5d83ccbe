-- The law of arrivals in order: what a joiner holds and delivers where no two texts are mixed up,
-- and open sets age. All lists have the newest entry first.
use Rattle.std.specs.Prelude.{◌≡◌, ◌≢◌, ℕ, Bool, true, not, ◌&&◌, ◌||◌, ◌==◌, List, [], ◌∷◌, ◌++◌, map, take}
use Rattle.sms_join.specs.declared.units.Units.{Units}
use Rattle.sms_join.specs.Key.{same_key}
use Rattle.sms_join.specs.Joiner.{Joiner, Finished, TooManyOpen, answer, offered, new_joiner}
use Rattle.sms_join.specs.Joiner.Aging.{is_old, aged}
use Rattle.sms_join.specs.Joiner.Acts.{Act, Brings, Ages}
use Rattle.sms_join.specs.Arrivals.Pieces.{finished_now}
use Rattle.sms_join.specs.Arrivals.{Arrival, Texts, IsOf, AllOf, is_done, completed, open_pieces, is_listed, remaining, whole_text}

-- Of the second list, no other text with the key of the arrival is open in the first, or among the
-- last that the first completes.
abbrev pub is_clear : ℕ → (ℕ → ℕ) → List Arrival → List Arrival → Arrival → Bool
is_clear remembered size all [] a = true
is_clear remembered size all (b ∷ bs) a =
    (not (same_key b.piece.key a.piece.key)
    || (b.text == a.text
    || (is_done size all b.text && not (is_listed (take remembered (completed size all)) b.text))))
    && is_clear remembered size all bs a

-- Where the text of the arrival is complete, it is among the last that were completed.
unfoldable pub is_recent : ℕ → (ℕ → ℕ) → List Arrival → Arrival → Bool
is_recent remembered size past a =
    not (is_done size past a.text) || is_listed (take remembered (completed size past)) a.text

-- The joiner holds just the pieces of the open texts, and remembers the keys of the last texts that
-- were completed.
pub record HoldsOpen (remembered : ℕ) (x : Texts) (past : List Arrival) (j : Joiner) : Type 0 where
  pub kept : j.kept ≡ open_pieces x.size past past
  pub finished : j.finished ≡ map x.key (take remembered (completed x.size past))

-- The arrival completes its text, and finishes with the whole of it; or it completes none, and
-- finishes nothing.
pub data Delivers (open_max : ℕ) (x : Texts) (past : List Arrival) (a : Arrival)
    (j : Joiner) : Type 0 where
  Whole : answer open_max j a.piece ≡ Finished (whole_text x a.text)
      → completed x.size (a ∷ past) ≡ a.text ∷ completed x.size past
      → Delivers open_max x past a j
  Nothing : finished_now (answer open_max j a.piece) ≡ []
      → completed x.size (a ∷ past) ≡ completed x.size past
      → Delivers open_max x past a j

-- One arrival in order, at a joiner that holds just what has arrived of the open texts: it then
-- still does, and it delivers the text that the arrival completes.
abbrev pub JoinsOne : Type 0
JoinsOne =
    (open_max remembered : ℕ) (x : Texts) (past : List Arrival) (a : Arrival) (j : Joiner)
    → AllOf x past
    → HoldsOpen remembered x past j
    → IsOf x a
    → is_clear remembered x.size past past a ≡ true
    → is_recent remembered x.size past a ≡ true
    → answer open_max j a.piece ≢ TooManyOpen
    → HoldsOpen remembered x (a ∷ past) (offered open_max remembered j a.piece)
    × Delivers open_max x past a j

-- The joiner after these arrivals and agings.
abbrev pub joined : ℕ → ℕ → List (Act Arrival) → Joiner
joined open_max remembered [] = new_joiner
joined open_max remembered (Brings a ∷ acts) =
    offered open_max remembered (joined open_max remembered acts) a.piece
joined open_max remembered (Ages now ∷ acts) = aged now (joined open_max remembered acts)

-- The arrivals that count: an aging takes away those of the open texts whose set it drops.
abbrev pub counting : ℕ → ℕ → (ℕ → ℕ) → List (Act Arrival) → List Arrival
counting open_max remembered size [] = []
counting open_max remembered size (Brings a ∷ acts) = a ∷ counting open_max remembered size acts
counting open_max remembered size (Ages now ∷ acts) =
    remaining size (is_old now (joined open_max remembered acts).kept)
    (counting open_max remembered size acts)
    (counting open_max remembered size acts)

-- What it finished, the last first.
abbrev pub delivered : ℕ → ℕ → List (Act Arrival) → List (List Units)
delivered open_max remembered [] = []
delivered open_max remembered (Brings a ∷ acts) =
    finished_now (answer open_max (joined open_max remembered acts) a.piece)
    ++ delivered open_max remembered acts
delivered open_max remembered (Ages now ∷ acts) = delivered open_max remembered acts

pub record InOrder (open_max remembered : ℕ) (x : Texts) (a : Arrival) (past : List Arrival)
    (j : Joiner) : Type 0 where
  pub is_of : IsOf x a
  pub clear : is_clear remembered x.size past past a ≡ true
  pub recent : is_recent remembered x.size past a ≡ true
  pub taken : answer open_max j a.piece ≢ TooManyOpen

abbrev pub AllInOrder : ℕ → ℕ → Texts → List (Act Arrival) → Type 0
AllInOrder open_max remembered x [] = Unit {0}
AllInOrder open_max remembered x (Brings a ∷ acts) =
    InOrder open_max remembered x a (counting open_max remembered x.size acts)
    (joined open_max remembered acts)
    × AllInOrder open_max remembered x acts
AllInOrder open_max remembered x (Ages now ∷ acts) = AllInOrder open_max remembered x acts

-- After any list of arrivals in order and agings the open sets are those of the open texts, with
-- just their pieces; the remembered keys are those of the last completed texts; and what was
-- delivered is each completed text once, whole, in order of completion.
abbrev pub JoinsInOrder : Type 0
JoinsInOrder =
    (open_max remembered : ℕ) (x : Texts) (acts : List (Act Arrival))
    → AllInOrder open_max remembered x acts
    → HoldsOpen remembered x (counting open_max remembered x.size acts)
    (joined open_max remembered acts)
    × (delivered open_max remembered acts
    ≡ map (whole_text x) (completed x.size (counting open_max remembered x.size acts)))
