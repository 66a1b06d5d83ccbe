-- What an offer does to the open sets that are told, which stand in order of opening.
use Rattle.std.specs.Prelude.{◌≡◌, ℕ, true, false, not, ◌⊎◌, if◌then◌else◌, List, [], ◌∷◌, ◌++◌, map}
use Rattle.std.specs.List.{filter}
use Rattle.sms_join.specs.declared.key.Key.{Key}
use Rattle.sms_join.specs.declared.offer.Offer.{Offer}
use Rattle.sms_join.specs.declared.offer.Offer.TheVariants as offers
use Rattle.sms_join.specs.Key.{same_key}
use Rattle.sms_join.specs.Piece.{Piece}
use Rattle.sms_join.specs.OpenSets.{SetValue, has_set, with_piece}

-- The set that the piece opens, by the opening of this number.
abbrev pub opened_by : Piece → ℕ → SetValue
opened_by p turn =
    record {
      key = p.key;
      opened = p.moment;
      turn = turn;
      sequences = p.sequence ∷ [];
      units = p.units ∷ [];
    }

-- The set of the piece has it too. The others are as they were, and each stands where it stood.
abbrev pub with_more : Piece → List SetValue → List SetValue
with_more p ss = map (λ s. if same_key s.key p.key then with_piece s p.sequence p.units else s) ss

-- The sets but the one of this key, as they were, one after another as they were.
abbrev pub without_set : Key → List SetValue → List SetValue
without_set k ss = filter (λ s. not (same_key s.key k)) ss

-- A piece that is kept is one more of its set, if that is open; else it opens it, after all others.
abbrev pub TellsKept : (before after : List SetValue) → Piece → Type 0
TellsKept before after p =
    ((has_set before p.key ≡ true) × (after ≡ with_more p before))
    ⊎ ((has_set before p.key ≡ false) × ((turn : ℕ) × (after ≡ before ++ opened_by p turn ∷ [])))

-- A repeat changes none, and a set that is finished is open no more.
abbrev pub TellsOffer : (before after : List SetValue) → Piece → Offer → Type 0
TellsOffer before after p offers.Repeat = after ≡ before
TellsOffer before after p offers.Kept = TellsKept before after p
TellsOffer before after p (offers.Finished text) = after ≡ without_set p.key before
