-- A reader may pass this by: contracts of private functions, and proofs, alone cite it.
--
-- What is known once sets are put back.
use Rattle.std.specs.Prelude.{◌≡◌, true, false, List, [], ◌∷◌, ◌++◌, map}
use Rattle.std.specs.List.{AllByRecursion}
use Rattle.sms_join.specs.declared.key.Key.{Key}
use Rattle.sms_join.specs.Joiner.{is_among}
use Rattle.sms_join.specs.OpenSets.{SetValue, all_pieces}
use Rattle.sms_join.specs.Gateway.Value.{GatewayValue}
use Rattle.sms_saved.specs.declared.state.Key.{Key as SavedKey}
use Rattle.sms_saved.specs.Value.{SetValue as SavedSet}
use Rattle.sms_keep.specs.Saved.{saved_key, saved_set}
use Rattle.sms_keep.specs.Held.{HasAddresses, KeyIsSpelled, unnumbered}
use Rattle.sms_keep.specs.Inside.Restoring.{IsSavedAs}

-- The key is one that a joiner can hold, and is not remembered.
pub record IsNewKey (g : GatewayValue) (k : SavedKey) : Type 0 where
  pub own : Key
  pub saved : IsSavedAs k own
  pub fresh : is_among g.holds.finished own ≡ false

abbrev pub SetsAreNew : GatewayValue → List SavedSet → Type 0
SetsAreNew g sets = AllByRecursion (λ s. IsNewKey g s.key) sets

-- This set was put back behind the others, and its key is new.
pub record IsPut (old new : GatewayValue) (own : SavedSet) : Type 0 where
  pub is_new : IsNewKey old own.key
  pub told : (t : SetValue) × (new.told ≡ old.told ++ t ∷ [])
      × (unnumbered (saved_set t) ≡ unnumbered own) × KeyIsSpelled t.key
  pub kept : new.holds.kept ≡ all_pieces new.told
  pub finished : new.holds.finished ≡ old.holds.finished
  pub finishings : new.finishings ≡ old.finishings
  pub limits : new.limits ≡ old.limits

-- Just these sets were put back, and their keys are new.
pub record ArePut (old new : GatewayValue) (own : List SavedSet) : Type 0 where
  pub are_new : SetsAreNew old own
  pub sets : map (λ t. unnumbered (saved_set t)) new.told ≡ map unnumbered own
  pub spelled : AllByRecursion (λ t. KeyIsSpelled t.key) new.told
  pub kept : new.holds.kept ≡ all_pieces new.told
  pub finished : new.holds.finished ≡ old.holds.finished
  pub finishings : new.finishings ≡ old.finishings
  pub limits : new.limits ≡ old.limits

-- the joiner remembers the key that is saved so
pub record IsKnown (g : GatewayValue) (k : SavedKey) : Type 0 where
  pub own : Key
  pub saved : saved_key own ≡ k
  pub known : is_among g.holds.finished own ≡ true

-- The key is none that a joiner can hold, or is remembered.
abbrev pub IsHindered : GatewayValue → SavedKey → Type 0
IsHindered g k = HasAddresses k → IsKnown g k

-- one of the sets has such a key
pub record OneIsHindered (g : GatewayValue) (sets : List SavedSet) : Type 0 where
  pub before : List SavedSet
  pub own : SavedSet
  pub after : List SavedSet
  pub parts : sets ≡ before ++ own ∷ after
  pub why : IsHindered g own.key
