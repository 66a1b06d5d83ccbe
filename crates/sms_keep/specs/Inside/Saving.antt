-- A reader may pass this by: contracts of private functions, and proofs, alone cite it.
--
-- What is known of each key and set that is saved.
use Rattle.std.specs.Prelude.{◌<◌, ◌^◌, IfSome}
use Rattle.std.specs.List.{AllByRecursion}
use Rattle.sms_join.specs.declared.key.Key.{Key}
use Rattle.sms_join.specs.Key.{maximum_of}
use Rattle.sms_join.specs.OpenSets.{SetValue}
use Rattle.sms_saved.specs.Fits.{KeyFits, UnitsFit}
use Rattle.sms_keep.specs.Saved.{saved_key, places_from}
use Rattle.sms_keep.specs.Held.{KeyIsSpelled}

pub record KeyIsSound (k : Key) : Type 0 where
  pub spelled : KeyIsSpelled k
  pub fits : KeyFits (saved_key k)

pub record SetIsSound (s : SetValue) : Type 0 where
  pub key : KeyIsSound s.key
  pub opened : s.opened < 2 ^ 64
  pub turn : s.turn < 2 ^ 64
  pub places : AllByRecursion (λ p. IfSome p UnitsFit) (places_from 1 (maximum_of s.key) s)
