-- A reader may pass this by: contracts of private functions, and proofs, alone cite it.
--
-- What is known while a state is held as it is read.
use Rattle.std.specs.Prelude.{◌≡◌, ℕ, ◌++◌, List, length}
use Rattle.std.specs.List.{AllByRecursion, flat_map}
use Rattle.sms_join.specs.declared.key.Key.{Key}
use Rattle.sms_join.specs.Gateway.Value.{GatewayValue}
use Rattle.sms_saved.specs.declared.state.Limits.{Limits}
use Rattle.sms_saved.specs.declared.state.Remembered.{Remembered as SavedFinishing}
use Rattle.sms_saved.specs.Fits.{RememberedFits}
use Rattle.sms_saved.specs.Parts.{AreRead}
use Rattle.sms_saved.specs.Spelling.{remembered}
use Rattle.sms_saved.specs.Value.{StateValue}
use Rattle.sms_keep.specs.declared.restoring.Restored.{Restored}
use Rattle.sms_keep.specs.Held.{AreInTime, CanHold, KeysHaveAddresses}
use Rattle.sms_keep.specs.Restored.{HoldsRestored}
use Rattle.sms_keep.specs.Inside.Restoring.{CanFollow, Remembers}

-- At the front of the octets stands this key, which can be remembered after one that finished at
-- this moment.
pub record IsNext (last : ℕ) (octets : List ℕ) (own : Key) (moment : ℕ) (rest : List ℕ) : Type 0 where
  pub saved : SavedFinishing
  pub moment_is : saved.moment ≡ moment
  pub parts : octets ≡ remembered saved ++ rest
  pub fits : RememberedFits saved
  pub can : CanFollow last saved own

-- At the front of the octets stand so many keys, which the joiner remembers; it holds nothing else.
pub record AreTaken (g : GatewayValue) (count : ℕ) (octets rest : List ℕ) : Type 0 where
  pub keys : List SavedFinishing
  pub parts : octets ≡ flat_map remembered keys ++ rest
  pub count_is : length keys ≡ count
  pub fit : AllByRecursion RememberedFits keys
  pub remembers : Remembers g keys
  pub addresses : KeysHaveAddresses keys
  pub in_time : AreInTime 0 keys

-- The octets spell a state that the joiner holds.
pub record IsReadAs (own : Limits) (octets : List ℕ) (r : Restored) : Type 0 where
  pub state : StateValue
  pub read : AreRead own octets state
  pub can : CanHold state
  pub holds : HoldsRestored state r
