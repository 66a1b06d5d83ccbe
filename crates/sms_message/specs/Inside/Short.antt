-- A reader may pass this by: contracts of private functions, and proofs, alone cite it.
--
-- No unit is too long to be wrapped.
use Rattle.std.proofs.Common.{ℕ, ◌<◌, List, length, arith}
use Rattle.sms_tpdu.specs.Sizes.{greatest_size, IsWithin}
use Rattle.sms_relay.specs.declared.user.TheConstants.{USER_DATA_MAX}

pub not_long : {V : Type 0} (spells : V → List ℕ → Type 0) → IsWithin greatest_size spells → (value : V) (octets : List ℕ) → spells value octets → USER_DATA_MAX < length octets → ⊥
not_long spells within value octets h long = absurd (omega (arith, within value octets h))
