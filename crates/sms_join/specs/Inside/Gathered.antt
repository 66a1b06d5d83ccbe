-- A reader may pass this by: contracts of private functions, and proofs, alone cite it.
--
-- What is remembered again all together, wherever it lies.
use Rattle.std.specs.Prelude.{◌≡◌, MatchBool, reverse}
use Rattle.sms_join.specs.Gateway.Distinct.{NoneTwice}
use Rattle.sms_join.specs.Inside.LastKeys.{LastKeysValue}
use Rattle.sms_join.specs.declared.last_keys.gathered_keys.Gathered.{Gathered}
use Rattle.sms_join.specs.declared.last_keys.gathered_keys.Gathered.TheVariants.{Few, Many}

abbrev pub gathered_keys : Gathered → LastKeysValue
gathered_keys (Few row none_twice) = row
gathered_keys (Many keys) = record { limit = keys.limit; keys = reverse keys.keys }

-- Of few keys it is known whether one came twice; of many none is linked.
abbrev pub AreGathered : Gathered → Type 0
AreGathered (Few row none_twice) =
    MatchBool none_twice (NoneTwice row.keys) (NoneTwice row.keys → ⊥)
AreGathered (Many keys) = keys.linked ≡ 0
