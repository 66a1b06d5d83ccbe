-- A reader may pass this by: contracts of private functions, and proofs, alone cite it.
--
-- What the hashers of a table compute: those that are all alike, and those that have keys.
use Rattle.std.specs.Prelude.{ℕ, List}
use Rattle.std.specs.Hash.FoldHasher as fold
use Rattle.std.specs.Hash.DefaultHasher as sip
use Rattle.std.specs.RandomState.{initial_hasher}
use Rattle.sms_join.specs.declared.hashing.Hashing.{Hashing}
use Rattle.sms_join.specs.declared.hashing.Hashing.TheVariants as ways
use Rattle.sms_join.specs.declared.hashing.KeyHasher.{KeyHasher}
use Rattle.sms_join.specs.declared.hashing.KeyHasher.TheVariants.{Fixed, Seeded}

abbrev pub hasher_of : Hashing → KeyHasher
hasher_of ways.Fixed = Fixed fold.initial
hasher_of (ways.Seeded keys) = Seeded (initial_hasher keys)

abbrev pub write : KeyHasher → List ℕ → KeyHasher
write (Fixed hasher) octets = Fixed (fold.write hasher octets)
write (Seeded hasher) octets = Seeded (sip.write hasher octets)

abbrev pub finish : KeyHasher → ℕ
finish (Fixed hasher) = fold.finish hasher
finish (Seeded hasher) = sip.finish hasher
