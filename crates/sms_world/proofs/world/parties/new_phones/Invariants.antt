use Rattle.std.proofs.Common.{◌≡◌, length}
use Rattle.std.specs.List.{AllByRecursion}
use Rattle.std.specs.Vec.{vec_len, vec_capacity}
use Rattle.sms_world.specs.Inside.Phones.{IsNewPhone}
use Rattle.sms_world.proofs.world.parties.new_phones.Given as goal

abbrev pub invariant-loop : goal.invariant-loop
invariant-loop l =
    (length l.phones.items ≡ l.counter) × AllByRecursion (IsNewPhone l.limits) l.phones.items
    × (vec_len l.phones ≡ l.counter) × (vec_capacity l.phones ≡ l.count)
