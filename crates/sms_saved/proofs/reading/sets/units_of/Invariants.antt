use Rattle.std.proofs.Common.{◌≡◌, ◌-◌}
use Rattle.std.specs.Int.{w16}
use Rattle.sms_saved.specs.Reading.Fields.{items_at, number_at}
use Rattle.sms_saved.proofs.Loop.{with_front}
use Rattle.sms_saved.proofs.reading.sets.units_of.Given as goal

abbrev pub invariant-loop : goal.invariant-loop
invariant-loop l = with_front l.units.items (items_at (number_at w16) (l.count - l.counter) l.rest) ≡ items_at (number_at w16) l.count l.bytes
