use Rattle.std.proofs.Common.{◌≡◌, ◌-◌}
use Rattle.sms_saved.specs.Value.{view_places}
use Rattle.sms_saved.specs.Reading.Fields.{items_at}
use Rattle.sms_saved.specs.Reading.Sets.{place_at}
use Rattle.sms_saved.proofs.Loop.{with_front}
use Rattle.sms_saved.proofs.reading.sets.places_of.Given as goal

abbrev pub invariant-loop : goal.invariant-loop
invariant-loop l = with_front (view_places l.places.items) (items_at place_at (l.count - l.counter) l.rest) ≡ items_at place_at l.count l.bytes
