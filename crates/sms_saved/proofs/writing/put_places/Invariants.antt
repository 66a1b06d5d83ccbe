use Rattle.std.proofs.Common.{◌≡◌, ◌++◌, take}
use Rattle.std.specs.List.{flat_map}
use Rattle.sms_saved.specs.Value.{view_places}
use Rattle.sms_saved.specs.Spelling.{place}
use Rattle.sms_saved.proofs.writing.put_places.Given as goal

abbrev pub invariant-loop-units : goal.invariant-loop-units
invariant-loop-units l = l.writer ≡ l.fn.writer ++ flat_map place (view_places (take l.units-index l.places))
