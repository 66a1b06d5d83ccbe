use Rattle.std.proofs.Common.{◌≡◌, ◌++◌, map, option_map}
use Rattle.std.specs.Prelude.{IfSome}
use Rattle.std.specs.List.{AllByRecursion}
use Rattle.std.specs.Vec.Iter.{into_iter_items}
use Rattle.sms_saved.specs.Fits.{UnitsFit}
use Rattle.sms_saved.specs.Value.{view_places}
use Rattle.sms_keep.specs.Saved.{saved_units}
use Rattle.sms_keep.proofs.sets_back.places_from.Given as goal

abbrev pub invariant-loop-place : goal.invariant-loop-place
invariant-loop-place l =
    (map (option_map saved_units) l.back.items ++ view_places (into_iter_items l.place-iterator) ≡ view_places l.fn.places.items)
    × AllByRecursion (λ p. IfSome p UnitsFit) (view_places (into_iter_items l.place-iterator))
