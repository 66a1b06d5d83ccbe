use Rattle.std.proofs.Common.{◌≡◌, ◌++◌, drop}
use Rattle.std.specs.List.{flat_map, list_all}
use Rattle.sms_join.specs.UnitsOfText.{numbers}
use Rattle.sms_join.specs.Reading.{is_ucs2, lent}
use Rattle.sms_join.proofs.reading.joined_ucs2_units.Given as goal

abbrev pub invariant-loop-units : goal.invariant-loop-units
invariant-loop-units l =
    (list_all is_ucs2 (lent (drop l.units-index l.segments)) ≡ list_all is_ucs2 (lent l.segments))
    × (l.joined.items ++ flat_map numbers (lent (drop l.units-index l.segments)) ≡ flat_map numbers (lent l.segments))
