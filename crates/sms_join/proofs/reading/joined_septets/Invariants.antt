use Rattle.std.proofs.Common.{◌≡◌, ◌++◌, drop}
use Rattle.std.specs.List.{flat_map, list_all}
use Rattle.sms_text.specs.Bits.{AreSeptets}
use Rattle.sms_join.specs.UnitsOfText.{numbers}
use Rattle.sms_join.specs.Reading.{is_gsm, lent}
use Rattle.sms_join.proofs.reading.joined_septets.Given as goal

abbrev pub invariant-loop-units : goal.invariant-loop-units
invariant-loop-units l =
    (list_all is_gsm (lent (drop l.units-index l.segments)) ≡ list_all is_gsm (lent l.segments))
    × (l.joined.items ++ flat_map numbers (lent (drop l.units-index l.segments)) ≡ flat_map numbers (lent l.segments)) × AreSeptets l.joined.items
