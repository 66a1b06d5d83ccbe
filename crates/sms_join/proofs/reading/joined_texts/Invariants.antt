use Rattle.std.proofs.Common.{◌≡◌, ◌++◌, drop}
use Rattle.std.specs.List.{flat_map}
use Rattle.std.specs.Str.{chars}
use Rattle.std.specs.String.{string_bytes}
use Rattle.sms_join.specs.Reading.{text_of_units, lent}
use Rattle.sms_join.proofs.reading.joined_texts.Given as goal

abbrev pub invariant-loop-units : goal.invariant-loop-units
invariant-loop-units l = chars (string_bytes l.joined) ++ flat_map text_of_units (lent (drop l.units-index l.segments)) ≡ flat_map text_of_units (lent l.segments)
