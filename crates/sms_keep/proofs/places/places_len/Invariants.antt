use Rattle.std.proofs.Common.{◌≡◌, ◌+◌, length, take}
use Rattle.std.specs.List.{flat_map}
use Rattle.sms_saved.specs.Spelling.{place}
use Rattle.sms_saved.specs.Value.{view_place}
use Rattle.sms_keep.proofs.places.places_len.Given as goal

abbrev pub invariant-loop-own : goal.invariant-loop-own
invariant-loop-own l = l.total ≡ l.more + length (flat_map (λ y. place (view_place y)) (take l.own-index l.places))
