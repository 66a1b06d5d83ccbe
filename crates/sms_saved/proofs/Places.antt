-- What is so of places where they lie is so of what they are.
use Rattle.std.proofs.Common.{◌≡◌, List, [], ◌∷◌, Option, Some, None, refl}
use Rattle.std.specs.List.{list_any}
use Rattle.sms_saved.specs.declared.state.Units.{Units}
use Rattle.sms_saved.specs.Value.{view_places}
use Rattle.sms_saved.specs.Fits.{has_come, is_missing}
use Rattle.sms_saved.specs.Inside.Places.{lies_there, lies_not_there}

pub units_seen : (ps : List (Option Units)) → list_any has_come (view_places ps) ≡ list_any lies_there ps
units_seen [] = refl
units_seen (None ∷ ps) = units_seen ps
units_seen (Some u ∷ ps) = refl

pub gap_seen : (ps : List (Option Units)) → list_any is_missing (view_places ps) ≡ list_any lies_not_there ps
gap_seen [] = refl
gap_seen (None ∷ ps) = refl
gap_seen (Some u ∷ ps) = gap_seen ps
