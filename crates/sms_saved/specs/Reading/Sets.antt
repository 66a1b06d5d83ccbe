-- Open sets and remembered keys.
use Rattle.std.specs.Prelude.{ℕ, zero, suc, Bool, true, false, List, [], ◌∷◌, Option, Some, None, Ok, nat_lt}
use Rattle.std.specs.Int.{w16, w64}
use Rattle.std.specs.List.{list_all}
use Rattle.sms_saved.specs.declared.fault.StateFault.TheVariants.{Short, Flag, NotSeptet, NotOpen}
use Rattle.sms_saved.specs.declared.state.Remembered.{Remembered}
use Rattle.sms_saved.specs.Value.{UnitsValue, SetValue, maximum_of}
use Rattle.sms_saved.specs.Fits.{is_open}
use Rattle.sms_saved.specs.Reading.Fields.{◌>>=◌, Read, stops, tested_at, number_at, string_at, items_at, counted_at}
use Rattle.sms_saved.specs.Reading.Keys.{key_at}

abbrev pub are_septets : List ℕ → Bool
are_septets octets = list_all (λ n. nat_lt n 128) octets

abbrev pub septets_at : List ℕ → Read (List ℕ)
septets_at = tested_at are_septets NotSeptet (string_at (number_at w64))

abbrev pub wide_at : List ℕ → Read (List ℕ)
wide_at = counted_at (number_at w16)

unfoldable pub place_at : List ℕ → Read (Option UnitsValue)
place_at [] = stops [] Short
place_at (zero ∷ rest) = Ok (None, rest)
place_at (suc zero ∷ rest) = do
  ns ← septets_at rest
  Ok (Some (record { is_wide = false; numbers = ns.0 }), ns.1)
place_at (suc (suc zero) ∷ rest) = do
  ns ← wide_at rest
  Ok (Some (record { is_wide = true; numbers = ns.0 }), ns.1)
place_at (suc (suc (suc b)) ∷ rest) = stops (suc (suc (suc b)) ∷ rest) Flag

-- a set, be it open or not
unfoldable pub any_set_at : List ℕ → Read SetValue
any_set_at bytes = do
  key ← key_at bytes
  moment ← number_at w64 key.1
  opening ← number_at w64 moment.1
  places ← items_at place_at (maximum_of key.0.message) opening.1
  Ok (record { key = key.0; moment = moment.0; opening = opening.0; places = places.0 }, places.1)

abbrev pub has_open_places : SetValue → Bool
has_open_places s = is_open s.places

abbrev pub set_at : List ℕ → Read SetValue
set_at = tested_at has_open_places NotOpen any_set_at

unfoldable pub remembered_at : List ℕ → Read Remembered
remembered_at bytes = do
  key ← key_at bytes
  moment ← number_at w64 key.1
  Ok (record { key = key.0; moment = moment.0 }, moment.1)
