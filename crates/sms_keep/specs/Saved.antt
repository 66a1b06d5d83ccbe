-- What a gateway's joiner holds, as a state.
use Rattle.std.specs.Prelude.{ℕ, zero, suc, ◌+◌, Bool, true, false, List, [], ◌∷◌, ◌++◌, map, Option, option_map}
use Rattle.sms_field.specs.Address.{address_octets}
use Rattle.sms_tpdu.specs.declared.user_data.concat.Width.{Width}
use Rattle.sms_tpdu.specs.declared.user_data.concat.Width.TheVariants as widths
use Rattle.sms_join.specs.declared.gateway_limits.Alone.{Alone}
use Rattle.sms_join.specs.declared.gateway_limits.Alone.TheVariants.{Remembered, Passed}
use Rattle.sms_join.specs.declared.key.Key.{Key}
use Rattle.sms_join.specs.declared.key.Key.TheVariants.{Single, Segmented, SingleTo, SegmentedTo}
use Rattle.sms_join.specs.declared.units.Units.{Units}
use Rattle.sms_join.specs.declared.units.Units.TheVariants.{Gsm, Ucs2}
use Rattle.sms_join.specs.Key.{origin_of, recipient_of, maximum_of}
use Rattle.sms_join.specs.OpenSets.{SetValue, units_for}
use Rattle.sms_join.specs.Gateway.Value.{LimitsValue, GatewayValue}
use Rattle.sms_saved.specs.declared.state.Key.{Key as SavedKey}
use Rattle.sms_saved.specs.declared.state.Limits.{Limits}
use Rattle.sms_saved.specs.declared.state.Message.{Message}
use Rattle.sms_saved.specs.declared.state.Message.TheVariants as messages
use Rattle.sms_saved.specs.declared.state.Remembered.{Remembered as SavedFinishing}
use Rattle.sms_saved.specs.declared.state.Width.{Width as SavedWidth}
use Rattle.sms_saved.specs.declared.state.Width.TheVariants as forms
use Rattle.sms_saved.specs.Value.{UnitsValue, SetValue as SavedSet, StateValue}

-- ---- keys

abbrev pub saved_width : Width → SavedWidth
saved_width widths.Eight = forms.Eight
saved_width widths.Sixteen = forms.Sixteen

abbrev pub saved_message : Key → Message
saved_message (Single origin stamp) = messages.Single stamp
saved_message (Segmented origin width reference maximum) =
    messages.Segmented (saved_width width) reference maximum
saved_message (SingleTo recipient origin stamp) = messages.Single stamp
saved_message (SegmentedTo recipient origin width reference maximum) =
    messages.Segmented (saved_width width) reference maximum

-- addresses as they are written
abbrev pub saved_key : Key → SavedKey
saved_key k =
    record {
      origin = address_octets (origin_of k);
      recipient = option_map address_octets (recipient_of k);
      message = saved_message k;
    }

-- ---- open sets

abbrev pub saved_units : Units → UnitsValue
saved_units (Gsm septets) = record { is_wide = false; numbers = septets }
saved_units (Ucs2 units) = record { is_wide = true; numbers = units }

-- the units of so many sequences from this one on, where they have come
abbrev pub places_from : ℕ → ℕ → SetValue → List (Option UnitsValue)
places_from n zero s = []
places_from n (suc count) s =
    option_map saved_units (units_for n s.sequences s.units) ∷ places_from (suc n) count s

abbrev pub saved_set : SetValue → SavedSet
saved_set s =
    record {
      key = saved_key s.key;
      moment = s.opened;
      opening = s.turn;
      places = places_from 1 (maximum_of s.key) s;
    }

-- one above the number of the last one's opening, and 0 where there is none
abbrev pub next_opening : List SetValue → ℕ
next_opening [] = 0
next_opening (s ∷ []) = s.turn + 1
next_opening (s ∷ t ∷ ss) = next_opening (t ∷ ss)

-- ---- remembered keys

-- each with its moment, the oldest first; the lists have the newest first
abbrev pub saved_finishings : List Key → List ℕ → List SavedFinishing
saved_finishings [] ms = []
saved_finishings (k ∷ ks) [] = []
saved_finishings (k ∷ ks) (m ∷ ms) =
    saved_finishings ks ms ++ record { key = saved_key k; moment = m } ∷ []

-- ---- all

abbrev pub passes : Alone → Bool
passes Remembered = false
passes Passed = true

abbrev pub saved_limits : LimitsValue → Limits
saved_limits l =
    record {
      sets = l.open_max;
      keys = l.remembered;
      age_of_sets = l.open_for;
      age_of_keys = l.remember_for;
      passes_singles = passes l.alone;
    }

-- of so many lines of its input that were taken
abbrev pub saved : GatewayValue → ℕ → StateValue
saved g taken =
    record {
      limits = saved_limits g.limits;
      taken = taken;
      next = next_opening g.told;
      sets = map saved_set g.told;
      keys = saved_finishings g.holds.finished g.finishings;
    }
