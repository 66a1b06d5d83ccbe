-- What a state is, without where it lies in memory.
use Rattle.std.specs.Prelude.{ℕ, Bool, true, false, List, map, Option, option_map}
use Rattle.sms_saved.specs.declared.state.Key.{Key}
use Rattle.sms_saved.specs.declared.state.Limits.{Limits}
use Rattle.sms_saved.specs.declared.state.Message.{Message}
use Rattle.sms_saved.specs.declared.state.Message.TheVariants.{Single, Segmented}
use Rattle.sms_saved.specs.declared.state.OpenSet.{OpenSet}
use Rattle.sms_saved.specs.declared.state.Remembered.{Remembered}
use Rattle.sms_saved.specs.declared.state.State.{State}
use Rattle.sms_saved.specs.declared.state.Units.{Units}
use Rattle.sms_saved.specs.declared.state.Units.TheVariants.{Gsm, Ucs2}

-- septets, or 16-bit units where it is wide
pub record UnitsValue : Type 0 where
  pub is_wide : Bool
  pub numbers : List ℕ

pub record SetValue : Type 0 where
  pub key : Key
  pub moment : ℕ
  pub opening : ℕ
  pub places : List (Option UnitsValue)

pub record StateValue : Type 0 where
  pub limits : Limits
  pub taken : ℕ
  pub next : ℕ
  pub sets : List SetValue
  pub keys : List Remembered

-- How many pieces the message has: one in one piece, else the maximum of its segments.
abbrev pub maximum_of : Message → ℕ
maximum_of (Single stamp) = 1
maximum_of (Segmented width reference maximum) = maximum

-- ---- what lies in memory

abbrev pub view_units : Units → UnitsValue
view_units (Gsm septets) = record { is_wide = false; numbers = septets.items }
view_units (Ucs2 units) = record { is_wide = true; numbers = units.items }

abbrev pub view_place : Option Units → Option UnitsValue
view_place place = option_map view_units place

abbrev pub view_places : List (Option Units) → List (Option UnitsValue)
view_places places = map view_place places

abbrev pub view_set : OpenSet → SetValue
view_set s =
    record {
      key = s.key;
      moment = s.moment;
      opening = s.opening;
      places = view_places s.places.items;
    }

abbrev pub view_sets : List OpenSet → List SetValue
view_sets sets = map view_set sets

abbrev pub view : State → StateValue
view s =
    record {
      limits = s.limits;
      taken = s.taken;
      next = s.next;
      sets = view_sets s.sets.items;
      keys = s.keys.items;
    }
