-- What is lent, without where it lies in memory.
use Rattle.std.specs.Prelude.{true, false, Option, option_map}
use Rattle.sms_saved.specs.declared.key_view.KeyView.{KeyView}
use Rattle.sms_saved.specs.declared.key_view.RememberedView.{RememberedView}
use Rattle.sms_saved.specs.declared.state.Key.{Key}
use Rattle.sms_saved.specs.declared.state.Remembered.{Remembered}
use Rattle.sms_saved.specs.declared.views.UnitsView.{UnitsView}
use Rattle.sms_saved.specs.declared.views.UnitsView.TheVariants.{Gsm, Ucs2}
use Rattle.sms_saved.specs.Value.{UnitsValue}

abbrev pub seen_units : UnitsView → UnitsValue
seen_units (Gsm septets) = record { is_wide = false; numbers = septets.now }
seen_units (Ucs2 units) = record { is_wide = true; numbers = units.now }

abbrev pub seen_place : Option UnitsView → Option UnitsValue
seen_place place = option_map seen_units place

abbrev pub seen_key : KeyView → Key
seen_key k =
    record {
      origin = k.origin.now;
      recipient = option_map (λ octets. octets.now) k.recipient;
      message = k.message;
    }

abbrev pub seen_remembered : RememberedView → Remembered
seen_remembered r = record { key = seen_key r.key; moment = r.moment }
