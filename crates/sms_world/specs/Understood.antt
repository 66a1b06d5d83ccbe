-- Each event is one act.
use Rattle.std.specs.Prelude.{◌≡◌}
use Rattle.sms_text.specs.Octets.{IsOctets}
use Rattle.sms_tpdu.specs.declared.user_data.concat.Width.{Width}
use Rattle.sms_join.specs.UnitsOfText.{IsText}
use Rattle.sms_world.specs.Machine.Event.{Event, Compose, Inject, Act, IsMetAs}

-- characters are characters, and octets octets
abbrev pub IsEvent : Event → Type 0
IsEvent (Compose phone target characters) = IsText characters
IsEvent (Inject place octets) = IsOctets octets
IsEvent _ = Unit {0}

abbrev pub IsOneAct : Type 0
IsOneAct =
    (width : Width) (e : Event) → IsEvent e
    → (act : Act) × IsMetAs width e act × ((other : Act) → IsMetAs width e other → other ≡ act)
