-- Nothing is injected.
use Rattle.sms_world.specs.Machine.Event.{Event, Inject}

-- No octets come to a party that no party has put out.
abbrev pub NothingIsInjected : Event → Type 0
NothingIsInjected (Inject place octets) = ⊥
NothingIsInjected _ = Unit {0}
