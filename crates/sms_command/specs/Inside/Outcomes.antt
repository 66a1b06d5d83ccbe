-- What an event has answered.
use Rattle.std.specs.Prelude.{Bool, true, false, Ok, Err}
use Rattle.sms_world.specs.Told.{Told}
use Rattle.sms_world.specs.declared.fault.WorldFault.TheVariants.{Party}

-- whether the event named nothing: no phone or packet that there is
abbrev pub is_fault : Told → Bool
is_fault (Ok outcome) = false
is_fault (Err (Party why)) = false
is_fault (Err _) = true
