-- What is answered to an event.
use Rattle.std.specs.Prelude.{Result, Ok, Err}
use Rattle.sms_message.specs.declared.outcome.Outcome.{Outcome}
use Rattle.sms_message.specs.declared.outcome.Dropped as declared_dropped
use Rattle.sms_world.specs.declared.fault.WorldFault.{WorldFault}
use Rattle.sms_world.specs.declared.fault.WorldFault.TheVariants.{Party}

abbrev pub Told : Type 0
Told = Result Outcome WorldFault

-- What a party answers: it did this, or dropped what came.
abbrev pub of_party : Result Outcome declared_dropped.Dropped → Told
of_party (Ok outcome) = Ok outcome
of_party (Err why) = Err (Party why)
