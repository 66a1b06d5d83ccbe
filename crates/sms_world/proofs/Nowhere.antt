-- What a party drops is no event for nobody.
use Rattle.std.proofs.Common.{◌≡◌, Ok, Err, IsErrAnd, sym, subst}
use Rattle.sms_message.specs.declared.outcome.Dropped.{Dropped}
use Rattle.sms_world.specs.declared.fault.WorldFault.{WorldFault}
use Rattle.sms_world.specs.declared.fault.WorldFault.TheVariants.{Party}
use Rattle.sms_world.specs.Told.{Told}
use Rattle.sms_world.specs.World.Steps.{IfNowhere}

pub dropped_somewhere : (P : Type 0) (told : Told) (why : Dropped) → IsErrAnd told (λ fault. fault ≡ Party why) → IfNowhere told P
dropped_somewhere P (Ok outcome) why is = tt
dropped_somewhere P (Err fault) why is = subst (λ (f : WorldFault). IfNowhere (Err f) P) (sym is) tt
