-- What is promised of one run.
use Rattle.std.proofs.Common.{List, [], ◌∷◌}
use Rattle.sms_field.specs.Address.Value.{AddressValue}
use Rattle.sms_script.specs.declared.script.limits.Limits.{Limits}
use Rattle.sms_world.specs.Told.{Told}
use Rattle.sms_world.specs.Headline.OfRun.{ReceivingRun, Promised}
use Rattle.sms_world.specs.Headline.Refused.{RefusedOnlyWhereFull}
use Rattle.sms_world.specs.Machine.{Machine, start}
use Rattle.sms_world.specs.Machine.Event.{Event}
use Rattle.sms_world.specs.Orderly.{OrderlyRun}
use Rattle.sms_world.specs.World.Claims.{ClaimsHold}
use Rattle.sms_world.specs.World.Value.{WorldValue}

receiving : RefusedOnlyWhereFull → (limits : Limits) (phones : List AddressValue) (past : List (Event × Told)) (m : Machine)
    → OrderlyRun (start limits phones) past m → ReceivingRun (start limits phones) past m
receiving refused limits phones [] m run = run
receiving refused limits phones (e ∷ past) m (old, run, orderly, (put, step)) =
    (old, receiving refused limits phones past old run, (put, step, refused limits phones past old run e.0 orderly e.1 put m step))

pub promised : ClaimsHold → RefusedOnlyWhereFull → (limits : Limits) (phones : List AddressValue) (past : List (Event × Told)) (world : WorldValue) → Promised limits phones past world
promised claims refused limits phones past world m stand = record {
  headline = λ run. record { stores = claims.whole world limits phones past m run stand; deliveries = receiving refused limits phones past m run };
  once = λ run. claims.once world limits phones past m run stand;
  accepted = λ phone run. claims.accepted world limits phones past m phone run stand;
}
