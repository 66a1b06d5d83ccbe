-- What the phone wrote, seen where it lies.
use Rattle.sms_card.specs.declared.originated.OriginatedUnit.{OriginatedUnit}
use Rattle.sms_card.specs.declared.originated.OriginatedUnit.TheVariants as originated
use Rattle.sms_card.specs.declared.originated.view.OriginatedView.{OriginatedView}
use Rattle.sms_card.specs.declared.originated.view.OriginatedView.TheVariants as seen

abbrev pub seen_originated : OriginatedView → OriginatedUnit
seen_originated (seen.Submit s) = originated.Submit s
seen_originated (seen.Command c) = originated.Command c
