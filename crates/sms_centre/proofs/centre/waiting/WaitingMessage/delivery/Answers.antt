use Rattle.std.proofs.Common.{ℕ, List, ◌≤◌, length, arith}
use Rattle.std.proofs.lemmas.Result.{IfOk-weaker}
use Rattle.sms_tpdu.specs.Deliver.{Delivery, SpellsDeliver}
use Rattle.sms_tpdu.specs.Inside.SizeLaws.{deliver_within}
use Rattle.sms_relay.specs.declared.user.TheConstants.{USER_DATA_MAX}
use Rattle.sms_centre.proofs.centre.waiting.WaitingMessage.delivery.Goals as goal

-- what is written of a delivery has not too many octets for the relay
few_written : (d : Delivery) (octets : List ℕ) → SpellsDeliver d octets → length octets ≤ USER_DATA_MAX
few_written d octets h = omega (arith, deliver_within d octets h)

pub returns-clause-few : goal.returns-clause-few
returns-clause-few c = IfOk-weaker c.write_with_in.result _ _ (λ octets h. few_written _ octets.items h) c.write_with_in.ensures
