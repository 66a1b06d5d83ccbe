-- A reader may pass this by: contracts of private functions, and proofs, alone cite it.
--
-- A joiner for many recipients, and the joiner that it is but for messages that are passed.
use Rattle.std.specs.Prelude.{◌≡◌, ℕ, ◌<◌, List, ◌∷◌, take, length, Option, Result, Ok, Err}
use Rattle.sms_join.specs.declared.gateway_limits.Alone.{Alone}
use Rattle.sms_join.specs.declared.offer.Offer.{Offer}
use Rattle.sms_join.specs.declared.offer.Offer.TheVariants as offers
use Rattle.sms_join.specs.declared.offer.OfferFault.{OfferFault}
use Rattle.sms_join.specs.Gateway.Finishings.{not_before, Fall}
use Rattle.sms_join.specs.Joiner.Value.{JoinerValue}
use Rattle.sms_join.specs.Gateway.Value.{GatewayValue}

abbrev pub gateway_of : Alone → ℕ → Option ℕ → JoinerValue → List ℕ → GatewayValue
gateway_of alone open_for remember_for v finishings =
    record {
      limits = record {
        open_max = v.open_max;
        remembered = v.remembered;
        alone = alone;
        open_for = open_for;
        remember_for = remember_for;
      };
      holds = v.holds;
      told = v.told;
      finishings = finishings;
    }

-- The moments after an answer, of which so many have room.
abbrev pub noted_by : ℕ → List ℕ → ℕ → Result Offer OfferFault → List ℕ
noted_by room ms now (Ok offers.Repeat) = ms
noted_by room ms now (Ok offers.Kept) = ms
noted_by room ms now (Ok (offers.Finished text)) = take room (not_before ms now ∷ ms)
noted_by room ms now (Err fault) = ms

-- Each key that is remembered has its moment, and none of the limits is 0.
pub record AreTimed (v : JoinerValue) (finishings : List ℕ) (capacity : ℕ) : Type 0 where
  pub sets : 0 < v.open_max
  pub keys : 0 < v.remembered
  pub room : capacity ≡ v.remembered
  pub as_many : length finishings ≡ length v.holds.finished
  pub fall : Fall finishings
