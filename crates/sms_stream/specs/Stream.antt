-- What joins the pieces of a stream.
use Rattle.sms_join.specs.Gateway.Value.{GatewayValue}
use Rattle.sms_told.specs.declared.answer.Telling.{Telling}
use Rattle.sms_stream.specs.declared.clock.Clock.{Clock}
use Rattle.sms_stream.specs.declared.losses.Losses.{Losses}

pub record StreamValue : Type 0 where
  -- how what comes of pieces is told
  pub telling : Telling
  pub joiner : GatewayValue
  -- the clock that the stamps set
  pub clock : Clock
  -- what is lost so far
  pub losses : Losses
