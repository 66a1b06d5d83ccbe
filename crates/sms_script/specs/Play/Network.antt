-- What a network does, as contracts see it.
use Rattle.std.specs.Prelude.{ℕ, List}
use Rattle.sms_field.specs.Address.Value.{AddressValue}
use Rattle.sms_script.specs.Transcript.{Ended}
use Rattle.sms_script.specs.Transcript.Lines.{PacketValue}
use Rattle.sms_script.specs.declared.meaning.event.Event.{Event}
use Rattle.sms_script.specs.declared.script.limits.Limits.{Limits}

-- `Begins`: the network that begins with these limits and phones. `Steps`: an event may lead from
-- one network to another, and answer this in words. `put_out`: the packets ever put out, in order.
-- `ends`: what stands at each phone.
pub record Conduct (N : Type 0) : Type 1 where
  pub Begins : Limits → List AddressValue → N → Type 0
  pub Steps : N → Event → List ℕ → N → Type 0
  pub put_out : N → List PacketValue
  pub ends : N → List Ended
