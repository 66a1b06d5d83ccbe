-- The whole machine: the clock, the service centre and the phones, and everything that was ever put
-- out. Lists of what was have the newest entry first.
pub mod Event
pub mod Next
pub mod Step
use Rattle.std.specs.Prelude.{ℕ, List, []}
use Rattle.sms_field.specs.Address.Value.{AddressValue}
use Rattle.sms_centre.specs.Centre.State.{CentreState, new_centre}
use Rattle.sms_party.specs.Sent.{Sent}
use Rattle.sms_party.specs.Sender.Texts.{SenderState, new_senders}
use Rattle.sms_party.specs.Receiver.State.{ReceiverState, new_receiver}
use Rattle.sms_script.specs.declared.script.limits.Limits.{Limits}

pub record Machine : Type 0 where
  pub limits : Limits
  -- the addresses of the phones; a phone is its place here, counted from 0
  pub phones : List AddressValue
  -- seconds since the beginning of 2000
  pub clock : ℕ
  -- everything that was ever put out, carried or not, the newest first
  pub sent : List Sent
  -- what was typed at the phones, and how far they are with it
  pub senders : SenderState
  pub centre : CentreState
  -- of each phone: its open sets, its remembered keys and its store
  pub receiver : ℕ → ReceiverState

-- The first state: the clock is 0, limits and addresses are those given, and there is nothing else.
unfoldable pub start : Limits → List AddressValue → Machine
start limits phones =
    record {
      limits = limits;
      phones = phones;
      clock = 0;
      sent = [];
      senders = new_senders limits.wide limits.reject;
      centre = new_centre;
      receiver = λ _. new_receiver;
    }
