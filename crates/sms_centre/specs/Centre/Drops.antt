-- What the centre drops puts nothing out.
use Rattle.std.specs.Prelude.{ℕ, List, Option}
use Rattle.sms_field.specs.Address.Value.{AddressValue}
use Rattle.sms_message.specs.declared.message.Message.{Message}
use Rattle.sms_message.specs.Message.{Origin}
use Rattle.sms_message.specs.Drops.{DoesOrDrops}
use Rattle.sms_centre.specs.Centre.{centre_receives}
use Rattle.sms_centre.specs.Centre.State.{CentreState}
use Rattle.sms_centre.specs.Centre.Pushes.{centre_pushes}

pub record CentreDropsPutNothingOut : Type 0 where
  pub when_received : (limit : ℕ) (phones : List AddressValue) (c : CentreState) (now phone : ℕ)
      (message : Message) (origin : Option Origin)
      → DoesOrDrops (centre_receives limit phones c now phone message origin)
  pub when_pushed : (phones : List AddressValue) (c : CentreState) (now phone : ℕ)
      → DoesOrDrops (centre_pushes phones c now phone)
