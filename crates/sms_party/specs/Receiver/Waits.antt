-- What a receiver takes up, and does not drop.
use Rattle.std.specs.Prelude.{Bool, true, false}
use Rattle.sms_relay.specs.declared.side.Side.TheVariants.{ToPhone}
use Rattle.sms_message.specs.declared.glance.Glance.{Glance}
use Rattle.sms_message.specs.declared.glance.Glance.TheVariants.{Data}
use Rattle.sms_message.specs.declared.glance.RelayGlance.TheVariants.{Transfer, NoRelay}

-- in a transaction that the centre has opened: an RP-DATA to the phone, and what is no RP message
abbrev pub takes_up : Glance → Bool
takes_up (Data false tag (Transfer ToPhone)) = true
takes_up (Data false tag NoRelay) = true
takes_up _ = false
