-- What a wrapped answer without a report carries.
use Rattle.std.proofs.Common.{ℕ, true, List, Option, Some, None}
use Rattle.sms_tpdu.specs.Report.{SpellsSubmitError}
use Rattle.sms_relay.specs.Carried as carried
use Rattle.sms_relay.specs.declared.side.Side.{Side}
use Rattle.sms_relay.specs.declared.side.Side.TheVariants.{FromPhone, ToPhone}
use Rattle.sms_message.specs.declared.message.Tag.{Tag}
use Rattle.sms_message.specs.declared.message.Relay.TheVariants.{Answer}
use Rattle.sms_message.specs.declared.message.Message.TheVariants.{Data}
use Rattle.sms_message.specs.Message.Carrying.{Carries, SpellsReport}

none_spelled : {V : Type 0} (spells : V → List ℕ → Type 0) (side : Side) (cause : ℕ) (octets : Option (List ℕ)) → carried.SpellsOptional spells None octets → SpellsReport side (Some cause) None octets
none_spelled spells FromPhone cause None s = tt
none_spelled spells ToPhone cause None s = tt
none_spelled spells side cause (Some octets) s = absurd s

pub none_carried : (packet : List ℕ) (side : Side) (tag : Tag) (cause : ℕ) (octets : Option (List ℕ)) → carried.SpellsOptional SpellsSubmitError None octets
    → carried.Carries true tag.value (carried.answer side tag.reference (Some cause) octets) packet → Carries packet (Data true tag (Answer side (Some cause) None))
none_carried packet side tag cause octets s h = (octets, none_spelled SpellsSubmitError side cause octets s, h)
