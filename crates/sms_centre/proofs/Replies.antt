-- What a wrapped answer with a report carries.
use Rattle.std.proofs.Common.{◌≡◌, ℕ, true, false, List, Option, Some, None, subst}
use Rattle.sms_tpdu.specs.Report.{SubmitAckValue, SpellsSubmitAck, SubmitErrorValue, SpellsSubmitError}
use Rattle.sms_relay.specs.Carried as carried
use Rattle.sms_relay.specs.declared.side.Side.TheVariants.{ToPhone}
use Rattle.sms_message.specs.declared.message.Tag.{Tag}
use Rattle.sms_message.specs.declared.message.Report.TheVariants.{SubmitAck, SubmitError}
use Rattle.sms_message.specs.declared.message.Relay.TheVariants.{Answer}
use Rattle.sms_message.specs.declared.message.Message.TheVariants.{Data}
use Rattle.sms_message.specs.Message.Carrying.{Carries, SpellsReport}
use Rattle.sms_field.specs.Time.Computed.{stamp_octets}
use Rattle.sms_message.specs.Message.Answers.{submit_ack_of, submit_error_of}

ack_spelled : (r : SubmitAckValue) (octets : Option (List ℕ)) → carried.SpellsOptional SpellsSubmitAck (Some r) octets → SpellsReport ToPhone None (Some (SubmitAck r)) octets
ack_spelled r None s = s
ack_spelled r (Some octets) s = s

error_spelled : (cause : ℕ) (r : SubmitErrorValue) (octets : Option (List ℕ)) → carried.SpellsOptional SpellsSubmitError (Some r) octets → SpellsReport ToPhone (Some cause) (Some (SubmitError r)) octets
error_spelled cause r None s = s
error_spelled cause r (Some octets) s = s

abbrev ack_at : List ℕ → SubmitAckValue
ack_at stamp = record { has_header = false; cause = tt; stamp = stamp; pid = None; dcs = None; user = None }

abbrev error_at : ℕ → List ℕ → SubmitErrorValue
error_at failure stamp = record { has_header = false; cause = failure; stamp = stamp; pid = None; dcs = None; user = None }

pub ack_carried : (packet : List ℕ) (tag : Tag) (moment : ℕ) (stamp : List ℕ) → stamp ≡ stamp_octets moment → (octets : Option (List ℕ)) → carried.SpellsOptional SpellsSubmitAck (Some (ack_at stamp)) octets
    → carried.Carries true tag.value (carried.answer ToPhone tag.reference None octets) packet → Carries packet (Data true tag (Answer ToPhone None (Some (submit_ack_of moment))))
ack_carried packet tag moment stamp e octets s h = (octets, ack_spelled _ octets (subst (λ (l : List ℕ). carried.SpellsOptional SpellsSubmitAck (Some (ack_at l)) octets) e s), h)

pub error_carried : (packet : List ℕ) (tag : Tag) (cause failure moment : ℕ) (stamp : List ℕ) → stamp ≡ stamp_octets moment → (octets : Option (List ℕ)) → carried.SpellsOptional SpellsSubmitError (Some (error_at failure stamp)) octets
    → carried.Carries true tag.value (carried.answer ToPhone tag.reference (Some cause) octets) packet → Carries packet (Data true tag (Answer ToPhone (Some cause) (Some (submit_error_of failure moment))))
error_carried packet tag cause failure moment stamp e octets s h = (octets, error_spelled cause _ octets (subst (λ (l : List ℕ). carried.SpellsOptional SpellsSubmitError (Some (error_at failure l)) octets) e s), h)
