-- A reader may pass this by: lemmas, for the proofs of this crate and of those above it.
--
-- A message has one refusal: one place, and one reason.
use Rattle.std.proofs.Common.{inl, inr, refl}
use Rattle.sms_field.specs.Field.{octet, map_reason, up_to}
use Rattle.sms_field.specs.Inside.OneReason.{HasOneReason, ReadsOneWay, IsKnown}
use Rattle.sms_field.specs.Inside.OneRefusalLaws.{one_way_always, one_way_octet, one_way_by, one_way_octets, one_way_part, one_way_chain, one_way_relay_address, one_reason_by, one_reason_octet, one_reason_octets, one_reason_map_reason, one_reason_mapped, one_reason_tagged, one_reason_part, one_reason_chain, one_reason_relay_address, one_refusal}
use Rattle.sms_field.specs.RelayAddress.{relay_address}
use Rattle.sms_tpdu.specs.Refusals.{IsRefusedOnce}
use Rattle.sms_relay.specs.Fault.{relay_fault}
use Rattle.sms_relay.specs.Transaction.{transaction}
use Rattle.sms_relay.specs.Cp.Kind.{cp_kind}
use Rattle.sms_relay.specs.Cp.{cp_body, cp_message}
use Rattle.sms_relay.specs.Rp.Kind.{rp_type}
use Rattle.sms_relay.specs.Rp.UserData.{user_data, user_data_tag, optional_user_data}
use Rattle.sms_relay.specs.Rp.Cause.{has_diagnostic, rp_cause}
use Rattle.sms_relay.specs.Rp.{rp_message, rp_value, rp_data, rp_error, rp_body}
use Rattle.sms_relay.specs.declared.side.Side.{Side}
use Rattle.sms_relay.specs.declared.side.Side.TheVariants.{FromPhone, ToPhone}
use Rattle.sms_relay.specs.declared.cp_kind.CpKind.{CpKind}
use Rattle.sms_relay.specs.declared.cp_kind.CpKind.TheVariants as connection
use Rattle.sms_relay.specs.declared.rp.RpBody.TheVariants as rp
use Rattle.sms_relay.specs.declared.rp_kind.RpKind.{RpKind}
use Rattle.sms_relay.specs.declared.rp_kind.RpKind.TheVariants as kind
use Rattle.sms_relay.specs.declared.fault.RelayFault.{RelayFault}
use Rattle.sms_relay.specs.declared.fault.RelayFault.TheVariants.{Short, NotSms, BadTransaction, UnknownType, BadAddress, BadCause, DataTooLong}

is_short : IsKnown Short
is_short Short = inl refl
is_short NotSms = inr (λ e. cc)
is_short BadTransaction = inr (λ e. cc)
is_short UnknownType = inr (λ e. cc)
is_short BadAddress = inr (λ e. cc)
is_short BadCause = inr (λ e. cc)
is_short DataTooLong = inr (λ e. cc)

-- ---- the connection

one_reason_cp_body : (k : CpKind) → HasOneReason (cp_body k)
unfolding cp_body
one_reason_cp_body connection.Data = one_reason_chain _ _ (one_way_octet Short) (one_reason_octet Short) (λ count. one_reason_chain _ _ (one_way_octets Short count) (one_reason_octets Short count) (λ octets. λ f o w b p q. absurd p))
one_reason_cp_body connection.Ack = λ f o w b p q. absurd p
one_reason_cp_body connection.Error = one_reason_chain _ _ (one_way_octet Short) (one_reason_octet Short) (λ cause. λ f o w b p q. absurd p)

one_way_cp_body : (k : CpKind) → ReadsOneWay (cp_body k)
unfolding cp_body
one_way_cp_body connection.Data = one_way_chain _ _ (one_way_octet Short) (λ count. one_way_chain _ _ (one_way_octets Short count) (λ octets. one_way_always RelayFault _))
one_way_cp_body connection.Ack = one_way_always RelayFault _
one_way_cp_body connection.Error = one_way_chain _ _ (one_way_octet Short) (λ cause. one_way_always RelayFault _)

one_reason_cp : HasOneReason cp_message
unfolding cp_message
one_reason_cp =
    one_reason_chain _ _ (one_way_by Short transaction) (one_reason_by Short transaction) (λ named.
    one_reason_chain _ _ (one_way_by Short cp_kind) (one_reason_by Short cp_kind) (λ k.
    one_reason_chain _ _ (one_way_cp_body k) (one_reason_cp_body k) (λ content. λ f o w b p q. absurd p)))

pub cp_refused_once : IsRefusedOnce Short cp_message
cp_refused_once = one_refusal Short cp_message is_short one_reason_cp

-- ---- the relay

one_way_user : ReadsOneWay user_data
unfolding user_data
one_way_user = one_way_chain _ _ (one_way_by Short (up_to 233 DataTooLong)) (λ count. one_way_octets Short count)

one_reason_user : HasOneReason user_data
unfolding user_data
one_reason_user = one_reason_chain _ _ (one_way_by Short (up_to 233 DataTooLong)) (one_reason_by Short (up_to 233 DataTooLong)) (λ count. one_reason_octets Short count)

one_reason_optional : HasOneReason optional_user_data
one_reason_optional = one_reason_tagged user_data_tag user_data one_reason_user

one_reason_address : HasOneReason (map_reason relay_fault relay_address)
one_reason_address = one_reason_map_reason relay_fault relay_address one_reason_relay_address

one_reason_data : (side : Side) → HasOneReason (rp_data side)
unfolding rp_data
one_reason_data FromPhone =
    one_reason_chain _ _ (one_way_by Short (up_to 0 BadAddress)) (one_reason_by Short (up_to 0 BadAddress)) (λ originator.
    one_reason_chain _ _ one_way_relay_address one_reason_address (λ destination.
    one_reason_chain _ _ one_way_user one_reason_user (λ user. λ f o w b p q. absurd p)))
one_reason_data ToPhone =
    one_reason_chain _ _ one_way_relay_address one_reason_address (λ originator.
    one_reason_chain _ _ (one_way_by Short (up_to 0 BadAddress)) (one_reason_by Short (up_to 0 BadAddress)) (λ destination.
    one_reason_chain _ _ one_way_user one_reason_user (λ user. λ f o w b p q. absurd p)))

one_way_cause : ReadsOneWay rp_cause
unfolding rp_cause
one_way_cause = one_way_chain _ _ (one_way_by Short has_diagnostic) (λ more. one_way_chain _ _ (one_way_octet Short) (λ cause. one_way_chain _ _ (one_way_part more (octet Short) (one_way_octet Short)) (λ added. one_way_always RelayFault _)))

one_reason_cause : HasOneReason rp_cause
unfolding rp_cause
one_reason_cause =
    one_reason_chain _ _ (one_way_by Short has_diagnostic) (one_reason_by Short has_diagnostic) (λ more.
    one_reason_chain _ _ (one_way_octet Short) (one_reason_octet Short) (λ cause.
    one_reason_chain _ _ (one_way_part more (octet Short) (one_way_octet Short)) (one_reason_part more (octet Short) (one_way_octet Short) (one_reason_octet Short)) (λ added. λ f o w b p q. absurd p)))

one_reason_body : (k : RpKind) (side : Side) → HasOneReason (rp_body k side)
unfolding rp_body rp_error
one_reason_body kind.Data side = one_reason_data side
one_reason_body kind.Ack side = one_reason_mapped rp.Ack optional_user_data one_reason_optional
one_reason_body kind.Error side = one_reason_chain _ _ one_way_cause one_reason_cause (λ reason. one_reason_mapped (rp.Fail reason.0 reason.1) optional_user_data one_reason_optional)

one_reason_rp : HasOneReason rp_message
unfolding rp_message
one_reason_rp =
    one_reason_chain _ _ (one_way_by Short rp_type) (one_reason_by Short rp_type) (λ named.
    one_reason_chain _ _ (one_way_octet Short) (one_reason_octet Short) (λ reference.
    one_reason_mapped (rp_value named.side reference) (rp_body named.kind named.side) (one_reason_body named.kind named.side)))

pub rp_refused_once : IsRefusedOnce Short rp_message
rp_refused_once = one_refusal Short rp_message is_short one_reason_rp
