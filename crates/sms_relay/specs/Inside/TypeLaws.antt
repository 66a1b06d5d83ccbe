-- A reader may pass this by: lemmas, for the proofs of this crate and of those above it.
--
-- An RP message tells an unknown type by its first octet, and its reference is the second.
use Rattle.std.proofs.Common.{◌≡◌, ℕ, Bool, true, false, cond, List, ◌∷◌, ◌++◌, Ok, Err, ap, ◌∙◌}
use Rattle.sms_field.specs.Field.{octet, octet_by, up_to}
use Rattle.sms_field.specs.Inside.ReadableLaws.{unread}
use Rattle.sms_field.specs.Reading.Reasons.{Never}
use Rattle.sms_field.specs.Inside.ReasonLaws.{never_chain, never_part, never_by, never_map_reason, never_tagged, up_to_apart, starts_as, no_other, starts_apart}
use Rattle.sms_field.specs.RelayAddress.{relay_address}
use Rattle.sms_field.specs.declared.fault.FieldFault.{FieldFault}
use Rattle.sms_field.specs.declared.fault.FieldFault.TheVariants as fields
use Rattle.sms_relay.specs.Fault.{relay_fault}
use Rattle.sms_relay.specs.Rp.Kind.{rp_type}
use Rattle.sms_relay.specs.Rp.Value.{RpValue}
use Rattle.sms_relay.specs.Rp.UserData.{user_data, user_data_tag}
use Rattle.sms_relay.specs.Rp.Cause.{has_diagnostic, rp_cause}
use Rattle.sms_relay.specs.Rp.{rp_message, rp_data, rp_error, rp_body}
use Rattle.sms_relay.specs.Rp.Types.{TellsUnknownTypes, ReferenceIsSecond}
use Rattle.sms_relay.specs.declared.side.Side.{Side}
use Rattle.sms_relay.specs.declared.side.Side.TheVariants.{FromPhone, ToPhone}
use Rattle.sms_relay.specs.declared.rp_kind.RpKind.{RpKind}
use Rattle.sms_relay.specs.declared.rp_kind.RpKind.TheVariants as kind
use Rattle.sms_relay.specs.declared.fault.RelayFault.TheVariants.{Short, UnknownType, BadAddress, BadCause, DataTooLong}

-- ---- only the first octet is refused for an unknown type

field_apart : (f : FieldFault) → UnknownType ≡ relay_fault f → ⊥
field_apart fields.Short e = cc
field_apart (fields.Address why) e = cc

never_none : Never UnknownType (octet_by Short (up_to 0 BadAddress))
never_none = never_by _ Short _ (λ o e. up_to_apart BadAddress UnknownType 0 o (λ s. cc) e)

never_user : Never UnknownType user_data
unfolding user_data
never_user = never_chain _ _ _ (never_by _ Short _ (λ o e. up_to_apart DataTooLong UnknownType 233 o (λ s. cc) e)) (λ count. λ f o h. h)

never_data : (side : Side) → Never UnknownType (rp_data side)
unfolding rp_data
never_data FromPhone = never_chain _ _ _ never_none (λ a. never_chain _ _ _ (never_map_reason _ relay_fault relay_address field_apart) (λ b. never_chain _ _ _ never_user (λ u. λ f o h. h)))
never_data ToPhone = never_chain _ _ _ (never_map_reason _ relay_fault relay_address field_apart) (λ a. never_chain _ _ _ never_none (λ b. never_chain _ _ _ never_user (λ u. λ f o h. h)))

cause_apart : (a b : Bool) → cond a (Ok false) (cond b (Ok true) (Err BadCause)) ≡ Err UnknownType → ⊥
cause_apart true b e = cc
cause_apart false true e = cc
cause_apart false false e = cc

never_cause : Never UnknownType rp_cause
unfolding rp_cause
never_cause = never_chain _ _ _ (never_by _ Short has_diagnostic (λ o e. cause_apart _ _ e)) (λ more. never_chain _ _ _ (λ f o h. h) (λ cause. never_chain _ _ _ (never_part UnknownType more (octet Short) (λ f o h. h)) (λ added. λ f o h. h)))

never_body : (k : RpKind) (side : Side) → Never UnknownType (rp_body k side)
unfolding rp_body rp_error
never_body kind.Data side = never_data side
never_body kind.Ack side = never_tagged UnknownType user_data_tag user_data never_user
never_body kind.Error side = never_chain _ _ _ never_cause (λ reason. never_tagged UnknownType user_data_tag user_data never_user)

pub tells_unknown_types : TellsUnknownTypes
unfolding rp_message
tells_unknown_types = record {
  unknown = λ octets place h. starts_as Short UnknownType rp_type _ octets place (λ e. cc) (λ named. never_chain _ _ _ (λ f o h. h) (λ reference. never_body named.kind named.side)) h;
  bad = λ octets place why are n h. (unread _ Short octets place why are h, no_other Short UnknownType why rp_type _ octets place n h);
  unread = λ octets s. starts_apart Short UnknownType rp_type _ octets s;
}

-- ---- the reference

pub reference_is : ReferenceIsSecond
unfolding rp_message
reference_is m first second rest used r =
    let b = r.read in
    let d = b.of_second in
    let back : b.back ≡ d.choice ∷ d.back = d.parts ∙ ap (λ (l : List ℕ). l ++ d.back) d.of_first in
    let whole : r.octets ≡ b.of_first.0 ∷ (d.choice ∷ d.back) = b.parts ∙ (ap (λ (l : List ℕ). l ++ b.back) b.of_first.1 ∙ ap (λ (l : List ℕ). b.of_first.0 ∷ l) back) in
    let e : first ∷ second ∷ rest ≡ b.of_first.0 ∷ (d.choice ∷ (d.back ++ r.rest)) = r.parts ∙ ap (λ (l : List ℕ). l ++ r.rest) whole in
    let is : m.reference ≡ d.choice = ap (λ (v : RpValue). v.reference) d.of_second.2 in
    cc
