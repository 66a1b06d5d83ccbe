-- A reader may pass this by: lemmas, for the proofs of this crate and of those above it.
--
-- What is read from octets has octets.
use Rattle.std.proofs.Common.{sym, subst}
use Rattle.sms_text.specs.Octets.{IsOctets}
use Rattle.sms_field.specs.Field.{octet, octet_by}
use Rattle.sms_field.specs.Field.Optional.{tagged}
use Rattle.sms_field.specs.Reading.Values.{Has, Any, AreOptionalOctets}
use Rattle.sms_field.specs.Inside.ReadValueLaws.{has_chain, has_any, has_octets, has_mapped, has_tagged, read_has}
use Rattle.sms_relay.specs.Transaction.{transaction}
use Rattle.sms_relay.specs.Cp.Kind.{cp_kind}
use Rattle.sms_relay.specs.Cp.Value.{CpValue}
use Rattle.sms_relay.specs.Cp.{cp_body, cp_message}
use Rattle.sms_relay.specs.Rp.Kind.{rp_type}
use Rattle.sms_relay.specs.Rp.Value.{RpValue}
use Rattle.sms_relay.specs.Rp.UserData.{user_data, user_data_tag}
use Rattle.sms_relay.specs.Rp.Cause.{rp_cause}
use Rattle.sms_relay.specs.Rp.{rp_message, rp_value, rp_data, rp_error, rp_body}
use Rattle.sms_relay.specs.ReadOctets.{HasCpOctets, HasRpOctets, CpOctetsAre, RpOctetsAre}
use Rattle.sms_relay.specs.declared.side.Side.{Side}
use Rattle.sms_relay.specs.declared.side.Side.TheVariants.{FromPhone, ToPhone}
use Rattle.sms_relay.specs.declared.cp_kind.CpKind.{CpKind}
use Rattle.sms_relay.specs.declared.cp_kind.CpKind.TheVariants as connection
use Rattle.sms_relay.specs.declared.rp.RpBody.TheVariants as rp
use Rattle.sms_relay.specs.declared.rp_kind.RpKind.{RpKind}
use Rattle.sms_relay.specs.declared.rp_kind.RpKind.TheVariants as kind
use Rattle.sms_relay.specs.declared.fault.RelayFault.TheVariants.{Short}

cp_body_has : (k : CpKind) → Has HasCpOctets (cp_body k)
unfolding cp_body
cp_body_has connection.Data = has_chain Any HasCpOctets _ _ (has_any (octet Short)) (λ count _. has_chain IsOctets HasCpOctets _ _ (has_octets Short count) (λ octets h. λ v o r are e. subst HasCpOctets (sym e.0) h))
cp_body_has connection.Ack = λ v o r are e. subst HasCpOctets (sym e.0) tt
cp_body_has connection.Error = has_chain Any HasCpOctets _ _ (has_any (octet Short)) (λ cause _. λ v o r are e. subst HasCpOctets (sym e.0) tt)

cp_has : Has (λ (m : CpValue). HasCpOctets m.body) cp_message
unfolding cp_message
cp_has = has_chain Any _ _ _ (has_any (octet_by Short transaction)) (λ named _. has_chain Any _ _ _ (has_any (octet_by Short cp_kind)) (λ k _. has_chain HasCpOctets _ _ _ (cp_body_has k) (λ content h. λ v o r are e. subst (λ (m : CpValue). HasCpOctets m.body) (sym e.0) h)))

user_has : Has IsOctets user_data
unfolding user_data
user_has = has_chain Any IsOctets _ _ (λ v o r are e. tt) (λ count _. has_octets Short count)

rp_data_has : (side : Side) → Has HasRpOctets (rp_data side)
unfolding rp_data
rp_data_has FromPhone = has_chain Any HasRpOctets _ _ (λ v o r are e. tt) (λ a _. has_chain Any HasRpOctets _ _ (λ v o r are e. tt) (λ b _. has_chain IsOctets HasRpOctets _ _ user_has (λ u h. λ v o r are e. subst HasRpOctets (sym e.0) h)))
rp_data_has ToPhone = has_chain Any HasRpOctets _ _ (λ v o r are e. tt) (λ a _. has_chain Any HasRpOctets _ _ (λ v o r are e. tt) (λ b _. has_chain IsOctets HasRpOctets _ _ user_has (λ u h. λ v o r are e. subst HasRpOctets (sym e.0) h)))

rp_body_has : (k : RpKind) (side : Side) → Has HasRpOctets (rp_body k side)
unfolding rp_body rp_error
rp_body_has kind.Data side = rp_data_has side
rp_body_has kind.Ack side = has_mapped AreOptionalOctets HasRpOctets rp.Ack (tagged user_data_tag user_data) (has_tagged user_data_tag user_data user_has) (λ v h. h)
rp_body_has kind.Error side = has_chain Any HasRpOctets _ _ (has_any rp_cause) (λ reason _. has_mapped AreOptionalOctets HasRpOctets (rp.Fail reason.0 reason.1) (tagged user_data_tag user_data) (has_tagged user_data_tag user_data user_has) (λ v h. h))

rp_has : Has (λ (m : RpValue). HasRpOctets m.body) rp_message
unfolding rp_message
rp_has = has_chain Any _ _ _ (has_any (octet_by Short rp_type)) (λ named _. has_chain Any _ _ _ (has_any (octet Short)) (λ reference _. has_mapped HasRpOctets (λ (m : RpValue). HasRpOctets m.body) (rp_value named.side reference) (rp_body named.kind named.side) (rp_body_has named.kind named.side) (λ v h. h)))

pub cp_octets_are : CpOctetsAre
cp_octets_are m input used are r = read_has (λ (m : CpValue). HasCpOctets m.body) cp_message cp_has m input used are r

pub rp_octets_are : RpOctetsAre
rp_octets_are m input used are r = read_has (λ (m : RpValue). HasRpOctets m.body) rp_message rp_has m input used are r
