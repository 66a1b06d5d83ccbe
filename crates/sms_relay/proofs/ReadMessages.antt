-- What is read of octets has a spelling: messages of the connection and of the relay.
use Rattle.std.proofs.Common.{◌≡◌, ℕ, ◌/◌, ◌%◌, ◌<◌, ◌≤◌, Bool, true, false, cond, eqb, List, length, Option, Some, None, IfSome, Ok, Err, refl, sym, subst, arith}
use Rattle.std.proofs.lemmas.Bool.{eqb-false}
use Rattle.sms_text.specs.Octets.{IsOctets}
use Rattle.sms_field.specs.Bit.{bit}
use Rattle.sms_field.specs.Field.{octet, octet_by, octets_of}
use Rattle.sms_field.specs.Field.Optional.{tagged}
use Rattle.sms_field.specs.Inside.ReadAddressLaws.{has_octet, has_up_to, has_relay_address}
use Rattle.sms_field.specs.Reading.Values.{Has, Any}
use Rattle.sms_field.specs.Inside.ReadValueLaws.{has_chain, has_mapped, has_part}
use Rattle.sms_field.specs.RelayAddress.Value.{HasOptionalSpelling}
use Rattle.sms_relay.specs.Transaction.{transaction}
use Rattle.sms_relay.specs.Cp.Value.{IsCpBody, IsCpMessage}
use Rattle.sms_relay.specs.Cp.{cp_body, cp_message}
use Rattle.sms_relay.specs.Rp.Value.{IsRpBody, IsRpMessage}
use Rattle.sms_relay.specs.Rp.UserData.{user_data, user_data_tag, IsUserData, IsOptionalUserData}
use Rattle.sms_relay.specs.Rp.Cause.{rp_cause, IsCause}
use Rattle.sms_relay.specs.Rp.{rp_message, rp_value, rp_data, rp_error, rp_body}
use Rattle.sms_relay.specs.declared.side.Side.{Side}
use Rattle.sms_relay.specs.declared.side.Side.TheVariants.{FromPhone, ToPhone}
use Rattle.sms_relay.specs.declared.cp_kind.CpKind.{CpKind}
use Rattle.sms_relay.specs.declared.cp_kind.CpKind.TheVariants as connection
use Rattle.sms_relay.specs.declared.rp.RpBody.TheVariants as rp
use Rattle.sms_relay.specs.declared.rp_kind.RpKind.{RpKind}
use Rattle.sms_relay.specs.declared.rp_kind.RpKind.TheVariants as kind
use Rattle.sms_relay.specs.declared.transaction.Transaction.{Transaction}
use Rattle.sms_relay.specs.declared.fault.RelayFault.TheVariants.{Short, NotSms, BadTransaction, DataTooLong}

-- ---- the connection

abbrev IsTransaction : Transaction → Type 0
IsTransaction t = t.value < 7

transaction_by : (octet : ℕ) (a b : Bool) (t : Transaction) → eqb (octet / 16 % 8) 7 ≡ b
    → cond a (cond b (Err BadTransaction) (Ok (record { flag = bit 7 octet; value = octet / 16 % 8 }))) (Err NotSms) ≡ Ok t → IsTransaction t
transaction_by octet true true t e f = absurd cc
transaction_by octet true false t e f =
    let other = eqb-false (octet / 16 % 8) 7 e in
    let small : octet / 16 % 8 < 7 = omega (arith, other) in
    let same : t ≡ record { flag = bit 7 octet; value = octet / 16 % 8 } = cc in
    subst IsTransaction (sym same) small
transaction_by octet false b t e f = absurd cc

has_transaction : Has IsTransaction (octet_by Short transaction)
has_transaction v octets rest are r = transaction_by r.0 (eqb (r.0 % 16) 9) (eqb (r.0 / 16 % 8) 7) v refl r.2

abbrev AreCounted : ℕ → List ℕ → Type 0
AreCounted n octets = (length octets ≡ n) × IsOctets octets

has_counted : {W : Type 0} (short : W) (n : ℕ) → Has (AreCounted n) (octets_of short n)
has_counted short n v octets rest are r = (r.1, subst IsOctets r.0 are)

has_cp_body : (k : CpKind) → Has IsCpBody (cp_body k)
unfolding cp_body
has_cp_body connection.Data =
    has_chain (λ octet. octet < 256) IsCpBody _ _ (has_octet Short) (λ count small.
    has_chain (AreCounted count) IsCpBody _ _ (has_counted Short count) (λ octets h.
    λ v others rest are r. subst IsCpBody (sym r.0) (omega (arith, small, h.0), h.1)))
has_cp_body connection.Ack = λ v octets rest are r. subst IsCpBody (sym r.0) tt
has_cp_body connection.Error = has_chain (λ octet. octet < 256) IsCpBody _ _ (has_octet Short) (λ cause small. λ v octets rest are r. subst IsCpBody (sym r.0) small)

pub has_cp : Has IsCpMessage cp_message
unfolding cp_message
has_cp =
    has_chain IsTransaction IsCpMessage _ _ has_transaction (λ named small.
    has_chain Any IsCpMessage _ _ (λ v octets rest are r. tt) (λ k _.
    has_chain IsCpBody IsCpMessage _ _ (has_cp_body k) (λ content fits.
    λ v octets rest are r. subst IsCpMessage (sym r.0) (record { value = small; body = fits }))))

-- ---- the relay

has_user : Has IsUserData user_data
unfolding user_data
has_user = has_chain (λ count. count ≤ 233) IsUserData _ _ (has_up_to Short 233 DataTooLong) (λ count few. λ v octets rest are r. (subst (λ (n : ℕ). n ≤ 233) (sym r.1) few, subst IsOctets r.0 are))

optional_by : (o : Option (List ℕ)) (octets rest : List ℕ) → IsOctets octets → (tagged user_data_tag user_data).reads o octets rest → IsOptionalUserData o
optional_by None octets rest are r = tt
optional_by (Some v) octets rest are r = has_user v r.0 rest (subst IsOctets r.1 are).1 r.2

has_optional : Has IsOptionalUserData (tagged user_data_tag user_data)
has_optional = optional_by

has_data : (side : Side) → Has IsRpBody (rp_data side)
unfolding rp_data
has_data FromPhone =
    has_chain Any IsRpBody _ _ (λ v octets rest are r. tt) (λ originator _.
    has_chain HasOptionalSpelling IsRpBody _ _ has_relay_address (λ destination spelled.
    has_chain IsUserData IsRpBody _ _ has_user (λ user fits. λ v octets rest are r. subst IsRpBody (sym r.0) (spelled, fits))))
has_data ToPhone =
    has_chain HasOptionalSpelling IsRpBody _ _ has_relay_address (λ originator spelled.
    has_chain Any IsRpBody _ _ (λ v octets rest are r. tt) (λ destination _.
    has_chain IsUserData IsRpBody _ _ has_user (λ user fits. λ v octets rest are r. subst IsRpBody (sym r.0) (spelled, fits))))

abbrev IsReason : ℕ × Option ℕ → Type 0
IsReason reason = IsCause reason.0 reason.1

has_cause : Has IsReason rp_cause
unfolding rp_cause
has_cause =
    has_chain Any IsReason _ _ (λ v octets rest are r. tt) (λ more _.
    has_chain Any IsReason _ _ (λ v octets rest are r. tt) (λ cause _.
    has_chain (λ (added : Option ℕ). IfSome added (λ octet. octet < 256)) IsReason _ _ (has_part (λ octet. octet < 256) more (octet Short) (has_octet Short)) (λ added h. λ v octets rest are r. subst IsReason (sym r.0) (omega arith, h))))

has_body : (k : RpKind) (side : Side) → Has IsRpBody (rp_body k side)
unfolding rp_body rp_error
has_body kind.Data side = has_data side
has_body kind.Ack side = has_mapped IsOptionalUserData IsRpBody rp.Ack (tagged user_data_tag user_data) has_optional (λ v h. h)
has_body kind.Error side = has_chain IsReason IsRpBody _ _ has_cause (λ reason h. has_mapped IsOptionalUserData IsRpBody (rp.Fail reason.0 reason.1) (tagged user_data_tag user_data) has_optional (λ v k. (h, k)))

pub has_rp : Has IsRpMessage rp_message
unfolding rp_message
has_rp =
    has_chain Any IsRpMessage _ _ (λ v octets rest are r. tt) (λ named _.
    has_chain (λ octet. octet < 256) IsRpMessage _ _ (has_octet Short) (λ reference small.
    has_mapped IsRpBody IsRpMessage (rp_value named.side reference) (rp_body named.kind named.side) (has_body named.kind named.side) (λ v h. record { reference = small; body = h })))
