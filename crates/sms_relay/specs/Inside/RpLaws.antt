-- A reader may pass this by: lemmas, for the proofs of this crate and of those above it.
--
-- An RP message is a lawful field, and what is written is read back.
use Rattle.std.proofs.Common.{◌≡◌, ℕ, ◌%◌, ◌<◌, ◌≤◌, ◌==◌, Bool, true, false, cond, leb, List, [], ◌∷◌, ◌++◌, length, Option, Some, None, Ok, Err, refl, sym, ap, subst, lit<, arith}
use Rattle.std.proofs.lemmas.Bool.{le-leb}
use Rattle.sms_text.specs.Octets.{IsOctets}
use Rattle.sms_field.specs.Bit.{bit}
use Rattle.sms_field.specs.Field.{octet, octet_by, map_reason, up_to, IsLawful, IsSelfContained}
use Rattle.sms_field.specs.Inside.OptionalLaws.{part_if_self, part_if_lawful, tagged_lawful}
use Rattle.sms_field.specs.Inside.OctetLists.{octets-append}
use Rattle.sms_field.specs.Inside.ChainReading.{chained, ended}
use Rattle.sms_field.specs.Inside.ChainLaws.{chain_lawful, chain_self_contained}
use Rattle.sms_field.specs.Inside.SingleLaws.{always_self, always_lawful, octet_self, octet_lawful, octet_by_self, octet_by_lawful, octets_of_self, octets_of_lawful, map_reason_lawful, apart_else}
use Rattle.sms_field.specs.RelayAddress.Value.{RelayAddressValue, HasOptionalSpelling}
use Rattle.sms_field.specs.RelayAddress.{relay_address, optional_address_octets}
use Rattle.sms_field.specs.Inside.RelayAddressLaws.{relay_address_self, relay_address_lawful, relay_address_again, relay_address_are_octets}
use Rattle.sms_field.specs.declared.fault.FieldFault.TheVariants as fields
use Rattle.sms_tpdu.specs.UnitLaws.{AreUnitLaws, laws_by}
use Rattle.sms_relay.specs.Fault.{relay_fault}
use Rattle.sms_relay.specs.Inside.FaultLaws.{fault_apart}
use Rattle.sms_field.specs.Inside.MappedLaws.{mapped_lawful}
use Rattle.sms_relay.specs.Rp.Kind.{type_of_bits, rp_type, type_octet}
use Rattle.sms_relay.specs.Rp.UserData.{user_data, optional_user_data, user_data_tag, user_octets, optional_user_octets, IsUserData, IsOptionalUserData, SpellsUserData, SpellsOptionalUserData}
use Rattle.sms_relay.specs.Rp.Cause.{has_diagnostic, rp_cause, cause_octets, IsCause, SpellsCause}
use Rattle.sms_relay.specs.Rp.Value.{RpValue, IsRpBody, IsRpMessage}
use Rattle.sms_relay.specs.Rp.{rp_data, rp_error, rp_body, rp_message, kind_of, rp_data_octets, rp_body_octets, rp_octets, SpellsRp, LacksUserData, MayFollowBody, MayFollow}
use Rattle.sms_relay.specs.declared.side.Side.{Side}
use Rattle.sms_relay.specs.declared.side.Side.TheVariants.{FromPhone, ToPhone}
use Rattle.sms_relay.specs.declared.rp.RpBody.{RpBody}
use Rattle.sms_relay.specs.declared.rp.RpBody.TheVariants as body
use Rattle.sms_relay.specs.declared.rp_kind.RpKind.{RpKind}
use Rattle.sms_relay.specs.declared.rp_kind.RpKind.TheVariants as kind
use Rattle.sms_relay.specs.declared.rp_kind.RpType.{RpType}
use Rattle.sms_relay.specs.declared.fault.RelayFault.{RelayFault}
use Rattle.sms_relay.specs.declared.fault.RelayFault.TheVariants.{Short, BadAddress, BadCause, DataTooLong}

-- ---- user data

user_data_self : IsSelfContained user_data
unfolding user_data
user_data_self = chain_self_contained _ _ (octet_by_self Short (up_to 233 DataTooLong)) (λ count. octets_of_self Short count)

user_data_lawful : IsLawful Short user_data
unfolding user_data
user_data_lawful =
    chain_lawful _ _ Short (octet_by_self Short (up_to 233 DataTooLong)) (octet_by_lawful Short (up_to 233 DataTooLong) (0, lit< tt, 0, refl) (λ o. apart_else Short (leb o 233) o DataTooLong (λ e. cc))) (λ count _ _ _.
    octets_of_lawful Short count)

optional_lawful : IsLawful Short optional_user_data
optional_lawful = tagged_lawful Short user_data_tag (lit< tt) user_data user_data_lawful

few_octets : (n : ℕ) → n ≤ 233 → up_to 233 DataTooLong n ≡ Ok n
few_octets n h = rw (le-leb n 233 h) refl

user_data_again : (user rest : List ℕ) → IsUserData user → user_data.reads user (user_octets user) rest
unfolding user_data
user_data_again user rest fits = chained _ _ (length user) user (length user ∷ []) user rest (length user, refl, few_octets (length user) fits.0) (refl, refl)

optional_again : (user : Option (List ℕ)) (rest : List ℕ) → IsOptionalUserData user → LacksUserData user rest → optional_user_data.reads user (optional_user_octets user) rest
optional_again None rest fits follows = (refl, follows)
optional_again (Some user) rest fits follows = (user_octets user, refl, user_data_again user rest fits)

user_are_octets : (user : List ℕ) → IsUserData user → IsOctets (user_octets user)
user_are_octets user fits = (omega (arith, fits.0), fits.1)

optional_are_octets : (user : Option (List ℕ)) → IsOptionalUserData user → IsOctets (optional_user_octets user)
optional_are_octets None fits = tt
optional_are_octets (Some user) fits = (lit< tt, user_are_octets user fits)

-- ---- the cause

cause_apart_by : (a b : Bool) → cond a (Ok false) (cond b (Ok true) (Err BadCause)) ≡ Err Short → ⊥
cause_apart_by true b e = cc
cause_apart_by false true e = cc
cause_apart_by false false e = cc

cause_apart : (o : ℕ) → has_diagnostic o ≡ Err Short → ⊥
cause_apart o e = cause_apart_by (o == 1) (o == 2) e

cause_self : IsSelfContained rp_cause
unfolding rp_cause
cause_self =
    chain_self_contained _ _ (octet_by_self Short has_diagnostic) (λ more.
    chain_self_contained _ _ (octet_self Short) (λ cause.
    chain_self_contained _ _ (part_if_self more (octet Short) (octet_self Short)) (λ added. always_self RelayFault _)))

cause_lawful : IsLawful Short rp_cause
unfolding rp_cause
cause_lawful =
    chain_lawful _ _ Short (octet_by_self Short has_diagnostic) (octet_by_lawful Short has_diagnostic (1, lit< tt, _, refl) cause_apart) (λ more _ _ _.
    chain_lawful _ _ Short (octet_self Short) (octet_lawful Short) (λ cause _ _ _.
    chain_lawful _ _ Short (part_if_self more (octet Short) (octet_self Short)) (part_if_lawful Short more (octet Short) (octet_self Short) (octet_lawful Short)) (λ added _ _ _. always_lawful Short _)))

cause_is : (cause : ℕ) → cause < 128 → cause ≡ cause % 128
cause_is cause fits = omega arith

cause_again : (cause : ℕ) (added : Option ℕ) (rest : List ℕ) → IsCause cause added → rp_cause.reads (cause, added) (cause_octets cause added) rest
unfolding rp_cause
cause_again cause None rest fits =
    let value : ℕ × Option ℕ = (cause, None) in
    chained _ _ false value (1 ∷ []) (cause ∷ []) rest (1, refl, refl) (
    ended _ _ cause value (cause ∷ []) rest refl (
    ended _ _ None value [] rest (refl, refl)
    (ap (λ (n : ℕ). let p : ℕ × Option ℕ = (n, None) in p) (cause_is cause fits.0), refl)))
cause_again cause (Some added) rest fits =
    let value : ℕ × Option ℕ = (cause, Some added) in
    chained _ _ true value (2 ∷ []) (cause ∷ added ∷ []) rest (2, refl, refl) (
    chained _ _ cause value (cause ∷ []) (added ∷ []) rest refl (
    ended _ _ (Some added) value (added ∷ []) rest (ended _ _ added (Some added) (added ∷ []) rest refl (refl, refl))
    (ap (λ (n : ℕ). let p : ℕ × Option ℕ = (n, Some added) in p) (cause_is cause fits.0), refl)))

cause_are_octets : (cause : ℕ) (added : Option ℕ) → IsCause cause added → IsOctets (cause_octets cause added)
cause_are_octets cause None fits = (lit< tt, (omega (arith, fits.0), tt))
cause_are_octets cause (Some added) fits = (lit< tt, (omega (arith, fits.0), (fits.1, tt)))

-- ---- the message

type_apart_by : (a b c : Bool) → type_of_bits a b c ≡ Err Short → ⊥
type_apart_by false false false e = cc
type_apart_by false false true e = cc
type_apart_by false true false e = cc
type_apart_by false true true e = cc
type_apart_by true false false e = cc
type_apart_by true false true e = cc
type_apart_by true true c e = cc

type_apart : (o : ℕ) → rp_type o ≡ Err Short → ⊥
type_apart o e = type_apart_by (bit 2 o) (bit 1 o) (bit 0 o) e

absent_lawful : IsLawful Short (octet_by Short (up_to 0 BadAddress))
absent_lawful = octet_by_lawful Short (up_to 0 BadAddress) (0, lit< tt, 0, refl) (λ o. apart_else Short (leb o 0) o BadAddress (λ e. cc))

address_lawful : IsLawful Short (map_reason relay_fault relay_address)
address_lawful = map_reason_lawful fields.Short relay_fault fault_apart relay_address relay_address_lawful

rp_data_lawful : (side : Side) → IsLawful Short (rp_data side)
unfolding rp_data
rp_data_lawful FromPhone =
    chain_lawful _ _ Short (octet_by_self Short (up_to 0 BadAddress)) absent_lawful (λ originator _ _ _.
    chain_lawful _ _ Short relay_address_self address_lawful (λ destination _ _ _.
    chain_lawful _ _ Short user_data_self user_data_lawful (λ user _ _ _.
    always_lawful Short _)))
rp_data_lawful ToPhone =
    chain_lawful _ _ Short relay_address_self address_lawful (λ originator _ _ _.
    chain_lawful _ _ Short (octet_by_self Short (up_to 0 BadAddress)) absent_lawful (λ destination _ _ _.
    chain_lawful _ _ Short user_data_self user_data_lawful (λ user _ _ _.
    always_lawful Short _)))

rp_error_lawful : IsLawful Short rp_error
unfolding rp_error
rp_error_lawful = chain_lawful _ _ Short cause_self cause_lawful (λ reason _ _ _. mapped_lawful Short _ optional_user_data optional_lawful)

rp_body_lawful : (k : RpKind) (side : Side) → IsLawful Short (rp_body k side)
unfolding rp_body
rp_body_lawful kind.Data side = rp_data_lawful side
rp_body_lawful kind.Ack side = mapped_lawful Short _ optional_user_data optional_lawful
rp_body_lawful kind.Error side = rp_error_lawful

rp_lawful : IsLawful Short rp_message
unfolding rp_message
rp_lawful =
    chain_lawful _ _ Short (octet_by_self Short rp_type) (octet_by_lawful Short rp_type (0, lit< tt, _, refl) type_apart) (λ named _ _ _.
    chain_lawful _ _ Short (octet_self Short) (octet_lawful Short) (λ reference _ _ _.
    mapped_lawful Short _ (rp_body named.kind named.side) (rp_body_lawful named.kind named.side)))

-- ---- what is written

record IsTypeOctet (t : RpType) (octet : ℕ) : Type 0 where
  again : rp_type octet ≡ Ok t
  small : octet < 256

type_again : (k : RpKind) (side : Side) → let t : RpType = record { kind = k; side = side } in IsTypeOctet t (type_octet t)
type_again kind.Data FromPhone = record { again = refl; small = lit< tt }
type_again kind.Data ToPhone = record { again = refl; small = lit< tt }
type_again kind.Ack FromPhone = record { again = refl; small = lit< tt }
type_again kind.Ack ToPhone = record { again = refl; small = lit< tt }
type_again kind.Error FromPhone = record { again = refl; small = lit< tt }
type_again kind.Error ToPhone = record { again = refl; small = lit< tt }

data_again : (side : Side) (address : Option RelayAddressValue) (user rest : List ℕ) → HasOptionalSpelling address → IsUserData user → (rp_data side).reads (body.Transfer address user) (rp_data_octets side (optional_address_octets address) (user_octets user)) rest
unfolding rp_data
data_again FromPhone address user rest fits few =
    chained _ _ 0 (body.Transfer address user) (0 ∷ []) _ rest (0, refl, refl) (
    chained _ _ address (body.Transfer address user) (optional_address_octets address) _ rest (relay_address_again address _ fits) (
    ended _ _ user (body.Transfer address user) (user_octets user) rest (user_data_again user rest few)
    (refl, refl)))
data_again ToPhone address user rest fits few =
    chained _ _ address (body.Transfer address user) (optional_address_octets address) _ rest (relay_address_again address _ fits) (
    chained _ _ 0 (body.Transfer address user) (0 ∷ []) _ rest (0, refl, refl) (
    ended _ _ user (body.Transfer address user) (user_octets user) rest (user_data_again user rest few)
    (refl, refl)))

error_again : (cause : ℕ) (added : Option ℕ) (user : Option (List ℕ)) (rest : List ℕ) → IsCause cause added → IsOptionalUserData user → LacksUserData user rest → rp_error.reads (body.Fail cause added user) (cause_octets cause added ++ optional_user_octets user) rest
unfolding rp_error
error_again cause added user rest fits few follows = chained _ _ (cause, added) (body.Fail cause added user) (cause_octets cause added) _ rest (cause_again cause added _ fits) (user, optional_again user rest few follows, refl)

rp_body_again : (side : Side) (b : RpBody) (rest : List ℕ) → IsRpBody b → MayFollowBody b rest → (rp_body (kind_of b) side).reads b (rp_body_octets side b) rest
unfolding rp_body
rp_body_again side (body.Transfer address user) rest fits follows = data_again side address user rest fits.0 fits.1
rp_body_again side (body.Ack user) rest fits follows = (user, optional_again user rest fits follows, refl)
rp_body_again side (body.Fail cause added user) rest fits follows = error_again cause added user rest fits.0 fits.1 follows

rp_again : (m : RpValue) (rest : List ℕ) → IsRpMessage m → MayFollow m rest → rp_message.reads m (rp_octets m) rest
unfolding rp_message
rp_again m rest fits follows =
    let t : RpType = record { kind = kind_of m.body; side = m.side } in
    chained _ _ t m (type_octet t ∷ []) _ rest (type_octet t, refl, (type_again (kind_of m.body) m.side).again) (
    chained _ _ m.reference m (m.reference ∷ []) _ rest refl
    (m.body, rp_body_again m.side m.body rest fits.body follows, refl))

data_are_octets : (side : Side) (address user : List ℕ) → IsOctets address → IsOctets user → IsOctets (rp_data_octets side address user)
data_are_octets FromPhone address user fits few = (lit< tt, octets-append address user fits few)
data_are_octets ToPhone address user fits few = octets-append address (0 ∷ user) fits (lit< tt, few)

rp_body_are_octets : (side : Side) (b : RpBody) → IsRpBody b → IsOctets (rp_body_octets side b)
rp_body_are_octets side (body.Transfer address user) fits = data_are_octets side (optional_address_octets address) (user_octets user) (relay_address_are_octets address fits.0) (user_are_octets user fits.1)
rp_body_are_octets side (body.Ack user) fits = optional_are_octets user fits
rp_body_are_octets side (body.Fail cause added user) fits = octets-append (cause_octets cause added) (optional_user_octets user) (cause_are_octets cause added fits.0) (optional_are_octets user fits.1)

-- ---- as a unit

rp_are_octets : (m : RpValue) → IsRpMessage m → IsOctets (rp_octets m)
rp_are_octets m fits = ((type_again (kind_of m.body) m.side).small, (fits.reference, rp_body_are_octets m.side m.body fits.body))

pub rp_laws : AreUnitLaws Short rp_message SpellsRp MayFollow
rp_laws = record {
  lawful = rp_lawful;
  octets = λ m l s. subst IsOctets (sym s.1) (rp_are_octets m s.0);
  again = λ m l more s follows. subst (λ (k : List ℕ). rp_message.reads m k more) (sym s.1) (rp_again m more s.0 follows);
}

-- ---- its parts

pub user_data_laws : AreUnitLaws Short user_data SpellsUserData (λ _ _. Unit {0})
user_data_laws = laws_by Short user_data IsUserData user_octets user_data_lawful user_are_octets user_data_again

pub optional_user_data_laws : AreUnitLaws Short optional_user_data SpellsOptionalUserData LacksUserData
optional_user_data_laws = record {
  lawful = optional_lawful;
  octets = λ user l s. subst IsOctets (sym s.1) (optional_are_octets user s.0);
  again = λ user l more s follows. subst (λ (k : List ℕ). optional_user_data.reads user k more) (sym s.1) (optional_again user more s.0 follows);
}

pub cause_laws : AreUnitLaws Short rp_cause SpellsCause (λ _ _. Unit {0})
cause_laws =
    laws_by Short rp_cause (λ r. IsCause r.0 r.1) (λ r. cause_octets r.0 r.1) cause_lawful
    (λ r fits. cause_are_octets r.0 r.1 fits)
    (λ r rest fits. cause_again r.0 r.1 rest fits)
