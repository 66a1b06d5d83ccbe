-- A packet that is written with its length last.
use Rattle.std.proofs.Common.{◌≡◌, ℕ, ◌+◌, ◌-◌, ◌<◌, ◌≤◌, Bool, List, [], ◌∷◌, ◌++◌, length, Option, Some, refl, ap, ◌∙◌, length-append, append_assoc, arith}
use Rattle.std.proofs.Math.Seq.{set-append_seam}
use Rattle.std.specs.Prelude.{slice_set, Result, Ok, Err, IfOk}
use Rattle.sms_text.specs.Octets.{IsOctets}
use Rattle.sms_field.specs.RelayAddress.Value.{RelayAddressValue, HasOptionalSpelling}
use Rattle.sms_field.specs.RelayAddress.{optional_address_octets}
use Rattle.sms_relay.specs.Rp.Value.{RpValue, IsRpMessage}
use Rattle.sms_relay.specs.Rp.UserData.{IsUserData, user_octets}
use Rattle.sms_relay.specs.Rp.{SpellsRp, rp_data_octets, rp_octets}
use Rattle.sms_relay.specs.Cp.Kind.{kind_octet}
use Rattle.sms_relay.specs.Transaction.{transaction_octet}
use Rattle.sms_relay.specs.Carried.{Carries, CarriesRelay, transfer}
use Rattle.sms_relay.specs.Inside.Opened.{opened, closed_octets, transfer_front}
use Rattle.sms_relay.specs.declared.side.Side.{Side}
use Rattle.sms_relay.specs.declared.side.Side.TheVariants.{FromPhone, ToPhone}
use Rattle.sms_relay.specs.declared.cp_kind.CpKind.TheVariants as kind
use Rattle.sms_relay.specs.declared.rp_kind.RpKind.TheVariants as relay
use Rattle.sms_relay.specs.Rp.Kind.{type_octet}
use Rattle.sms_relay.specs.declared.rp.RpBody.TheVariants as rp
use Rattle.sms_relay.specs.Inside.RpLaws.{rp_laws}
use Rattle.sms_relay.proofs.Sizes.{address_size, message_size}

-- ---- closed

framed : (message : RpValue) (flag : Bool) (value : ℕ) (whole packet : List ℕ) → value < 7 → IsRpMessage message
    → whole ≡ opened flag value (rp_octets message) → packet ≡ closed_octets whole → CarriesRelay flag value (Some message) packet
framed message flag value whole packet low fits is_whole is_packet =
    let octets = rp_octets message in
    let spelled : SpellsRp message octets = (fits, refl) in
    let front = opened flag value octets in
    let size : length front - 3 ≡ length octets = omega arith in (
      octets,
      spelled,
      (
        record { value = low; body = (message_size message octets fits refl, rp_laws.octets message octets spelled) },
        is_packet
            ∙ (ap closed_octets is_whole
            ∙ ap (λ (n : ℕ). transaction_octet (record { flag = flag; value = value }) ∷ kind_octet kind.Data ∷ n ∷ octets) size),
      ),
    )

-- ---- transfers

data_whole : (side : Side) (address user : List ℕ) → rp_data_octets side address [] ++ user ≡ rp_data_octets side address user
data_whole FromPhone address user = simp append_assoc
data_whole ToPhone address user = append_assoc address (0 ∷ []) user

pub transfer_carried : (flag : Bool) (value : ℕ) (side : Side) (reference : ℕ) (address : Option RelayAddressValue) (user front packet : List ℕ) → value < 7 → reference < 256
    → HasOptionalSpelling address → IsUserData user → front ≡ opened flag value (transfer_front side reference address) → packet ≡ closed_octets (front ++ user_octets user)
    → Carries flag value (transfer side reference address user) packet
transfer_carried flag value side reference address user front packet low small fits few is_front is_packet =
    framed (record { side = side; reference = reference; body = rp.Transfer address user }) flag value (front ++ user_octets user) packet low (record { reference = small; body = (fits, few) })
    (ap (λ (l : List ℕ). l ++ user_octets user) is_front ∙ ap (λ (l : List ℕ). opened flag value (type_octet (record { kind = relay.Data; side = side }) ∷ reference ∷ l)) (data_whole side (optional_address_octets address) (user_octets user)))
    is_packet

addresses_few : (side : Side) (address : List ℕ) → length address ≤ 12 → length (rp_data_octets side address []) ≤ 13
addresses_few FromPhone address few = omega (arith, length-append address [])
addresses_few ToPhone address few = omega (arith, length-append address (0 ∷ []))

pub begun_few : (flag : Bool) (value type reference : ℕ) (side : Side) (address : Option RelayAddressValue) (front whole : List ℕ) → HasOptionalSpelling address
    → front ≡ opened flag value (type ∷ reference ∷ []) → whole ≡ front ++ rp_data_octets side (optional_address_octets address) [] → length whole < 19
begun_few flag value type reference side address front whole fits is_front is_whole =
    let addresses = rp_data_octets side (optional_address_octets address) [] in
    omega (arith, ap length is_whole, ap length is_front, length-append front addresses, addresses_few side (optional_address_octets address) (address_size address fits))

-- ---- user data whose length is put before them

pub record IsClosed (front octets whole : List ℕ) : Type 0 where
  pub few : IsUserData octets
  pub is : whole ≡ front ++ user_octets octets

pub user_closed : (front octets whole closed : List ℕ) (place : ℕ) → IsOctets octets → place ≡ length front → whole ≡ front ++ 0 ∷ octets → length whole - (place + 1) ≤ 233
    → closed ≡ slice_set whole place (length whole - (place + 1)) → IsClosed front octets closed
user_closed front octets whole closed place are is_place is_whole few is_closed =
    let count : length whole - (place + 1) ≡ length octets = omega (arith, is_place, ap length is_whole, length-append front (0 ∷ octets)) in
    record {
      few = (omega (arith, few, count), are);
      is = is_closed
          ∙ (ap (λ (n : ℕ). slice_set whole n (length whole - (place + 1))) is_place
          ∙ (ap (λ (n : ℕ). slice_set whole (length front) n) count
          ∙ (ap (λ (l : List ℕ). slice_set l (length front) (length octets)) is_whole ∙ set-append_seam front 0 octets (length octets))));
    }

-- ---- of an answer

pub over_ok : {T E : Type 0} (P Q : T → Type 0) → ((x : T) → P x → Q x) → (r : Result T E) → IfOk r P → IfOk r Q
over_ok P Q f (Ok x) p = f x p
over_ok P Q f (Err e) p = p
