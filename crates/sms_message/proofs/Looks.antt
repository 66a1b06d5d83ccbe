-- What a look at a packet finds, and the message that is read of it.
use Rattle.std.proofs.Common.{◌≡◌, ℕ, Bool, List, [], ◌∷◌, length, refl, sym, ap, ◌∙◌, subst, arith, get_or}
use Rattle.std.specs.Prelude.{◌<◌, ◌≤◌}
use Rattle.sms_text.specs.Octets.{IsOctets}
use Rattle.sms_field.specs.Reading.{Reads}
use Rattle.sms_relay.specs.Cp.Value.{CpValue, IsCpBody}
use Rattle.sms_relay.specs.Cp.{cp_message}
use Rattle.sms_relay.specs.Cp.Seen.{seen_cp_body}
use Rattle.sms_relay.specs.Carried.{in_transaction}
use Rattle.sms_relay.specs.Carried.Unwrapped.{IsReadAs, Holds}
use Rattle.sms_relay.specs.declared.cp.CpBody.{CpBody}
use Rattle.sms_relay.specs.declared.cp.CpBody.TheVariants as cp
use Rattle.sms_relay.specs.declared.cp.view.CpBodyView.{CpBodyView}
use Rattle.sms_relay.specs.declared.cp.view.CpBodyView.TheVariants as seen
use Rattle.sms_relay.specs.declared.inner.Inner.{Inner}
use Rattle.sms_message.specs.declared.message.Relay.{Relay}
use Rattle.sms_message.specs.declared.message.Tag.{Tag}
use Rattle.sms_message.specs.declared.message.Message.TheVariants.{Note, Tiny, Data}
use Rattle.sms_message.specs.declared.glance.Glance.{Glance}
use Rattle.sms_message.specs.declared.glance.Glance.TheVariants as glance
use Rattle.sms_message.specs.declared.glance.RelayGlance.{RelayGlance}
use Rattle.sms_message.specs.Message.Reading.{IsNote, IsSecond, ReadsAs, ReadsRelay}
use Rattle.sms_message.specs.Inside.Looked.{HoldsData, IsFoundAs}

-- what the body of a CP-ACK or CP-ERROR is
no_data : (body : CpBodyView) → ((user : _) → body ≡ seen.Transfer user → ⊥) → IsNote (seen_cp_body body)
no_data (seen.Transfer user) n = absurd (n user refl)
no_data seen.Ack n = tt
no_data (seen.Fail cause) n = tt

-- a CP-ACK or CP-ERROR
pub note_found : (packet : List ℕ) (connection : CpValue) (flag : Bool) (value : ℕ) (body : CpBodyView) → in_transaction flag value (seen_cp_body body) ≡ connection
    → ((user : _) → body ≡ seen.Transfer user → ⊥) → ((used : ℕ) × Reads cp_message connection packet used) → ReadsAs packet (Note flag value)
note_found packet connection flag value body v n r = (seen_cp_body body, r.0, no_data body n, subst (λ (m : CpValue). Reads cp_message m packet r.0) (sym v) r.1)

-- a CP-DATA of fewer than two octets
pub tiny_found : (packet : List ℕ) (connection : CpValue) (flag : Bool) (value : ℕ) (body : CpBody) (user slice : List ℕ)
    → in_transaction flag value body ≡ connection → body ≡ cp.Transfer user → slice ≡ user → length slice < 2 → IsCpBody body
    → ((used : ℕ) × Reads cp_message connection packet used) → ReadsAs packet (Tiny flag value)
tiny_found packet connection flag value body user slice v b s n fits r =
    let whole : connection ≡ in_transaction flag value (cp.Transfer user) = sym v ∙ ap (in_transaction flag value) b in (
      user,
      record { are_octets = (subst IsCpBody b fits).1; used = r.0; connection = subst (λ (m : CpValue). Reads cp_message m packet r.0) whole r.1 },
      subst (λ (l : List ℕ). length l < 2) s n,
    )

-- a CP-DATA of two octets or more
pub data_found : (packet : List ℕ) (connection : CpValue) (inner : Inner) (flag : Bool) (value : ℕ) (body : CpBody) (user slice : List ℕ)
    → in_transaction flag value body ≡ connection → body ≡ cp.Transfer user → slice ≡ user → 2 ≤ length slice → IsCpBody body
    → ((used : ℕ) × Reads cp_message connection packet used) → Holds connection.body inner
    → HoldsData packet flag (record { value = value; reference = get_or slice 1 0 }) inner
data_found packet connection inner flag value body user [] v b s n fits r h = absurd (omega arith)
data_found packet connection inner flag value body user (first ∷ []) v b s n fits r h = absurd (omega arith)
data_found packet connection inner flag value body user (first ∷ second ∷ rest) v b s n fits r h =
    let is : body ≡ cp.Transfer (first ∷ second ∷ rest) = b ∙ ap cp.Transfer (sym s) in
    let whole : connection ≡ in_transaction flag value (cp.Transfer (first ∷ second ∷ rest)) = sym v ∙ ap (in_transaction flag value) is in
    record {
      octets = first ∷ second ∷ rest;
      read = record { are_octets = (subst IsCpBody is fits).1; used = r.0; connection = subst (λ (m : CpValue). Reads cp_message m packet r.0) whole r.1 };
      second = refl;
      found = subst (λ (m : CpValue). Holds m.body inner) whole h;
    }

-- ---- the message

relay_found : (octets : List ℕ) (reference : ℕ) (inner : Inner) (relay : Relay) → IsOctets octets → IsSecond reference octets → IsReadAs octets inner
    → ((first second : ℕ) (rest : List ℕ) → IsOctets (first ∷ second ∷ rest) → IsReadAs (first ∷ second ∷ rest) inner → ReadsRelay (first ∷ second ∷ rest) second relay)
    → ReadsRelay octets reference relay
relay_found [] reference inner relay are s h k = absurd s
relay_found (first ∷ []) reference inner relay are s h k = absurd s
relay_found (first ∷ second ∷ rest) reference inner relay are s h k = subst (λ (n : ℕ). ReadsRelay (first ∷ second ∷ rest) n relay) (sym s) (k first second rest are h)

-- what is found in a CP-DATA is read
pub found_read : (packet octets : List ℕ) (told : Glance) (flag : Bool) (tag : Tag) (at_glance : RelayGlance) (inner : Inner) (relay : Relay)
    → packet ≡ octets → told ≡ glance.Data flag tag at_glance → IsFoundAs packet told inner
    → ((first second : ℕ) (rest : List ℕ) → IsOctets (first ∷ second ∷ rest) → IsReadAs (first ∷ second ∷ rest) inner → ReadsRelay (first ∷ second ∷ rest) second relay)
    → ReadsAs octets (Data flag tag relay)
found_read packet octets told flag tag at_glance inner relay p t h k =
    let held : HoldsData packet flag tag inner = subst (λ (g : Glance). IsFoundAs packet g inner) t h in
    subst (λ (l : List ℕ). ReadsAs l (Data flag tag relay)) p (held.octets, held.read, held.second, relay_found held.octets tag.reference inner relay held.read.are_octets held.second held.found k)
