-- What octets are at a glance is what the message is as which they are read.
use Rattle.std.proofs.Common.{◌≡◌, ℕ, ◌<◌, ◌≤◌, get_or, Bool, List, [], ◌∷◌, length, Some, None, refl, sym, ap, ◌∙◌, subst, arith}
use Rattle.sms_text.specs.Octets.{IsOctets}
use Rattle.sms_field.specs.Field.{HasReading}
use Rattle.sms_field.specs.Reading.{Reads}
use Rattle.sms_field.specs.Inside.ReadableLaws.{reading_of, unread}
use Rattle.sms_relay.specs.Cp.{cp_message}
use Rattle.sms_relay.specs.Cp.Value.{CpValue}
use Rattle.sms_relay.specs.Rp.{rp_message}
use Rattle.sms_relay.specs.Rp.Value.{RpValue}
use Rattle.sms_relay.specs.Carried.{in_transaction}
use Rattle.sms_relay.specs.Cp.Seen.{seen_cp_body}
use Rattle.sms_relay.specs.declared.cp.view.CpBodyView.{CpBodyView}
use Rattle.sms_relay.specs.declared.cp.view.CpBodyView.TheVariants as seen
use Rattle.sms_relay.specs.Carried.Unwrapped.{IsReadAs, Holds}
use Rattle.sms_relay.specs.declared.cp.CpBody.{CpBody}
use Rattle.sms_relay.specs.declared.cp.CpBody.TheVariants as cp
use Rattle.sms_relay.specs.declared.inner.Inner.{Inner}
use Rattle.sms_relay.specs.declared.inner.Inner.TheVariants as inner
use Rattle.sms_relay.specs.declared.fault.RelayFault.TheVariants as fault
use Rattle.sms_message.specs.declared.glance.Glance.{Glance}
use Rattle.sms_message.specs.declared.glance.Glance.TheVariants as glance
use Rattle.sms_message.specs.declared.glance.RelayGlance.{RelayGlance}
use Rattle.sms_message.specs.declared.message.Relay.{Relay}
use Rattle.sms_message.specs.declared.message.Relay.TheVariants.{Transfer, Answer, UnknownType, Unreadable}
use Rattle.sms_message.specs.declared.message.Message.{Message}
use Rattle.sms_message.specs.declared.message.Message.TheVariants.{NotCp, Note, Tiny, Data}
use Rattle.sms_message.specs.declared.message.Tag.{Tag}
use Rattle.sms_message.specs.Message.Glance.{relay_glance, glance_of, body_glance, glance_in}
use Rattle.sms_message.specs.Message.Reading.{ReadsAs, ReadsRelay, IsSecond, IsNote}
use Rattle.sms_message.proofs.OneMessage.{one_rp, one_cp, rp_apart, tag_same}

-- ---- what is found in a CP-DATA

relay_seen : (octets : List ℕ) (reference : ℕ) (r : Relay) (found : Inner) → IsOctets octets → ReadsRelay octets reference r → IsReadAs octets found → relay_glance r ≡ glance_in found
relay_seen octets reference r inner.Empty are h k = absurd k
relay_seen octets reference (Transfer side unit) (inner.Relay v) are h k =
    sym (ap (λ (m : RpValue). body_glance m.side m.body) (one_rp octets _ v h.used k.0 are h.relay k.1))
relay_seen octets reference (Answer side None report) (inner.Relay v) are h k =
    sym (ap (λ (m : RpValue). body_glance m.side m.body) (one_rp octets _ v h.used k.0 are h.relay k.1))
relay_seen octets reference (Answer side (Some cause) report) (inner.Relay v) are h k =
    sym (ap (λ (m : RpValue). body_glance m.side m.body) (one_rp octets _ v h.used k.0 are h.relay k.1))
relay_seen octets reference UnknownType (inner.Relay v) are h k = absurd (rp_apart octets h (reading_of _ _ v k.0 k.1))
relay_seen octets reference Unreadable (inner.Relay v) are h k = absurd (h.0 (reading_of _ _ v k.0 k.1))
relay_seen octets reference (Transfer side unit) (inner.Bad place why) are h k =
    absurd (unread rp_message fault.Short octets place why are k (reading_of _ _ _ h.used h.relay))
relay_seen octets reference (Answer side cause report) (inner.Bad place why) are h k =
    absurd (unread rp_message fault.Short octets place why are k (reading_of _ _ _ h.used h.relay))
relay_seen octets reference UnknownType (inner.Bad place why) are h k = refl
relay_seen octets reference Unreadable (inner.Bad place why) are h k = refl

-- ---- a CP message

abbrev pub glance_by_octets : Bool → ℕ → List ℕ → Inner → Glance
glance_by_octets flag value [] found = glance.Tiny flag value
glance_by_octets flag value (first ∷ []) found = glance.Tiny flag value
glance_by_octets flag value (first ∷ second ∷ rest) found =
    glance.Data flag (record { value = value; reference = second }) (glance_in found)

abbrev pub glance_by : Bool → ℕ → CpBody → Inner → Glance
glance_by flag value (cp.Transfer octets) found = glance_by_octets flag value octets found
glance_by flag value cp.Ack found = glance.Note flag value
glance_by flag value (cp.Fail cause) found = glance.Note flag value

note_seen : (flag : Bool) (value : ℕ) (body : CpBody) (found : Inner) → IsNote body → glance.Note flag value ≡ glance_by flag value body found
note_seen flag value (cp.Transfer octets) found h = absurd h
note_seen flag value cp.Ack found h = refl
note_seen flag value (cp.Fail cause) found h = refl

tiny_seen : (flag : Bool) (value : ℕ) (octets : List ℕ) (found : Inner) → length octets < 2 → glance.Tiny flag value ≡ glance_by_octets flag value octets found
tiny_seen flag value [] found h = refl
tiny_seen flag value (first ∷ []) found h = refl
tiny_seen flag value (first ∷ second ∷ rest) found h = absurd (omega arith)

data_seen : (flag : Bool) (tag : Tag) (r : Relay) (octets : List ℕ) (found : Inner) → IsOctets octets → IsSecond tag.reference octets → ReadsRelay octets tag.reference r → IsReadAs octets found
    → glance.Data flag tag (relay_glance r) ≡ glance_by_octets flag tag.value octets found
data_seen flag tag r [] found are s h k = absurd s
data_seen flag tag r (first ∷ []) found are s h k = absurd s
data_seen flag tag r (first ∷ second ∷ rest) found are s h k =
    let seen : relay_glance r ≡ glance_in found = relay_seen (first ∷ second ∷ rest) tag.reference r found are h k in
    let same : tag ≡ record { value = tag.value; reference = second } = tag_same (record { value = tag.value; reference = second }) tag refl s in
    ap (λ (t : Tag). glance.Data flag t (relay_glance r)) same ∙ ap (λ (g : RelayGlance). glance.Data flag (record { value = tag.value; reference = second }) g) seen

pub message_seen : (packet : List ℕ) (x : CpValue) (used : ℕ) (found : Inner) (m : Message) → IsOctets packet → Reads cp_message x packet used → Holds x.body found → ReadsAs packet m
    → glance_of m ≡ glance_by x.flag x.value x.body found
message_seen packet x used found NotCp are r h k = absurd (k (reading_of _ _ x used r))
message_seen packet x used found (Note flag value) are r h k =
    let e : x ≡ in_transaction flag value k.0 = one_cp packet (in_transaction flag value k.0) x k.1 used are k.3 r in
    subst (λ (y : CpValue). glance.Note flag value ≡ glance_by y.flag y.value y.body found) (sym e) (note_seen flag value k.0 found k.2)
message_seen packet x used found (Tiny flag value) are r h k =
    let e : x ≡ in_transaction flag value (cp.Transfer k.0) = one_cp packet (in_transaction flag value (cp.Transfer k.0)) x k.1.used used are k.1.connection r in
    subst (λ (y : CpValue). glance.Tiny flag value ≡ glance_by y.flag y.value y.body found) (sym e) (tiny_seen flag value k.0 found k.2)
message_seen packet x used found (Data flag tag relay) are r h k =
    let e : x ≡ in_transaction flag tag.value (cp.Transfer k.0) = one_cp packet (in_transaction flag tag.value (cp.Transfer k.0)) x k.1.used used are k.1.connection r in
    let held : IsReadAs k.0 found = subst (λ (y : CpValue). Holds y.body found) e h in
    subst (λ (y : CpValue). glance.Data flag tag (relay_glance relay) ≡ glance_by y.flag y.value y.body found) (sym e) (data_seen flag tag relay k.0 found k.1.are_octets k.2 k.3 held)

pub none_seen : (packet : List ℕ) (m : Message) → (¬ HasReading cp_message packet) → ReadsAs packet m → glance_of m ≡ glance.NotCp
none_seen packet NotCp n k = refl
none_seen packet (Note flag value) n k = absurd (n (reading_of _ _ _ k.1 k.3))
none_seen packet (Tiny flag value) n k = absurd (n (reading_of _ _ _ k.1.used k.1.connection))
none_seen packet (Data flag tag relay) n k = absurd (n (reading_of _ _ _ k.1.used k.1.connection))

-- ---- as the views are

pub seen_by : (packet : List ℕ) (x : CpValue) (flag : Bool) (value : ℕ) (body : CpBody) (found : Inner) (m : Message) → IsOctets packet → in_transaction flag value body ≡ x → ((used : ℕ) × Reads cp_message x packet used) → Holds x.body found
    → ReadsAs packet m → glance_of m ≡ glance_by flag value body found
seen_by packet x flag value body found m are v r h k = subst (λ (y : CpValue). glance_of m ≡ glance_by y.flag y.value y.body found) (sym v) (message_seen packet x r.0 found m are r.1 h k)

pub note_by : (flag : Bool) (value : ℕ) (body : CpBodyView) (found : Inner) → ((user : _) → body ≡ seen.Transfer user → ⊥) → glance_by flag value (seen_cp_body body) found ≡ glance.Note flag value
note_by flag value (seen.Transfer user) found n = absurd (n user refl)
note_by flag value seen.Ack found n = refl
note_by flag value (seen.Fail cause) found n = refl

pub tiny_by : (flag : Bool) (value : ℕ) (octets : List ℕ) (found : Inner) → length octets < 2 → glance_by_octets flag value octets found ≡ glance.Tiny flag value
tiny_by flag value octets found h = sym (tiny_seen flag value octets found h)

pub data_by : (flag : Bool) (value : ℕ) (octets : List ℕ) (found : Inner) (r : RelayGlance) → 2 ≤ length octets → r ≡ glance_in found
    → glance_by_octets flag value octets found ≡ glance.Data flag (record { value = value; reference = get_or octets 1 0 }) r
data_by flag value [] found r h e = absurd (omega arith)
data_by flag value (first ∷ []) found r h e = absurd (omega arith)
data_by flag value (first ∷ second ∷ rest) found r h e = ap (λ (g : RelayGlance). glance.Data flag (record { value = value; reference = second }) g) (sym e)
