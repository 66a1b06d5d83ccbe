-- Where the parts of messages of the relay and of the connection lie.
use Rattle.std.proofs.Common.{◌≡◌, ℕ, suc, ◌+◌, ◌-◌, true, false, List, [], ◌∷◌, ◌++◌, length, drop, Option, Some, None, is_some, refl, sym, ap, subst, ◌∙◌, append_assoc, arith, length-append}
use Rattle.std.proofs.lemmas.List.{append-nil, drop_at}
use Rattle.sms_field.specs.Field.{Field, IsSelfContained}
use Rattle.sms_field.specs.Reading.Lies.{LiesAt, TakesOctets}
use Rattle.sms_field.specs.Inside.Lies.{lies_at, part_at}
use Rattle.sms_field.specs.Reading.{Reads}
use Rattle.sms_field.specs.RelayAddress.{relay_address}
use Rattle.sms_field.specs.Inside.RelayAddressLaws.{relay_address_self}
use Rattle.sms_field.specs.RelayAddress.Value.{RelayAddressValue}
use Rattle.sms_field.specs.declared.span.Span.{Span}
use Rattle.sms_tpdu.specs.Inside.DataSpansLaws.{EndsWith, after}
use Rattle.sms_relay.specs.Cp.{cp_body, cp_message}
use Rattle.sms_relay.specs.Cp.Value.{CpValue}
use Rattle.sms_relay.specs.Rp.{rp_data, rp_error, rp_body, rp_message}
use Rattle.sms_relay.specs.Rp.UserData.{user_data, optional_user_data}
use Rattle.sms_relay.specs.Rp.Value.{RpValue}
use Rattle.sms_relay.specs.declared.cp.CpBody.{CpBody}
use Rattle.sms_relay.specs.declared.cp_kind.CpKind.{CpKind}
use Rattle.sms_relay.specs.declared.cp_kind.CpKind.TheVariants as ck
use Rattle.sms_relay.specs.declared.rp.RpBody.{RpBody}
use Rattle.sms_relay.specs.declared.rp_kind.RpKind.{RpKind}
use Rattle.sms_relay.specs.declared.rp_kind.RpKind.TheVariants as rk
use Rattle.sms_relay.specs.declared.side.Side.{Side}
use Rattle.sms_relay.specs.declared.side.Side.TheVariants.{FromPhone, ToPhone}
use Rattle.sms_c.specs.Parts.{octets_at, no_span}
use Rattle.sms_c.specs.SeenRelay.{LieLast, last_span, cp_user, rp_user, rp_address, before_address, AddressLies}
use Rattle.sms_c.specs.declared.parts.Span.{Span as Seen}

-- ---- user data at the end

abbrev UserEnd : Option (List ℕ) → List ℕ → Type 0
UserEnd None octets = Unit {0}
UserEnd (Some user) octets = EndsWith octets user

after_user : (user : Option (List ℕ)) (front back octets : List ℕ) → octets ≡ front ++ back → UserEnd user back → UserEnd user octets
after_user None front back octets parts e = tt
after_user (Some user) front back octets parts e = after front back octets user parts e

-- nothing stands after it
at_end : (user : Option (List ℕ)) (front back octets : List ℕ) → octets ≡ front ++ back → back ≡ [] → UserEnd user front → UserEnd user octets
at_end user front back octets parts none e =
    let whole : octets ≡ front = parts ∙ ap (λ (l : List ℕ). front ++ l) none ∙ append-nil front in
    subst (λ (l : List ℕ). UserEnd user l) (sym whole) e

user_lies : (user : Option (List ℕ)) (octets rest input : List ℕ) (used : ℕ) → input ≡ octets ++ rest → used ≡ length octets → UserEnd user octets → LieLast user input used (last_span used user)
user_lies None octets rest input used parts is e = refl
user_lies (Some user) octets rest input used parts is e =
    let span : Seen = record { offset = used - length user; length = length user } in
    let whole : input ≡ e.0 ++ (user ++ rest) = parts ∙ ap (λ (l : List ℕ). l ++ rest) e.1 ∙ append_assoc e.0 user rest in
    let sum : used ≡ length e.0 + length user = omega (arith, is, ap length e.1, length-append e.0 user) in
    (ap (λ (l : List ℕ). octets_at l span) whole ∙ part_at e.0 user rest (record { offset = used - length user; length = length user }) (omega (arith, sum)) refl, omega (arith, sum))

-- ---- messages of the connection

cp_end : (kind : CpKind) (content : CpBody) (octets rest : List ℕ) → (cp_body kind).reads content octets rest → UserEnd (cp_user content) octets
unfolding cp_body
cp_end ck.Data content octets rest r =
    let h = r.of_second in
    let last : UserEnd (Some h.choice) h.front = ([], h.of_first.0) in
    let e : UserEnd (Some h.choice) octets = after_user (Some h.choice) r.front r.back octets r.parts (at_end (Some h.choice) h.front h.back r.back h.parts h.of_second.1 last) in
    subst (λ (b : CpBody). UserEnd (cp_user b) octets) (sym h.of_second.0) e
cp_end ck.Ack content octets rest r = subst (λ (b : CpBody). UserEnd (cp_user b) octets) (sym r.0) tt
cp_end ck.Error content octets rest r = subst (λ (b : CpBody). UserEnd (cp_user b) octets) (sym r.of_second.0) tt

pub cp_user_lies : (m : CpValue) (input : List ℕ) (used : ℕ) → Reads cp_message m input used → LieLast (cp_user m.body) input used (last_span used (cp_user m.body))
unfolding cp_message
cp_user_lies m input used r =
    let o = r.read in
    let p = o.of_second in
    let q = p.of_second in
    let mine : UserEnd (cp_user q.choice) p.back = at_end (cp_user q.choice) q.front q.back p.back q.parts q.of_second.1 (cp_end p.choice q.choice q.front (q.back ++ r.rest) q.of_first) in
    let last : UserEnd (cp_user m.body) p.back = subst (λ (b : CpBody). UserEnd (cp_user b) p.back) (sym (ap (λ (y : CpValue). y.body) q.of_second.0)) mine in
    user_lies (cp_user m.body) r.octets r.rest input used r.parts r.used_is (after_user (cp_user m.body) o.front o.back r.octets o.parts (after_user (cp_user m.body) p.front p.back o.back p.parts last))

-- ---- messages of the relay

user_end : (user octets rest : List ℕ) → user_data.reads user octets rest → EndsWith octets user
unfolding user_data
user_end user octets rest r = after r.front r.back octets user r.parts ([], r.of_second.0)

optional_user_end : (user : Option (List ℕ)) (octets rest : List ℕ) → optional_user_data.reads user octets rest → UserEnd user octets
optional_user_end None octets rest r = tt
optional_user_end (Some user) octets rest r = after (65 ∷ []) r.0 octets user r.1 (user_end user r.0 rest r.2)

data_end : (side : Side) (content : RpBody) (octets rest : List ℕ) → (rp_data side).reads content octets rest → UserEnd (rp_user content) octets
unfolding rp_data
data_end FromPhone content octets rest r =
    let p = r.of_second in
    let q = p.of_second in
    let last : UserEnd (Some q.choice) p.back = at_end (Some q.choice) q.front q.back p.back q.parts q.of_second.1 (user_end q.choice q.front (q.back ++ rest) q.of_first) in
    subst (λ (b : RpBody). UserEnd (rp_user b) octets) (sym q.of_second.0)
    (after_user (Some q.choice) r.front r.back octets r.parts (after_user (Some q.choice) p.front p.back r.back p.parts last))
data_end ToPhone content octets rest r =
    let p = r.of_second in
    let q = p.of_second in
    let last : UserEnd (Some q.choice) p.back = at_end (Some q.choice) q.front q.back p.back q.parts q.of_second.1 (user_end q.choice q.front (q.back ++ rest) q.of_first) in
    subst (λ (b : RpBody). UserEnd (rp_user b) octets) (sym q.of_second.0)
    (after_user (Some q.choice) r.front r.back octets r.parts (after_user (Some q.choice) p.front p.back r.back p.parts last))

body_end : (kind : RpKind) (side : Side) (content : RpBody) (octets rest : List ℕ) → (rp_body kind side).reads content octets rest → UserEnd (rp_user content) octets
unfolding rp_body rp_error
body_end rk.Data side content octets rest r = data_end side content octets rest r
body_end rk.Ack side content octets rest r = subst (λ (b : RpBody). UserEnd (rp_user b) octets) (sym r.2) (optional_user_end r.0 octets rest r.1)
body_end rk.Error side content octets rest r =
    let m = r.of_second in
    subst (λ (b : RpBody). UserEnd (rp_user b) octets) (sym m.2)
    (after_user m.0 r.front r.back octets r.parts (optional_user_end m.0 r.back rest m.1))

pub rp_user_lies : (m : RpValue) (input : List ℕ) (used : ℕ) → Reads rp_message m input used → LieLast (rp_user m.body) input used (last_span used (rp_user m.body))
unfolding rp_message
rp_user_lies m input used r =
    let o = r.read in
    let p = o.of_second in
    let w = p.of_second in
    let last : UserEnd (rp_user m.body) p.back = subst (λ (b : RpBody). UserEnd (rp_user b) p.back) (sym (ap (λ (y : RpValue). y.body) w.2)) (body_end o.choice.kind o.choice.side w.0 p.back r.rest w.1) in
    user_lies (rp_user m.body) r.octets r.rest input used r.parts r.used_is (after_user (rp_user m.body) o.front o.back r.octets o.parts (after_user (rp_user m.body) p.front p.back o.back p.parts last))

-- ---- the address

record IsAddressed (address : RelayAddressValue) (skipped : ℕ) (octets : List ℕ) : Type 0 where
  front : List ℕ
  part : List ℕ
  back : List ℕ
  rest : List ℕ
  parts : octets ≡ front ++ (part ++ back)
  size : length front ≡ skipped
  read : relay_address.reads (Some address) part rest

abbrev AddressIn : ℕ → Option RelayAddressValue → List ℕ → Type 0
AddressIn skipped None octets = Unit {0}
AddressIn skipped (Some address) octets = IsAddressed address skipped octets

-- RP-Originator Address of a phone has one octet
abbrev skipped_of : Side → ℕ
skipped_of FromPhone = 1
skipped_of ToPhone = 0

addressed : (address : Option RelayAddressValue) (skipped : ℕ) (front part back octets rest : List ℕ) → octets ≡ front ++ (part ++ back) → length front ≡ skipped → relay_address.reads address part rest → AddressIn skipped address octets
addressed None skipped front part back octets rest parts size read = tt
addressed (Some address) skipped front part back octets rest parts size read = record { front = front; part = part; back = back; rest = rest; parts = parts; size = size; read = read }

data_addressed : (side : Side) (content : RpBody) (octets rest : List ℕ) → (rp_data side).reads content octets rest → AddressIn (skipped_of side) (rp_address content) octets
unfolding rp_data
data_addressed FromPhone content octets rest r =
    let p = r.of_second in
    let q = p.of_second in
    subst (λ (b : RpBody). AddressIn 1 (rp_address b) octets) (sym q.of_second.0)
    (addressed p.choice 1 r.front p.front p.back octets (p.back ++ rest) (r.parts ∙ ap (λ (l : List ℕ). r.front ++ l) p.parts) (ap length r.of_first.1) p.of_first)
data_addressed ToPhone content octets rest r =
    let p = r.of_second in
    let q = p.of_second in
    subst (λ (b : RpBody). AddressIn 0 (rp_address b) octets) (sym q.of_second.0)
    (addressed r.choice 0 [] r.front r.back octets (r.back ++ rest) r.parts refl r.of_first)

body_addressed : (kind : RpKind) (side : Side) (content : RpBody) (octets rest : List ℕ) → (rp_body kind side).reads content octets rest → AddressIn (skipped_of side) (rp_address content) octets
unfolding rp_body rp_error
body_addressed rk.Data side content octets rest r = data_addressed side content octets rest r
body_addressed rk.Ack side content octets rest r = subst (λ (b : RpBody). AddressIn (skipped_of side) (rp_address b) octets) (sym r.2) tt
body_addressed rk.Error side content octets rest r = subst (λ (b : RpBody). AddressIn (skipped_of side) (rp_address b) octets) (sym r.of_second.2) tt

-- what is read after a front, and how much it takes
field_lies : {V W : Type 0} (field : Field V W) (value : V) (front part back input : List ℕ) (span : Span) → IsSelfContained field → input ≡ front ++ (part ++ back) → field.reads value part back → span.offset ≡ length front → TakesOctets field (drop (length front) input) span.length → LiesAt field value input span
field_lies field value front part back input span self whole read at takes =
    let left : drop (length front) input ≡ part ++ back = ap (drop (length front)) whole ∙ drop_at front (part ++ back) (length front) refl in
    let size : span.length ≡ length part = takes value (length part) (record { octets = part; rest = back; parts = left; used_is = refl; read = read }) in
    subst (λ (l : List ℕ). LiesAt field value l span) (sym whole) (lies_at field value front part back back span self read at size)

both_before : (side : Side) (n : ℕ) → n ≡ skipped_of side → suc (suc n) ≡ before_address side
both_before FromPhone n is = ap (λ (k : ℕ). suc (suc k)) is
both_before ToPhone n is = ap (λ (k : ℕ). suc (suc k)) is

lies : (side : Side) (address : Option RelayAddressValue) (kind reference : ℕ) (octets rest input : List ℕ) (span : Seen) → input ≡ kind ∷ reference ∷ (octets ++ rest) → AddressIn (skipped_of side) address octets
    → (is_some address ≡ false → span ≡ no_span) → (is_some address ≡ true → span.offset ≡ before_address side) → (is_some address ≡ true → TakesOctets relay_address (drop (before_address side) input) span.length) → AddressLies side address input span
lies side None kind reference octets rest input span is h none begins takes = none refl
lies side (Some address) kind reference octets rest input span is h none begins takes =
    let front : List ℕ = kind ∷ reference ∷ h.front in
    let whole : input ≡ front ++ (h.part ++ (h.back ++ rest)) = is ∙ ap (λ (l : List ℕ). kind ∷ reference ∷ (l ++ rest)) h.parts ∙ ap (λ (l : List ℕ). kind ∷ reference ∷ l) (append_assoc h.front (h.part ++ h.back) rest) ∙ ap (λ (l : List ℕ). front ++ l) (append_assoc h.part h.back rest) in
    let count : length front ≡ before_address side = both_before side (length h.front) h.size in
    let size : TakesOctets relay_address (drop (length front) input) span.length = subst (λ (n : ℕ). TakesOctets relay_address (drop n input) span.length) (sym count) (takes refl) in
    (begins refl, field_lies relay_address (Some address) front h.part (h.back ++ rest) input (record { offset = span.offset; length = span.length }) relay_address_self whole (relay_address_self (Some address) h.part h.rest (h.back ++ rest) h.read) (begins refl ∙ sym count) size)

pub rp_address_lies : (m : RpValue) (input : List ℕ) (used : ℕ) (span : Seen) → Reads rp_message m input used → (is_some (rp_address m.body) ≡ false → span ≡ no_span) → (is_some (rp_address m.body) ≡ true → span.offset ≡ before_address m.side) → (is_some (rp_address m.body) ≡ true → TakesOctets relay_address (drop (before_address m.side) input) span.length) → AddressLies m.side (rp_address m.body) input span
unfolding rp_message
rp_address_lies m input used span r =
    let o = r.read in
    let p = o.of_second in
    let w = p.of_second in
    let whole : input ≡ o.of_first.0 ∷ p.choice ∷ (p.back ++ r.rest) = rw (r.parts, o.parts, o.of_first.1, p.parts, p.of_first) refl in
    let there : AddressIn (skipped_of o.choice.side) (rp_address w.0) p.back = body_addressed o.choice.kind o.choice.side w.0 p.back r.rest w.1 in
    let mine : AddressIn (skipped_of m.side) (rp_address m.body) p.back = subst (λ (y : RpValue). AddressIn (skipped_of y.side) (rp_address y.body) p.back) (sym w.2) there in
    lies m.side (rp_address m.body) o.of_first.0 p.choice p.back r.rest input span whole mine
