-- A reader may pass this by: lemmas, for the proofs of this crate and of those above it.
--
-- A packet carries at most one message.
use Rattle.std.proofs.Common.{◌≡◌, ℕ, Bool, List, [], length, Option, Some, None, refl, sym, ap, subst}
use Rattle.std.proofs.lemmas.List.{append-nil}
use Rattle.sms_field.specs.Field.{Field}
use Rattle.sms_field.specs.Reading.{Reads}
use Rattle.sms_field.specs.Inside.ReadingLaws.{one_reading}
use Rattle.sms_relay.specs.Cp.Value.{CpValue}
use Rattle.sms_relay.specs.Cp.{cp_message, SpellsCp}
use Rattle.sms_relay.specs.Inside.CpLaws.{cp_laws}
use Rattle.sms_relay.specs.Rp.Value.{RpValue}
use Rattle.sms_relay.specs.Rp.{rp_message, SpellsRp, LacksUserData, MayFollowBody, MayFollow}
use Rattle.sms_relay.specs.Inside.RpLaws.{rp_laws}
use Rattle.sms_relay.specs.Carried.{Carried, acknowledgement, transfer, answer, relay_of, CarriesRelay, Carries}
use Rattle.sms_relay.specs.declared.cp.CpBody.TheVariants as cp
use Rattle.sms_relay.specs.declared.rp.RpBody.{RpBody}
use Rattle.sms_relay.specs.declared.rp.RpBody.TheVariants as rp
use Rattle.sms_relay.specs.declared.fault.RelayFault.TheVariants.{Short}

nothing_lacks : (user : Option (List ℕ)) → LacksUserData user []
nothing_lacks None = tt
nothing_lacks (Some user) = tt

nothing_follows_body : (b : RpBody) → MayFollowBody b []
nothing_follows_body (rp.Transfer address user) = tt
nothing_follows_body (rp.Ack user) = nothing_lacks user
nothing_follows_body (rp.Fail cause added user) = nothing_lacks user

-- at the end of the octets every RP message is read back
pub nothing_follows : (m : RpValue) → MayFollow m []
nothing_follows m = nothing_follows_body m.body

alone : {V W : Type 0} (field : Field V W) (v : V) (octets : List ℕ) → field.reads v octets [] → Reads field v octets (length octets)
alone field v octets read = record { octets = octets; rest = []; parts = sym (append-nil octets); used_is = refl; read = read }

pub read_alone : (m : RpValue) (octets : List ℕ) → SpellsRp m octets → Reads rp_message m octets (length octets)
read_alone m octets s = alone rp_message m octets (rp_laws.again m octets [] s (nothing_follows m))

pub packet_read : (m : CpValue) (octets : List ℕ) → SpellsCp m octets → Reads cp_message m octets (length octets)
packet_read m octets s = alone cp_message m octets (cp_laws.again m octets [] s tt)

one_relay : (m n : RpValue) (octets : List ℕ) → SpellsRp m octets → SpellsRp n octets → n ≡ m
one_relay m n octets s t = (one_reading rp_message Short rp_laws.lawful m n octets (length octets) (length octets) (rp_laws.octets m octets s) (read_alone m octets s) (read_alone n octets t)).0

one_connection : (m n : CpValue) (octets : List ℕ) → SpellsCp m octets → SpellsCp n octets → n ≡ m
one_connection m n octets s t = (one_reading cp_message Short cp_laws.lawful m n octets (length octets) (length octets) (cp_laws.octets m octets s) (packet_read m octets s) (packet_read n octets t)).0

record IsSame (flag other : Bool) (value number : ℕ) (m n : Option RpValue) : Type 0 where
  flags : other ≡ flag
  values : number ≡ value
  messages : n ≡ m

same_relay : (flag other : Bool) (value number : ℕ) (m n : Option RpValue) (packet : List ℕ) → CarriesRelay flag value m packet → CarriesRelay other number n packet → IsSame flag other value number m n
same_relay flag other value number None None packet p q =
    let e = one_connection _ _ packet p q in
    record { flags = ap (λ (c : CpValue). c.flag) e; values = ap (λ (c : CpValue). c.value) e; messages = refl }
same_relay flag other value number None (Some n) packet p q =
    let e = ap (λ (c : CpValue). c.body) (one_connection _ _ packet p q.2) in
    absurd (let f : cp.Transfer q.0 ≡ cp.Ack = e in cc)
same_relay flag other value number (Some m) None packet p q =
    let e = ap (λ (c : CpValue). c.body) (one_connection _ _ packet p.2 q) in
    absurd (let f : cp.Ack ≡ cp.Transfer p.0 = e in cc)
same_relay flag other value number (Some m) (Some n) packet p q =
    let e = one_connection _ _ packet p.2 q.2 in
    let f : cp.Transfer q.0 ≡ cp.Transfer p.0 = ap (λ (c : CpValue). c.body) e in
    let octets : q.0 ≡ p.0 = cc in
    record {
      flags = ap (λ (c : CpValue). c.flag) e;
      values = ap (λ (c : CpValue). c.value) e;
      messages = ap {B = Option RpValue} Some (one_relay m n p.0 p.1 (subst (SpellsRp n) octets q.1));
    }

-- what is carried is told by its RP message
inside : (m n : RpValue) → Some n ≡ Some m → n ≡ m
inside m n e = cc

same_carried : (m n : Carried) → relay_of n ≡ relay_of m → n ≡ m
same_carried acknowledgement acknowledgement e = refl
same_carried acknowledgement (transfer s r a u) e = absurd cc
same_carried acknowledgement (answer s r None u) e = absurd cc
same_carried acknowledgement (answer s r (Some c) u) e = absurd cc
same_carried (transfer s r a u) acknowledgement e = absurd cc
same_carried (transfer s r a u) (transfer s2 r2 a2 u2) e =
    let one = inside _ _ e in
    let b : rp.Transfer a2 u2 ≡ rp.Transfer a u = ap (λ (x : RpValue). x.body) one in
    let side : s2 ≡ s = ap (λ (x : RpValue). x.side) one in
    let reference : r2 ≡ r = ap (λ (x : RpValue). x.reference) one in
    cc
same_carried (transfer s r a u) (answer s2 r2 None u2) e =
    let one = inside _ _ e in
    let b : rp.Ack u2 ≡ rp.Transfer a u = ap (λ (x : RpValue). x.body) one in
    absurd cc
same_carried (transfer s r a u) (answer s2 r2 (Some c2) u2) e =
    let one = inside _ _ e in
    let b : rp.Fail c2 None u2 ≡ rp.Transfer a u = ap (λ (x : RpValue). x.body) one in
    absurd cc
same_carried (answer s r None u) acknowledgement e = absurd cc
same_carried (answer s r None u) (transfer s2 r2 a2 u2) e =
    let one = inside _ _ e in
    let b : rp.Transfer a2 u2 ≡ rp.Ack u = ap (λ (x : RpValue). x.body) one in
    absurd cc
same_carried (answer s r None u) (answer s2 r2 None u2) e =
    let one = inside _ _ e in
    let b : rp.Ack u2 ≡ rp.Ack u = ap (λ (x : RpValue). x.body) one in
    let side : s2 ≡ s = ap (λ (x : RpValue). x.side) one in
    let reference : r2 ≡ r = ap (λ (x : RpValue). x.reference) one in
    cc
same_carried (answer s r None u) (answer s2 r2 (Some c2) u2) e =
    let one = inside _ _ e in
    let b : rp.Fail c2 None u2 ≡ rp.Ack u = ap (λ (x : RpValue). x.body) one in
    absurd cc
same_carried (answer s r (Some c) u) acknowledgement e = absurd cc
same_carried (answer s r (Some c) u) (transfer s2 r2 a2 u2) e =
    let one = inside _ _ e in
    let b : rp.Transfer a2 u2 ≡ rp.Fail c None u = ap (λ (x : RpValue). x.body) one in
    absurd cc
same_carried (answer s r (Some c) u) (answer s2 r2 None u2) e =
    let one = inside _ _ e in
    let b : rp.Ack u2 ≡ rp.Fail c None u = ap (λ (x : RpValue). x.body) one in
    absurd cc
same_carried (answer s r (Some c) u) (answer s2 r2 (Some c2) u2) e =
    let one = inside _ _ e in
    let b : rp.Fail c2 None u2 ≡ rp.Fail c None u = ap (λ (x : RpValue). x.body) one in
    let side : s2 ≡ s = ap (λ (x : RpValue). x.side) one in
    let reference : r2 ≡ r = ap (λ (x : RpValue). x.reference) one in
    cc

pub one_message : (flag other : Bool) (value number : ℕ) (m n : Carried) (packet : List ℕ) → Carries flag value m packet → Carries other number n packet → (other ≡ flag) × (number ≡ value) × (n ≡ m)
one_message flag other value number m n packet p q =
    let h = same_relay flag other value number (relay_of m) (relay_of n) packet p q in
    (h.flags, h.values, same_carried m n h.messages)
