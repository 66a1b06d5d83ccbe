-- What a packet that carries a message is read as.
use Rattle.std.proofs.Common.{◌≡◌, ℕ, Bool, List, length, Option, Some, None, refl, ap, subst, ◌∙◌}
use Rattle.sms_field.specs.Reading.{Reads}
use Rattle.sms_field.specs.declared.refusal.Refusal.{Refusal}
use Rattle.sms_field.specs.declared.refusal.Refusal.TheVariants.{Memory, At}
use Rattle.sms_field.specs.Inside.RefusalLaws.{only_memory}
use Rattle.sms_field.specs.Inside.ReadingLaws.{one_reading}
use Rattle.sms_relay.specs.Cp.Value.{CpValue}
use Rattle.sms_relay.specs.Cp.{cp_message, SpellsCp}
use Rattle.sms_relay.specs.Inside.CpLaws.{cp_laws}
use Rattle.sms_relay.specs.Rp.Value.{RpValue}
use Rattle.sms_relay.specs.Rp.{rp_message, SpellsRp}
use Rattle.sms_relay.specs.Inside.RpLaws.{rp_laws}
use Rattle.sms_relay.specs.Carried.{in_transaction, CarriesRelay}
use Rattle.sms_relay.specs.Inside.CarriedLaws.{read_alone, packet_read}
use Rattle.sms_relay.specs.Carried.Unwrapped.{IsReadAs, Holds, IsUnwrapped}
use Rattle.sms_relay.specs.declared.cp.CpBody.TheVariants as cp
use Rattle.sms_relay.specs.declared.inner.Inner.{Inner}
use Rattle.sms_relay.specs.declared.inner.Inner.TheVariants.{Empty, Relay, Bad}
use Rattle.sms_relay.specs.declared.fault.RelayFault.{RelayFault}
use Rattle.sms_relay.specs.declared.fault.RelayFault.TheVariants.{Short}

record SpellsSome (packet : List ℕ) : Type 0 where
  outer : CpValue
  spelled : SpellsCp outer packet

spells_some : (flag : Bool) (value : ℕ) (m : Option RpValue) (packet : List ℕ) → CarriesRelay flag value m packet → SpellsSome packet
spells_some flag value None packet p = record { outer = in_transaction flag value cp.Ack; spelled = p }
spells_some flag value (Some m) packet p = record { outer = in_transaction flag value (cp.Transfer p.0); spelled = p.2 }

-- what carries a message is read as a CP message
pub carrier_read : (flag : Bool) (value : ℕ) (m : Option RpValue) (packet : List ℕ) → CarriesRelay flag value m packet → (outer : CpValue) × Reads cp_message outer packet (length packet)
carrier_read flag value m packet p =
    let s = spells_some flag value m packet p in
    (s.outer, packet_read s.outer packet s.spelled)

outer_is : (c outer : CpValue) (packet : List ℕ) (used : ℕ) → SpellsCp c packet → Reads cp_message outer packet used → outer ≡ c
outer_is c outer packet used s r = (one_reading cp_message Short cp_laws.lawful c outer packet (length packet) used (cp_laws.octets c packet s) (packet_read c packet s) r).0

inner_is : (m : RpValue) (octets : List ℕ) (inner : Inner) → SpellsRp m octets → IsReadAs octets inner → inner ≡ Relay m
inner_is m octets Empty s h = absurd h
inner_is m octets (Relay n) s h = ap Relay (one_reading rp_message Short rp_laws.lawful m n octets (length octets) h.0 (rp_laws.octets m octets s) (read_alone m octets s) h.1).0
inner_is m octets (Bad place why) s h =
    let refusal : Refusal RelayFault = At place why in
    let e : refusal ≡ Memory = only_memory rp_message Short octets octets m (length octets) (rp_laws.octets m octets s) refl (read_alone m octets s) (At place why) h in
    absurd cc

pub unwrapped : (flag : Bool) (value : ℕ) (m : Option RpValue) (packet : List ℕ) (outer : CpValue) (used : ℕ) (inner : Inner) → CarriesRelay flag value m packet → Reads cp_message outer packet used → Holds outer.body inner → IsUnwrapped flag value m outer inner
unwrapped flag value None packet outer used inner p r h =
    let e = outer_is (in_transaction flag value cp.Ack) outer packet used p r in
    (e, subst (λ (c : CpValue). Holds c.body inner) e h)
unwrapped flag value (Some m) packet outer used inner p r h =
    let e = outer_is (in_transaction flag value (cp.Transfer p.0)) outer packet used p.2 r in
    let held : IsReadAs p.0 inner = subst (λ (c : CpValue). Holds c.body inner) e h in
    (e ∙ ap (λ (l : List ℕ). in_transaction flag value (cp.Transfer l)) p.1.1, inner_is m p.0 inner p.1 held)
