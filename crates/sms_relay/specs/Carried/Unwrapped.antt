-- What is found in a CP message (3GPP TS 24.011, 7.2 and 7.3).
use Rattle.std.specs.Prelude.{◌≡◌, ℕ, Bool, List, Option, Some, None, Result, MatchResult}
use Rattle.sms_field.specs.Reading.{Reads, IsRefused}
use Rattle.sms_field.specs.declared.refusal.Fault.{Fault}
use Rattle.sms_field.specs.declared.refusal.Refusal.{Refusal}
use Rattle.sms_field.specs.declared.refusal.Refusal.TheVariants.{Memory, At}
use Rattle.sms_relay.specs.Cp.Value.{CpValue}
use Rattle.sms_relay.specs.Rp.Value.{RpValue}
use Rattle.sms_relay.specs.Rp.{rp_message, rp_octets}
use Rattle.sms_relay.specs.Carried.{Carried, in_transaction, relay_of, Carries}
use Rattle.sms_relay.specs.Carried.InnerSeen.{seen_inner}
use Rattle.sms_relay.specs.declared.cp.CpBody.{CpBody}
use Rattle.sms_relay.specs.declared.cp.CpBody.TheVariants as cp
use Rattle.sms_relay.specs.declared.inner.Inner.{Inner}
use Rattle.sms_relay.specs.declared.inner.Inner.TheVariants.{Empty, Relay, Bad}
use Rattle.sms_relay.specs.declared.inner.InnerView.{InnerView}
use Rattle.sms_relay.specs.declared.fault.RelayFault.{RelayFault}
use Rattle.sms_relay.specs.declared.fault.RelayFault.TheVariants.{Short}

-- the octets of a CP-DATA are read as an RP message, or refused at a place in them
abbrev pub IsReadAs : List ℕ → Inner → Type 0
IsReadAs octets Empty = ⊥
IsReadAs octets (Relay message) = (used : ℕ) × Reads rp_message message octets used
IsReadAs octets (Bad place why) =
    IsRefused rp_message Short octets (At place why)

-- CP-ACK and CP-ERROR hold nothing
abbrev pub Holds : CpBody → Inner → Type 0
Holds (cp.Transfer octets) inner = IsReadAs octets inner
Holds cp.Ack inner = inner ≡ Empty
Holds (cp.Fail cause) inner = inner ≡ Empty

-- what a packet that carries this is unwrapped to
abbrev pub IsUnwrapped : Bool → ℕ → Option RpValue → CpValue → Inner → Type 0
IsUnwrapped flag value None outer inner =
    (outer ≡ in_transaction flag value cp.Ack) × (inner ≡ Empty)
IsUnwrapped flag value (Some message) outer inner =
    (outer ≡ in_transaction flag value (cp.Transfer (rp_octets message))) × (inner ≡ Relay message)

-- a packet that carries a message is unwrapped to it, or memory is wanted
abbrev pub UnwrapsCarried : List ℕ → Result (CpValue × Inner) (Refusal RelayFault) → Type 0
UnwrapsCarried packet result =
    (flag : Bool) (value : ℕ) (message : Carried) → Carries flag value message packet
    → MatchResult result (λ x. IsUnwrapped flag value (relay_of message) x.0 x.1) (λ e. e ≡ Memory)

-- a packet that carries a message is seen as it
abbrev pub SeesCarried : List ℕ → Result (CpValue × InnerView) (Fault RelayFault) → Type 0
SeesCarried packet result =
    (flag : Bool) (value : ℕ) (message : Carried) → Carries flag value message packet
    → MatchResult result
    (λ x. IsUnwrapped flag value (relay_of message) x.0 (seen_inner x.1)) (λ _. ⊥)
