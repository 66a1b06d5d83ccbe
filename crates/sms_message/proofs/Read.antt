-- What the octets of a CP-DATA are read as.
use Rattle.std.proofs.Common.{◌≡◌, ℕ, List, ◌∷◌, Result, Ok, Err, subst}
use Rattle.std.specs.Prelude.{IfOk}
use Rattle.sms_text.specs.Octets.{IsOctets}
use Rattle.sms_field.specs.Reading.{Reads}
use Rattle.sms_relay.specs.Inside.TypeLaws.{reference_is}
use Rattle.sms_relay.specs.Rp.Value.{RpValue}
use Rattle.sms_relay.specs.Rp.{rp_message}
use Rattle.sms_relay.specs.Carried.Unwrapped.{IsReadAs}
use Rattle.sms_relay.specs.declared.inner.Inner.{Inner}
use Rattle.sms_relay.specs.declared.inner.Inner.TheVariants as inners
use Rattle.sms_message.specs.declared.message.Relay.{Relay}
use Rattle.sms_message.specs.declared.outcome.Dropped.{Dropped}
use Rattle.sms_message.specs.Message.Reading.{ReadsRelay}

pub relay_read : (r : Result Relay Dropped) (m : RpValue) (inner : Inner) → inner ≡ inners.Relay m
    → IfOk r (λ relay. (octets : List ℕ) (used : ℕ) → Reads rp_message m octets used → ReadsRelay octets m.reference relay)
    → IfOk r (λ relay. (first second : ℕ) (rest : List ℕ) → IsOctets (first ∷ second ∷ rest) → IsReadAs (first ∷ second ∷ rest) inner → ReadsRelay (first ∷ second ∷ rest) second relay)
relay_read (Err e) m inner is h = tt
relay_read (Ok relay) m inner is h = λ first second rest fits read.
    let p = subst (λ (i : Inner). IsReadAs (first ∷ second ∷ rest) i) is read in
    subst (λ (n : ℕ). ReadsRelay (first ∷ second ∷ rest) n relay) (reference_is m first second rest p.0 p.1) (h (first ∷ second ∷ rest) p.0 p.1)
