use Rattle.std.proofs.Common.{◌∷◌, ap, subst}
use Rattle.sms_field.specs.Reading.{IsRefused}
use Rattle.sms_field.specs.declared.refusal.Refusal.TheVariants.{At}
use Rattle.sms_relay.specs.Rp.{rp_message}
use Rattle.sms_relay.specs.Carried.Unwrapped.{IsReadAs}
use Rattle.sms_relay.specs.Carried.InnerSeen.{seen_inner}
use Rattle.sms_relay.specs.declared.inner.InnerView.{InnerView}
use Rattle.sms_relay.specs.declared.fault.RelayFault.{RelayFault}
use Rattle.sms_relay.specs.declared.fault.RelayFault.TheVariants.{Short}
use Rattle.sms_relay.specs.Inside.TypeLaws.{tells_unknown_types}
use Rattle.sms_message.proofs.Read.{relay_read}
use Rattle.sms_message.proofs.reading.relay_in.Goals as goal

pub returns-in-Relay-clause-read : goal.returns-in-Relay-clause-read
returns-in-Relay-clause-read c = relay_read c.relay_of.result c.in-Relay.message (seen_inner c.args.inner.now) (ap seen_inner c.in-Relay.is) c.relay_of.ensures.read

pub returns-in-UnknownType-clause-read : goal.returns-in-UnknownType-clause-read
returns-in-UnknownType-clause-read c = λ first second rest fits h.
    tells_unknown_types.unknown (first ∷ second ∷ rest) c.in-Bad.place
    (subst (λ (w : RelayFault). IsRefused rp_message Short (first ∷ second ∷ rest) (At c.in-Bad.place w)) c.in-UnknownType.is (subst (λ (i : InnerView). IsReadAs (first ∷ second ∷ rest) (seen_inner i)) c.in-Bad.is h))

pub returns-in_default : goal.returns-in_default
returns-in_default c =
    record {
      read = λ first second rest fits h. tells_unknown_types.bad (first ∷ second ∷ rest) c.in-Bad.place c.in-Bad.why fits c.in_default.not-UnknownType (subst (λ (i : InnerView). IsReadAs (first ∷ second ∷ rest) (seen_inner i)) c.in-Bad.is h);
      err = tt;
    }
