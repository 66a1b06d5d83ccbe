-- What is found in a CP message, seen where it lies.
use Rattle.sms_relay.specs.declared.inner.Inner.{Inner}
use Rattle.sms_relay.specs.declared.inner.Inner.TheVariants as inner
use Rattle.sms_relay.specs.declared.inner.InnerView.{InnerView}
use Rattle.sms_relay.specs.declared.inner.InnerView.TheVariants as seen

abbrev pub seen_inner : InnerView → Inner
seen_inner seen.Empty = inner.Empty
seen_inner (seen.Relay message) = inner.Relay message
seen_inner (seen.Bad place why) = inner.Bad place why
