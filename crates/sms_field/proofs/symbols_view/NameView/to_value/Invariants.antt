use Rattle.std.proofs.Common.{◌≡◌}
use Rattle.sms_text.specs.Bits.{unpacked}
use Rattle.sms_field.proofs.symbols_view.NameView.to_value.Given as goal

abbrev pub invariant-loop-place : goal.invariant-loop-place
invariant-loop-place l = l.septets.items ≡ unpacked 0 l.place l.self-inside.octets.now
