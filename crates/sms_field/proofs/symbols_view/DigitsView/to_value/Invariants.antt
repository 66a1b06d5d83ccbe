use Rattle.std.proofs.Common.{◌≡◌, ◌*◌, take, length}
use Rattle.sms_field.specs.Inside.AddressSeen.{digits_in}
use Rattle.sms_field.proofs.Rooms.{IsZeroFrom}
use Rattle.sms_field.proofs.symbols_view.DigitsView.to_value.Given as goal

abbrev pub invariant-loop-place : goal.invariant-loop-place
invariant-loop-place l = (take (2 * l.place) l.values ≡ digits_in (2 * l.place) l.self-inside.octets.now) × (length l.values ≡ 20) × IsZeroFrom 20 (2 * l.place) l.values
