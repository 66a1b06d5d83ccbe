use Rattle.std.proofs.Common.{ℕ, true, eqb, get_or, unwrap_or, refl}
use Rattle.std.proofs.lemmas.Bool.{agree_below_at, eqb-true}
use Rattle.hex.specs.Hex.{hex_digit_value}
use Rattle.sms_page.specs.declared.hexadecimal.TheConstants.{NUMBERS}
use Rattle.sms_page.proofs.hexadecimal.number_of.Goals as goal

pub returns : goal.returns
returns c =
    eqb-true _ _ (agree_below_at (λ (x : ℕ). eqb (get_or NUMBERS x 0) (unwrap_or (hex_digit_value x) 255)) (λ _. true) 256 c.args.octet refl c.ranges.octet.fits)
