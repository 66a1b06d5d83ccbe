use Rattle.std.proofs.Common.{w8}
use Rattle.std.proofs.lemmas.Simd.{below_from_Fits}
use Rattle.std.proofs.lemmas.Bool.{OnTrue_from}
use Rattle.sms_page.proofs.HexDigits.{all_digits, numbers_are}
use Rattle.sms_page.proofs.hexadecimal.numbers_of.Goals as goal

pub returns-clause-all : goal.returns-clause-all
returns-clause-all c = all_digits c.args.digits c.fits-digits.0 (below_from_Fits w8 c.args.digits c.fits-digits.1)

pub returns-clause-numbers : goal.returns-clause-numbers
returns-clause-numbers c =
    let small = below_from_Fits w8 c.args.digits c.fits-digits.1 in
    OnTrue_from _ _ (λ e. numbers_are c.args.digits c.fits-digits.0 small ((all_digits c.args.digits c.fits-digits.0 small).0 e))
