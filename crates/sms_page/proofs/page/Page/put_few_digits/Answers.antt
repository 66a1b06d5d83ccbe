use Rattle.std.proofs.Common.{◌≡◌, ◌+◌, ◌*◌, ℕ, length, take, ap, ◌∙◌, arith}
use Rattle.hex.specs.Hex.{encode_upper}
use Rattle.sms_page.proofs.HexTexts.{length-encode}
use Rattle.sms_page.proofs.PageLemmas.{Puts-same}
use Rattle.sms_page.proofs.page.Page.put_few_digits.Goals as goal

pub returns : goal.returns
returns c =
    let octets = c.args.octets.now in
    let size : 2 * length octets ≡ 0 + length (encode_upper octets) = omega (arith, length-encode octets) in
    Puts-same (ap (λ (n : ℕ). take n c.put_digits_at.new.room) size ∙ c.put_digits_at.ensures.front) c.put.ensures
