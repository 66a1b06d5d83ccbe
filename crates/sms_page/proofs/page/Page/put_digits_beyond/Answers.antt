use Rattle.std.proofs.Common.{◌≡◌, ◌+◌, ◌-◌, ◌++◌, ℕ, take, drop, take-add, ap, sym, ◌∙◌, arith}
use Rattle.hex.specs.Hex.{encode_upper, encode_with}
use Rattle.sms_page.proofs.HexTexts.{encode-append}
use Rattle.sms_page.proofs.PageLemmas.{Puts-nothing, Puts-then, Puts-same}
use Rattle.sms_page.proofs.page.Page.put_digits_beyond.Goals as goal

pub loop-at-init : goal.loop-at-init
unfolding encode_with
loop-at-init c = (omega arith, Puts-nothing c.args.self.now)

pub loop-at-preserved : goal.loop-at-preserved
loop-at-preserved c =
    let octets = c.args.octets.now in
    let at = c.loop-at.at in
    let count = c.min-count.result in
    let n : at + count - at ≡ count = omega arith in
    let both : encode_upper (take at octets) ++ encode_upper (take (at + count - at) (drop at octets)) ≡ encode_upper (take (at + count) octets) =
    sym (encode-append (take at octets) (take (at + count - at) (drop at octets)))
    ∙ ap (λ (k : ℕ). encode_upper (take at octets ++ take k (drop at octets))) n ∙ ap encode_upper (sym (take-add at count octets)) in
    (omega arith, Puts-same both (Puts-then _ _ c.loop-at.invariant.1 c.put_few_digits.ensures))
