use Rattle.std.proofs.Common.{◌≡◌, ◌+◌, ◌≤◌, ◌∷◌, [], ◌++◌, length, drop, ap, sym, subst, ◌∙◌, arith, length-append, List, ℕ}
use Rattle.std.specs.Str.{IsAscii}
use Rattle.sms_field.specs.Address.DigitText.{character_of_digit, text_of_digits}
use Rattle.sms_field.specs.Address.Text.{prefix}
use Rattle.sms_told.proofs.Telephones.{ascii_more, prefix_ascii, prefix_short, digit_more}
use Rattle.sms_told.proofs.telephone.Telephone.seen.Goals as goal

pub loop-at-init : goal.loop-at-init
loop-at-init c =
    let short = prefix_short c.args.type_of_number in (
      omega arith,
      c.count-count.ensures.is,
      c.count-count.ensures.few,
      omega (arith, short, ap length c.begun-telephone.ensures),
      subst IsAscii (sym c.begun-telephone.ensures) (prefix_ascii c.args.type_of_number),
      ap (λ (t : List ℕ). t ++ text_of_digits c.args.digits.now) c.begun-telephone.ensures,
    )

pub loop-at-preserved : goal.loop-at-preserved
loop-at-preserved c =
    let kept = c.loop-at.invariant in
    let size = length-append c.loop-at.telephone (c.character_of.result ∷ []) in
    let whole = prefix c.args.type_of_number ++ text_of_digits c.args.digits.now in (
      omega arith,
      kept.1,
      kept.2,
      omega (arith, kept.3, size, ap length c.push.ensures),
      subst IsAscii (sym c.push.ensures) (ascii_more c.loop-at.telephone c.character_of.result kept.4 c.character_of.ensures.ascii),
      subst (λ (t : List ℕ). t ++ text_of_digits (drop (c.loop-at.at + 1) c.args.digits.now) ≡ whole) (sym c.push.ensures)
          (digit_more c.loop-at.telephone c.args.digits.now whole c.loop-at.at c.character_of.result (omega (arith, kept.1)) (c.character_of.ensures.character ∙ ap character_of_digit c.in-Some.ensures.value.1) kept.5),
    )

pub push-requires-clause-few : goal.push-requires-clause-few
push-requires-clause-few c =
    let kept = c.loop-at.invariant in
    let short : length c.loop-at.telephone ≤ 20 = omega (arith, kept.2, kept.3) in
    short
