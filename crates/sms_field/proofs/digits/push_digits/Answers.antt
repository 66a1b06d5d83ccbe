use Rattle.std.proofs.Common.{◌∙◌, ◌++◌, ℕ, ap}
use Rattle.std.proofs.lemmas.Str.{IsUtf8-string_bytes}
use Rattle.std.specs.String.{string_bytes}
use Rattle.std.proofs.Math.Utf8.{encode}
use Rattle.sms_field.proofs.DigitTexts.{digit_shown}
use Rattle.sms_field.proofs.digits.push_digits.Goals as goal

pub loop-digit-preserved : goal.loop-digit-preserved
loop-digit-preserved c =
    digit_shown (string_bytes c.loop-digit.text) (string_bytes c.push.new.self) c.args.digits.now c.loop-digit.digit-index _ c.loop-digit-test.true (IsUtf8-string_bytes c.loop-digit.text) (IsUtf8-string_bytes c.push.new.self) (c.in_ok-push.ensures.bytes ∙ ap (λ (n : ℕ). string_bytes c.loop-digit.text ++ encode n) c.character_of.ensures) c.loop-digit.invariant
