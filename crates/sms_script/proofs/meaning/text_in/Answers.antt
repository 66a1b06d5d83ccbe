use Rattle.std.proofs.Common.{◌≡◌, false, refl}
use Rattle.std.specs.Str.{is_utf8}
use Rattle.std.proofs.lemmas.Str.{IsUtf8-from_is_utf8, is_utf8-from_IsUtf8}
use Rattle.sms_script.proofs.TestLemmas.{not_true}
use Rattle.sms_script.proofs.meaning.text_in.Goals as goal

pub returns-in-Ok : goal.returns-in-Ok
returns-in-Ok c = rw (is_utf8-from_IsUtf8 c.args.line.now c.in-Ok.ensures.cases.1, c.in-Ok.ensures.cases.0) refl

pub returns-in-Err : goal.returns-in-Err
returns-in-Err c =
    let e : is_utf8 c.args.line.now ≡ false = not_true (is_utf8 c.args.line.now) (λ h. c.in-Err.ensures.cases.0 (IsUtf8-from_is_utf8 c.args.line.now h)) in
    rw e refl
