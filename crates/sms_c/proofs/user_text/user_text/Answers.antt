use Rattle.std.proofs.lemmas.Result.{IfOk-weaker}
use Rattle.sms_c.specs.HandedOut.{ArePut, OfText}
use Rattle.sms_c.specs.Parts.{user_chars}
use Rattle.sms_c.proofs.Texts.{of_text}
use Rattle.sms_c.proofs.user_text.user_text.Goals as goal

pub returns-clause-put : goal.returns-clause-put
returns-clause-put c =
    IfOk-weaker c.hand_out.result
    (λ _. ArePut c.args.out.now c.hand_out.new.out c.hand_out.new.needed c.as_bytes.result.now)
    (λ _. OfText (user_chars c.args.octets.now c.args.user.now) (ArePut c.args.out.now c.hand_out.new.out c.hand_out.new.needed))
    (λ _ out. of_text _ _ c.in_ok-text.text c.as_bytes.result.now c.as_bytes.ensures.value c.in_ok-text.ensures.text out)
    c.hand_out.ensures.put

pub returns-clause-no_room : goal.returns-clause-no_room
returns-clause-no_room c =
    λ e. of_text _ _ c.in_ok-text.text c.as_bytes.result.now c.as_bytes.ensures.value c.in_ok-text.ensures.text (rw e at c.hand_out.ensures.no_room).1
