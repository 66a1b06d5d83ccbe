use Rattle.std.proofs.lemmas.Result.{IfOk-weaker}
use Rattle.sms_c.specs.GatewayMessages.{OfRecipient}
use Rattle.sms_c.specs.HandedOut.{ArePut}
use Rattle.sms_c.proofs.GatewayOffering.{of_recipient}
use Rattle.sms_c.proofs.gateway.recipient.put_recipient.Goals as goal

pub returns-clause-put : goal.returns-clause-put
returns-clause-put c =
    IfOk-weaker c.hand_out.result
    (λ _. ArePut c.args.out.now c.hand_out.new.out c.hand_out.new.needed c.as_bytes.result.now)
    (λ _. OfRecipient c.args.opening c.args.inside.now.gateway.told (ArePut c.args.out.now c.hand_out.new.out c.hand_out.new.needed))
    (λ _ out. of_recipient _ _ _ c.in_ok-text.text _ c.as_bytes.ensures.value c.in_ok-text.ensures.text out)
    c.hand_out.ensures.put

pub returns-clause-no_room : goal.returns-clause-no_room
returns-clause-no_room c = λ e. of_recipient _ _ _ c.in_ok-text.text _ c.as_bytes.ensures.value c.in_ok-text.ensures.text (rw e at c.hand_out.ensures.no_room).1
