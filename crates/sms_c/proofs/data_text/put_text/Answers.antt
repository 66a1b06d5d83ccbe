use Rattle.std.proofs.lemmas.Result.{IfOk-weaker}
use Rattle.sms_c.proofs.DataAlone.{of_data_text}
use Rattle.sms_c.proofs.data_text.put_text.Goals as goal

pub returns-clause-put : goal.returns-clause-put
returns-clause-put c =
    IfOk-weaker c.hand_out.result _ _
    (λ _ out. of_data_text c.args.form c.args.octets.now _ c.in_ok-text.text c.as_bytes.result.now c.as_bytes.ensures.value c.in_ok-text.ensures.text out)
    c.hand_out.ensures.put

pub returns-clause-no_room : goal.returns-clause-no_room
returns-clause-no_room c =
    λ e. of_data_text c.args.form c.args.octets.now _ c.in_ok-text.text c.as_bytes.result.now c.as_bytes.ensures.value c.in_ok-text.ensures.text (rw e at c.hand_out.ensures.no_room).1
