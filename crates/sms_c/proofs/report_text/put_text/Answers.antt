use Rattle.std.proofs.lemmas.Result.{IfOk-weaker}
use Rattle.sms_c.specs.Answered.{OfTextIn}
use Rattle.sms_c.specs.HandedOut.{ArePut}
use Rattle.sms_c.specs.ReportText.{data_text}
use Rattle.sms_c.proofs.Texts.{of_text_in}
use Rattle.sms_c.proofs.report_text.put_text.Goals as goal

pub returns-clause-put : goal.returns-clause-put
returns-clause-put c =
    IfOk-weaker c.hand_out.result
    (λ _. ArePut c.args.out.now c.hand_out.new.out c.hand_out.new.needed c.as_bytes.result.now)
    (λ _. OfTextIn (data_text c.args.octets.now c.args.told) (ArePut c.args.out.now c.hand_out.new.out c.hand_out.new.needed))
    (λ _ out. of_text_in _ _ c.in_ok-text.text _ c.as_bytes.ensures.value c.in_ok-text.ensures.text out)
    c.hand_out.ensures.put

pub returns-clause-no_room : goal.returns-clause-no_room
returns-clause-no_room c = λ e. of_text_in _ _ c.in_ok-text.text _ c.as_bytes.ensures.value c.in_ok-text.ensures.text (rw e at c.hand_out.ensures.no_room).1
