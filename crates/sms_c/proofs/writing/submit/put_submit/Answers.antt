use Rattle.std.proofs.Common.{rules}
use Rattle.std.proofs.lemmas.Result.{IfOk-weaker}
use Rattle.sms_c.proofs.writing.submit.put_submit.Goals as goal

pub returns-clause-put : goal.returns-clause-put
returns-clause-put c =
    IfOk-weaker c.hand_out.result _ _
    (λ _ out. record {
      allowed = search rules;
      width = c.in_ok-width.width;
      width_is = c.in_ok-width.ensures.width;
      validity = c.in-Some.validity;
      period = search rules;
      address = c.in_ok-target-2.target;
      recipient = search rules;
      segment = c.in-Some-get.segment;
      piece = search rules;
      octets = c.deref.result.now;
      spelled = search rules;
      out = out;
    })
    c.hand_out.ensures.put
