use Rattle.std.proofs.Common.{rules}
use Rattle.std.proofs.lemmas.Result.{IfOk-weaker}
use Rattle.sms_c.specs.CentreText.{text_of_centre, OfCentre}
use Rattle.sms_c.specs.HandedOut.{ArePut}
use Rattle.sms_c.proofs.Texts.{of_centre}
use Rattle.sms_c.proofs.Told.{failed, handed}
use Rattle.sms_c.proofs.centre_text.put_text.Goals as goal

pub returns-in_err-text-clause-exact : goal.returns-in_err-text-clause-exact
returns-in_err-text-clause-exact c = λ address used at.
    let so = c.in_err-text.ensures.exact address used at in
    failed (text_of_centre address) _ c.from_residual.result (search rules) so

pub returns-clause-exact : goal.returns-clause-exact
returns-clause-exact c = λ address used at. handed (text_of_centre address) _ (c.in_ok-text.ensures.exact address used at) c.hand_out.result (λ why e. (rw e at c.hand_out.ensures.no_room).0)

pub returns-clause-put : goal.returns-clause-put
returns-clause-put c =
    IfOk-weaker c.hand_out.result
    (λ _. ArePut c.args.out.now c.hand_out.new.out c.hand_out.new.needed c.as_bytes.result.now)
    (λ _. OfCentre c.args.octets.now c.args.rp.now (ArePut c.args.out.now c.hand_out.new.out c.hand_out.new.needed))
    (λ _ out. of_centre _ _ _ c.in_ok-text.text _ c.as_bytes.ensures.value c.in_ok-text.ensures.text out)
    c.hand_out.ensures.put

pub returns-clause-no_room : goal.returns-clause-no_room
returns-clause-no_room c = λ e. of_centre _ _ _ c.in_ok-text.text _ c.as_bytes.ensures.value c.in_ok-text.ensures.text (rw e at c.hand_out.ensures.no_room).1
