use Rattle.std.proofs.Common.{◌≡◌, rules}
use Rattle.std.proofs.lemmas.Result.{IfOk-weaker}
use Rattle.sms_c.specs.HandedOut.{ArePut}
use Rattle.sms_c.specs.Parts.{octets_at, OfAddress}
use Rattle.sms_c.specs.Status.{status_in}
use Rattle.sms_c.proofs.Texts.{of_address, not_refused, refused_there}
use Rattle.sms_c.proofs.address_text.put_address.Goals as goal

pub returns-in_err-text-clause-refused : goal.returns-in_err-text-clause-refused
returns-in_err-text-clause-refused c =
    let same : status_in c.from_residual.result ≡ status_in c.address_in.result = search rules in
    refused_there _ _ _ _ _ same c.in-Some.ensures.octets c.in-Some.ensures.within.1 c.address_in.ensures.refused

pub returns-clause-refused : goal.returns-clause-refused
returns-clause-refused c =
    let read = c.in_ok-text.ensures.text in
    not_refused _ _ _ _ c.hand_out.ensures.status c.in-Some.ensures.octets read.0 read.1 read.2

pub returns-clause-put : goal.returns-clause-put
returns-clause-put c =
    IfOk-weaker c.hand_out.result
    (λ _. ArePut c.args.out.now c.hand_out.new.out c.hand_out.new.needed c.as_bytes.result.now)
    (λ _. OfAddress (octets_at c.args.octets.now c.args.address.now.octets) (ArePut c.args.out.now c.hand_out.new.out c.hand_out.new.needed))
    (λ _ out. of_address _ _ _ c.in_ok-text.text _ c.in-Some.ensures.octets c.as_bytes.ensures.value c.in_ok-text.ensures.text out)
    c.hand_out.ensures.put

pub returns-clause-no_room : goal.returns-clause-no_room
returns-clause-no_room c =
    λ e. of_address _ _ _ c.in_ok-text.text _ c.in-Some.ensures.octets c.as_bytes.ensures.value c.in_ok-text.ensures.text (rw e at c.hand_out.ensures.no_room).1
