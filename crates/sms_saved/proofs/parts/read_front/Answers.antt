use Rattle.std.proofs.Common.{arith, sym, ◌∙◌}
use Rattle.sms_saved.specs.Parts.{view_front}
use Rattle.sms_saved.proofs.TakenFields.{ok_is}
use Rattle.sms_saved.proofs.InParts.{front_takes, front_again, front_there}
use Rattle.sms_saved.proofs.parts.read_front.Goals as goal

pub returns-in-Ok-clause-found : goal.returns-in-Ok-clause-found
returns-in-Ok-clause-found c =
    front_takes c.args.limits c.args.octets.now (view_front c.in-Ok.front) (λ i. omega (arith, c.type_inv.octets i)) c.in-Ok.ensures

pub returns-in-Ok-clause-only : goal.returns-in-Ok-clause-only
returns-in-Ok-clause-only c = λ f is.
    ok_is (view_front c.in-Ok.front) f (sym c.in-Ok.ensures ∙ front_again c.args.limits c.args.octets.now f is)

pub returns-in-Err-At-clause-only : goal.returns-in-Err-At-clause-only
returns-in-Err-At-clause-only c = λ f is. front_there c.args.limits c.args.octets.now c.in-Err-At.field-0 c.in-Err-At.field-0-0 f is c.in-Err-At.field-0-is c.in-Err-At.ensures
