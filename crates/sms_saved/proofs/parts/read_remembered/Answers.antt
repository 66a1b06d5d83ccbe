use Rattle.std.proofs.Common.{arith}
use Rattle.sms_saved.specs.Views.{seen_remembered}
use Rattle.sms_saved.proofs.InParts.{remembered_taken, remembered_same, remembered_there}
use Rattle.sms_saved.proofs.parts.read_remembered.Goals as goal

pub returns-in-Ok-clause-found : goal.returns-in-Ok-clause-found
returns-in-Ok-clause-found c =
    remembered_taken c.args.octets.now (seen_remembered c.in-Ok.read.0) c.in-Ok.read.1.now (λ i. omega (arith, c.type_inv.octets i)) c.in-Ok.ensures.read

pub returns-in-Ok-clause-only : goal.returns-in-Ok-clause-only
returns-in-Ok-clause-only c = λ r rest fits parts.
    remembered_same c.args.octets.now (seen_remembered c.in-Ok.read.0) r c.in-Ok.read.1.now rest fits parts c.in-Ok.ensures.read

pub returns-in-Err-clause-only : goal.returns-in-Err-clause-only
returns-in-Err-clause-only c = λ r rest fits parts.
    remembered_there c.args.octets.now c.in-Err.field-0 r rest fits parts c.in-Err.ensures.halts c.in-Err.ensures.read
