use Rattle.std.proofs.Common.{take, ap, ◌∙◌, arith}
use Rattle.std.proofs.lemmas.List.{take-take}
use Rattle.sms_script.proofs.devices.source.copy_in_line.Goals as goal

pub returns-then-octets-ge16-clause-octets : goal.returns-then-octets-ge16-clause-octets
returns-then-octets-ge16-clause-octets c = ap (take c.min.result) c.copy_from_slice.ensures.after ∙ take-take c.min.result 16 c.args.octets.now (omega (arith, c.min.ensures))
