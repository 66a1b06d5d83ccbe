use Rattle.std.proofs.Common.{arith}
use Rattle.sms_script.proofs.EscapeLemmas.{escaped-more, escaped-end}
use Rattle.sms_script.proofs.transcript.escapes.push_each.Goals as goal

pub loop-octet-preserved : goal.loop-octet-preserved
loop-octet-preserved c = escaped-more _ _ _ _ c.loop-octet.octet-index (omega arith) c.in_ok-push_octet.ensures c.loop-octet.invariant

pub returns : goal.returns
returns c = escaped-end _ _ c.args.text.now c.loop-octet.octet-index (omega arith) c.loop-octet.invariant
