use Rattle.sms_script.proofs.EscapeLemmas.{front-then-escaped}
use Rattle.sms_script.proofs.transcript.escapes.push_escaped.Goals as goal

pub returns : goal.returns
returns c = front-then-escaped _ _ _ c.args.text.now c.plain_front-count.result c.plain_front-count.ensures.plain c.in_ok-extend_from_slice.ensures.items c.in_ok-push_each.ensures
