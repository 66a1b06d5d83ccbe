use Rattle.sms_script.proofs.EscapeLemmas.{plain-more, none-escaped, all-plain-front}
use Rattle.sms_script.proofs.transcript.escapes.plain_front.Goals as goal

pub loop-place-init : goal.loop-place-init
loop-place-init c = none-escaped c.args.text.now

pub loop-place-preserved : goal.loop-place-preserved
loop-place-preserved c = plain-more c.args.text.now c.loop-place.place c.loop-place-test.true (c.is_plain.ensures.0 c.if-not-is_plain.false) c.loop-place.invariant

pub returns-clause-plain : goal.returns-clause-plain
returns-clause-plain c = all-plain-front c.args.text.now c.loop-place.place c.loop-place-test.false c.loop-place.invariant
