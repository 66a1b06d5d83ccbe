use Rattle.std.proofs.Common.{◌-◌, length}
use Rattle.sms_script.proofs.PartLemmas.{clean_more, clean_front}
use Rattle.sms_script.proofs.devices.source.count_in_line.Goals as goal

pub loop-place-preserved : goal.loop-place-preserved
loop-place-preserved c = clean_more c.args.octets.now c.loop-place.place c.loop-place-test.true c.if-octets-place-eq10.false c.loop-place.invariant

pub returns-clause-line : goal.returns-clause-line
returns-clause-line c = clean_front c.args.octets.now c.loop-place.place (length c.args.octets.now - 1) c.loop-place-test.false c.loop-place.invariant
