use Rattle.sms_script.proofs.BlockLemmas.{feeds_bound, feeds_clean}
use Rattle.sms_script.proofs.devices.source.before_line_feed.Goals as goal

pub returns-else-feeds-eq0-clause-bound : goal.returns-else-feeds-eq0-clause-bound
returns-else-feeds-eq0-clause-bound c = feeds_bound c.args.octets.now c.requires c.if-feeds-eq0.false

pub returns-else-feeds-eq0-clause-line : goal.returns-else-feeds-eq0-clause-line
returns-else-feeds-eq0-clause-line c = feeds_clean c.args.octets.now c.requires c.if-feeds-eq0.false
