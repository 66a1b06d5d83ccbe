use Rattle.std.proofs.Common.{take}
use Rattle.sms_text.proofs.PlainRuns.{four_first}
use Rattle.sms_text.proofs.written.put_four.Goals as goal

pub returns-in-len4-up-clause-text : goal.returns-in-len4-up-clause-text
returns-in-len4-up-clause-text c =
    let other = c.has_no_escape.ensures c.if-has_no_escape.true in
    four_first c.args.septets.now (take c.args.at c.args.out.now) _ _ _ _ c.in-len4-up.len_at_least other.0 other.1 other.2 other.3 c.put_plain-second.ensures.text c.put_plain-third.ensures.text c.put_plain-fourth.ensures.text c.put_plain.ensures.text
