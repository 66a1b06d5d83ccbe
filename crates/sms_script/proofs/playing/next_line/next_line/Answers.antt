use Rattle.std.proofs.Common.{rules}
use Rattle.sms_script.proofs.playing.next_line.next_line.Goals as goal

pub returns-else-is_empty-clause-takes : goal.returns-else-is_empty-clause-takes
returns-else-is_empty-clause-takes g c = search rules

pub returns-in-Err-Read-clause-takes : goal.returns-in-Err-Read-clause-takes
returns-in-Err-Read-clause-takes g c = search rules

pub returns-in-Err-Read-clause-works : goal.returns-in-Err-Read-clause-works
returns-in-Err-Read-clause-works g c = search rules

pub returns-in-Ok-LineFeed-clause-takes : goal.returns-in-Ok-LineFeed-clause-takes
returns-in-Ok-LineFeed-clause-takes g c = search rules

pub returns-in-Err-TooLong-clause-takes : goal.returns-in-Err-TooLong-clause-takes
returns-in-Err-TooLong-clause-takes g c = search rules
