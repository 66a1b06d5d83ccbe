use Rattle.sms_text.proofs.Spread.{pairs_masked}
use Rattle.sms_text.proofs.blocks.low_of_pairs.Goals as goal

pub returns : goal.returns
returns c = pairs_masked c.args.word
