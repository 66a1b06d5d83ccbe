use Rattle.sms_text.proofs.Spread.{halves_masked}
use Rattle.sms_text.proofs.blocks.low_of_halves.Goals as goal

pub returns : goal.returns
returns c = halves_masked c.args.word
