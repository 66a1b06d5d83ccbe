use Rattle.sms_text.proofs.PairOctets.{pair_encoded}
use Rattle.sms_text.proofs.pairs.pair_spelled.Goals as goal

pub returns : goal.returns
returns c = pair_encoded c.args.high c.args.low
