use Rattle.std.proofs.Common.{refl}
use Rattle.sms_text.proofs.Spread.{spread_word}
use Rattle.sms_text.proofs.blocks.spread.Goals as goal

pub returns : goal.returns
returns c = spread_word c.args.word _ _ _ c.low_of_halves-second.result _ c.low_of_pairs-third.result _ refl refl refl c.low_of_halves-second.ensures refl c.low_of_pairs-third.ensures refl
