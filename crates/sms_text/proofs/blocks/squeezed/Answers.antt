use Rattle.std.proofs.Common.{refl, arith}
use Rattle.sms_text.proofs.Spread.{squeezed_word}
use Rattle.sms_text.proofs.blocks.squeezed.Goals as goal

pub returns : goal.returns
returns c = squeezed_word c.args.octets c.low_of_pairs-first.result _ c.low_of_halves-second.result _ _ _ (omega arith) c.requires c.low_of_pairs-first.ensures refl c.low_of_halves-second.ensures refl refl refl
