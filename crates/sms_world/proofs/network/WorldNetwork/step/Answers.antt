use Rattle.std.proofs.Common.{refl}
use Rattle.sms_world.specs.Words.{told_text}
use Rattle.sms_world.proofs.Networks.{words_of}
use Rattle.sms_world.proofs.network.WorldNetwork.step.Goals as goal

pub returns-clause-steps : goal.returns-clause-steps
returns-clause-steps c =
    (told_text c.step-told.result, (c.step-told.result, refl, c.step-told.ensures.steps), words_of c.write_told.result _ _ c.write_told.ensures)
