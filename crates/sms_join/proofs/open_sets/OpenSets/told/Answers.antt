use Rattle.std.proofs.Common.{◌∙◌, List, ap}
use Rattle.sms_join.specs.OpenSets.{SetValue}
use Rattle.sms_join.specs.Inside.Slots.{sets_of}
use Rattle.sms_join.specs.Inside.Turns.{arranged}
use Rattle.sms_join.proofs.Telling.{walked_is}
use Rattle.sms_join.proofs.open_sets.OpenSets.told.Goals as goal

pub returns : goal.returns
returns c =
    c.new.ensures
    ∙ (walked_is c.self.inside.turns c.self.inside.line.items (sets_of c.self.inside.slots.entries) c.self.invariant.2
    ∙ ap (λ (l : List SetValue). arranged l) c.self.view_is)
