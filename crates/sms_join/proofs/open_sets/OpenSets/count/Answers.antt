use Rattle.std.proofs.Common.{List, length, sym, ap, ◌∙◌}
use Rattle.sms_join.specs.OpenSets.{SetValue}
use Rattle.sms_join.proofs.Slots.{sets_length}
use Rattle.sms_join.proofs.open_sets.OpenSets.count.Goals as goal

pub returns : goal.returns
returns c = c.len.ensures.len ∙ (sym (sets_length c.self.inside.slots.entries) ∙ ap (λ (l : List SetValue). length l) c.self.view_is)
