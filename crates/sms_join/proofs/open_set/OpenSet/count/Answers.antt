use Rattle.std.proofs.Common.{length, ap, ◌∙◌, sym}
use Rattle.sms_join.specs.OpenSets.{SetValue}
use Rattle.sms_join.proofs.Slots.{as_many}
use Rattle.sms_join.proofs.open_set.OpenSet.count.Goals as goal

pub returns : goal.returns
returns c = c.count.ensures ∙ (sym (as_many 1 c.self.inside.slot.now.places) ∙ ap (λ (s : SetValue). length s.sequences) c.self.view_is)
