-- Each set is counted once.
use Rattle.std.proofs.Common.{sym, ap, ◌∙◌}
use Rattle.sms_join.specs.Joiner.Value.{JoinerValue}
use Rattle.sms_join.specs.Joiner.Sets.{open_sets}
use Rattle.sms_join.proofs.OneSet.{sets_count}
use Rattle.sms_join.proofs.keeper.Keeper.open_count.Goals as goal

pub returns-clause-count : goal.returns-clause-count
returns-clause-count c =
    c.count.ensures ∙ sym (sets_count c.self.inside.sets c.self.invariant.0) ∙ ap (λ (v : JoinerValue). open_sets v.holds.kept) c.self.view_is
