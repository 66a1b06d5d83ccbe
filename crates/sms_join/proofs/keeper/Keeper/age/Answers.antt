-- The sets that stay are those that are not old.
use Rattle.std.proofs.Common.{ap, ◌∙◌}
use Rattle.sms_join.specs.Joiner.Value.{JoinerValue}
use Rattle.sms_join.specs.Inside.Turns.{arranged}
use Rattle.sms_join.specs.Inside.Ages.{young_of}
use Rattle.sms_join.proofs.OldDropped.{open_dropped, fewer_dropped, told_dropped}
use Rattle.sms_join.proofs.keeper.Keeper.age.Goals as goal

pub invariant_of-self : goal.invariant_of-self
invariant_of-self c = (
  open_dropped c.args.age c.self.inside.sets c.age.new.self c.age.ensures c.self.invariant.0,
  fewer_dropped c.args.age c.self.inside.sets c.age.new.self c.self.inside.open_max c.age.ensures c.self.invariant.1,
)

pub returns-clause-told : goal.returns-clause-told
returns-clause-told c =
    told_dropped c.args.age c.have_turns.ensures.0 c.self.inside.sets c.age.new.self c.have_turns.ensures.1 c.age.ensures
    ∙ ap (λ (v : JoinerValue). young_of c.args.age (arranged v.told)) c.self.view_is
