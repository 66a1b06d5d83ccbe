use Rattle.std.proofs.Common.{refl, subst}
use Rattle.sms_join.specs.Inside.Keeping.{IsKept}
use Rattle.sms_join.proofs.keeper.Keeper.have_kept.Goals as goal

pub returns : goal.returns
returns c =
    subst IsKept c.self.view_is (record {
      are_open = c.self.invariant.0;
      few = c.self.invariant.1;
      below = c.have_turns.ensures.0;
      turns = c.have_turns.ensures.1;
      pieces = refl;
    })
