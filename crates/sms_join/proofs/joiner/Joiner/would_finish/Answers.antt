use Rattle.std.proofs.Common.{◌≡◌, ◌∙◌, subst}
use Rattle.sms_join.specs.Piece.{piece_of}
use Rattle.sms_join.specs.Joiner.Value.{JoinerValue}
use Rattle.sms_join.specs.Joiner.Finishing.{would_finish}
use Rattle.sms_join.specs.Inside.Keeping.{in_order}
use Rattle.sms_join.proofs.Keeping.{kept_same, finish_kept}
use Rattle.sms_join.proofs.joiner.Joiner.would_finish.Goals as goal

pub returns : goal.returns
returns c = λ now units.
    subst (λ (v : JoinerValue). c.would_finish.result ≡ would_finish v.holds (piece_of now c.args.origin.now c.args.stamp c.args.concat units)) c.self.view_is
    (c.would_finish.ensures now units
    ∙ finish_kept (in_order c.self.inside.keeper).holds c.self.inside.keeper.holds (piece_of now c.args.origin.now c.args.stamp c.args.concat units)
    (kept_same c.self.inside.keeper c.have_kept.ensures))
