use Rattle.std.proofs.Common.{◌≡◌, ◌∙◌, sym, subst}
use Rattle.std.specs.Prelude.{option_copied}
use Rattle.sms_join.specs.Piece.{piece_to}
use Rattle.sms_join.specs.Gateway.Answers.{gateway_would_finish}
use Rattle.sms_join.specs.Gateway.Value.{GatewayValue}
use Rattle.sms_join.specs.Inside.Gateways.{gateway_of}
use Rattle.sms_join.specs.Inside.Keeping.{in_order}
use Rattle.sms_join.proofs.Gateways.{taken_finishes}
use Rattle.sms_join.proofs.Keeping.{kept_same, finish_kept}
use Rattle.sms_join.proofs.gateway.Gateway.would_finish.Goals as goal

pub returns-else-passes : goal.returns-else-passes
returns-else-passes c = λ now units.
    subst (λ (v : GatewayValue). c.would_finish.result ≡ gateway_would_finish v.limits v.holds (piece_to now (option_copied c.args.recipient) c.args.origin.now c.args.stamp c.args.concat units)) c.self.view_is
    (taken_finishes (gateway_of c.self.inside.alone c.self.inside.open_for c.self.inside.remember_for (in_order c.self.inside.keeper) c.self.inside.finishings.items).limits (in_order c.self.inside.keeper).holds (piece_to now (option_copied c.args.recipient) c.args.origin.now c.args.stamp c.args.concat units) c.would_finish.result
    (sym (c.passes.ensures (option_copied c.args.recipient) c.args.origin.now c.args.stamp) ∙ c.if-passes.false)
    (c.would_finish.ensures now units
    ∙ finish_kept (in_order c.self.inside.keeper).holds c.self.inside.keeper.holds (piece_to now (option_copied c.args.recipient) c.args.origin.now c.args.stamp c.args.concat units) (kept_same c.self.inside.keeper c.have_kept.ensures)))
