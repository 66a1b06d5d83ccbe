use Rattle.std.proofs.Common.{length, sym, ◌∙◌}
use Rattle.std.proofs.lemmas.Bool.{eqb-true}
use Rattle.sms_c.proofs.GatewayOffering.{empty_says}
use Rattle.sms_c.proofs.gateway.ends.telephone_to.Goals as goal

pub returns-then-is_empty-clause-address : goal.returns-then-is_empty-clause-address
returns-then-is_empty-clause-address c =
    λ is none. absurd (empty_says c.args.text.now (eqb-true (length c.args.text.now) 0 (sym c.is_empty.ensures ∙ c.if-is_empty.true)) none)
