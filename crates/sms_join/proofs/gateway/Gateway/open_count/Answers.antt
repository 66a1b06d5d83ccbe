use Rattle.std.proofs.Common.{◌≡◌, List, length, ◌∙◌, sym, ap, subst}
use Rattle.sms_join.specs.Gateway.Value.{GatewayValue}
use Rattle.sms_join.specs.Joiner.Sets.{open_sets}
use Rattle.sms_join.specs.OpenSets.Told.{AreUnder}
use Rattle.sms_join.specs.Piece.{Piece}
use Rattle.sms_join.proofs.Arranged.{arranged_length}
use Rattle.sms_join.proofs.Keeping.{kept_same}
use Rattle.sms_join.proofs.OneSet.{sets_count}
use Rattle.sms_join.proofs.gateway.Gateway.open_count.Goals as goal

pub returns-clause-count : goal.returns-clause-count
returns-clause-count c =
    subst (λ (v : GatewayValue). c.open_count.result ≡ open_sets v.holds.kept) c.self.view_is
    (c.open_count.ensures.count ∙ sym (kept_same c.self.inside.keeper c.have_kept.ensures).sets)

pub returns-clause-told : goal.returns-clause-told
returns-clause-told c =
    subst (λ (v : GatewayValue). c.open_count.result ≡ length v.told) c.self.view_is
    (c.open_count.ensures.count
    ∙ (ap (λ (ps : List Piece). open_sets ps) c.have_kept.ensures.pieces
    ∙ (sets_count c.self.inside.keeper.told c.have_kept.ensures.are_open ∙ sym (arranged_length c.self.inside.keeper.told))))

pub returns-clause-turns : goal.returns-clause-turns
returns-clause-turns c = subst (λ (v : GatewayValue). AreUnder 18446744073709551615 v.told) c.self.view_is c.have_numbers.ensures
