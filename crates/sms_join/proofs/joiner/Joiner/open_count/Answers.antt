use Rattle.std.proofs.Common.{◌≡◌, ◌∙◌, sym, subst}
use Rattle.sms_join.specs.Joiner.Value.{JoinerValue}
use Rattle.sms_join.specs.Joiner.Sets.{open_sets}
use Rattle.sms_join.proofs.Keeping.{kept_same}
use Rattle.sms_join.proofs.joiner.Joiner.open_count.Goals as goal

pub returns-clause-count : goal.returns-clause-count
returns-clause-count c =
    subst (λ (v : JoinerValue). c.open_count.result ≡ open_sets v.holds.kept) c.self.view_is
    (c.open_count.ensures.count ∙ sym (kept_same c.self.inside.keeper c.have_kept.ensures).sets)
