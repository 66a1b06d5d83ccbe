use Rattle.std.proofs.Common.{ℕ, List, length, ap, subst, ◌∙◌, arith}
use Rattle.sms_saved.specs.Value.{view}
use Rattle.sms_saved.specs.Reading.Whole.{Tells, placed, state_at}
use Rattle.sms_saved.proofs.Whole.{state_again}
use Rattle.sms_saved.proofs.Told.{is_found, newer_at, other_at}
use Rattle.sms_saved.proofs.reading.read.Goals as goal

pub returns-clause-found : goal.returns-clause-found
returns-clause-found c = is_found c.args.limits c.args.octets.now c.told.result (λ i. omega (arith, c.type_inv.octets i)) c.told.ensures

pub returns-clause-only : goal.returns-clause-only
returns-clause-only c = λ s fits own e.
    subst (λ r. Tells view c.told.result r) (ap (λ (b : List ℕ). placed (length b) (state_at c.args.limits b)) e ∙ ap (placed _) (state_again c.args.limits s (fits, own))) c.told.ensures

pub returns-clause-other : goal.returns-clause-other
returns-clause-other c = λ s fits differ e.
    subst (λ r. Tells view c.told.result r) (ap (λ (b : List ℕ). placed (length b) (state_at c.args.limits b)) e ∙ other_at c.args.limits s fits differ) c.told.ensures

pub returns-clause-newer : goal.returns-clause-newer
returns-clause-newer c = λ version rest high e.
    subst (λ r. Tells view c.told.result r) (ap (λ (b : List ℕ). placed (length b) (state_at c.args.limits b)) e ∙ newer_at c.args.limits version rest high) c.told.ensures
