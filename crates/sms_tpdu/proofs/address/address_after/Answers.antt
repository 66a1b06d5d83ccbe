use Rattle.std.proofs.Common.{ℕ, List, drop, subst, ap, ◌∙◌}
use Rattle.std.proofs.lemmas.List.{drop_min}
use Rattle.sms_field.specs.Address.{address}
use Rattle.sms_field.specs.Reading.Lies.{TakesOctets}
use Rattle.sms_tpdu.proofs.address.address_after.Goals as goal

pub returns-clause-takes : goal.returns-clause-takes
returns-clause-takes c =
    subst (λ (l : List ℕ). TakesOctets address l c.length_in.result)
    (c.split_at.ensures.back ∙ ap (λ (n : ℕ). drop n c.args.octets.now) c.min.ensures ∙ drop_min c.args.before c.args.octets.now) c.length_in.ensures
