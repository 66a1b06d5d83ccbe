use Rattle.std.proofs.Common.{◌<◌, [], ◌∷◌, ◌++◌, length, sym, ap, ◌∙◌, subst}
use Rattle.sms_join.specs.Joiner.Value.{JoinerValue}
use Rattle.sms_join.specs.OpenSets.{has_set}
use Rattle.sms_join.specs.OpenSets.Places.{set_by}
use Rattle.sms_join.specs.Inside.Turns.{arranged}
use Rattle.sms_join.proofs.Keeping.{on_ok}
use Rattle.sms_join.proofs.Order.{arranged_more}
use Rattle.sms_join.proofs.Placed.{still_open}
use Rattle.sms_join.proofs.keeper.Keeper.put_back.Goals as goal

pub invariant_of-self : goal.invariant_of-self
invariant_of-self c =
    still_open c.self.inside.open_max c.self.inside.sets c.put_back.new.self c.args.key c.args.moment c.args.places.items c.put_back.result c.put_back.ensures.ok c.put_back.ensures.err
    c.self.invariant.0
    (ap (λ (v : JoinerValue). has_set v.told c.args.key) c.self.view_is ∙ c.requires.closed)
    (subst (λ (v : JoinerValue). length v.told < v.open_max) (sym c.self.view_is) c.requires.few)
    c.requires.places c.requires.some c.requires.part

pub returns-clause-told : goal.returns-clause-told
returns-clause-told c =
    on_ok c.put_back.result
    (λ p. (
      p.0,
      ap arranged p.2
          ∙ (arranged_more c.self.inside.sets (set_by c.args.key c.args.moment p.0 c.args.places.items) p.1
          ∙ ap (λ (v : JoinerValue). arranged v.told ++ set_by c.args.key c.args.moment p.0 c.args.places.items ∷ []) c.self.view_is),
    ))
    c.put_back.ensures.ok
