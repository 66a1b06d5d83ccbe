use Rattle.std.proofs.Common.{◌≡◌, List, sym, subst}
use Rattle.sms_join.specs.OpenSets.{SetValue, is_in}
use Rattle.sms_join.specs.Inside.Slots.{At, HasPlace}
use Rattle.sms_join.proofs.Slots.{place_in, place_at, at_slot}
use Rattle.sms_join.proofs.open_sets.OpenSets.has.Goals as goal

pub index-requires : goal.index-requires
index-requires c =
    place_in c.self.inside.slots.entries c.args.index c.args.sequence
    (subst (λ (l : List SetValue). HasPlace l c.args.index c.args.sequence) (sym c.self.view_is) c.requires)

pub has-requires-clause-last : goal.has-requires-clause-last
has-requires-clause-last c =
    place_at c.self.inside.slots.entries c.args.index c.index.result.now c.args.sequence c.self.invariant.0 c.index.ensures
    (subst (λ (l : List SetValue). HasPlace l c.args.index c.args.sequence) (sym c.self.view_is) c.requires)

pub returns : goal.returns
returns c =
    subst (λ (l : List SetValue). At l c.args.index (λ s. c.has.result ≡ is_in c.args.sequence s.sequences)) c.self.view_is
    (at_slot c.self.inside.slots.entries c.args.index c.index.result.now (λ s. c.has.result ≡ is_in c.args.sequence s.sequences)
    c.self.invariant.0 c.index.ensures (λ k e. c.has.ensures))
