use Rattle.std.proofs.Common.{◌≡◌, ℕ, suc, ◌<◌, eqb, List, length, sym, ap, ◌∙◌, subst}
use Rattle.sms_join.specs.Key.{maximum_of}
use Rattle.sms_join.specs.OpenSets.{SetValue}
use Rattle.sms_join.specs.OpenSets.Places.{filled}
use Rattle.sms_join.specs.Inside.Slots.{At}
use Rattle.sms_join.proofs.Slots.{as_many, sets_length, at_slot}
use Rattle.sms_join.proofs.open_sets.OpenSets.lacks_one.Goals as goal

pub index-requires : goal.index-requires
index-requires c =
    subst (λ (n : ℕ). c.args.index < n) (ap (λ (l : List SetValue). length l) (sym c.self.view_is) ∙ sets_length c.self.inside.slots.entries) c.requires

pub returns : goal.returns
returns c =
    subst (λ (l : List SetValue). At l c.args.index (λ s. c.lacks_one.result ≡ eqb (suc (length s.sequences)) (maximum_of s.key))) c.self.view_is
    (at_slot c.self.inside.slots.entries c.args.index c.index.result.now (λ s. c.lacks_one.result ≡ eqb (suc (length s.sequences)) (maximum_of s.key))
    c.self.invariant.0 c.index.ensures
    (λ k e. c.lacks_one.ensures ∙ (ap (eqb (suc (length (filled c.index.result.now.places)))) e
    ∙ ap (λ (n : ℕ). eqb (suc n) (maximum_of k)) (sym (as_many 1 c.index.result.now.places)))))
