use Rattle.std.proofs.Common.{◌≡◌, ◌∷◌, ◌∙◌, [], List, None, Option, Some, MatchOption, sym, ap}
use Rattle.sms_join.specs.OpenSets.{SetValue}
use Rattle.sms_join.specs.OpenSets.Told.{first_from}
use Rattle.sms_join.specs.Inside.Slots.{sets_of}
use Rattle.sms_join.specs.Inside.Turns.{arranged}
use Rattle.sms_join.proofs.Telling.{head, told_first}
use Rattle.sms_join.proofs.open_sets.OpenSets.open_from.Goals as goal

-- what is given is the first of what was left
first_given : (before after : List SetValue) (r : Option SetValue) → MatchOption r ((before ≡ []) × (after ≡ [])) (λ x. before ≡ x ∷ after) → r ≡ head before
first_given before after None h = sym (ap head h.0)
first_given before after (Some x) h = sym (ap head h)

pub returns : goal.returns
returns c =
    first_given c.new.result c.next.new.self c.next.result c.next.ensures.steps
    ∙ (ap head c.new.ensures
    ∙ (told_first c.self.inside.turns c.args.turn c.place_from-place.result c.self.inside.line.items (sets_of c.self.inside.slots.entries) c.self.invariant.2 c.place_from-place.ensures
    ∙ ap (λ (l : List SetValue). first_from c.args.turn (arranged l)) c.self.view_is))
