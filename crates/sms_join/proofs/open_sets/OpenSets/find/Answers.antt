use Rattle.std.proofs.Common.{ap, ◌∙◌}
use Rattle.std.specs.List.{position}
use Rattle.std.specs.Prelude.{option_copied}
use Rattle.sms_join.specs.declared.key.Key.{Key}
use Rattle.sms_join.specs.Key.{same_key}
use Rattle.sms_join.specs.OpenSets.{SetValue}
use Rattle.sms_join.specs.Piece.{key_to}
use Rattle.sms_join.proofs.Slots.{place_same, found_by}
use Rattle.sms_join.proofs.open_sets.OpenSets.find.Goals as goal

pub returns-then-len-le-FEW_SETS : goal.returns-then-len-le-FEW_SETS
returns-then-len-le-FEW_SETS c =
    c.find_key.ensures
    ∙ (place_same (λ (k : Key). same_key k (key_to (option_copied c.args.to) c.args.origin.now c.args.stamp c.args.concat)) c.self.inside.slots.entries
    ∙ ap (position (λ (s : SetValue). same_key s.key (key_to (option_copied c.args.to) c.args.origin.now c.args.stamp c.args.concat))) c.self.view_is)

pub returns : goal.returns
returns c =
    c.get_index_of.ensures.index
    ∙ (found_by c.of-key.result (key_to (option_copied c.args.to) c.args.origin.now c.args.stamp c.args.concat) c.self.inside.slots.entries c.of-key.ensures
    ∙ ap (position (λ (s : SetValue). same_key s.key (key_to (option_copied c.args.to) c.args.origin.now c.args.stamp c.args.concat))) c.self.view_is)
