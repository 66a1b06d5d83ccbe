use Rattle.std.proofs.Common.{◌≡◌, ◌-◌, ◌≤◌, false, eqb, length, take, drop, reverse, sym, ap, ◌∙◌, arith}
use Rattle.std.proofs.lemmas.List.{length-reverse}
use Rattle.std.specs.List.{list_any}
use Rattle.std.specs.Prelude.{option_copied}
use Rattle.sms_join.specs.declared.key.Key.{Key}
use Rattle.sms_join.specs.Key.{same_key}
use Rattle.sms_join.specs.Piece.{key_to}
use Rattle.sms_join.specs.Joiner.{is_among}
use Rattle.sms_join.specs.Inside.LastKeys.{LastKeysValue}
use Rattle.sms_join.specs.Inside.KeyTags.{tag_of}
use Rattle.sms_join.proofs.Places.{among_any, among_reversed, among_taken, last_first}
use Rattle.sms_join.proofs.KeyTags.{none_among}
use Rattle.sms_join.proofs.key_row.KeyRow.contains.Goals as goal

pub returns-then-not-has_tag : goal.returns-then-not-has_tag
returns-then-not-has_tag c =
    let few : length (reverse c.self.inside.keys.items) ≤ length c.self.inside.tags =
    omega (arith, length-reverse c.self.inside.keys.items, c.len.ensures.len, c.if-len-le-TAGS.true, c.has_tag.ensures.as_many) in
    let asked : Key = key_to (option_copied c.args.to) c.args.origin.now c.args.stamp c.args.concat in
    let none : list_any (λ own. eqb own (tag_of asked)) c.self.inside.tags ≡ false =
    ap (λ t. list_any (λ own. eqb own t) c.self.inside.tags) (sym c.tag_of.ensures) ∙ (sym c.has_tag.ensures.is ∙ c.if-not-has_tag.true) in
    sym (ap (λ (l : LastKeysValue). is_among (take c.args.last l.keys) asked) (sym c.self.view_is)
    ∙ among_taken c.args.last (reverse c.self.inside.keys.items) asked (none_among (reverse c.self.inside.keys.items) c.self.inside.tags asked c.self.invariant few none))

pub returns : goal.returns
returns c =
    let asked : Key = (key_to (option_copied c.args.to) c.args.origin.now c.args.stamp c.args.concat) in
    let skipped : c.saturating_sub-skipped.result ≡ length c.self.inside.keys.items - c.args.last =
    omega (arith, c.saturating_sub-skipped.ensures, c.len-2.ensures.len) in
    c.has_key.ensures
    ∙ (ap (λ n. list_any (λ x. same_key x asked) (drop n c.self.inside.keys.items)) skipped
    ∙ (among_any (drop (length c.self.inside.keys.items - c.args.last) c.self.inside.keys.items) asked
    ∙ (sym (among_reversed (drop (length c.self.inside.keys.items - c.args.last) c.self.inside.keys.items) asked)
    ∙ (ap (λ ks. is_among ks asked) (last_first c.args.last c.self.inside.keys.items)
    ∙ ap (λ (l : LastKeysValue). is_among (take c.args.last l.keys) asked) c.self.view_is))))
