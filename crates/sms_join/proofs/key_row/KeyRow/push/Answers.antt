use Rattle.std.proofs.Common.{ℕ, List, [], ◌∷◌, ◌++◌, take, reverse, sym, ap, ◌∙◌, subst}
use Rattle.std.proofs.lemmas.List.{append-nil}
use Rattle.sms_join.specs.declared.key.Key.{Key}
use Rattle.sms_join.specs.Inside.LastKeys.{LastKeysValue}
use Rattle.sms_join.specs.Inside.KeyTags.{HaveTags}
use Rattle.sms_join.proofs.Places.{ring_pushed}
use Rattle.sms_join.proofs.KeyTags.{have_pushed}
use Rattle.sms_join.proofs.key_row.KeyRow.push.Goals as goal

pub invariant_of-self : goal.invariant_of-self
invariant_of-self c =
    let row = c.self.inside in
    let tag : ℕ = c.key_tag-tags.result in
    let others : List ℕ = c.copy_from_slice.new.self in
    subst (λ (ks : List Key). HaveTags ks (tag ∷ (others ++ []))) (sym (ring_pushed row.keys c.push_back.new.self c.args.key c.push_back.ensures.items).1)
    (have_pushed (reverse row.keys.items) row.tags (others ++ []) c.args.key tag row.keys.capacity c.key_tag-tags.ensures c.self.invariant (append-nil others ∙ c.copy_from_slice.ensures.after))

pub returns : goal.returns
returns c =
    let p = ring_pushed c.self.inside.keys c.push_back.new.self c.args.key c.push_back.ensures.items in
    (λ i. record { limit = p.0 i; keys = p.1 i })
    ∙ ap (λ (v : LastKeysValue). record { limit = v.limit; keys = take v.limit (c.args.key ∷ v.keys) }) c.self.view_is
