use Rattle.std.proofs.Common.{◌≡◌, ℕ, suc, ◌+◌, ◌<◌, ◌≤◌, Bool, List, length, take, drop, ap, sym, ◌∙◌, arith}
use Rattle.std.specs.Prelude.{codes, nat_le}
use Rattle.std.specs.List.{flat_map}
use Rattle.sms_join.specs.OpenSets.{SetValue}
use Rattle.sms_join.specs.OpenSets.Told.{first_from, first_of, old_after}
use Rattle.sms_page.specs.Page.{Puts}
use Rattle.sms_told.specs.Sets.{set_text}
use Rattle.sms_told.proofs.Composed.{Puts-nothing, Puts-same}
use Rattle.sms_told.proofs.OldSets.{rise_kept, under_kept, fewer, under_left, next_left, old_more, old_all, old_most}
use Rattle.sms_told.proofs.open_sets.put_old_sets.Goals as goal

-- whether a set is old
abbrev is_old : ℕ → ℕ → SetValue → Bool
is_old longest now s = nat_le (s.opened + longest) now

pub loop-told-init : goal.loop-told-init
loop-told-init c =
    let value = c.args.gateway.now in
    let old = old_after value.limits.open_for c.args.now value.told in
    let rise = rise_kept (is_old value.limits.open_for c.args.now) value.told c.open_sets-open.ensures.rise in
    (omega arith, c.open_count-count.ensures.told, c.old_from-next.ensures ∙ (c.open_sets_are_walked.ensures old rise).0, Puts-nothing _)

pub returns-in_default-clause-put : goal.returns-in_default-clause-put
returns-in_default-clause-put c =
    let value = c.args.gateway.now in
    let old = old_after value.limits.open_for c.args.now value.told in
    let kept = c.loop-told.invariant in
    old_all (set_text c.args.form (codes "dropped")) old c.loop-told.told c.args.page.now c.loop-told.page (sym kept.2 ∙ c.in_default.is) kept.3

pub overflow_add-turn : goal.overflow_add-turn
overflow_add-turn c =
    let value = c.args.gateway.now in
    let old = old_after value.limits.open_for c.args.now value.told in
    let under = under_kept (is_old value.limits.open_for c.args.now) 18446744073709551615 value.told c.open_count-count.ensures.turns in
    let below = under_left 18446744073709551615 c.loop-told.told old c.in-Some.set under (sym c.loop-told.invariant.2 ∙ c.in-Some.is) in
    omega (arith, below, c.turn.ensures)

pub loop-told-preserved : goal.loop-told-preserved
loop-told-preserved c =
    let value = c.args.gateway.now in
    let old = old_after value.limits.open_for c.args.now value.told in
    let kept = c.loop-told.invariant in
    let told = c.loop-told.told in
    let text = set_text c.args.form (codes "dropped") in
    let rise = rise_kept (is_old value.limits.open_for c.args.now) value.told c.open_sets-open.ensures.rise in
    let is = sym kept.2 ∙ c.in-Some.is in
    let turn : c.turn.result + 1 ≡ suc c.in-Some.set.turn = omega (arith, c.turn.ensures) in
    let more : suc told ≡ told + 1 = omega arith in (
      omega arith,
      kept.1,
      c.old_from-next-in-loop-told.ensures ∙ ap (λ (n : ℕ). first_from n old) turn
          ∙ next_left told old c.in-Some.set c.open_sets_are_walked.ensures rise is ∙ ap (λ (n : ℕ). first_of (drop n old)) more,
      Puts-same (ap (λ (n : ℕ). flat_map text (take n old)) more) (old_more text old c.in-Some.set told c.args.page.now c.loop-told.page c.put_open.new.page is kept.3 c.in_ok-put_open.ensures.put),
    )

pub returns-clause-put : goal.returns-clause-put
returns-clause-put c =
    let value = c.args.gateway.now in
    let old = old_after value.limits.open_for c.args.now value.told in
    let kept = c.loop-told.invariant in
    let few = fewer (is_old value.limits.open_for c.args.now) value.told in
    old_most (set_text c.args.form (codes "dropped")) old c.loop-told.told c.args.page.now c.loop-told.page (omega (arith, few, kept.1)) kept.3
