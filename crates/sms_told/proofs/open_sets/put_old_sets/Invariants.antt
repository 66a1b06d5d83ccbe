use Rattle.std.proofs.Common.{◌≡◌, ◌-◌, ◌≤◌, drop, length, take}
use Rattle.std.specs.Prelude.{codes}
use Rattle.std.specs.List.{flat_map}
use Rattle.sms_join.specs.OpenSets.Told.{first_of, old_after}
use Rattle.sms_page.specs.Page.{Puts}
use Rattle.sms_told.specs.Sets.{set_text}
use Rattle.sms_told.proofs.open_sets.put_old_sets.Given as goal

abbrev pub invariant-loop-told : goal.invariant-loop-told
invariant-loop-told l =
    let old = old_after l.fn.gateway.limits.open_for l.now l.fn.gateway.told in
    (l.told ≤ l.count) × (l.count ≡ length l.fn.gateway.told) × (l.next ≡ first_of (drop l.told old))
    × Puts l.fn.page l.page (flat_map (set_text l.fn.form (codes "dropped")) (take l.told old))

abbrev pub decreases-loop-told : goal.decreases-loop-told
decreases-loop-told l = l.count - l.told
