use Rattle.std.proofs.Common.{◌≡◌, ℕ, drop, take}
use Rattle.std.specs.Prelude.{codes}
use Rattle.std.specs.List.{flat_map}
use Rattle.sms_page.specs.Page.{Puts}
use Rattle.sms_told.specs.Sets.{set_text}
use Rattle.sms_told.proofs.open_sets.put_open_sets.Given as goal

abbrev pub invariant-loop-set : goal.invariant-loop-set
invariant-loop-set l =
    (count : ℕ) × (l.set-iterator ≡ drop count l.fn.gateway.told)
    × Puts l.fn.page l.page (flat_map (set_text l.fn.form (codes "open")) (take count l.fn.gateway.told))
