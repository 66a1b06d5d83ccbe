use Rattle.std.proofs.Common.{ℕ, List, Some, None, ap, ◌∙◌}
use Rattle.std.specs.Map.{lookup}
use Rattle.sms_centre.specs.Centre.Value.{key_eq}
use Rattle.sms_centre.specs.declared.centre.held.HeldKey.{HeldKey}
use Rattle.sms_centre.specs.declared.centre.held.HeldMessages.TheInside.{Inside}
use Rattle.sms_centre.proofs.HeldMaps.{holds_also}
use Rattle.sms_centre.proofs.HeldKeys.{keys_held}
use Rattle.sms_centre.proofs.centre.held.HeldMessages.hold.Goals.{in-Some, in-None}
use Rattle.sms_centre.proofs.centre.held.HeldMessages.hold.Goals as goal

pub returns-clause-ok : goal.returns-clause-ok
returns-clause-ok c =
    let old = c.self.inside in
    let here = c.match-get.self-inside in
    let same = c.in_ok-reserve.ensures.entries in
    let found = ap (λ (l : List (HeldKey × ℕ)). lookup (key_eq c.args.key) l) same in
    let put = c.in_ok-insert.ensures.entries in
    let updates = c.in_ok-insert-2.ensures.updates.0 in
    elim c.match-get.branch [
      | in-Some w ↦ holds_also c.args.self.now c.args.key c.args.ending old.endings.entries here.endings.entries old.last.entries here.last.entries c.insert-2.new.self.entries c.match-get.greatest (Some w.in-Some.other.now)
          c.self.view_is c.requires (ap (λ (x : Inside). x.endings.entries) w.self-inside-is ∙ put) (ap (λ (x : Inside). x.last.entries) w.self-inside-is ∙ same)
          (w.in-Some.ensures.value ∙ found) (w.greatest-is ∙ w.max-greatest.ensures) updates
      | in-None w ↦ holds_also c.args.self.now c.args.key c.args.ending old.endings.entries here.endings.entries old.last.entries here.last.entries c.insert-2.new.self.entries c.match-get.greatest None
          c.self.view_is c.requires (ap (λ (x : Inside). x.endings.entries) w.self-inside-is ∙ put) (ap (λ (x : Inside). x.last.entries) w.self-inside-is ∙ same)
          (w.in-None.ensures.value ∙ found) w.greatest-is updates
    ]

pub invariant_of-self-2 : goal.invariant_of-self-2
invariant_of-self-2 c =
    let old = c.self.inside in
    let here = c.match-get.self-inside in
    let same = c.in_ok-reserve.ensures.entries in
    let found = ap (λ (l : List (HeldKey × ℕ)). lookup (key_eq c.args.key) l) same in
    let put = c.in_ok-insert.ensures.entries in
    let updates = c.in_ok-insert-2.ensures.updates.0 in
    let unique = c.in_ok-insert-2.ensures.unique in
    elim c.match-get.branch [
      | in-Some w ↦ (
        unique,
        keys_held c.args.self.now c.args.key c.args.ending old.endings.entries here.endings.entries old.last.entries here.last.entries c.insert-2.new.self.entries c.match-get.greatest (Some w.in-Some.other.now)
            c.self.view_is c.requires (ap (λ (x : Inside). x.endings.entries) w.self-inside-is ∙ put) (ap (λ (x : Inside). x.last.entries) w.self-inside-is ∙ same)
            (w.in-Some.ensures.value ∙ found) (w.greatest-is ∙ w.max-greatest.ensures) updates c.self.invariant.1,
      )
      | in-None w ↦ (
        unique,
        keys_held c.args.self.now c.args.key c.args.ending old.endings.entries here.endings.entries old.last.entries here.last.entries c.insert-2.new.self.entries c.match-get.greatest None
            c.self.view_is c.requires (ap (λ (x : Inside). x.endings.entries) w.self-inside-is ∙ put) (ap (λ (x : Inside). x.last.entries) w.self-inside-is ∙ same)
            (w.in-None.ensures.value ∙ found) w.greatest-is updates c.self.invariant.1,
      )
    ]
