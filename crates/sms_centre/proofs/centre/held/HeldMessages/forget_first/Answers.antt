use Rattle.std.proofs.Common.{◌≡◌, ◌≤◌, ◌<◌, true, false, List, Option, refl, ap, ◌∙◌, sym, subst, arith, rules}
use Rattle.std.specs.Prelude.{All}
use Rattle.std.specs.Map.{keys_of}
use Rattle.sms_centre.specs.Centre.Value.{HeldValue}
use Rattle.sms_centre.specs.Centre.Kept.{is_kept, IsLeftLater}
use Rattle.sms_centre.specs.Inside.Kept.{AreOfMessages, ForgetsFirst}
use Rattle.sms_centre.specs.declared.centre.held.Ending.{Ending}
use Rattle.sms_centre.specs.declared.centre.held.HeldKey.{HeldKey}
use Rattle.sms_centre.proofs.HeldMaps.{taken_first}
use Rattle.sms_centre.proofs.HeldKeys.{keeps_after, key_left, keys_left, none_ended, none_there}
use Rattle.sms_centre.proofs.centre.held.HeldMessages.forget_first.Goals as goal

pub invariant_of-self : goal.invariant_of-self
invariant_of-self c = absurd (let q : false ≡ true = c.in_err-ending.ensures.variant.1 (c.in_ok-first.ensures.variant.0 refl) in cc)

pub invariant_of-self-2 : goal.invariant_of-self-2
invariant_of-self-2 c =
    let removal = c.in_ok-ending.ensures.removal in
    let end = taken_first c.self.inside.endings.entries c.pop_first.new.self.entries c.in_ok-ending.ending c.in_ok-first.first.now c.in_ok-ending.key c.in_ok-first.field-0-1.now removal c.in_ok-first.ensures.first in
    let come : c.in_ok-ending.ending.end ≤ c.args.now = omega (arith, end) in (
      c.forget_key.ensures.unique,
      keys_left c.args.now c.in_ok-ending.ending c.in_ok-ending.key c.pop_first.new.self.entries c.self.inside.last.entries c.forget_key.new.last.entries come c.forget_key.ensures.ended
          (subst (λ (l : List (Ending × HeldKey)). AreOfMessages l c.self.inside.last.entries) removal c.self.invariant.1),
    )

pub returns : goal.returns
returns c =
    let removal = c.in_ok-ending.ensures.removal in
    let end = taken_first c.self.inside.endings.entries c.pop_first.new.self.entries c.in_ok-ending.ending c.in_ok-first.first.now c.in_ok-ending.key c.in_ok-first.field-0-1.now removal c.in_ok-first.ensures.first in
    let old = c.self.inside.last.entries in
    let new = c.forget_key.new.last.entries in (
      omega (arith, end),
      sym (ap (λ (v : HeldValue). v.endings) c.self.view_is) ∙ ap (λ (l : List (Ending × HeldKey)). keys_of l) removal,
      λ key at le. keeps_after c.args.now c.in_ok-ending.key old new c.forget_key.ensures.ended key at le ∙ ap (λ (v : HeldValue). is_kept v.last key at) c.self.view_is,
      (c.in_ok-ending.key, sym (ap (λ (v : HeldValue). v.messages) c.self.view_is) ∙ removal, key_left c.args.now c.in_ok-ending.key old new c.forget_key.ensures.ended),
    )

pub returns-then-first-now : goal.returns-then-first-now
returns-then-first-now c =
    let v : HeldValue = record { endings = keys_of c.self.inside.endings.entries; messages = c.self.inside.endings.entries; last = c.self.inside.last.entries } in
    let all : All (λ e. c.args.now < e.end) (keys_of c.self.inside.endings.entries) = search rules in
    subst (λ (w : HeldValue). All (λ e. c.args.now < e.end) w.endings × (w ≡ w) × ((key : HeldKey) → IsLeftLater c.args.now key w)) c.self.view_is
    (all, refl, none_ended c.args.now c.self.inside.endings.entries c.self.inside.last.entries all c.self.invariant.1)

pub returns-in_err-first : goal.returns-in_err-first
returns-in_err-first c =
    let entries : List (Ending × HeldKey) = c.self.inside.endings.entries in
    let all : All (λ e. c.args.now < e.end) (keys_of entries) = none_there (λ e. c.args.now < e.end) entries (λ some. let q : false ≡ true = c.in_err-first.ensures.variant.1 some in cc) in
    subst (λ (o : Option Ending). ForgetsFirst c.args.now c.args.self.now o c.args.self.now) (sym c.from_residual.ensures)
    (subst (λ (w : HeldValue). All (λ e. c.args.now < e.end) w.endings × (w ≡ w) × ((key : HeldKey) → IsLeftLater c.args.now key w)) c.self.view_is
    (all, refl, none_ended c.args.now entries c.self.inside.last.entries all c.self.invariant.1))
