use Rattle.std.proofs.Common.{◌≡◌, ◌<◌, length, OnErr, refl, sym, ◌∙◌, subst}
use Rattle.std.proofs.Math.ListN.{set}
use Rattle.std.proofs.lemmas.Option.{slice_get_read}
use Rattle.sms_centre.specs.Centre.Value.{HoldingsValue}
use Rattle.sms_centre.specs.Inside.Lines.{ChangesLine, LinePushes}
use Rattle.sms_centre.proofs.Lines.{changed_line, same_lines}
use Rattle.sms_centre.proofs.Pushing.{pushed_phones, pushed_same}
use Rattle.sms_centre.proofs.Holdings.{pushed_held, same_holdings}
use Rattle.sms_centre.proofs.centre.holdings.Holdings.push.Goals as goal

pub invariant_of-self : goal.invariant_of-self
invariant_of-self c =
    let items = c.self.inside.lines.items in
    let r = c.args.phone in
    let within = subst (λ (v : HoldingsValue). r < length v.lines) (sym c.self.view_is) c.requires in
    let there = slice_get_read items (length items) r c.index_mut-line.result.now refl within c.index_mut-line.ensures.value in
    let h = changed_line items r c.index_mut-line.result.now c.push.new.self there (λ line after. LinePushes line c.push.result after) c.push.ensures.pushes in (
      pushed_held c.self.inside.held.endings r items _ c.push.result h c.self.invariant.0,
      c.self.invariant.1 ∙ sym (pushed_phones r items _ c.push.result h),
    )

pub returns-clause-line : goal.returns-clause-line
returns-clause-line c =
    let items = c.self.inside.lines.items in
    let r = c.args.phone in
    let within = subst (λ (v : HoldingsValue). r < length v.lines) (sym c.self.view_is) c.requires in
    let there = slice_get_read items (length items) r c.index_mut-line.result.now refl within c.index_mut-line.ensures.value in
    let h = changed_line items r c.index_mut-line.result.now c.push.new.self there (λ line after. LinePushes line c.push.result after) c.push.ensures.pushes in
    subst (λ (v : HoldingsValue). ChangesLine r v.lines (set items r c.push.new.self) (λ line after. LinePushes line c.push.result after)) c.self.view_is h

pub returns-clause-refused : goal.returns-clause-refused
returns-clause-refused c =
    let items = c.self.inside.lines.items in
    let r = c.args.phone in
    let within = subst (λ (v : HoldingsValue). r < length v.lines) (sym c.self.view_is) c.requires in
    let there = slice_get_read items (length items) r c.index_mut-line.result.now refl within c.index_mut-line.ensures.value in
    let h = changed_line items r c.index_mut-line.result.now c.push.new.self there (λ line after. LinePushes line c.push.result after) c.push.ensures.pushes in
    subst (λ (v : HoldingsValue). OnErr c.push.result (record { held = c.self.inside.held; lines = set items r c.push.new.self } ≡ v)) c.self.view_is
    (same_holdings c.self.inside.held items (set items r c.push.new.self) c.push.result (same_lines items r c.index_mut-line.result.now c.push.new.self c.push.result there (pushed_same c.index_mut-line.result.now c.push.new.self c.push.result c.push.ensures.pushes)))
