use Rattle.std.proofs.Common.{◌≡◌, ◌<◌, length, OnErr, refl, sym, ◌∙◌, subst}
use Rattle.std.proofs.Math.ListN.{set}
use Rattle.std.proofs.lemmas.Option.{slice_get_read}
use Rattle.sms_centre.specs.Centre.Value.{HoldingsValue}
use Rattle.sms_centre.specs.Inside.Lines.{ChangesLine, LineHears}
use Rattle.sms_centre.proofs.Lines.{changed_line, same_lines}
use Rattle.sms_centre.proofs.Hearing.{heard_phones, heard_same}
use Rattle.sms_centre.proofs.Holdings.{heard_held, same_holdings}
use Rattle.sms_centre.proofs.centre.holdings.Holdings.hear.Goals as goal

pub invariant_of-self : goal.invariant_of-self
invariant_of-self c =
    let items = c.self.inside.lines.items in
    let r = c.args.phone in
    let within = subst (λ (v : HoldingsValue). r < length v.lines) (sym c.self.view_is) c.requires.phone in
    let there = slice_get_read items (length items) r c.index_mut-line.result.now refl within c.index_mut-line.ensures.value in
    let h = changed_line items r c.index_mut-line.result.now c.hear.new.self there (λ line after. LineHears c.args.now c.args.tag c.args.cause line c.hear.result after) c.hear.ensures in (
      heard_held c.self.inside.held.endings c.args.now c.args.tag c.args.cause r items _ c.hear.result h c.self.invariant.0,
      c.self.invariant.1 ∙ sym (heard_phones c.args.now c.args.tag c.args.cause r items _ c.hear.result h),
    )

pub returns-clause-line : goal.returns-clause-line
returns-clause-line c =
    let items = c.self.inside.lines.items in
    let r = c.args.phone in
    let within = subst (λ (v : HoldingsValue). r < length v.lines) (sym c.self.view_is) c.requires.phone in
    let there = slice_get_read items (length items) r c.index_mut-line.result.now refl within c.index_mut-line.ensures.value in
    let h = changed_line items r c.index_mut-line.result.now c.hear.new.self there (λ line after. LineHears c.args.now c.args.tag c.args.cause line c.hear.result after) c.hear.ensures in
    subst (λ (v : HoldingsValue). ChangesLine r v.lines (set items r c.hear.new.self) (λ line after. LineHears c.args.now c.args.tag c.args.cause line c.hear.result after)) c.self.view_is h

pub returns-clause-refused : goal.returns-clause-refused
returns-clause-refused c =
    let items = c.self.inside.lines.items in
    let r = c.args.phone in
    let within = subst (λ (v : HoldingsValue). r < length v.lines) (sym c.self.view_is) c.requires.phone in
    let there = slice_get_read items (length items) r c.index_mut-line.result.now refl within c.index_mut-line.ensures.value in
    let h = changed_line items r c.index_mut-line.result.now c.hear.new.self there (λ line after. LineHears c.args.now c.args.tag c.args.cause line c.hear.result after) c.hear.ensures in
    subst (λ (v : HoldingsValue). OnErr c.hear.result (record { held = c.self.inside.held; lines = set items r c.hear.new.self } ≡ v)) c.self.view_is
    (same_holdings c.self.inside.held items (set items r c.hear.new.self) c.hear.result (same_lines items r c.index_mut-line.result.now c.hear.new.self c.hear.result there (heard_same c.args.now c.args.tag c.args.cause c.index_mut-line.result.now c.hear.new.self c.hear.result c.hear.ensures)))
